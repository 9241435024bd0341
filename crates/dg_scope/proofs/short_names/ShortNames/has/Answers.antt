use Rattle.std.proofs.Common.{ap, ◌∙◌, is_some}
use Rattle.std.specs.BTreeMap.{is_at}
use Rattle.std.specs.Ordering.{nat_cmp}
use Rattle.std.specs.FinMap as map
use Rattle.dg_scope.specs.Table.{name_of}
use Rattle.dg_scope.proofs.Numbers.{alike}
use Rattle.dg_scope.proofs.Trees.{found, seen}
use Rattle.dg_scope.proofs.short_names.ShortNames.has.Goals as goal

pub returns : goal.returns
returns g c =
    let number = c.number_of.result in
    c.contains_key.ensures
    ∙ ap is_some (found name_of (is_at (nat_cmp number)) (name_of number) (alike number) c.self.inside.entries.entries)
    ∙ ap (map.contains_key (seen name_of c.self.inside.entries.entries)) c.number_of.ensures
    ∙ ap (λ m. map.contains_key m c.args.name.now) c.self.view_is
