use Rattle.std.proofs.Common.{ap, ◌∙◌}
use Rattle.std.specs.BTreeMap.{is_at}
use Rattle.std.specs.Ordering.{nat_cmp}
use Rattle.std.specs.FinMap as map
use Rattle.dg_scope.specs.Table.{name_of}
use Rattle.dg_scope.proofs.Numbers.{alike}
use Rattle.dg_scope.proofs.Trees.{found, seen}
use Rattle.dg_scope.proofs.short_names.ShortNames.get.Goals as goal

pub returns : goal.returns
returns g c =
    let number = c.number_of.result in
    c.get.ensures.value
    ∙ found name_of (is_at (nat_cmp number)) (name_of number) (alike number) c.self.inside.entries.entries
    ∙ ap (map.get (seen name_of c.self.inside.entries.entries)) c.number_of.ensures
    ∙ ap (λ m. map.get m c.args.name.now) c.self.view_is
