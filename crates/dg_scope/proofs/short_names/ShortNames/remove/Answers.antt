use Rattle.std.proofs.Common.{ap, ◌∙◌, is_some}
use Rattle.std.specs.BTreeMap.{is_at}
use Rattle.std.specs.Ordering.{nat_cmp}
use Rattle.std.specs.FinMap as map
use Rattle.dg_scope.specs.Table.{name_of}
use Rattle.dg_scope.proofs.Numbers.{alike}
use Rattle.dg_scope.proofs.Trees.{found, seen, removed}
use Rattle.dg_scope.proofs.short_names.ShortNames.remove.Goals as goal

pub returns-clause-found : goal.returns-clause-found
returns-clause-found g c =
    let number = c.number_of.result in
    c.is_some.ensures
    ∙ ap is_some (c.remove.ensures.value ∙ found name_of (is_at (nat_cmp number)) (name_of number) (alike number) c.self.inside.entries.entries)
    ∙ ap (map.contains_key (seen name_of c.self.inside.entries.entries)) c.number_of.ensures
    ∙ ap (λ m. map.contains_key m c.args.name.now) c.self.view_is

pub returns-clause-gone : goal.returns-clause-gone
returns-clause-gone g c =
    let number = c.number_of.result in
    removed name_of nat_cmp alike (nat_cmp number) (name_of number) (alike number) c.self.inside.entries c.remove.new.self c.remove.ensures.updates
    ∙ ap (map.remove (seen name_of c.self.inside.entries.entries)) c.number_of.ensures
    ∙ ap (λ m. map.remove m c.args.name.now) c.self.view_is
