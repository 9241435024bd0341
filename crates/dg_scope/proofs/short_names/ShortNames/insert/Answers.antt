use Rattle.std.proofs.Common.{ap, ◌∙◌}
use Rattle.std.specs.Ordering.{nat_cmp}
use Rattle.std.specs.FinMap as map
use Rattle.dg_scope.specs.Table.{name_of}
use Rattle.dg_scope.proofs.Numbers.{alike}
use Rattle.dg_scope.proofs.Trees.{seen, written}
use Rattle.dg_scope.proofs.short_names.ShortNames.insert.Goals as goal

pub returns-clause-ok : goal.returns-clause-ok
returns-clause-ok g c =
    let number = c.number_of.result in
    written name_of nat_cmp alike (nat_cmp number) (name_of number) (alike number) c.self.inside.entries c.insert.new.self c.args.value c.in_ok-insert.ensures.updates
    ∙ ap (λ k. map.insert (seen name_of c.self.inside.entries.entries) k c.args.value) c.number_of.ensures
    ∙ ap (λ m. map.insert m c.args.name.now c.args.value) c.self.view_is
