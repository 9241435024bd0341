use Rattle.std.proofs.Common.{ap, sym, ◌∙◌}
use Rattle.std.specs.FinMap as map
use Rattle.dg_scope.proofs.Joined.{get-short, get-long}
use Rattle.dg_scope.proofs.table.Table.get.Goals as goal

pub returns-then-is_short : goal.returns-then-is_short
returns-then-is_short g c =
    let name = c.args.name.now in
    c.get.ensures
    ∙ sym (get-short c.self.inside.short c.self.inside.long name (sym c.is_short.ensures ∙ c.if-is_short.true))
    ∙ ap (λ m. map.get m name) c.self.view_is

pub returns-else-is_short : goal.returns-else-is_short
returns-else-is_short g c =
    let name = c.args.name.now in
    c.get-else-is_short.ensures
    ∙ sym (get-long c.self.inside.short c.self.inside.long name (sym c.is_short.ensures ∙ c.if-is_short.false))
    ∙ ap (λ m. map.get m name) c.self.view_is
