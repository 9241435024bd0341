use Rattle.std.proofs.Common.{ap, sym, ◌∙◌, is_some}
use Rattle.std.specs.FinMap as map
use Rattle.dg_scope.proofs.Joined.{get-short, get-long}
use Rattle.dg_scope.proofs.table.Table.has.Goals as goal

pub returns-then-is_short : goal.returns-then-is_short
returns-then-is_short g c =
    let name = c.args.name.now in
    c.has.ensures
    ∙ ap is_some (sym (get-short c.self.inside.short c.self.inside.long name (sym c.is_short.ensures ∙ c.if-is_short.true)))
    ∙ ap (λ m. map.contains_key m name) c.self.view_is

pub returns-else-is_short : goal.returns-else-is_short
returns-else-is_short g c =
    let name = c.args.name.now in
    c.has-else-is_short.ensures
    ∙ ap is_some (sym (get-long c.self.inside.short c.self.inside.long name (sym c.is_short.ensures ∙ c.if-is_short.false)))
    ∙ ap (λ m. map.contains_key m name) c.self.view_is
