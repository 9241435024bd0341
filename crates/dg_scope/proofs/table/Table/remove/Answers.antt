use Rattle.std.proofs.Common.{ap, sym, ◌∙◌, is_some}
use Rattle.std.specs.FinMap as map
use Rattle.dg_scope.specs.Table.{joined}
use Rattle.dg_scope.proofs.Joined.{get-short, get-long, remove-short, remove-long}
use Rattle.dg_scope.proofs.table.Table.remove.Goals as goal

pub returns-then-is_short-clause-found : goal.returns-then-is_short-clause-found
returns-then-is_short-clause-found g c =
    let name = c.args.name.now in
    c.remove.ensures.found
    ∙ ap is_some (sym (get-short c.self.inside.short c.self.inside.long name (sym c.is_short.ensures ∙ c.if-is_short.true)))
    ∙ ap (λ m. map.contains_key m name) c.self.view_is

pub returns-then-is_short-clause-gone : goal.returns-then-is_short-clause-gone
returns-then-is_short-clause-gone g c =
    let name = c.args.name.now in
    let short = c.self.inside.short in
    let long = c.self.inside.long in
    ap (λ s. joined s long) c.remove.ensures.gone
    ∙ remove-short short long name (sym c.is_short.ensures ∙ c.if-is_short.true)
    ∙ ap (λ m. map.remove m name) c.self.view_is

pub returns-clause-found : goal.returns-clause-found
returns-clause-found g c =
    let name = c.args.name.now in
    c.remove-2.ensures.found
    ∙ ap is_some (sym (get-long c.self.inside.short c.self.inside.long name (sym c.is_short.ensures ∙ c.if-is_short.false)))
    ∙ ap (λ m. map.contains_key m name) c.self.view_is

pub returns-clause-gone : goal.returns-clause-gone
returns-clause-gone g c =
    let name = c.args.name.now in
    let short = c.self.inside.short in
    let long = c.self.inside.long in
    ap (joined short) c.remove-2.ensures.gone
    ∙ remove-long short long name (sym c.is_short.ensures ∙ c.if-is_short.false)
    ∙ ap (λ m. map.remove m name) c.self.view_is
