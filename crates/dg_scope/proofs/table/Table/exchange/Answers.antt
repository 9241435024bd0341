use Rattle.std.proofs.Common.{ap, sym, ◌∙◌, is_some}
use Rattle.std.specs.FinMap as map
use Rattle.dg_scope.specs.Table.{joined}
use Rattle.dg_scope.proofs.Joined.{get-short, get-long, insert-short, insert-long}
use Rattle.dg_scope.proofs.table.Table.exchange.Goals as goal

pub returns-then-is_short-clause-found : goal.returns-then-is_short-clause-found
returns-then-is_short-clause-found g c =
    let name = c.args.name.now in
    c.exchange.ensures.found
    ∙ ap is_some (sym (get-short c.self.inside.short c.self.inside.long name (sym c.is_short.ensures ∙ c.if-is_short.true)))
    ∙ ap (λ m. map.contains_key m name) c.self.view_is

pub returns-then-is_short-clause-exchanged : goal.returns-then-is_short-clause-exchanged
returns-then-is_short-clause-exchanged g c =
    let name = c.args.name.now in
    let short = c.self.inside.short in
    let long = c.self.inside.long in
    let is = sym c.is_short.ensures ∙ c.if-is_short.true in
    λ yes.
    let was = c.exchange.ensures.exchanged yes in (
      ap (λ m. map.get m name) (sym c.self.view_is) ∙ get-short short long name is ∙ was.0,
      ap (λ s. joined s long) was.1 ∙ insert-short short long name c.args.value.now is ∙ ap (λ m. map.insert m name c.args.value.now) c.self.view_is,
    )

pub returns-clause-found : goal.returns-clause-found
returns-clause-found g c =
    let name = c.args.name.now in
    c.exchange-2.ensures.found
    ∙ ap is_some (sym (get-long c.self.inside.short c.self.inside.long name (sym c.is_short.ensures ∙ c.if-is_short.false)))
    ∙ ap (λ m. map.contains_key m name) c.self.view_is

pub returns-clause-exchanged : goal.returns-clause-exchanged
returns-clause-exchanged g c =
    let name = c.args.name.now in
    let short = c.self.inside.short in
    let long = c.self.inside.long in
    let is = sym c.is_short.ensures ∙ c.if-is_short.false in
    λ yes.
    let was = c.exchange-2.ensures.exchanged yes in (
      ap (λ m. map.get m name) (sym c.self.view_is) ∙ get-long short long name is ∙ was.0,
      ap (joined short) was.1 ∙ insert-long short long name c.args.value.now is ∙ ap (λ m. map.insert m name c.args.value.now) c.self.view_is,
    )
