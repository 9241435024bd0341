use Rattle.std.proofs.Common.{Result, Ok, Err, OnOk, ap, sym, ◌∙◌}
use Rattle.std.specs.FinMap as map
use Rattle.dg_scope.specs.Table.{joined}
use Rattle.dg_scope.proofs.Joined.{insert-short, insert-long}
use Rattle.dg_scope.proofs.table.Table.insert.Goals as goal

where_ok : {T E P Q : Type 0} (r : Result T E) → (P → Q) → OnOk r P → OnOk r Q
where_ok (Ok x) f h = f h
where_ok (Err e) f h = h

pub returns-then-is_short-clause-ok : goal.returns-then-is_short-clause-ok
returns-then-is_short-clause-ok g c =
    let name = c.args.name.now in
    let short = c.self.inside.short in
    let long = c.self.inside.long in
    where_ok c.insert.result
    (λ was.
    ap (λ s. joined s long) was
    ∙ insert-short short long name c.args.value (sym c.is_short.ensures ∙ c.if-is_short.true)
    ∙ ap (λ m. map.insert m name c.args.value) c.self.view_is)
    c.insert.ensures.ok

pub returns-clause-ok : goal.returns-clause-ok
returns-clause-ok g c =
    let name = c.args.name.now in
    let short = c.self.inside.short in
    let long = c.self.inside.long in
    where_ok c.insert-2.result
    (λ was.
    ap (joined short) was
    ∙ insert-long short long name c.args.value (sym c.is_short.ensures ∙ c.if-is_short.false)
    ∙ ap (λ m. map.insert m name c.args.value) c.self.view_is)
    c.insert-2.ensures.ok
