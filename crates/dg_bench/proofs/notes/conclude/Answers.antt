use Rattle.std.proofs.Common.{[], ◌∷◌, ◌++◌, ap, ◌∙◌}
use Rattle.dg_bench.specs.declared.call.Call.{Call}
use Rattle.dg_bench.proofs.notes.conclude.Goals as goal

pub returns-in-Ok-clause-calls : goal.returns-in-Ok-clause-calls
returns-in-Ok-clause-calls g c = c.in-Ok.ensures.entered.0 ∙ ap (λ (x : Call). c.args.calls.now.items ++ x ∷ []) c.into_parts-call.ensures.0
