use Rattle.std.proofs.Common.{◌≡◌, take}
use Rattle.dg_results.specs.Standing.{after_calls}
use Rattle.dg_language.proofs.calls.Calls.judged.Given as goal

abbrev pub invariant-loop-call : goal.invariant-loop-call
invariant-loop-call l = l.judging ≡ after_calls (take l.call-index l.call-items)
