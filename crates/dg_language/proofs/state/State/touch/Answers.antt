use Rattle.std.proofs.Common.{refl}
use Rattle.dg_language.proofs.TouchLemmas.{touch-free}
use Rattle.dg_language.proofs.state.State.touch.Goals as goal

pub returns-then-not-is_to_begin : goal.returns-then-not-is_to_begin
returns-then-not-is_to_begin c = (touch-free _ _ _ refl _ c.is_to_begin.ensures c.if-not-is_to_begin.true, refl)
