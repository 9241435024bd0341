use Rattle.std.proofs.Common.{◌≡◌, length, take, ◌+◌, ◌*◌}
use Rattle.dg_language.specs.WordSteps.{AddsSteps}
use Rattle.dg_words.specs.Parts.{pieces_of, pieces_of_part}
use Rattle.dg_forms.proofs.substitute.+parts.Given as goal

abbrev pub decreases-push_part : goal.decreases-push_part
decreases-push_part l = 2 * length (pieces_of_part l.part.now)

abbrev pub decreases-push_parts : goal.decreases-push_parts
decreases-push_parts l = 2 * length l.parts.now + 1

abbrev pub invariant-push_parts-loop-part : goal.invariant-push_parts-loop-part
invariant-push_parts-loop-part l = (pieces_of l.part-items ≡ l.fn.parts) × AddsSteps l.fn.steps l.steps (pieces_of (take l.part-index l.part-items))
