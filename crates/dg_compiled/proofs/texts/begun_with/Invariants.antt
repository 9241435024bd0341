use Rattle.std.proofs.Common.{◌≡◌, ◌-◌, ◌≤◌, ℕ, [], drop, length}
use Rattle.dg_language.specs.Evaluation.{Then}
use Rattle.dg_compiled.specs.Texts.{going_on}
use Rattle.dg_compiled.proofs.texts.begun_with.Given as goal

abbrev pub invariant-steps : goal.invariant-steps
invariant-steps l =
    ((depth : ℕ) (k : Then) → going_on l.making (drop l.at l.fn.steps) depth l.fn.state k
    ≡ going_on (record { purpose = l.fn.purpose; made = []; outer = []; text = []; left = [] }) l.fn.steps depth l.fn.state k)
    × (l.at ≤ length l.fn.steps) × (l.making.purpose ≡ l.fn.purpose)

abbrev pub decreases-steps : goal.decreases-steps
decreases-steps l = length l.fn.steps - l.at
