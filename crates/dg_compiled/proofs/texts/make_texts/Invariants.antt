use Rattle.std.proofs.Common.{◌≡◌, ℕ, ◌≤◌, length}
use Rattle.dg_language.specs.Evaluation.{Then}
use Rattle.dg_compiled.specs.Making.{making_on}
use Rattle.dg_compiled.proofs.texts.make_texts.Given as goal

abbrev pub invariant-steps : goal.invariant-steps
invariant-steps l =
    ((depth : ℕ) (k : Then) → making_on l.making depth l.fn.state k ≡ making_on l.fn.making depth l.fn.state k)
    × (length l.making.left ≤ length l.fn.making.left) × (l.making.purpose ≡ l.fn.making.purpose)

abbrev pub decreases-steps : goal.decreases-steps
decreases-steps l = length l.making.left
