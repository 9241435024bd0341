use Rattle.std.proofs.Common.{◌≡◌, ◌-◌, ◌≤◌, ℕ, [], drop, length}
use Rattle.dg_language.specs.Evaluation.{Then}
use Rattle.dg_compiled.specs.Texts.{going_on}
use Rattle.dg_compiled.proofs.texts.take_words.Given as goal

abbrev pub invariant-words : goal.invariant-words
invariant-words l =
    ((depth : ℕ) (k : Then) → going_on l.making (drop l.at l.fn.steps) depth l.fn.state k ≡ going_on l.fn.making l.fn.steps depth l.fn.state k)
    × (l.at ≤ length l.fn.steps) × (l.making.purpose ≡ l.fn.making.purpose) × (l.making.text ≡ [])

abbrev pub decreases-words : goal.decreases-words
decreases-words l = length l.fn.steps - l.at
