use Rattle.std.proofs.Common.{◌≡◌, length}
use Rattle.dg_language.specs.Switching.{body_for}
use Rattle.dg_forms.proofs.switch.body_for.Given as goal

abbrev pub invariant-pairs : goal.invariant-pairs
invariant-pairs l = body_for l.matching l.text l.left ≡ body_for l.fn.matching l.fn.text l.fn.pairs

abbrev pub decreases-pairs : goal.decreases-pairs
decreases-pairs l = length l.left
