use Rattle.std.proofs.Common.{◌≡◌, length}
use Rattle.dg_language.specs.ExpectWords.{is_for_timeout}
use Rattle.dg_language.specs.Expecting.{first_action}
use Rattle.dg_forms.proofs.expect.timeout_action.Given as goal

abbrev pub invariant-pairs : goal.invariant-pairs
invariant-pairs l = first_action is_for_timeout l.left ≡ first_action is_for_timeout l.fn.pairs

abbrev pub decreases-pairs : goal.decreases-pairs
decreases-pairs l = length l.left
