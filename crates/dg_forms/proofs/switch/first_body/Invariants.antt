use Rattle.std.proofs.Common.{◌≡◌, length}
use Rattle.dg_language.specs.Switching.{first_body}
use Rattle.dg_forms.proofs.switch.first_body.Given as goal

abbrev pub invariant-bodies : goal.invariant-bodies
invariant-bodies l = first_body l.left ≡ first_body l.fn.words

abbrev pub decreases-bodies : goal.decreases-bodies
decreases-bodies l = length l.left
