use Rattle.std.proofs.Common.{◌≡◌, length, false}
use Rattle.dg_language.specs.SessionWords.{match_words}
use Rattle.dg_forms.proofs.sessions.match_words.Given as goal

abbrev pub invariant-flags : goal.invariant-flags
invariant-flags l = match_words l.later l.left ≡ match_words false l.fn.args

abbrev pub decreases-flags : goal.decreases-flags
decreases-flags l = length l.left
