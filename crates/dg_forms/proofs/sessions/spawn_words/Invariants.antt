use Rattle.std.proofs.Common.{◌≡◌, length}
use Rattle.dg_language.specs.SessionWords.{spawn_words}
use Rattle.dg_forms.proofs.sessions.spawn_words.Given as goal

abbrev pub invariant-flags : goal.invariant-flags
invariant-flags l = spawn_words l.left ≡ spawn_words l.fn.args

abbrev pub decreases-flags : goal.decreases-flags
decreases-flags l = length l.left
