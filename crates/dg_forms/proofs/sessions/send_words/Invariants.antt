use Rattle.std.proofs.Common.{◌≡◌, length}
use Rattle.std.specs.Option.{option_copied}
use Rattle.std.specs.Prelude.{None}
use Rattle.dg_language.specs.SessionWords.{send_words}
use Rattle.dg_forms.proofs.sessions.send_words.Given as goal

abbrev pub invariant-flags : goal.invariant-flags
invariant-flags l = send_words (option_copied l.id) l.left ≡ send_words None l.fn.args

abbrev pub decreases-flags : goal.decreases-flags
decreases-flags l = length l.left
