use Rattle.std.proofs.Common.{◌≡◌, length}
use Rattle.std.specs.Option.{option_copied}
use Rattle.std.specs.Prelude.{None}
use Rattle.dg_language.specs.SessionWords.{id_words}
use Rattle.dg_forms.proofs.sessions.id_words.Given as goal

abbrev pub invariant-flags : goal.invariant-flags
invariant-flags l = id_words l.name (option_copied l.id) l.left ≡ id_words l.fn.name None l.fn.args

abbrev pub decreases-flags : goal.decreases-flags
decreases-flags l = length l.left
