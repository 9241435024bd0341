-- Words of a command while they are being made.
use Rattle.std.specs.Prelude.{ℕ}
use Rattle.dg_language.specs.Play.{Play}
use Rattle.dg_language.specs.State.{State}
use Rattle.dg_language.specs.Evaluation.{Ending, Then}
use Rattle.dg_language.specs.Language.{used, evaluate}
use Rattle.dg_compiled.specs.Gathering.{gather}
use Rattle.dg_compiled.specs.declared.making.Making.{Making}

-- the words of a command go on being made
abbrev pub making_on : Making → ℕ → State → Then → Play Ending
making_on m depth s k = gather (evaluate depth) (used (evaluate depth) m.purpose) m.made m.outer m.text m.left s k
