-- Words that are made without an evaluation.
use Rattle.std.specs.Prelude.{◌≡◌, ℕ, List, [], ◌∷◌, Some}
use Rattle.dg_language.specs.declared.substitution.Substitution.{Substitution}
use Rattle.dg_language.specs.declared.substitution.Substitution.TheVariants.{Literal, Variable, IndexBegins, IndexEnds, Script, WordEnds, ListEnds}
use Rattle.dg_language.specs.Touch.{value_in_use}
use Rattle.dg_language.specs.Play.{Play}
use Rattle.dg_language.specs.State.{State}
use Rattle.dg_language.specs.Evaluation.{Ending, Then}
use Rattle.dg_language.specs.Language.{used, evaluate}
use Rattle.dg_language.specs.Words.{Act}
use Rattle.dg_compiled.specs.Gathering.{gather}
use Rattle.dg_compiled.specs.declared.making.Making.{Making}

-- words go on being made, by these steps in place of their own
abbrev pub going_on : Making → List Substitution → ℕ → State → Then → Play Ending
going_on m left depth s k = gather (evaluate depth) (used (evaluate depth) m.purpose) m.made m.outer m.text left s k

-- a step adds this text, by itself or as the value of a variable in use
abbrev pub IsText : State → Substitution → List ℕ → Type 0
IsText s (Literal text) v = text ≡ v
IsText s (Variable n) v = value_in_use n s ≡ Some v
IsText s (IndexBegins n) v = ⊥
IsText s IndexEnds v = ⊥
IsText s (Script text) v = ⊥
IsText s WordEnds v = ⊥
IsText s ListEnds v = ⊥

-- these steps make this one word by themselves, whatever is done with it
abbrev pub Makes : State → List Substitution → List ℕ → Type 0
Makes s steps v = (depth : ℕ) (act : Act) (k : Then) → gather (evaluate depth) act [] [] [] steps s k ≡ act (v ∷ []) s k
