-- What `regexp` still has to write.
use Rattle.std.specs.Prelude.{ℕ, List, codes}
use Rattle.dg_language.specs.declared.code.Code.TheVariants.{Done}
use Rattle.dg_language.specs.Play.{Play}
use Rattle.dg_language.specs.State.{State}
use Rattle.dg_language.specs.Evaluation.{Ending, Then}
use Rattle.dg_language.specs.Control.{give_each}

-- these names get these texts, and then `regexp` has found a match
abbrev pub giving : List (List ℕ) → List (List ℕ) → State → Then → Play Ending
giving names values s k = give_each names values s (λ left t. k Done (codes "1") t)
