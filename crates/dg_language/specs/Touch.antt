-- What comes before the use of a variable.
use Rattle.std.specs.Prelude.{◌≡◌, ℕ, true, false, List, Option, None, codes}
use Rattle.dg_scope.specs.Scopes.{value_of}
use Rattle.dg_language.specs.Play.{Play, Asks, plain, lookup}
use Rattle.dg_language.specs.State.{State, learn, with_begun}
use Rattle.dg_language.specs.Evaluation.{Ending, cut}
use Rattle.dg_language.specs.Variables.{touch, is_to_begin}
use Rattle.dg_language.specs.declared.state.Touch.{Touch}
use Rattle.dg_language.specs.declared.state.Touch.TheVariants.{Ready, Asking, TooLong}

-- the variable can be used, and may have begun; or a question stands, or a limit is met, and nothing has changed
abbrev pub Touches : List ℕ → State → State → Touch → Type 0
Touches n old new Ready =
    ((k : State → Play Ending) → touch n old k ≡ k new) × (new ≡ with_begun old new)
Touches n old new (Asking q) =
    ((k : State → Play Ending) → touch n old k ≡ Asks (plain q) (λ a. touch n (learn q a old) k)) × (new ≡ old) × (lookup q old.known ≡ None)
Touches n old new TooLong =
    ((k : State → Play Ending) → touch n old k ≡ cut (codes "value too long") old) × (new ≡ old)

-- the value of a variable that can be used as it stands
abbrev pub value_in_use : List ℕ → State → Option (List ℕ)
value_in_use n s = elim (is_to_begin n s) [ true ↦ None | false ↦ value_of s.variables n ]
