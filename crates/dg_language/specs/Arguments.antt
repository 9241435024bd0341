-- The words behind the name of a command.
use Rattle.std.specs.Prelude.{List, [], ◌∷◌, Option, None, Some}
use Rattle.dg_language.specs.Play.{Play}
use Rattle.dg_language.specs.Evaluation.{Ending}

-- the only one of a list that has just one
abbrev pub only : {A : Type 0} → List A → Option A
only [] = None
only (a ∷ []) = Some a
only (_ ∷ _ ∷ _) = None

-- the only two of a list that has just two; three, and four
abbrev pub two : {A : Type 0} → List A → Option (A × A)
two [] = None
two (_ ∷ []) = None
two (a ∷ b ∷ []) = Some (a, b)
two (_ ∷ _ ∷ _ ∷ _) = None

abbrev pub three : {A : Type 0} → List A → Option (A × A × A)
three [] = None
three (_ ∷ []) = None
three (_ ∷ _ ∷ []) = None
three (a ∷ b ∷ c ∷ []) = Some (a, b, c)
three (_ ∷ _ ∷ _ ∷ _ ∷ _) = None

abbrev pub four : {A : Type 0} → List A → Option (A × A × A × A)
four [] = None
four (_ ∷ []) = None
four (_ ∷ _ ∷ []) = None
four (_ ∷ _ ∷ _ ∷ []) = None
four (a ∷ b ∷ c ∷ d ∷ []) = Some (a, b, c, d)
four (_ ∷ _ ∷ _ ∷ _ ∷ _ ∷ _) = None

-- the first of a list, and the others
abbrev pub split_first : {A : Type 0} → List A → Option (A × List A)
split_first [] = None
split_first (a ∷ others) = Some (a, others)

abbrev pub on : {A : Type 0} → Option A → Play Ending → (A → Play Ending) → Play Ending
on None p f = p
on (Some a) p f = f a
