-- Truth.
use Rattle.std.specs.Prelude.{ℕ, ℤ, pos, List, [], ◌∷◌, Bool, true, false, ◌&&◌, not, Option, None, Some, if◌then◌else◌, ◌==◌, codes, count_by}
use Rattle.std.specs.Char.{to_ascii_lowercase}
use Rattle.std.specs.Ordering.{int_eq}
use Rattle.dg_expr.specs.Number.{number_of}

-- one or more bytes that a word begins with, in either case
abbrev pub begins : List ℕ → List ℕ → Bool
begins word [] = true
begins [] (b ∷ bs) = false
begins (w ∷ ws) (b ∷ bs) = w == to_ascii_lowercase b && begins ws bs

-- the words of truth
abbrev pub true_words : List (List ℕ)
true_words = codes "true" ∷ codes "yes" ∷ codes "on" ∷ []

abbrev pub false_words : List (List ℕ)
false_words = codes "false" ∷ codes "no" ∷ codes "off" ∷ []

-- how many words begin so
abbrev pub beginning : List (List ℕ) → List ℕ → ℕ
beginning words text = count_by (λ w. begins w text) words

abbrev pub told : ℕ → ℕ → Option Bool
told holds fails =
    if (holds == 1) && (fails == 0) then Some true else
    if (holds == 0) && (fails == 1) then Some false else None

-- the truth of a word, or of a text with which just one word begins
unfoldable pub word_truth : List ℕ → Option Bool
word_truth text = told (beginning true_words text) (beginning false_words text)

abbrev pub number_or_word : Option ℤ → Option Bool → Option Bool
number_or_word (Some z) w = Some (not (int_eq z (pos 0)))
number_or_word None w = w

-- The truth of a text, if it has one: of a number that it isn't 0, else of a word.
unfoldable pub truth_of : List ℕ → Option Bool
truth_of text = number_or_word (number_of text) (word_truth text)

-- a truth as a value
abbrev pub truth_text : Bool → List ℕ
truth_text true = codes "1"
truth_text false = codes "0"
