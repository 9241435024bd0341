-- switch(n) and eval(n). Of `switch` its flags, its pairs of a pattern and a body, and the body that it takes.
use Rattle.std.specs.Prelude.{ℕ, Bool, true, false, ◌||◌, ◌==◌, Option, Some, None, List, [], ◌∷◌, ◌++◌, codes, Result, Ok, Err}
use Rattle.dg_cmds.specs.Answers.{Answer}
use Rattle.dg_cmds.specs.Lists.{concat_of}
use Rattle.dg_cmds.specs.Places.{glob_matches}
use Rattle.dg_language.specs.declared.switch.Matching.{Matching}
use Rattle.dg_language.specs.declared.switch.Matching.TheVariants.{Exact, Glob}
use Rattle.dg_language.specs.Play.{Play}
use Rattle.dg_language.specs.State.{State}
use Rattle.dg_language.specs.Evaluation.{Ending, Then, Nested, cut, fail, quoted, wrong_count, list_in}
use Rattle.dg_language.specs.Choosing.{do_otherwise}
use Rattle.dg_bytes.specs.Same.{same_bytes}

-- whether a pattern takes a text; `default` takes each where no pair comes behind it
abbrev pub matches : Matching → List ℕ → List ℕ → Bool
matches Exact pattern text = same_bytes pattern text
matches Glob pattern text = glob_matches pattern text

abbrev pub takes : Matching → List ℕ → List ℕ → List (List ℕ) → Bool
takes m text pattern [] = same_bytes pattern (codes "default") || matches m pattern text
takes m text pattern (_ ∷ _) = matches m pattern text

-- the first body from here on, in words of which every other is a pattern; `-` is none
unfoldable pub first_body : List (List ℕ) → Option (List ℕ)
first_body [] = None
first_body (b ∷ []) = Some b
first_body (b ∷ _ ∷ more) = elim (same_bytes b (codes "-")) [ true ↦ first_body more | false ↦ Some b ]

-- the body of the first pattern that takes the text
unfoldable pub body_for : Matching → List ℕ → List (List ℕ) → Option (List ℕ)
body_for m text [] = None
body_for m text (_ ∷ []) = None
body_for m text (p ∷ b ∷ more) = elim (takes m text p more) [ true ↦ first_body (b ∷ more) | false ↦ body_for m text more ]

-- why words are no pairs
abbrev pub last_fault : List ℕ → List ℕ → Option (List ℕ)
last_fault p b = elim (same_bytes b (codes "-")) [ true ↦ Some (codes "no body specified for pattern " ++ quoted p) | false ↦ None ]

unfoldable pub pairs_fault : List (List ℕ) → Option (List ℕ)
pairs_fault [] = Some (wrong_count (codes "switch"))
pairs_fault (_ ∷ []) = Some (codes "extra switch pattern with no body")
pairs_fault (p ∷ b ∷ []) = last_fault p b
pairs_fault (_ ∷ _ ∷ p ∷ more) = pairs_fault (p ∷ more)

abbrev pub or_body : Option (List ℕ) → Option (List ℕ) → Result (Option (List ℕ)) (List ℕ)
or_body (Some why) body = Err why
or_body None body = Ok body

-- the body that is taken of these pairs, if one is
abbrev pub among : Matching → List ℕ → List (List ℕ) → Result (Option (List ℕ)) (List ℕ)
among m text pairs = or_body (pairs_fault pairs) (body_for m text pairs)

abbrev pub among_elements : Matching → List ℕ → Result (List (List ℕ)) (List ℕ) → Result (Option (List ℕ)) (List ℕ)
among_elements m text (Err why) = Err why
among_elements m text (Ok pairs) = among m text pairs

-- a text, and the pairs as one list or as words
abbrev pub taken : Matching → List (List ℕ) → Result (Option (List ℕ)) (List ℕ)
taken m [] = Err (wrong_count (codes "switch"))
taken m (_ ∷ []) = Err (wrong_count (codes "switch"))
taken m (text ∷ pairs ∷ []) = among_elements m text (list_in pairs)
taken m (text ∷ p ∷ b ∷ more) = among m text (p ∷ b ∷ more)

abbrev pub is_flag : List ℕ → Bool
is_flag [] = false
is_flag (b ∷ bs) = b == 45

-- the flag that words begin with, and what is behind it; the last two words are none
abbrev pub flag_in : List (List ℕ) → Option (List ℕ × List (List ℕ))
flag_in [] = None
flag_in (_ ∷ []) = None
flag_in (_ ∷ _ ∷ []) = None
flag_in (w ∷ a ∷ b ∷ more) = elim (is_flag w) [ true ↦ Some (w, a ∷ b ∷ more) | false ↦ None ]

abbrev pub matching_of : List ℕ → Option Matching
matching_of flag = elim (same_bytes flag (codes "-exact")) [ true ↦ Some Exact | false ↦ elim (same_bytes flag (codes "-glob")) [ true ↦ Some Glob | false ↦ None ] ]

-- `--` ends the flags, and no other may come behind the kind of matching
abbrev pub behind_kind : Matching → List (List ℕ) → Option (List ℕ × List (List ℕ)) → Result (Option (List ℕ)) (List ℕ)
behind_kind m args None = taken m args
behind_kind m args (Some f) = elim (same_bytes f.0 (codes "--")) [ true ↦ taken m f.1 | false ↦ Err (codes "bad flag " ++ quoted f.0) ]

abbrev pub kind_or : List (List ℕ) → List (List ℕ) → Option Matching → Result (Option (List ℕ)) (List ℕ)
kind_or args others None = behind_kind Exact args (flag_in args)
kind_or args others (Some m) = behind_kind m others (flag_in others)

abbrev pub switched_by : List (List ℕ) → Option (List ℕ × List (List ℕ)) → Result (Option (List ℕ)) (List ℕ)
switched_by args None = taken Exact args
switched_by args (Some f) = kind_or args f.1 (matching_of f.0)

-- the body that `switch` takes, if it takes one, or the message of its fault
unfoldable pub switched : List (List ℕ) → Result (Option (List ℕ)) (List ℕ)
switched args = switched_by args (flag_in args)

abbrev pub do_taken : Nested → Result (Option (List ℕ)) (List ℕ) → State → Then → Play Ending
do_taken nested (Err message) s k = fail message s k
do_taken nested (Ok body) s k = do_otherwise nested body s k

-- `switch ?-exact|-glob? ?--? text pairs`
unfoldable pub do_switch : Nested → List (List ℕ) → State → Then → Play Ending
do_switch nested args s k = do_taken nested (switched args) s k

-- what `concat` gives, where that is not too long
abbrev pub text_in : Answer → Option (List ℕ)
text_in (Ok text) = Some text
text_in (Err fault) = None

abbrev pub evaluated : Nested → Option (List ℕ) → State → Then → Play Ending
evaluated nested None s k = cut (codes "value too long") s
evaluated nested (Some text) s k = nested text s k

-- `eval word..`
unfoldable pub do_eval : Nested → List (List ℕ) → State → Then → Play Ending
do_eval nested [] s k = fail (wrong_count (codes "eval")) s k
do_eval nested (w ∷ ws) s k = evaluated nested (text_in (concat_of (w ∷ ws))) s k
