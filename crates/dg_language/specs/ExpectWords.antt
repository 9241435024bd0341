-- The words of expect, by expect(1): its flags, then pairs of a pattern and an action.
use Rattle.std.specs.Prelude.{ℕ, Bool, true, false, ◌||◌, ◌==◌, Option, Some, None, List, [], ◌∷◌, codes, Result, Ok, Err}
use Rattle.dg_match.specs.declared.pattern.Pattern.{Pattern}
use Rattle.dg_match.specs.declared.pattern.Pattern.TheVariants as pattern
use Rattle.dg_language.specs.declared.expect.Awaited.{Awaited}
use Rattle.dg_language.specs.declared.expect.Awaited.TheVariants.{Glob, Exact, Regex, Timeout, End, Default}
use Rattle.dg_language.specs.declared.expect.PatternKind.{PatternKind}
use Rattle.dg_language.specs.declared.expect.PatternKind.TheVariants as kind
use Rattle.dg_language.specs.declared.expect.Pair.{Pair}
use Rattle.dg_language.specs.declared.expect.Expectation.{Expectation}
use Rattle.dg_language.specs.Evaluation.{wrong_count}
use Rattle.dg_language.specs.Switching.{is_flag}
use Rattle.dg_bytes.specs.Same.{same_bytes}
use Rattle.dg_language.specs.SessionWords.{bad_flag}

-- the kind that a flag gives to the pattern behind it
abbrev pub kind_named : List ℕ → Option PatternKind
kind_named w =
    elim (same_bytes w (codes "-gl")) [
      | true ↦ Some kind.Glob
      | false ↦ elim (same_bytes w (codes "-ex")) [
        | true ↦ Some kind.Exact
        | false ↦ elim (same_bytes w (codes "-re")) [ true ↦ Some kind.Regex | false ↦ None ]
      ]
    ]

abbrev pub awaited_as : PatternKind → List ℕ → Awaited
awaited_as kind.Glob p = Glob p
awaited_as kind.Exact p = Exact p
awaited_as kind.Regex p = Regex p

-- what a word without a kind waits for
abbrev pub awaited_by : List ℕ → Awaited
awaited_by w =
    elim (same_bytes w (codes "timeout")) [
      | true ↦ Timeout
      | false ↦ elim (same_bytes w (codes "eof")) [
        | true ↦ End
        | false ↦ elim (same_bytes w (codes "default")) [ true ↦ Default | false ↦ Glob w ]
      ]
    ]

abbrev pub pair : Awaited → Option (List ℕ) → Pair
pair awaited action = record { awaited = awaited; action = action }

abbrev pub with_pair : Pair → Result (List Pair) (List ℕ) → Result (List Pair) (List ℕ)
with_pair p (Ok ps) = Ok (p ∷ ps)
with_pair p (Err why) = Err why

abbrev pub only_pair : Result Pair (List ℕ) → Result (List Pair) (List ℕ)
only_pair (Ok p) = Ok (p ∷ [])
only_pair (Err why) = Err why

-- a word without a kind can't begin as a flag does
abbrev pub unless_flag : List ℕ → Result (List Pair) (List ℕ) → Result (List Pair) (List ℕ)
unless_flag w pairs = elim (is_flag w) [ true ↦ Err (bad_flag w) | false ↦ pairs ]

abbrev pub one_word : Option PatternKind → List ℕ → Result (List Pair) (List ℕ)
one_word (Some k) w = Err (wrong_count (codes "expect"))
one_word None w = unless_flag w (Ok (pair (awaited_by w) None ∷ []))

abbrev pub two_words : Option PatternKind → List ℕ → List ℕ → Result (List Pair) (List ℕ)
two_words (Some k) w p = Ok (pair (awaited_as k p) None ∷ [])
two_words None w action = unless_flag w (Ok (pair (awaited_by w) (Some action) ∷ []))

-- The pairs: a kind may stand before a pattern, and the last action may be left out.
unfoldable pub pairs_of : List (List ℕ) → Result (List Pair) (List ℕ)
pairs_of [] = Ok []
pairs_of (w ∷ []) = one_word (kind_named w) w
pairs_of (w ∷ v ∷ []) = two_words (kind_named w) w v
pairs_of (w ∷ v ∷ u ∷ ws) =
    elim (kind_named w) as (λ _. Result (List Pair) (List ℕ)) [
      | Some k ↦ with_pair (pair (awaited_as k v) (Some u)) (pairs_of ws)
      | None ↦ unless_flag w (with_pair (pair (awaited_by w) (Some v)) (pairs_of (u ∷ ws)))
    ]

abbrev pub with_flags : Option (List ℕ) → Option (List ℕ) → Result (List Pair) (List ℕ) → Result Expectation (List ℕ)
with_flags timeout id (Ok pairs) = Ok (record { timeout = timeout; id = id; pairs = pairs })
with_flags timeout id (Err why) = Err why

-- The flags, of which each but the last of its name is forgotten, and the pairs.
unfoldable pub expect_words : Option (List ℕ) → Option (List ℕ) → List (List ℕ) → Result Expectation (List ℕ)
expect_words timeout id [] = with_flags timeout id (pairs_of [])
expect_words timeout id (w ∷ []) =
    elim (same_bytes w (codes "-timeout") || same_bytes w (codes "-i")) [
      | true ↦ Err (wrong_count (codes "expect"))
      | false ↦ with_flags timeout id (pairs_of (w ∷ []))
    ]
expect_words timeout id (w ∷ v ∷ ws) =
    elim (same_bytes w (codes "-timeout")) [
      | true ↦ expect_words (Some v) id ws
      | false ↦ elim (same_bytes w (codes "-i")) [
        | true ↦ expect_words timeout (Some v) ws
        | false ↦ with_flags timeout id (pairs_of (w ∷ v ∷ ws))
      ]
    ]

-- whether a text has a byte other than blanks and newlines, and a newline before the first such byte
unfoldable pub leads_a_list : Bool → List ℕ → Bool
leads_a_list below [] = false
leads_a_list below (b ∷ bs) =
    elim (b == 10) [
      | true ↦ leads_a_list true bs
      | false ↦ elim (b == 32 || (b == 9 || (b == 11 || (b == 12 || b == 13)))) [ true ↦ leads_a_list below bs | false ↦ below ]
    ]

-- the only argument, where it is a list of such words
abbrev pub listed : List (List ℕ) → Option (List ℕ)
listed [] = None
listed (text ∷ []) = elim (leads_a_list false text) [ true ↦ Some text | false ↦ None ]
listed (_ ∷ _ ∷ _) = None

-- ---- the pairs taken apart

-- the pattern of a pair, if it waits for output
abbrev pub pattern_in : Awaited → Option Pattern
pattern_in (Glob p) = Some (pattern.Glob p)
pattern_in (Exact t) = Some (pattern.Exact t)
pattern_in (Regex t) = Some (pattern.Regex t)
pattern_in Timeout = None
pattern_in End = None
pattern_in Default = None

abbrev pub and_more : {A : Type 0} → Option A → List A → List A
and_more None more = more
and_more (Some a) more = a ∷ more

-- the patterns, in order
unfoldable pub patterns_in : List Pair → List Pattern
patterns_in [] = []
patterns_in (p ∷ ps) = and_more (pattern_in p.awaited) (patterns_in ps)

-- the text of a `-re` pattern
abbrev pub regex_in : Awaited → Option (List ℕ)
regex_in (Regex t) = Some t
regex_in (Glob p) = None
regex_in (Exact t) = None
regex_in Timeout = None
regex_in End = None
regex_in Default = None

-- the texts of the `-re` patterns, in order
unfoldable pub regexes_in : List Pair → List (List ℕ)
regexes_in [] = []
regexes_in (p ∷ ps) = and_more (regex_in p.awaited) (regexes_in ps)

-- the pairs that wait for output, in order
unfoldable pub output_pairs : List Pair → List Pair
output_pairs [] = []
output_pairs (p ∷ ps) = elim (pattern_in p.awaited) as (λ _. List Pair) [ Some _ ↦ p ∷ output_pairs ps | None ↦ output_pairs ps ]

abbrev pub is_for_timeout : Awaited → Bool
is_for_timeout Timeout = true
is_for_timeout Default = true
is_for_timeout _ = false

abbrev pub is_for_end : Awaited → Bool
is_for_end End = true
is_for_end Default = true
is_for_end _ = false
