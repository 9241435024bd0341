-- What `regexp` means, by regexp(n) with the patterns of `regex` over bytes.
use Rattle.std.specs.Prelude.{ℕ, true, false, Option, Some, None, List, [], ◌∷◌, map, slice_range, codes, Result, Ok, Err}
use Rattle.dg_match.specs.Groups.{regex_match}
use Rattle.dg_match.specs.declared.found.Found.{Found}
use Rattle.dg_language.specs.declared.code.Code.TheVariants.{Done}
use Rattle.dg_language.specs.declared.search.Search.{Search}
use Rattle.dg_language.specs.Play.{Play}
use Rattle.dg_language.specs.State.{State}
use Rattle.dg_language.specs.Evaluation.{Ending, Then, wrong_count}
use Rattle.dg_language.specs.Control.{give_each}
use Rattle.dg_language.specs.Switching.{is_flag}
use Rattle.dg_bytes.specs.Same.{same_bytes}
use Rattle.dg_language.specs.SessionWords.{bad_flag}
use Rattle.dg_language.specs.Sessions.{on_words}
use Rattle.dg_language.specs.Expecting.{group_text}
use Rattle.dg_language.specs.Patterns.{with_pattern}

-- the pattern, the text and the names behind the flags
abbrev pub search_of : List (List ℕ) → Result Search (List ℕ)
search_of [] = Err (wrong_count (codes "regexp"))
search_of (p ∷ []) = Err (wrong_count (codes "regexp"))
search_of (p ∷ t ∷ names) = Ok (record { pattern = p; text = t; names = names })

-- `--` ends the flags, and there is no other
abbrev pub regexp_words : List (List ℕ) → Result Search (List ℕ)
regexp_words [] = search_of []
regexp_words (w ∷ ws) =
    elim (same_bytes w (codes "--")) [
      | true ↦ search_of ws
      | false ↦ elim (is_flag w) [ true ↦ Err (bad_flag w) | false ↦ search_of (w ∷ ws) ]
    ]

-- the texts of a match: of all of it, and of each of its groups, where one that took no part is empty
abbrev pub parts_of : List ℕ → Found → List (List ℕ)
parts_of text m = slice_range text m.start m.end ∷ map (group_text text) m.groups

-- the names get the parts of a match, empty ones where there are no more; without a match nothing is written
abbrev pub write_found : Search → Option Found → State → Then → Play Ending
write_found m None s k = k Done (codes "0") s
write_found m (Some found) s k = give_each m.names (parts_of m.text found) s (λ left t. k Done (codes "1") t)

abbrev pub match_text : Search → State → Then → Play Ending
match_text m s k = with_pattern m.pattern s k (λ t. write_found m (regex_match m.pattern m.text) t k)

-- `regexp ?--? pattern text ?name..?`
unfoldable pub do_regexp : List (List ℕ) → State → Then → Play Ending
do_regexp args s k = on_words (regexp_words args) s k (λ m. match_text m s k)
