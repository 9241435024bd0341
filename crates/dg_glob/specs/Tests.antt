-- Globs as tests and functions: whether one matches, and its first span.
use Rattle.std.specs.Prelude.{ℕ, zero, suc, ◌+◌, Bool, true, false, ◌&&◌, ◌||◌, not, nat_le, List, [], ◌∷◌, ◌==◌, length, slice_range, Option, None, Some, option_map, option_and_then, if◌then◌else◌}
use Rattle.std.specs.Option.{is_some}
use Rattle.dg_glob.specs.Items.{after_item}
use Rattle.dg_glob.specs.Glob.{binds_start, binds_end, body}
use Rattle.dg_glob.specs.Least.{least_below, greatest_below}

-- some end of the text passes a test
abbrev pub any_end : (List ℕ → Bool) → List ℕ → Bool
any_end f [] = f []
any_end f (c ∷ t) = f (c ∷ t) || any_end f t

abbrev pub after : Option (List ℕ) → (List ℕ → Bool) → Bool
after None f = false
after (Some q) f = f q

abbrev pub is_nil : List ℕ → Bool
is_nil [] = true
is_nil (c ∷ t) = false

-- the glob's first item takes the text's first byte, and the rest is matched
abbrev pub by_item : (List ℕ → List ℕ → Bool) → List ℕ → List ℕ → Bool
by_item f p [] = false
by_item f p (c ∷ t) = after (after_item p c) (λ q. f q t)

-- whether a glob of at most n bytes matches a text: `*` any front of the text, another item its first byte
abbrev pub matches_within : ℕ → List ℕ → List ℕ → Bool
matches_within n [] t = is_nil t
matches_within zero (x ∷ p) t = false
matches_within (suc n) (x ∷ p) t = if x == 42 then any_end (matches_within n p) t else by_item (matches_within n) (x ∷ p) t

-- whether a glob matches a text
unfoldable pub glob_matches : List ℕ → List ℕ → Bool
glob_matches p t = matches_within (length p) p t

-- whether the bytes from start to end are a span of the glob in the text
unfoldable pub is_span : List ℕ → List ℕ → ℕ → ℕ → Bool
is_span p t start end =
    (nat_le start end && nat_le end (length t))
    && ((not (binds_start p) || start == 0) && (not (binds_end p) || end == length t))
    && glob_matches (body p) (slice_range t start end)

-- the greatest end of a span that begins at this place
unfoldable pub last_end : List ℕ → List ℕ → ℕ → Option ℕ
last_end p t start = greatest_below (is_span p t start) (length t + 1)

-- the first span, by its start and its end: the least start, and of those the greatest end
unfoldable pub first_span : List ℕ → List ℕ → Option (ℕ × ℕ)
first_span p t =
    option_and_then (λ start. option_map (λ end. (start, end)) (last_end p t start))
    (least_below (λ start. is_some (last_end p t start)) (length t + 1))
