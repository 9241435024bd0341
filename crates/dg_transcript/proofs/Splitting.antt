-- A text cut at its spaces.
use Rattle.std.proofs.Common.{◌≡◌, ℕ, ◌+◌, ◌-◌, ◌<◌, Bool, true, false, cond, List, [], ◌∷◌, length, take, drop, Some, None, Ok, Err, refl, sym, ap, ◌∙◌, arith, length-drop}
use Rattle.std.specs.Prelude.{position, Result, nat_lt}
use Rattle.std.specs.List.{slice_split, position_or_len}
use Rattle.std.proofs.lemmas.Option.{cond_some}
use Rattle.std.proofs.lemmas.Bool.{ltb-true, ltb-false}
use Rattle.std.proofs.lemmas.List.{take_all}
use Rattle.std.proofs.lemmas.List.Sums.{fails_before_first}
use Rattle.std.proofs.lemmas.List.Splits.{slice_split_first, slice_split_none, length-slice_split}
use Rattle.dg_transcript.specs.declared.cause.Cause.{Cause}
use Rattle.dg_transcript.specs.declared.cause.Cause.TheVariants as cause
use Rattle.dg_transcript.specs.Fields.{is_space, only_field, first_field, no_field}

pub split_some : (xs : List ℕ) (k : ℕ) → position is_space xs ≡ Some k → slice_split is_space xs ≡ take k xs ∷ slice_split is_space (take (length xs - (k + 1)) (drop (k + 1) xs))
split_some xs k found =
    let parts = cond_some (nat_lt (position_or_len is_space xs) (length xs)) (position_or_len is_space xs) k found in
    let below : position_or_len is_space xs < length xs = ltb-true _ _ parts.0 in
    let whole : take (length xs - (k + 1)) (drop (k + 1) xs) ≡ drop (k + 1) xs = take_all (length xs - (k + 1)) (drop (k + 1) xs) (omega (arith, length-drop (k + 1) xs)) in
    slice_split_first is_space xs 0 below
    ∙ ap (λ (j : ℕ). take j xs ∷ slice_split is_space (drop (j + 1) xs)) parts.1
    ∙ ap (λ t. take k xs ∷ slice_split is_space t) (sym whole)

cond_none : (b : Bool) (x : ℕ) → cond b (Some x) None ≡ None → b ≡ false
cond_none true x e = absurd cc
cond_none false x e = refl

pub split_none : (xs : List ℕ) → position is_space xs ≡ None → slice_split is_space xs ≡ xs ∷ []
split_none xs none = slice_split_none is_space xs (λ k d lt. fails_before_first is_space xs k d (omega (arith, ltb-false _ _ (cond_none (nat_lt (position_or_len is_space xs) (length xs)) (position_or_len is_space xs) none), lt)))

only_more : (f : List ℕ) (fs : List (List ℕ)) → 0 < length fs → only_field (f ∷ fs) ≡ Err cause.Field
only_more f [] some = absurd (omega arith)
only_more f (g ∷ fs) some = refl

none_of : (fs : List (List ℕ)) → 0 < length fs → no_field fs ≡ Err cause.Field
none_of [] some = absurd (omega arith)
none_of (g ∷ fs) some = refl

pub only_more_behind : (f r : List ℕ) → only_field (f ∷ slice_split is_space r) ≡ Err cause.Field
only_more_behind f r = only_more f (slice_split is_space r) (omega (arith, length-slice_split is_space r))

pub none_behind : (r : List ℕ) → no_field (slice_split is_space r) ≡ Err cause.Field
none_behind r = none_of (slice_split is_space r) (omega (arith, length-slice_split is_space r))

-- the fields behind the first
abbrev second_or : List (List ℕ) → Result (List ℕ × List (List ℕ)) Cause → List (List ℕ)
second_or d (Ok x) = x.1
second_or d (Err e) = d

pub only_from_first : (fs : List (List ℕ)) (f r : List ℕ) → first_field fs ≡ Ok (f, slice_split is_space r) → only_field fs ≡ Err cause.Field
only_from_first [] f r e = absurd cc
only_from_first (g ∷ gs) f r e =
    let same : gs ≡ slice_split is_space r = ap (second_or []) e in
    ap (λ t. only_field (g ∷ t)) same ∙ only_more_behind g r
