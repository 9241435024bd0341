-- A line with a bad field begins with the word of a kind.
use Rattle.std.proofs.Common.{◌≡◌, ℕ, ◌-◌, Bool, true, false, List, [], ◌∷◌, length, Option, Some, None, Ok, Err, refl, subst, arith}
use Rattle.std.specs.Prelude.{Result, if◌then◌else◌, codes, ok_or, slice_get, IsSome, IsSomeAnd}
use Rattle.bstr.specs.Text.{lines_of}
use Rattle.dg_transcript.specs.declared.cause.Cause.{Cause}
use Rattle.dg_transcript.specs.declared.cause.Cause.TheVariants as cause
use Rattle.dg_transcript.specs.declared.line.Kind.{Kind}
use Rattle.dg_transcript.specs.declared.line.Line.{Line}
use Rattle.dg_transcript.specs.declared.line.Line.TheVariants as line
use Rattle.dg_transcript.specs.declared.line.Place.{Place}
use Rattle.dg_transcript.specs.declared.line.Place.TheVariants as place
use Rattle.dg_bytes.specs.Same.{same_bytes}
use Rattle.dg_bytes.specs.Chain.{◌>>=◌}
use Rattle.dg_transcript.specs.Fields.{kind_of, kind_from, line_by, line_from, read_line}
use Rattle.dg_transcript.specs.Lines.{may_come, is_past, placed, body, ends_line, whole_line_at, line_at, kind_at, IsBad, IsFirstBad}

header_not : (b : Bool) → (if b then Ok line.Header else Err cause.Header) ≡ Err cause.Field → ⊥
header_not true h = absurd cc
header_not false h = absurd cc

order_not : (a b : Bool) (l : Line) → (if a then (if b then Err cause.TooMany else Ok l) else Err cause.SessionOrder) ≡ Err cause.Field → ⊥
order_not true true l h = absurd cc
order_not true false l h = absurd cc
order_not false b l h = absurd cc

whole_not : (b : Bool) (r : Result Line Cause) → (if b then r else Err cause.Truncated) ≡ Err cause.Field → r ≡ Err cause.Field
whole_not true r h = h
whole_not false r h = absurd cc

placed_not : (p : Place) (s e : ℕ) (r : Result Line Cause) → (r >>= placed p s e) ≡ Err cause.Field → r ≡ Err cause.Field
placed_not p s e (Ok l) h = absurd (order_not (may_come p s l) (is_past s e l) l h)
placed_not p s e (Err c) h = h

word_known : (o : Option Kind) (fields : List (List ℕ)) → (ok_or o cause.Kind >>= λ k. line_by k fields) ≡ Err cause.Field → IsSome o
word_known None fields h = absurd cc
word_known (Some k) fields h = refl

fields_known : (fields : List (List ℕ)) → line_from fields ≡ Err cause.Field → IsSome (kind_from fields)
unfolding line_from
fields_known [] h = absurd cc
fields_known (word ∷ fields) h = word_known (kind_of word) fields h

read_known : (p : Place) (s e : ℕ) (text : List ℕ) → (read_line (body text) >>= placed p s e) ≡ Err cause.Field → IsSome (kind_at text)
read_known p s e text h = fields_known _ (placed_not p s e (read_line (body text)) h)

whole_known : (p : Place) (s e : ℕ) (text : List ℕ) → whole_line_at p s e text ≡ Err cause.Field → IsSome (kind_at text)
unfolding whole_line_at
whole_known place.Top s e text h = absurd (header_not (same_bytes text (codes "dejagnu-transcript 1\n")) h)
whole_known place.Over s e text h = absurd cc
whole_known place.Between s e text h = read_known place.Between s e text h
whole_known place.Opened s e text h = read_known place.Opened s e text h
whole_known place.Running s e text h = read_known place.Running s e text h
whole_known place.Ended s e text h = read_known place.Ended s e text h

line_known : (p : Place) (s e : ℕ) (text : List ℕ) → line_at p s e text ≡ Err cause.Field → IsSome (kind_at text)
unfolding line_at
line_known p s e text h = whole_known p s e text (whole_not (ends_line text) (whole_line_at p s e text) h)

bad_known : (before : List Line) (text : Option (List ℕ)) → IsBad before text cause.Field → IsSomeAnd text (λ t. IsSome (kind_at t))
bad_known before None h = let cut = h.1 in absurd cc
bad_known before (Some text) h = line_known _ _ _ text h

pub known_kind : (text : List ℕ) (n : ℕ) → IsFirstBad text n cause.Field → IsSomeAnd (slice_get (lines_of text) (n - 1)) (λ t. IsSome (kind_at t))
known_kind text n bad =
    let place : length bad.0 ≡ n - 1 = omega (arith, bad.1) in
    subst (λ k. IsSomeAnd (slice_get (lines_of text) k) (λ t. IsSome (kind_at t))) place (bad_known bad.0 _ bad.3)
