-- What looking again makes of the marks of reads.
use Rattle.std.proofs.Common.{◌≡◌, ◌↔◌, ◌∙◌, ◌<◌, ◌+◌, ℕ, zero, suc, Bool, true, false, cond, List, [], ◌∷◌, length, take, get_or, refl, ap, sym, arith, add-one, IsTrue}
use Rattle.std.specs.Prelude.{Option, Some, not, replicate, slice_set}
use Rattle.std.specs.List.{list_all}
use Rattle.std.proofs.lemmas.Bool.{and_parts}
use Rattle.std.proofs.lemmas.Bool.Decides.{same_from_decides}
use Rattle.dg_world.specs.World.{WorldView, look}
use Rattle.dg_world.specs.declared.question.Read.{Read}
use Rattle.dg_records.specs.Truth.{RecordView, holds, is_given}
use Rattle.dg_records.proofs.HoldsLemmas.{given-true, true-given}
use Rattle.dg_index.specs.Topic.{is_on}
use Rattle.dg_index.specs.Marks.{MarkedView, is_stale, marks_in, looked_again}
use Rattle.dg_index.specs.declared.topic.Topic.{Topic}

-- the test of a read tells whether it is stale
pub told-stale : (b : Bool) (w : WorldView) (read : Read) → IsTrue b ↔ (look w read.question ≡ Some read.answer) → not b ≡ is_stale w read
told-stale b w read h =
    ap not (same_from_decides b (is_given (look w read.question) read.answer) h (given-true (look w read.question) read.answer, true-given (look w read.question) read.answer))

-- no read is stale where each has the world's answer
none-stale : (w : WorldView) (rs : List Read) → list_all (λ read. is_given (look w read.question) read.answer) rs ≡ true → replicate (length rs) false ≡ marks_in w rs
none-stale w [] h = refl
none-stale w (r ∷ rs) h =
    let p = and_parts _ _ h in
    λ i. ap not (sym p.0) i ∷ none-stale w rs p.1 i

-- a record without a raised mark is marked as the world is, where it holds there
pub marked-held : (w : WorldView) (m : MarkedView) (r : RecordView) (numbers : List (Option ℕ)) → m ≡ record { record_of = r; marks = replicate (length r.reads) false; numbers = numbers }
    → holds w r ≡ true → m ≡ record m { marks = marks_in w m.record_of.reads }
marked-held w m r numbers e h =
    e ∙ (λ i. record { record_of = r; marks = none-stale w r.reads h i; numbers = numbers })
    ∙ sym (ap (λ (x : MarkedView). record x { marks = marks_in w x.record_of.reads }) e)

-- the marks once the first reads were compared with the world
abbrev pub looked_at : WorldView → List Read → List Bool → List Bool
looked_at w [] marks = marks
looked_at w (r ∷ rs) [] = []
looked_at w (r ∷ rs) (m ∷ ms) = is_stale w r ∷ looked_at w rs ms

pub looked_at-length : (w : WorldView) (rs : List Read) (ms : List Bool) → length (looked_at w rs ms) ≡ length ms
looked_at-length w [] ms = refl
looked_at-length w (r ∷ rs) [] = refl
looked_at-length w (r ∷ rs) (m ∷ ms) = ap suc (looked_at-length w rs ms)

pub looked_at-all : (w : WorldView) (rs : List Read) (ms : List Bool) → length ms ≡ length rs → looked_at w rs ms ≡ marks_in w rs
looked_at-all w [] [] h = refl
looked_at-all w [] (m ∷ ms) h = absurd (omega (arith, h))
looked_at-all w (r ∷ rs) [] h = absurd (omega (arith, h))
looked_at-all w (r ∷ rs) (m ∷ ms) h = ap (λ l. is_stale w r ∷ l) (looked_at-all w rs ms (omega (arith, h)))

-- one read more was compared
looked_at-suc : (w : WorldView) (rs : List Read) (ms : List Bool) (i : ℕ) (r : Read) → i < length rs → length ms ≡ length rs → r ≡ get_or rs i r
    → looked_at w (take (suc i) rs) ms ≡ slice_set (looked_at w (take i rs) ms) i (is_stale w r)
looked_at-suc w [] ms i r lt h is = absurd (omega (arith, lt))
looked_at-suc w (x ∷ rs) [] i r lt h is = absurd (omega (arith, h))
looked_at-suc w (x ∷ rs) (m ∷ ms) zero r lt h is = ap (λ y. is_stale w y ∷ ms) (sym is)
looked_at-suc w (x ∷ rs) (m ∷ ms) (suc i) r lt h is =
    ap (λ l. is_stale w x ∷ l) (looked_at-suc w rs ms i r (omega (arith, lt)) (omega (arith, h)) is)

pub looked_at-more : (w : WorldView) (rs : List Read) (ms : List Bool) (i : ℕ) (r : Read) → i < length rs → length ms ≡ length rs → r ≡ get_or rs i r
    → looked_at w (take (i + 1) rs) ms ≡ slice_set (looked_at w (take i rs) ms) i (is_stale w r)
looked_at-more w rs ms i r lt h is = ap (λ n. looked_at w (take n rs) ms) (add-one i) ∙ looked_at-suc w rs ms i r lt h is

-- and of a topic
pub looked_again-length : (w : WorldView) (t : Topic) (rs : List Read) (ms : List Bool) → length (looked_again w t rs ms) ≡ length ms
looked_again-length w t [] ms = refl
looked_again-length w t (r ∷ rs) [] = refl
looked_again-length w t (r ∷ rs) (m ∷ ms) = ap suc (looked_again-length w t rs ms)

looked_again-suc : (w : WorldView) (t : Topic) (rs : List Read) (ms : List Bool) (i : ℕ) (r : Read) → i < length rs → length ms ≡ length rs → r ≡ get_or rs i r
    → looked_again w t (take (suc i) rs) ms ≡ cond (is_on t r.question) (slice_set (looked_again w t (take i rs) ms) i (is_stale w r)) (looked_again w t (take i rs) ms)
looked_again-suc w t [] ms i r lt h is = absurd (omega (arith, lt))
looked_again-suc w t (x ∷ rs) [] i r lt h is = absurd (omega (arith, h))
looked_again-suc w t (x ∷ rs) (m ∷ ms) zero r lt h is = ap (λ y. cond (is_on t y.question) (is_stale w y) m ∷ ms) (sym is) ∙ step (is_on t r.question)
  where
    step : (b : Bool) → cond b (is_stale w r) m ∷ ms ≡ cond b (is_stale w r ∷ ms) (m ∷ ms)
    step true = refl
    step false = refl
looked_again-suc w t (x ∷ rs) (m ∷ ms) (suc i) r lt h is =
    ap (λ l. cond (is_on t x.question) (is_stale w x) m ∷ l) (looked_again-suc w t rs ms i r (omega (arith, lt)) (omega (arith, h)) is) ∙ step (is_on t r.question)
  where
    step : (b : Bool) → cond (is_on t x.question) (is_stale w x) m ∷ cond b (slice_set (looked_again w t (take i rs) ms) i (is_stale w r)) (looked_again w t (take i rs) ms)
        ≡ cond b (cond (is_on t x.question) (is_stale w x) m ∷ slice_set (looked_again w t (take i rs) ms) i (is_stale w r)) (cond (is_on t x.question) (is_stale w x) m ∷ looked_again w t (take i rs) ms)
    step true = refl
    step false = refl

pub looked_again-more : (w : WorldView) (t : Topic) (rs : List Read) (ms : List Bool) (i : ℕ) (r : Read) (b : Bool) → is_on t r.question ≡ b → i < length rs → length ms ≡ length rs → r ≡ get_or rs i r
    → looked_again w t (take (i + 1) rs) ms ≡ cond b (slice_set (looked_again w t (take i rs) ms) i (is_stale w r)) (looked_again w t (take i rs) ms)
looked_again-more w t rs ms i r b on lt h is =
    ap (λ n. looked_again w t (take n rs) ms) (add-one i) ∙ looked_again-suc w t rs ms i r lt h is
    ∙ ap (λ c. cond c (slice_set (looked_again w t (take i rs) ms) i (is_stale w r)) (looked_again w t (take i rs) ms)) on
