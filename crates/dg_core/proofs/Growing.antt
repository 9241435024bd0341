-- What stays while the book of a world grows.
use Rattle.std.proofs.Common.{◌≡◌, ◌≤◌, ℕ, Bool, true, false, cond, List, [], ◌∷◌, ◌++◌, refl, ap, sym, ◌∙◌, subst, arith}
use Rattle.std.proofs.lemmas.Bool.{and_parts, and_from}
use Rattle.std.proofs.lemmas.List.{append_assoc, append-nil}
use Rattle.std.specs.Prelude.{Option, Some, None, MatchOption, option_map}
use Rattle.std.specs.Map.{lookup}
use Rattle.std.specs.Cmp.Lexicographic.{pointwise}
use Rattle.std.specs.Prelude.{nat_eq}
use Rattle.dg_match.specs.declared.reading.Reading.{Reading as ReadingOfText}
use Rattle.dg_match.specs.declared.reading.Reading.TheVariants.{Read as IsRead, Syntax, TooLarge}
use Rattle.dg_match.specs.Book.{reading_of}
use Rattle.dg_world.specs.World.{WorldView, look, selected, scripts, IsAsked}
use Rattle.dg_world.specs.declared.question.Question.{Question}
use Rattle.dg_world.specs.declared.question.Question.TheVariants.{File, Tool, Triplet, Variable, Entry, Pattern}
use Rattle.dg_world.specs.declared.question.Answer.{Answer}
use Rattle.dg_world.specs.declared.question.Answer.TheVariants.{Reading}
use Rattle.dg_world.specs.declared.question.Read.{Read}
use Rattle.dg_world.specs.Question.{fits}
use Rattle.dg_world.specs.declared.test_id.TestId.{TestId}
use Rattle.dg_results.specs.declared.verdict.Line.{Line}
use Rattle.dg_language.specs.declared.ask.Ask.{Ask}
use Rattle.dg_language.specs.Play.{Play, Ends, Asks, Source, Coming, Over, Needs, run, on_answer, end_of, heard, GivesEach, reads_in, read_on}
use Rattle.dg_language.specs.Evaluation.{Ending}
use Rattle.dg_language.specs.Judge.{judge, verdict_of}
use Rattle.dg_language.proofs.Sources.{run_more}
use Rattle.dg_records.specs.Truth.{RecordView, answers_of}
use Rattle.dg_records.specs.Shelf.{kept}
use Rattle.dg_records.proofs.HoldsLemmas.{heard-look, all_given, given-true, true-given}
use Rattle.dg_index.specs.Kept.{holds_if_kept, is_held}
use Rattle.dg_core.specs.Core.{record_in, lines_or_none}
use Rattle.dg_core.specs.Grown.{IsGrown}
use Rattle.dg_core.specs.Asking.{HasVerdict}
use Rattle.dg_core.specs.Turns.{bound, over_answers}

pub grown-refl : (w : WorldView) → IsGrown w w
grown-refl w = ([], λ i. record w { book = sym (append-nil w.book) i })

pub grown-trans : (u v w : WorldView) → IsGrown u v → IsGrown v w → IsGrown u w
grown-trans u v w g h = (
  g.0 ++ h.0,
  h.1 ∙ ap (λ (x : WorldView). record x { book = x.book ++ h.0 }) g.1 ∙ (λ i. record u { book = append_assoc u.book g.0 h.0 i }),
)

-- a world that was asked has grown
pub asked-grown : (old new : WorldView) (q : Question) (a : Answer) → IsAsked old new q a → IsGrown old new
asked-grown old new q a h = step (look old q) h.grown
  where
    step : (o : Option Answer)
        → MatchOption o ((text : List ℕ) × (r : ReadingOfText) × (q ≡ Pattern text) × (new ≡ record old { book = old.book ++ (text, r) ∷ [] })) (λ _. new ≡ old)
        → IsGrown old new
    step None (text, r, is, grown) = ((text, r) ∷ [], grown)
    step (Some b) same = subst (IsGrown old) (sym same) (grown-refl old)

-- what stands in a list of entries is found also where more follows
lookup-more : {K X : Type 0} (test : K → Bool) (es more : List (K × X)) (v : X) → lookup test es ≡ Some v → lookup test (es ++ more) ≡ Some v
lookup-more test [] more v h = cc
lookup-more {K} {X} test (e ∷ es) more v h = step (test e.0) h (lookup-more test es more v)
  where
    step : (b : Bool) → cond b (Some e.1) (lookup test es) ≡ Some v → (lookup test es ≡ Some v → lookup test (es ++ more) ≡ Some v)
        → cond b (Some e.1) (lookup test (es ++ more)) ≡ Some v
    step true h ih = h
    step false h ih = ih h

look-more : (w : WorldView) (more : List (List ℕ × ReadingOfText)) (q : Question) (a : Answer) → look w q ≡ Some a → look (record w { book = w.book ++ more }) q ≡ Some a
look-more w more (File name) a h = h
look-more w more Tool a h = h
look-more w more (Triplet machine) a h = h
look-more w more (Variable name) a h = h
look-more w more (Entry place) a h = h
look-more w more (Pattern text) a h = step (reading_of w.book text) refl h
  where
    step : (o : Option ReadingOfText) → reading_of w.book text ≡ o → option_map Reading o ≡ Some a → option_map Reading (reading_of (w.book ++ more) text) ≡ Some a
    step None e h = cc
    step (Some r) e h = ap (option_map Reading) (lookup-more (pointwise nat_eq text) w.book more r e) ∙ h

-- what the old book answers, the new one answers too
pub grown-look : (old new : WorldView) → IsGrown old new → (q : Question) (a : Answer) → look old q ≡ Some a → look new q ≡ Some a
grown-look old new g q a h = ap (λ (w : WorldView). look w q) g.1 ∙ look-more old g.0 q a h

pub grown-gives : (old new : WorldView) → IsGrown old new → (rs : List Read) → GivesEach (answers_of old) rs → GivesEach (answers_of new) rs
grown-gives old new g [] h = tt
grown-gives old new g (r ∷ rs) h = (
  heard-look new r.question ∙ grown-look old new g r.question r.answer (sym (heard-look old r.question) ∙ h.0),
  grown-gives old new g rs h.1,
)

-- what is held stays held
given-grown : (old new : WorldView) → IsGrown old new → (rs : List Read) → all_given old rs ≡ true → all_given new rs ≡ true
given-grown old new g [] h = refl
given-grown old new g (r ∷ rs) h =
    let p = and_parts _ _ h in
    and_from _ _ (true-given (look new r.question) r.answer (grown-look old new g r.question r.answer (given-true (look old r.question) r.answer p.0)))
    (given-grown old new g rs p.1)

pub held-grown : (old new : WorldView) → IsGrown old new → (s : List RecordView) (t : TestId) → is_held old s t ≡ true → is_held new s t ≡ true
held-grown old new g s t h = step (kept s t) h
  where
    step : (o : Option RecordView) → holds_if_kept old o ≡ true → holds_if_kept new o ≡ true
    step None h = cc
    step (Some r) h = given-grown old new g r.reads h

-- and the same tests are selected
pub selected-grown : (old new : WorldView) → IsGrown old new → selected new ≡ selected old
unfolding selected scripts
selected-grown old new g = ap selected g.1

-- an evaluation that comes to its end reads the same where there are more answers
heard-more : {A : Type 0} (q : Ask) (k : Answer → Play A) (few more : Source) (v : A)
    → ((a : Answer) → run few (k a) ≡ Over v → reads_in more (k a) ≡ reads_in few (k a))
    → (o o' : Option Answer) → ((a : Answer) → o ≡ Some a → o' ≡ Some a)
    → on_answer q (heard q.question o) (λ a. run few (k a)) ≡ Over v
    → read_on q.question (heard q.question o') (λ a. reads_in more (k a)) ≡ read_on q.question (heard q.question o) (λ a. reads_in few (k a))
heard-more q k few more v ih None o' m h = cc
heard-more q k few more v ih (Some a) o' m h = rw (m a refl) (fit (fits q.question a) h)
  where
    fit : (b : Bool) → on_answer q (elim b as (λ _. Option Answer) [ true ↦ Some a | false ↦ None ]) (λ a. run few (k a)) ≡ Over v
        → read_on q.question (elim b as (λ _. Option Answer) [ true ↦ Some a | false ↦ None ]) (λ a. reads_in more (k a))
        ≡ read_on q.question (elim b as (λ _. Option Answer) [ true ↦ Some a | false ↦ None ]) (λ a. reads_in few (k a))
    fit true e = ap (λ rs. record { question = q.question; answer = a } ∷ rs) (ih a e)
    fit false e = cc

reads-more : {A : Type 0} (p : Play A) (few more : Source) → ((q : Question) (a : Answer) → few q ≡ Some a → more q ≡ Some a)
    → (v : A) → run few p ≡ Over v → reads_in more p ≡ reads_in few p
reads-more (Ends a) few more m v e = refl
reads-more (Asks q k) few more m v e =
    heard-more q k few more v (λ a. reads-more (k a) few more m v) (few q.question) (more q.question) (m q.question) e

some-lines : (c : Coming Ending) (lines : List Line) → verdict_of (end_of c) ≡ Some lines → (e : Ending) × (c ≡ Over e)
some-lines (Over e) lines h = (e, refl)
some-lines (Needs ask) lines h = cc

pub verdict-grown : (old new : WorldView) (t : TestId) → IsGrown old new → HasVerdict old t → HasVerdict new t
verdict-grown old new t g h =
    let over = some-lines (run (answers_of old) (judge t)) h.0 h.1 in
    (h.0, ap (λ c. verdict_of (end_of c)) (run_more (judge t) (answers_of old) (answers_of new) (grown-look old new g) over.0 over.1 ∙ sym over.1) ∙ h.1)

-- the record of a test whose judging came to its end is the same
pub record-grown : (old new : WorldView) (t : TestId) → IsGrown old new → HasVerdict old t → record_in new t ≡ record_in old t
unfolding record_in
record-grown old new t g h =
    let over = some-lines (run (answers_of old) (judge t)) h.0 h.1 in
    let reads = reads-more (judge t) (answers_of old) (answers_of new) (grown-look old new g) over.0 over.1 in
    let ends = run_more (judge t) (answers_of old) (answers_of new) (grown-look old new g) over.0 over.1 ∙ sym over.1 in
    λ i. record { test = t; reads = reads i; verdict = lines_or_none (verdict_of (end_of (ends i))) }

-- only a pattern can have no answer
look-reading : (old new : WorldView) (q : Question) (a : Answer) → look old q ≡ None → look new q ≡ Some a → (r : ReadingOfText) × (a ≡ Reading r)
look-reading old new (File name) a none h = cc
look-reading old new Tool a none h = cc
look-reading old new (Triplet machine) a none h = cc
look-reading old new (Variable name) a none h = cc
look-reading old new (Entry place) a none h = cc
look-reading old new (Pattern text) a none h = step (reading_of new.book text) h
  where
    step : (o : Option ReadingOfText) → option_map Reading o ≡ Some a → (r : ReadingOfText) × (a ≡ Reading r)
    step None h = cc
    step (Some r) h = let same : a ≡ Reading r = cc in (r, same)

-- a count over what was left open is no less than the count at one answer
one-of : (f : Answer → ℕ) (r : ReadingOfText) → f (Reading r) ≤ over_answers None f
one-of f IsRead = omega arith
one-of f Syntax = omega arith
one-of f TooLarge = omega arith

over-fewer : (o o' : Option Answer) (f g : Answer → ℕ) → ((a : Answer) → g a ≤ f a) → ((a : Answer) → o ≡ Some a → o' ≡ Some a)
    → ((a : Answer) → o ≡ None → o' ≡ Some a → (r : ReadingOfText) × (a ≡ Reading r)) → over_answers o' g ≤ over_answers o f
over-fewer (Some a) o' f g less stays open_at = subst (λ x. over_answers x g ≤ f a) (sym (stays a refl)) (less a)
over-fewer None None f g less stays open_at = omega (arith, less (Reading IsRead), less (Reading Syntax), less (Reading TooLarge))
over-fewer None (Some a) f g less stays open_at =
    let r = open_at a refl refl in
    let at : f a ≤ over_answers None f = subst (λ x. f x ≤ over_answers None f) (sym r.1) (one-of f r.0) in
    omega (arith, less a, at)

-- the bound on an evaluation's questions doesn't rise
pub bound-grown : {A : Type 0} (old new : WorldView) → IsGrown old new → (p : Play A) → bound new p ≤ bound old p
bound-grown old new g (Ends a) = omega arith
bound-grown old new g (Asks q k) =
    let fewer =
    over-fewer (look old q.question) (look new q.question) (λ a. bound old (k a)) (λ a. bound new (k a)) (λ a. bound-grown old new g (k a))
    (grown-look old new g q.question) (look-reading old new q.question) in
    omega (arith, fewer)
