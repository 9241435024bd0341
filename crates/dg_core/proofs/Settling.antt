-- What settling leaves: every selected test held.
use Rattle.std.proofs.Common.{◌≡◌, ◌≤◌, ◌<◌, ◌+◌, ◌-◌, ◌^◌, ℕ, suc, zero, Bool, true, false, cond, List, [], ◌∷◌, ◌++◌, length, take, get_or, min, true≢false, refl, ap, sym, ◌∙◌, subst, arith}
use Rattle.std.proofs.lemmas.List.{take_more, take_all}
use Rattle.std.specs.Prelude.{Option, Some, None, Result, Ok, Err, OnErr, not}
use Rattle.std.specs.List.{filter}
use Rattle.dg_world.specs.World.{WorldView, look, selected}
use Rattle.dg_world.specs.declared.test_id.TestId.{TestId}
use Rattle.dg_results.specs.declared.verdict.Line.{Line}
use Rattle.dg_sum.specs.Judged.{Judged}
use Rattle.dg_language.specs.Play.{Play, Ends, Asks, Source, reads_in, read_on}
use Rattle.dg_language.specs.Judge.{judge, verdict_in}
use Rattle.dg_records.specs.Truth.{RecordView, IsTrueRecord, answers_of, is_given, holds}
use Rattle.dg_world.specs.Test.{same_test}
use Rattle.dg_world.specs.declared.question.Answer.{Answer}
use Rattle.dg_records.specs.Shelf.{kept, with_record}
use Rattle.dg_records.proofs.HoldsLemmas.{heard-look, true-given, all_given, true-agree, agreeing-verdict}
use Rattle.dg_records.proofs.ShelfLemmas.{same_test-true, same_test-refl}
use Rattle.dg_index.specs.Kept.{holds_if_kept, is_held}
use Rattle.dg_index.specs.Marks.{counted}
use Rattle.dg_core.specs.Core.{CoreView, pending, record_in, shelf_with, settled, settled_up_to, with_judged, IsPartlySettled}
use Rattle.dg_core.specs.Asking.{HasVerdict, all_reads}
use Rattle.dg_core.specs.Fault.{Blames, Tells}
use Rattle.dg_core.specs.declared.judging_core.CoreFault.{CoreFault}
use Rattle.dg_core.specs.declared.judging_core.CoreFault.TheVariants.{PatternLost, Memory}
use Rattle.dg_core.specs.Grown.{IsGrown}
use Rattle.dg_eval.specs.Lost.{HasReadPattern}
use Rattle.dg_core.proofs.Growing.{held-grown, selected-grown, record-grown, verdict-grown}
use Rattle.dg_core.specs.Scratch.{judged, and_judged, all_judged, IsJudged}
use Rattle.std.specs.List.{Contains}
use Rattle.std.proofs.lemmas.List.Elements.{filter_more, Contains-get_or}
use Rattle.dg_core.specs.Core.{unheld}
use Rattle.std.proofs.lemmas.Bool.{and_from}

some-equal : {A : Type 0} (a b : A) → Some a ≡ Some b → a ≡ b
some-equal {A} a b h = ap (λ o. elim o as (λ _. A) [ None ↦ a | Some x ↦ x ]) h

-- the record that was put on the shelf is its test's
pub kept-with_record-same : (s : List RecordView) (r : RecordView) (t : TestId) → t ≡ r.test → kept (with_record s r) t ≡ Some r
kept-with_record-same [] r t e = ap (λ b. cond b (Some r) None) (same_test-refl t r.test e)
kept-with_record-same (x ∷ xs) r t e = step (same_test r.test x.test) refl (kept-with_record-same xs r t e)
  where
    step : (b : Bool) → same_test r.test x.test ≡ b → kept (with_record xs r) t ≡ Some r → kept (cond b (r ∷ xs) (x ∷ with_record xs r)) t ≡ Some r
    step true h ih = ap (λ b. cond b (Some r) (kept xs t)) (same_test-refl t r.test e)
    step false h ih = ap (λ b. cond b (Some x) (kept (with_record xs r) t)) (ap (λ u. same_test u x.test) e ∙ h) ∙ ih

-- and the records of other tests stay
pub kept-with_record-other : (s : List RecordView) (r : RecordView) (t : TestId) → same_test t r.test ≡ false → kept (with_record s r) t ≡ kept s t
kept-with_record-other [] r t n = ap (λ b. cond b (Some r) None) n
kept-with_record-other (x ∷ xs) r t n = step (same_test r.test x.test) refl (kept-with_record-other xs r t n)
  where
    step : (b : Bool) → same_test r.test x.test ≡ b → kept (with_record xs r) t ≡ kept xs t
        → kept (cond b (r ∷ xs) (x ∷ with_record xs r)) t ≡ cond (same_test t x.test) (Some x) (kept xs t)
    step true h ih =
        let e : same_test t x.test ≡ false = ap (same_test t) (sym (same_test-true r.test x.test h)) ∙ n in
        ap (λ b. cond b (Some r) (kept xs t)) n ∙ sym (ap (λ b. cond b (Some x) (kept xs t)) e)
    step false h ih = ap (λ o. cond (same_test t x.test) (Some x) o) ih

-- what an evaluation reads in a world has the world's answers
pub agree-reads_in : {A : Type 0} (w : WorldView) (p : Play A) → all_given w (reads_in (answers_of w) p) ≡ true
agree-reads_in w (Ends a) = refl
agree-reads_in w (Asks q k) =
    ap (λ o. all_given w (read_on q.question o (λ a. reads_in (answers_of w) (k a)))) (heard-look w q.question)
    ∙ step (look w q.question) refl (λ a. agree-reads_in w (k a))
  where
    step : (o : Option Answer) → look w q.question ≡ o → ((a : Answer) → all_given w (reads_in (answers_of w) (k a)) ≡ true)
        → all_given w (read_on q.question o (λ a. reads_in (answers_of w) (k a))) ≡ true
    step None e rest = refl
    step (Some a) e rest = and_from (is_given (look w q.question) a) (all_given w (reads_in (answers_of w) (k a))) (true-given (look w q.question) a e) (rest a)

pub record_in-holds : (w : WorldView) (t : TestId) → holds w (record_in w t) ≡ true
unfolding record_in
record_in-holds w t = agree-reads_in w (judge t)

record_in-test : (w : WorldView) (t : TestId) → t ≡ (record_in w t).test
unfolding record_in
record_in-test w t = refl

-- a test whose record was just made is held
pub held-new : (w : WorldView) (s : List RecordView) (t : TestId) → is_held w (with_record s (record_in w t)) t ≡ true
held-new w s t = ap (holds_if_kept w) (kept-with_record-same s (record_in w t) t (record_in-test w t)) ∙ record_in-holds w t

-- a test that is held stays so where the record of any test is made
pub held-stays : (w : WorldView) (s : List RecordView) (t u : TestId) → is_held w s t ≡ true → is_held w (with_record s (record_in w u)) t ≡ true
held-stays w s t u h = step (same_test t u) refl
  where
    step : (b : Bool) → same_test t u ≡ b → is_held w (with_record s (record_in w u)) t ≡ true
    step true e = subst (λ x. is_held w (with_record s (record_in w x)) t ≡ true) (same_test-true t u e) (held-new w s t)
    step false e =
        ap (holds_if_kept w) (kept-with_record-other s (record_in w u) t (ap (same_test t) (sym (record_in-test w u)) ∙ e)) ∙ h

pub held-shelf_with : (w : WorldView) (s : List RecordView) (ts : List TestId) (t : TestId) → is_held w s t ≡ true → is_held w (shelf_with w s ts) t ≡ true
unfolding shelf_with
held-shelf_with w s [] t h = h
held-shelf_with w s (u ∷ ts) t h = held-shelf_with w (with_record s (record_in w u)) ts t (held-stays w s t u h)

-- each of these tests is held, once a record of each is made
abbrev pub AllHeld : WorldView → List RecordView → List TestId → Type 0
AllHeld w s [] = Unit {0}
AllHeld w s (t ∷ ts) = (is_held w s t ≡ true) × AllHeld w s ts

-- every test is held on a shelf with the records of those that were not, in a world that keeps what was held
all-held : (v w : WorldView) (s last : List RecordView) (ts : List TestId)
    → ((t : TestId) → is_held v s t ≡ true → is_held w last t ≡ true)
    → AllHeld w last (filter (λ t. not (is_held v s t)) ts) → AllHeld w last ts
all-held v w s last [] stays h = tt
all-held v w s last (t ∷ ts) stays h = step (is_held v s t) refl (all-held v w s last ts stays) h
  where
    step : (b : Bool) → is_held v s t ≡ b → (AllHeld w last (filter (λ u. not (is_held v s u)) ts) → AllHeld w last ts)
        → AllHeld w last (cond (not b) (t ∷ filter (λ u. not (is_held v s u)) ts) (filter (λ u. not (is_held v s u)) ts))
        → (is_held w last t ≡ true) × AllHeld w last ts
    step true e ih g = (stays t e, ih g)
    step false e ih g = (g.0, ih g.1)

made-held : (w : WorldView) (s : List RecordView) (ts : List TestId) → AllHeld w (shelf_with w s ts) ts
unfolding shelf_with
made-held w s [] = tt
made-held w s (t ∷ ts) =
    (held-shelf_with w (with_record s (record_in w t)) ts t (held-new w s t), made-held w (with_record s (record_in w t)) ts)

none-pending : (w : WorldView) (s : List RecordView) (ts : List TestId) → AllHeld w s ts → filter (λ t. not (is_held w s t)) ts ≡ []
none-pending w s [] h = refl
none-pending w s (t ∷ ts) h =
    ap (λ b. cond (not b) (t ∷ filter (λ u. not (is_held w s u)) ts) (filter (λ u. not (is_held w s u)) ts)) h.0 ∙ none-pending w s ts h.1

pub held-pending : (w : WorldView) (s : List RecordView) (ts : List TestId) → filter (λ t. not (is_held w s t)) ts ≡ [] → AllHeld w s ts
held-pending w s [] h = tt
held-pending w s (t ∷ ts) h = step (is_held w s t) refl h (held-pending w s ts)
  where
    step : (b : Bool) → is_held w s t ≡ b → cond (not b) (t ∷ filter (λ u. not (is_held w s u)) ts) (filter (λ u. not (is_held w s u)) ts) ≡ []
        → (filter (λ u. not (is_held w s u)) ts ≡ [] → AllHeld w s ts) → (is_held w s t ≡ true) × AllHeld w s ts
    step true e g ih = (e, ih g)
    step false e g ih = cc

-- nothing is pending in a core that was settled, in a world that has grown meanwhile
pub pending-settled : (w : WorldView) (n : ℕ) (c : CoreView) → IsGrown c.world w → pending (settled w n c) ≡ []
unfolding pending settled_up_to
pending-settled w n c g =
    let ts = filter (λ t. not (is_held c.world c.shelf t)) (selected c.world) in
    let last = shelf_with w c.shelf (take (length ts) ts) in
    let all : take (length ts) ts ≡ ts = take_all (length ts) ts (omega arith) in
    let made : AllHeld w last ts = subst (λ us. AllHeld w (shelf_with w c.shelf us) ts) (sym all) (made-held w c.shelf ts) in
    let stays : (t : TestId) → is_held c.world c.shelf t ≡ true → is_held w last t ≡ true =
    λ t h. held-shelf_with w c.shelf (take (length ts) ts) t (held-grown c.world w g c.shelf t h) in
    let held : AllHeld w last (selected w) =
    subst (AllHeld w last) (sym (selected-grown c.world w g)) (all-held c.world w c.shelf last (selected c.world) stays made) in
    none-pending w last (selected w) held

-- no test was judged yet
pub settled-zero : (c : CoreView) → c.evaluations < 2 ^ 64 → c ≡ settled_up_to 0 0 c.world c.compared c
unfolding settled_up_to shelf_with
settled-zero c h = λ i. record { world = c.world; shelf = c.shelf; compared = c.compared; evaluations = sym (least c.evaluations h) i }
  where
    least : (n : ℕ) → n < 2 ^ 64 → min (n + 0) (2 ^ 64 - 1) ≡ n
    least n h = omega arith

-- the judging of each of these tests comes to its end
abbrev pub AllEnd : WorldView → List TestId → Type 0
AllEnd w [] = Unit {0}
AllEnd w (t ∷ ts) = HasVerdict w t × AllEnd w ts

all-end-grown : (v w : WorldView) → IsGrown v w → (ts : List TestId) → AllEnd v ts → AllEnd w ts
all-end-grown v w g [] h = tt
all-end-grown v w g (t ∷ ts) h = (verdict-grown v w t g h.0, all-end-grown v w g ts h.1)

all-end-append : (w : WorldView) (ts : List TestId) (t : TestId) → AllEnd w ts → HasVerdict w t → AllEnd w (ts ++ t ∷ [])
all-end-append w [] t h e = (e, tt)
all-end-append w (u ∷ ts) t h e = (h.0, all-end-append w ts t h.1 e)

-- their records are the same in a world that has grown
shelf_with-grown : (v w : WorldView) → IsGrown v w → (s : List RecordView) (ts : List TestId) → AllEnd v ts → shelf_with v s ts ≡ shelf_with w s ts
unfolding shelf_with
shelf_with-grown v w g s [] h = refl
shelf_with-grown v w g s (t ∷ ts) h =
    shelf_with-grown v w g (with_record s (record_in v t)) ts h.1
    ∙ ap (λ r. shelf_with w (with_record s r) ts) (sym (record-grown v w t g h.0))

shelf_with-append : (w : WorldView) (s : List RecordView) (ts : List TestId) (t : TestId) → shelf_with w s (ts ++ t ∷ []) ≡ with_record (shelf_with w s ts) (record_in w t)
unfolding shelf_with
shelf_with-append w s [] t = refl
shelf_with-append w s (u ∷ ts) t = shelf_with-append w (with_record s (record_in w u)) ts t

counted-more : (n i : ℕ) → counted (counted n i) 1 ≡ counted n (i + 1)
counted-more n i = omega arith

-- the next pending test was judged, in a world that has grown meanwhile
pub settled-more : (c : CoreView) (v w : WorldView) (m n : ℕ) (i : ℕ) (t : TestId) → IsGrown v w → AllEnd v (take i (pending c)) → i < length (pending c) → t ≡ get_or (pending c) i t
    → with_judged w n (settled_up_to i i v m c) t ≡ settled_up_to (i + 1) (i + 1) w n c
unfolding settled_up_to
settled-more c v w m n i t g ends l e =
    let first = take i (pending c) in
    let shelf : shelf_with w c.shelf (take (i + 1) (pending c)) ≡ with_record (shelf_with v c.shelf first) (record_in w t) =
    ap (shelf_with w c.shelf) (take_more (pending c) i t l) ∙ shelf_with-append w c.shelf first (get_or (pending c) i t)
    ∙ ap (λ u. with_record (shelf_with w c.shelf first) (record_in w u)) (sym e)
    ∙ ap (λ s. with_record s (record_in w t)) (sym (shelf_with-grown v w g c.shelf first ends)) in
    λ k. record { world = w; shelf = sym shelf k; compared = n; evaluations = counted-more c.evaluations i k }

pub ends-more : (c : CoreView) (v w : WorldView) (i : ℕ) (t : TestId) → IsGrown v w → AllEnd v (take i (pending c)) → i < length (pending c) → t ≡ get_or (pending c) i t
    → HasVerdict w t → AllEnd w (take (i + 1) (pending c))
ends-more c v w i t g ends l e verdict =
    let all = all-end-append w (take i (pending c)) t (all-end-grown v w g (take i (pending c)) ends) verdict in
    subst (AllEnd w) (ap (λ u. take i (pending c) ++ u ∷ []) e ∙ sym (take_more (pending c) i t l)) all

-- and its evaluation was begun
pub settled-begun : (c : CoreView) (v w : WorldView) (m n : ℕ) (i : ℕ) → IsGrown v w → AllEnd v (take i (pending c))
    → record (settled_up_to i i v m c) { world = w; compared = n; evaluations = counted (settled_up_to i i v m c).evaluations 1 } ≡ settled_up_to i (i + 1) w n c
unfolding settled_up_to
settled-begun c v w m n i g ends =
    λ k. record { world = w; shelf = shelf_with-grown v w g c.shelf (take i (pending c)) ends k; compared = n; evaluations = counted-more c.evaluations i k }

-- one judged test more
pub all_judged-more : (source : Source) (ts : List TestId) (t : TestId) (v : List Line) (js : List Judged) → all_judged source ts ≡ Some js → verdict_in source t ≡ Some v
    → all_judged source (ts ++ t ∷ []) ≡ Some (js ++ judged t v ∷ [])
all_judged-more source [] t v [] h e = ap (λ o. and_judged t o (Some [])) e
all_judged-more source [] t v (j ∷ js) h e = cc
all_judged-more source (u ∷ ts) t v js h e = step (verdict_in source u) (all_judged source ts) js refl h (λ rest g. all_judged-more source ts t v rest g e)
  where
    step : (o : Option (List Line)) (r : Option (List Judged)) (js : List Judged) → all_judged source ts ≡ r → and_judged u o r ≡ Some js
        → ((rest : List Judged) → all_judged source ts ≡ Some rest → all_judged source (ts ++ t ∷ []) ≡ Some (rest ++ judged t v ∷ []))
        → and_judged u o (all_judged source (ts ++ t ∷ [])) ≡ Some (js ++ judged t v ∷ [])
    step None r js e h ih = cc
    step (Some x) None js e h ih = cc
    step (Some x) (Some rest) js e h ih =
        ap (and_judged u (Some x)) (ih rest e) ∙ ap (λ l. Some (l ++ judged t v ∷ [])) (some-equal _ _ h)

pub held-at : (w : WorldView) (s : List RecordView) (ts : List TestId) (i : ℕ) (t : TestId) → AllHeld w s ts → i < length ts → t ≡ get_or ts i t → is_held w s t ≡ true
held-at w s [] i t h l e = absurd (omega arith)
held-at w s (u ∷ ts) zero t h l e = subst (λ x. is_held w s x ≡ true) (sym e) h.0
held-at w s (u ∷ ts) (suc i) t h l e = held-at w s ts i t h.1 (omega arith) e

-- the verdict of a kept record that holds is the one in this world
pub verdict-held : (w : WorldView) (s : List RecordView) (t : TestId) (r : RecordView) → is_held w s t ≡ true → kept s t ≡ Some r → IsTrueRecord r.test r.reads r.verdict → r.test ≡ t
    → verdict_in (answers_of w) t ≡ Some r.verdict
verdict-held w s t r h k y e =
    let holds-now : holds w r ≡ true = sym (ap (holds_if_kept w) k) ∙ h in
    subst (λ u. verdict_in (answers_of w) u ≡ Some r.verdict) e (agreeing-verdict w r y (true-agree w r.reads holds-now))

-- the kept record of a test is of that test
pub kept-test : (s : List RecordView) (t : TestId) (r : RecordView) → kept s t ≡ Some r → r.test ≡ t
kept-test [] t r h = cc
kept-test (x ∷ xs) t r h = step (same_test t x.test) refl h (kept-test xs t r)
  where
    step : (b : Bool) → same_test t x.test ≡ b → cond b (Some x) (kept xs t) ≡ Some r → (kept xs t ≡ Some r → r.test ≡ t) → r.test ≡ t
    step true e g ih = ap (λ y. y.test) (sym (some-equal x r g)) ∙ sym (same_test-true t x.test e)
    step false e g ih = ih g

-- one selected test more was looked at
pub unheld-more : (c : CoreView) (ts : List TestId) (i : ℕ) (t : TestId) (l : List TestId) → i < length ts → t ≡ get_or ts i t
    → l ≡ filter (λ u. not (is_held c.world c.shelf u)) (take i ts) → l ++ unheld c t ≡ filter (λ u. not (is_held c.world c.shelf u)) (take (i + 1) ts)
unheld-more c ts i t l h e p =
    ap (λ k. k ++ unheld c t) p ∙ ap (λ u. filter (λ u. not (is_held c.world c.shelf u)) (take i ts) ++ unheld c u) e
    ∙ sym (filter_more (λ u. not (is_held c.world c.shelf u)) ts i t h)

-- a held test has a kept record
pub held-some : (w : WorldView) (s : List RecordView) (t : TestId) → is_held w s t ≡ true → kept s t ≡ None → ⊥
held-some w s t h n = true≢false (sym h ∙ ap (holds_if_kept w) n)

pub judged-one-more : (w : WorldView) (ts : List TestId) (i : ℕ) (t : TestId) (js : List Judged) (j : Judged) → i < length ts → t ≡ get_or ts i t
    → all_judged (answers_of w) (take i ts) ≡ Some js → IsJudged w t j → all_judged (answers_of w) (take (i + 1) ts) ≡ Some (js ++ j ∷ [])
judged-one-more w ts i t js j l e h k =
    ap (all_judged (answers_of w)) (take_more ts i t l ∙ ap (λ u. take i ts ++ u ∷ []) (sym e))
    ∙ all_judged-more (answers_of w) (take i ts) t j.verdict js h k.1
    ∙ ap (λ u. Some (js ++ judged u j.verdict ∷ [])) (sym k.0)

-- where nothing is pending, each selected test is held
pub selected-held : (c : CoreView) (i : ℕ) (t : TestId) → pending c ≡ [] → i < length (selected c.world) → t ≡ get_or (selected c.world) i t → is_held c.world c.shelf t ≡ true
unfolding pending
selected-held c i t p l e = held-at c.world c.shelf (selected c.world) i t (held-pending c.world c.shelf (selected c.world) p) l e

pub settled-all : (w : WorldView) (m : ℕ) (c : CoreView) (i : ℕ) → length (pending c) ≤ i → i ≤ length (pending c) → settled_up_to i i w m c ≡ settled w m c
settled-all w m c i h g = let e : i ≡ length (pending c) = omega arith in ap (λ n. settled_up_to n n w m c) e

-- a core that was settled up to some test
pub partly : (c new : CoreView) (kept_records begun : ℕ) → begun ≤ length (pending c) → kept_records ≤ begun → begun ≤ kept_records + 1 → new ≡ settled_up_to kept_records begun new.world new.compared c → IsPartlySettled c new
partly c new k b w a o e = record { kept_records = k; begun = b; within = w; all_kept = a; at_most_one = o; is_settled = e }

pub on_err : {A E : Type 0} (r : Result A E) (P : Type 0) → P → OnErr r P
on_err (Ok x) P p = tt
on_err (Err e) P p = p

-- a fault of the judging of a pending test is one of the settling
pub blames-tells : (c : CoreView) (w : WorldView) (i : ℕ) (t : TestId) (f : CoreFault) → i < length (pending c) → t ≡ get_or (pending c) i t → Blames t w f → Tells c w f
blames-tells c w i t Memory l e h = tt
blames-tells c w i t (PatternLost named) l e h =
    let at : Contains (pending c) t = subst (Contains (pending c)) (sym e) (Contains-get_or (pending c) i t l) in (
      subst (Contains (pending c)) (sym h.0) at,
      subst (λ u. HasReadPattern (all_reads w u)) (sym h.0) h.1,
    )
