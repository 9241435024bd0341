-- A book may grow until every selected test has a verdict.
use Rattle.std.proofs.Common.{◌≡◌, ℕ, Bool, true, false, cond, List, [], ◌∷◌, ◌++◌, refl, ap, ◌∙◌}
use Rattle.std.specs.Prelude.{Option, Some, None, nat_eq, option_map}
use Rattle.std.specs.Map.{lookup}
use Rattle.std.specs.Cmp.Lexicographic.{pointwise, bytes_decides}
use Rattle.dg_match.specs.declared.reading.Reading.{Reading as ReadingOfText}
use Rattle.dg_match.specs.declared.reading.Reading.TheVariants.{Syntax}
use Rattle.dg_match.specs.Book.{reading_of}
use Rattle.dg_world.specs.World.{WorldView, look, selected}
use Rattle.dg_world.specs.declared.question.Question.{Question}
use Rattle.dg_world.specs.declared.question.Question.TheVariants.{File, Tool, Triplet, Variable, Entry, Pattern}
use Rattle.dg_world.specs.declared.question.Answer.{Answer}
use Rattle.dg_world.specs.declared.question.Answer.TheVariants.{Reading}
use Rattle.dg_world.specs.declared.test_id.TestId.{TestId}
use Rattle.dg_language.specs.Play.{Play, Ends, Asks, Over, run, on_answer, end_of}
use Rattle.dg_language.specs.Evaluation.{Ending}
use Rattle.dg_language.specs.Judge.{judge, verdict_of}
use Rattle.dg_records.specs.Truth.{answers_of}
use Rattle.dg_records.proofs.HoldsLemmas.{heard-look}
use Rattle.dg_sum.specs.Judged.{Judged}
use Rattle.dg_sum.specs.Report.{report, status}
use Rattle.dg_core.specs.Grown.{IsGrown}
use Rattle.dg_core.specs.Scratch.{judged, and_judged, all_judged, scratch}
use Rattle.dg_core.proofs.Growing.{grown-refl, grown-trans, grown-look, verdict-grown, selected-grown}

lookup-last : {K X : Type 0} (test : K → Bool) (es : List (K × X)) (k : K) (v : X) → lookup test es ≡ None → test k ≡ true → lookup test (es ++ (k, v) ∷ []) ≡ Some v
lookup-last test [] k v none e = ap (λ b. cond b (Some v) None) e
lookup-last {K} {X} test (x ∷ es) k v none e = step (test x.0) none (lookup-last test es k v)
  where
    step : (b : Bool) → cond b (Some x.1) (lookup test es) ≡ None → (lookup test es ≡ None → test k ≡ true → lookup test (es ++ (k, v) ∷ []) ≡ Some v)
        → cond b (Some x.1) (lookup test (es ++ (k, v) ∷ [])) ≡ Some v
    step true h ih = cc
    step false h ih = ih h e

-- a world may grow by an answer to what it doesn't answer
answered : (w : WorldView) (q : Question) → look w q ≡ None → (v : WorldView) × (a : Answer) × IsGrown w v × (look v q ≡ Some a)
answered w (File name) none = cc
answered w Tool none = cc
answered w (Triplet machine) none = cc
answered w (Variable name) none = cc
answered w (Entry place) none = cc
answered w (Pattern text) none = (
  record w { book = w.book ++ (text, Syntax) ∷ [] },
  Reading Syntax,
  ((text, Syntax) ∷ [], refl),
  ap (option_map Reading) (lookup-last (pointwise nat_eq text) w.book text Syntax (unread (reading_of w.book text) none) ((bytes_decides text text).1 refl)),
)
  where
    unread : (o : Option ReadingOfText) → option_map Reading o ≡ None → o ≡ None
    unread None h = refl
    unread (Some r) h = cc

-- and by the answers to all that an evaluation asks
complete : (p : Play Ending) (w : WorldView) → (v : WorldView) × (e : Ending) × IsGrown w v × (run (answers_of v) p ≡ Over e)
complete (Ends e) w = (w, e, grown-refl w, refl)
complete (Asks q k) w = step (look w q.question) refl (λ a. complete (k a))
  where
    told : (u : WorldView) (a : Answer) → IsGrown w u → look u q.question ≡ Some a
        → ((v : WorldView) × (e : Ending) × IsGrown u v × (run (answers_of v) (k a) ≡ Over e))
        → (v : WorldView) × (e : Ending) × IsGrown w v × (run (answers_of v) (Asks q k) ≡ Over e)
    told u a g is (v, e, h, ends) = (
      v,
      e,
      grown-trans w u v g h,
      ap (λ o. on_answer q o (λ b. run (answers_of v) (k b))) (heard-look v q.question ∙ grown-look u v h q.question a is) ∙ ends,
    )

    step : (o : Option Answer) → look w q.question ≡ o
        → ((a : Answer) (u : WorldView) → (v : WorldView) × (e : Ending) × IsGrown u v × (run (answers_of v) (k a) ≡ Over e))
        → (v : WorldView) × (e : Ending) × IsGrown w v × (run (answers_of v) (Asks q k) ≡ Over e)
    step (Some a) is all = told w a (grown-refl w) is (all a w)
    step None none all = let (u, a, g, is) = answered w q.question none in told u a g is (all a u)

-- and so by those of all tests
complete-all : (ts : List TestId) (w : WorldView) → (v : WorldView) × (js : List Judged) × IsGrown w v × (all_judged (answers_of v) ts ≡ Some js)
complete-all [] w = (w, [], grown-refl w, refl)
complete-all (t ∷ ts) w =
    let (u, e, g, ends) = complete (judge t) w in
    let (v, js, h, rest) = complete-all ts u in
    let lines = verdict-grown u v t h (e.verdict, ap (λ c. verdict_of (end_of c)) ends) in (
      v,
      judged t lines.0 ∷ js,
      grown-trans w u v g h,
      ap (λ o. and_judged t o (all_judged (answers_of v) ts)) lines.1 ∙ ap (and_judged t (Some lines.0)) rest,
    )

-- a world may grow into one that has a report
pub completed : (w : WorldView) → (v : WorldView) × (sum : List ℕ × ℕ) × IsGrown w v × (scratch v ≡ Some sum)
unfolding scratch
completed w =
    let (v, js, g, all) = complete-all (selected w) w in (
      v,
      (report v.selection js, status js),
      g,
      ap (option_map (λ (xs : List Judged). (report v.selection xs, status xs))) (ap (all_judged (answers_of v)) (selected-grown w v g) ∙ all),
    )
