-- When a record holds in a world, and what its verdict is there.
use Rattle.std.proofs.Common.{◌≡◌, ◌↔◌, ◌∙◌, ℕ, Bool, true, List, [], ◌∷◌, refl, ap, IsTrue}
use Rattle.std.specs.Prelude.{Option, Some, None, option_map}
use Rattle.std.specs.List.{list_all}
use Rattle.std.proofs.lemmas.Bool.{and_parts, and_from}
use Rattle.std.proofs.lemmas.Bool.Decides.{same_from_decides}
use Rattle.std.proofs.lemmas.List.Elements.{All-nil, All-cons, All-head, All-tail}
use Rattle.dg_match.specs.declared.reading.Reading.{Reading}
use Rattle.dg_match.specs.Book.{reading_of}
use Rattle.dg_transcript.specs.declared.entry.Entry.{Entry as EntryOfSession}
use Rattle.dg_world.specs.World.{WorldView, look, content_of, answer_of, setting_answer, entry_of}
use Rattle.dg_world.specs.Transcripts.{entry_answer}
use Rattle.dg_world.specs.Setting.{value_of}
use Rattle.dg_world.specs.declared.question.Question.{Question}
use Rattle.dg_world.specs.declared.question.Question.TheVariants.{File, Tool, Triplet, Variable, Entry, Pattern}
use Rattle.dg_world.specs.declared.question.Answer.{Answer}
use Rattle.dg_world.specs.declared.question.Answer.TheVariants as answer
use Rattle.dg_world.specs.declared.question.Read.{Read}
use Rattle.dg_world.proofs.AnswerLemmas.{same_answer-refl, same_answer-true}
use Rattle.dg_language.specs.Play.{GivesEach, heard}
use Rattle.dg_language.specs.Judge.{verdict_in}
use Rattle.dg_records.specs.Truth.{RecordView, IsTrueRecord, Agree, is_given, holds}

-- a world's answers are of the questions' kinds
pub heard-look : (w : WorldView) (q : Question) → heard q (look w q) ≡ look w q
heard-look w (File n) = kind (content_of w n)
  where
    kind : (o : Option (List ℕ)) → heard (File n) (Some (answer_of o)) ≡ Some (answer_of o)
    kind None = refl
    kind (Some t) = refl
heard-look w Tool = refl
heard-look w (Triplet m) = refl
heard-look w (Variable n) = kind (value_of w.selection.variables n)
  where
    kind : (o : Option (List ℕ)) → heard (Variable n) (Some (setting_answer o)) ≡ Some (setting_answer o)
    kind None = refl
    kind (Some v) = refl
heard-look w (Entry p) = kind (entry_of w p)
  where
    kind : (o : Option EntryOfSession) → heard (Entry p) (Some (entry_answer o)) ≡ Some (entry_answer o)
    kind None = refl
    kind (Some e) = refl
heard-look w (Pattern t) = kind (reading_of w.book t)
  where
    kind : (o : Option Reading) → heard (Pattern t) (option_map answer.Reading o) ≡ option_map answer.Reading o
    kind None = refl
    kind (Some r) = refl

-- an answer that is given
pub given-true : (o : Option Answer) (a : Answer) → is_given o a ≡ true → o ≡ Some a
given-true None a h = cc
given-true (Some b) a h = ap (λ (x : Answer). Some x) (same_answer-true b a h)

pub true-given : (o : Option Answer) (a : Answer) → o ≡ Some a → is_given o a ≡ true
true-given None a h = cc
true-given (Some b) a h = let same : b ≡ a = cc in same_answer-refl b a same

abbrev pub Given : WorldView → Read → Type 0
Given w r = look w r.question ≡ Some r.answer

abbrev pub all_given : WorldView → List Read → Bool
all_given w = list_all (λ read. is_given (look w read.question) read.answer)

pub agree-true : (w : WorldView) (rs : List Read) → Agree rs w → all_given w rs ≡ true
agree-true w [] h = refl
agree-true w (r ∷ rs) h =
    and_from _ _ (true-given (look w r.question) r.answer (All-head (Given w) r rs h)) (agree-true w rs (All-tail (Given w) r rs h))

pub true-agree : (w : WorldView) (rs : List Read) → all_given w rs ≡ true → Agree rs w
true-agree w [] h = All-nil (Given w)
true-agree w (r ∷ rs) h =
    let p = and_parts (is_given (look w r.question) r.answer) (all_given w rs) h in
    All-cons (Given w) r rs (given-true (look w r.question) r.answer p.0) (true-agree w rs p.1)

-- the test of a record tells whether it holds
pub told-holds : (b : Bool) (w : WorldView) (r : RecordView) → IsTrue b ↔ Agree r.reads w → b ≡ holds w r
told-holds b w r h = same_from_decides b (holds w r) h (true-agree w r.reads, agree-true w r.reads)

-- a world gives the answers that agree with it
pub gives-agree : (w : WorldView) (rs : List Read) → Agree rs w → GivesEach (look w) rs
gives-agree w [] h = tt
gives-agree w (r ∷ rs) h =
    (heard-look w r.question ∙ All-head (Given w) r rs h, gives-agree w rs (All-tail (Given w) r rs h))

pub agreeing-verdict : (w : WorldView) (r : RecordView) → IsTrueRecord r.test r.reads r.verdict → Agree r.reads w → verdict_in (look w) r.test ≡ Some r.verdict
agreeing-verdict w r y h = y.holds (look w) (gives-agree w r.reads h)
