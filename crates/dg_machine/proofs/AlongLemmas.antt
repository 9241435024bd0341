-- Evaluations that are told the answers of a source on their way.
use Rattle.std.proofs.Common.{◌≡◌, ◌++◌, ◌∷◌, ◌∙◌, List, [], true, false, refl, ap, subst}
use Rattle.std.proofs.lemmas.List.{append_assoc}
use Rattle.std.specs.Prelude.{Option, Some, None}
use Rattle.dg_world.specs.declared.question.Question.{Question}
use Rattle.dg_world.specs.declared.question.Answer.{Answer}
use Rattle.dg_world.specs.declared.question.Read.{Read}
use Rattle.dg_world.specs.declared.test_id.TestId.{TestId}
use Rattle.dg_world.specs.Question.{fits}
use Rattle.dg_language.specs.declared.ask.Ask.{Ask}
use Rattle.dg_language.specs.Play.{Source, heard}
use Rattle.dg_language.specs.State.{learn}
use Rattle.dg_machine.specs.declared.machine.Machine.{Machine}
use Rattle.dg_machine.specs.declared.evaluation.Arrival.{Arrival}
use Rattle.dg_machine.specs.declared.evaluation.Arrival.TheVariants as arrival
use Rattle.dg_machine.specs.declared.frame.Stop.{Stop}
use Rattle.dg_machine.specs.declared.frame.Stop.TheVariants.{AtQuestion, AtEnd, Lost}
use Rattle.dg_machine.specs.Evaluating.{EvaluationView, IsLeft}
use Rattle.dg_machine.specs.Meaning.{rest, told, ComesTo}
use Rattle.dg_machine.specs.Arriving.{AreGiven, ArrivesAlong, ComesAlong, ComesAs, IsSameStop, IsTold, IsUnanswered, StandsUnanswered, evaluation_of}
use Rattle.dg_machine.proofs.EvaluationLemmas.{stands, learned}

heard-given : (look : Source) (q : Question) (a : Answer) → look q ≡ Some a → fits q a ≡ true → heard q (look q) ≡ Some a
heard-given look q a e f = ap (heard q) e ∙ ap (λ b. elim b as (λ _. Option Answer) [ true ↦ Some a | false ↦ None ]) f

given-append : (look : Source) (holds : Question → Answer → Type 0) (rs : List Read) (r : Read) → AreGiven look holds rs
    → heard r.question (look r.question) ≡ Some r.answer → holds r.question r.answer → AreGiven look holds (rs ++ r ∷ [])
given-append look holds [] r g e h = (e, h, tt)
given-append look holds (x ∷ rs) r g e h = (g.0, g.1, given-append look holds rs r g.2 e h)

-- one answer more was told
pub told-one : (look : Source) (holds : Question → Answer → Type 0) (first old new : Machine) (ask : Ask) (a : Answer) → IsTold look holds first old
    → ComesTo old new (AtQuestion ask) → look ask.question ≡ Some a → fits ask.question a ≡ true → holds ask.question a
    → IsTold look holds first (told ask.question a new)
unfolding learn
told-one look holds first old new ask a k c e f h =
    let read : Read = record { question = ask.question; answer = a } in
    record {
      more = k.more ++ read ∷ [];
      given = given-append look holds k.more read k.given (heard-given look ask.question a e f) h;
      known = ap (λ rs. rs ++ read ∷ []) (c.1 ∙ k.known) ∙ append_assoc first.state.known k.more (read ∷ []);
      left = λ t l. learned t ask a new (stands t ask old new (k.left t l) c) f;
    }

-- where it stops, the source has no answer
unanswered : (look : Source) (stop : Stop) (a : Arrival) → StandsUnanswered look stop → IsSameStop stop a → IsUnanswered look a
unanswered look (AtQuestion ask) (arrival.AtQuestion x) u e = ap (λ (q : Ask). look q.question) e ∙ u
unanswered look (AtEnd c) (arrival.AtEnd x) u e = tt
unanswered look Lost arrival.Lost u e = tt
unanswered look (AtQuestion ask) (arrival.AtEnd x) u e = absurd e
unanswered look (AtQuestion ask) arrival.Lost u e = absurd e
unanswered look (AtEnd c) (arrival.AtQuestion x) u e = absurd e
unanswered look (AtEnd c) arrival.Lost u e = absurd e
unanswered look Lost (arrival.AtQuestion x) u e = absurd e
unanswered look Lost (arrival.AtEnd x) u e = absurd e

-- the machine of an evaluation was told answers, and has come to a stop
pub arrives-along : (look : Source) (holds : Question → Answer → Type 0) (t : TestId) (old new : Machine) (stop : Stop) (v : EvaluationView)
    → evaluation_of t old ≡ v → IsLeft t old → ComesAlong look holds old new stop → (a : Arrival) → ComesAs t new stop a → ArrivesAlong look holds v a
arrives-along look holds t old new stop v is left come a same =
    let left_then = come.1.left t left in
    subst (λ w. ArrivesAlong look holds w a) is (
      evaluation_of t come.0,
      record { more = come.1.more; given = come.1.given; test = refl; reads = come.1.known; rest = rest come.0; leads = left_then.leads },
      same.0 come.0 left_then come.2,
      unanswered look stop a come.3 same.1,
    )
