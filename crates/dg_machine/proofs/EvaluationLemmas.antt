-- What an evaluation keeps, from question to question.
use Rattle.std.proofs.Common.{◌≡◌, ◌∷◌, [], true, refl, sym, subst}
use Rattle.std.specs.Prelude.{None}
use Rattle.dg_language.specs.declared.ask.Ask.{Ask}
use Rattle.dg_world.specs.declared.question.Answer.{Answer}
use Rattle.dg_world.specs.declared.test_id.TestId.{TestId}
use Rattle.dg_world.specs.Question.{fits}
use Rattle.dg_language.specs.Play.{Asks, lookup, source_of, Leads}
use Rattle.dg_language.specs.State.{learn, fresh}
use Rattle.dg_language.specs.Evaluation.{closed}
use Rattle.dg_language.specs.Judge.{judge}
use Rattle.dg_language.proofs.Sources.{run-leads, leads_more, leads_to}
use Rattle.dg_language.proofs.Once.{gives-learned, run-stands}
use Rattle.dg_machine.specs.declared.machine.Machine.{Machine}
use Rattle.dg_machine.specs.declared.frame.Closing.{Closing}
use Rattle.dg_machine.specs.declared.frame.Frame.TheVariants.{Opening}
use Rattle.dg_machine.specs.declared.frame.Opening.TheVariants.{Board}
use Rattle.dg_machine.specs.declared.frame.Stop.TheVariants.{AtQuestion, AtEnd}
use Rattle.dg_machine.specs.declared.frame.Control.TheVariants.{Go}
use Rattle.dg_machine.specs.Meaning.{rest, go, all_back, told, ComesTo}
use Rattle.dg_machine.specs.Evaluating.{IsOnce, IsLeft, IsAsking, NeedsNext, HasEnded}

-- an evaluation begins as the judging of its test
pub starts : (test : TestId) (m : Machine) → m.state ≡ fresh test → m.stack ≡ Opening Board ∷ [] → m.control ≡ Go → IsLeft test m
unfolding rest go all_back judge fresh
starts test m state stack control = rw (state, stack, control) (record { once = tt; leads = refl })

-- the machine has moved on to a question
pub stands : (test : TestId) (q : Ask) (old new : Machine) → IsLeft test old → ComesTo old new (AtQuestion q) → IsAsking test q new
stands test q old new k h =
    record {
      once = subst IsOnce (sym h.1) k.once;
      leads = subst (λ reads. Leads (judge test) reads (Asks q (λ a. rest (told q.question a new)))) (sym h.1) (leads_to (judge test) _ _ old.state.known h.0 k.leads);
      new = subst (λ reads. lookup q.question reads ≡ None) (sym h.1) h.2;
    }

-- it is the next one
pub needs : (test : TestId) (q : Ask) (m : Machine) → IsAsking test q m → NeedsNext test m.state.known q
needs test q m k =
    record {
      leads = (_, k.leads);
      comes = run-stands (judge test) m.state.known q (λ a. rest (told q.question a m)) k.leads k.once k.new;
      new = k.new;
    }

-- an answer to the question that stands
pub learned : (test : TestId) (q : Ask) (a : Answer) (m : Machine) → IsAsking test q m → fits q.question a ≡ true → IsLeft test (told q.question a m)
unfolding learn
learned test q a m k f =
    record {
      once = gives-learned q.question a m.state.known k.once k.new f;
      leads = leads_more (judge test) m.state.known q a (λ x. rest (told q.question x m)) k.leads f;
    }

-- the machine has come to the end
pub ends : (test : TestId) (v : Closing) (old new : Machine) → IsLeft test old → ComesTo old new (AtEnd v)
    → HasEnded test old.state.known (closed v.verdict v.close new.state)
ends test v old new k h =
    let l = leads_to (judge test) _ _ old.state.known h.0 k.leads in
    record { leads = l; comes = run-leads (judge test) (source_of old.state.known) old.state.known _ l k.once }
