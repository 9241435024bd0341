-- Reads with one answer to each question.
use Rattle.std.proofs.Common.{◌≡◌, Bool, true, false, List, [], ◌∷◌, ◌++◌, ap, sym, ◌∙◌}
use Rattle.std.specs.Prelude.{Option, Some, None}
use Rattle.dg_world.specs.declared.question.Question.{Question}
use Rattle.dg_world.specs.declared.question.Answer.{Answer}
use Rattle.dg_world.specs.declared.question.Read.{Read}
use Rattle.dg_world.specs.Question.{fits}
use Rattle.dg_language.specs.declared.ask.Ask.{Ask}
use Rattle.dg_language.specs.Play.{Play, Asks, Source, heard, Needs, on_answer, run, lookup, source_of, GivesEach, Leads}
use Rattle.dg_language.proofs.Asking.{lookup-more, lookup-learned}
use Rattle.dg_language.proofs.Sources.{run-leads}

heard-some : (q : Question) (o : Option Answer) (a : Answer) → heard q o ≡ Some a → o ≡ Some a
heard-some q None a h = cc
heard-some q (Some b) a h = go (fits q b) h
  where
    go : (t : Bool) → (elim t as (λ _. Option Answer) [ true ↦ Some b | false ↦ None ]) ≡ Some a → Some b ≡ Some a
    go true e = e
    go false e = cc

gives-more : (all ts rs : List Read) → GivesEach (source_of all) rs → GivesEach (source_of (all ++ ts)) rs
gives-more all ts [] h = tt
gives-more all ts (r ∷ rs) h =
    let e = heard-some r.question (lookup r.question all) r.answer h.0 in
    (ap (heard r.question) (lookup-more r.question all ts r.answer e ∙ sym e) ∙ h.0, gives-more all ts rs h.1)

-- one more that the source gives
pub gives-append : (look : Source) (rs : List Read) (r : Read) → GivesEach look rs → heard r.question (look r.question) ≡ Some r.answer → GivesEach look (rs ++ r ∷ [])
gives-append look [] r h e = (e, tt)
gives-append look (x ∷ rs) r h e = (h.0, gives-append look rs r h.1 e)

-- a new question, with an answer of its kind
pub gives-learned : (q : Question) (a : Answer) (rs : List Read) → GivesEach (source_of rs) rs → lookup q rs ≡ None → fits q a ≡ true
    → GivesEach (source_of (rs ++ record { question = q; answer = a } ∷ [])) (rs ++ record { question = q; answer = a } ∷ [])
gives-learned q a rs h n f =
    gives-append (source_of (rs ++ record { question = q; answer = a } ∷ [])) rs (record { question = q; answer = a })
    (gives-more rs (record { question = q; answer = a } ∷ []) rs h)
    (ap (heard q) (lookup-learned q a rs n) ∙ ap (λ t. elim t as (λ _. Option Answer) [ true ↦ Some a | false ↦ None ]) f)

-- with just these reads as the source, the evaluation needs the question that stands
pub run-stands : {A : Type 0} (p : Play A) (rs : List Read) (q : Ask) (k : Answer → Play A) → Leads p rs (Asks q k) → GivesEach (source_of rs) rs → lookup q.question rs ≡ None
    → run (source_of rs) p ≡ Needs q
run-stands p rs q k l g n =
    run-leads p (source_of rs) rs (Asks q k) l g ∙ ap (λ o. on_answer q (heard q.question o) (λ a. run (source_of rs) (k a))) n
