-- Sources, the reads of an evaluation, and where these lead.
use Rattle.std.proofs.Common.{◌≡◌, Bool, true, false, List, [], ◌∷◌, ◌++◌, refl, ap, sym, ◌∙◌, subst}
use Rattle.std.specs.Prelude.{Option, Some, None}
use Rattle.dg_world.specs.declared.question.Question.{Question}
use Rattle.dg_world.specs.declared.question.Answer.{Answer}
use Rattle.dg_world.specs.declared.question.Read.{Read}
use Rattle.dg_world.specs.Question.{fits}
use Rattle.dg_language.specs.declared.ask.Ask.{Ask}
use Rattle.dg_language.specs.Play.{Play, Ends, Asks, Source, heard, Coming, Over, on_answer, run, GivesEach, Leads}

-- a source that gives more answers gives the same end
heard_more : {A : Type 0} (q : Ask) (f g : Answer → Coming A) (v : A)
    → ((a : Answer) → f a ≡ Over v → g a ≡ Over v)
    → (o o' : Option Answer) → ((a : Answer) → o ≡ Some a → o' ≡ Some a)
    → on_answer q (heard q.question o) f ≡ Over v → on_answer q (heard q.question o') g ≡ Over v
heard_more q f g v ih None o' m h = cc
heard_more q f g v ih (Some a) o' m h = rw (m a refl) (fit (fits q.question a) h)
  where
    fit : (b : Bool) → on_answer q (elim b as (λ _. Option Answer) [ true ↦ Some a | false ↦ None ]) f ≡ Over v
        → on_answer q (elim b as (λ _. Option Answer) [ true ↦ Some a | false ↦ None ]) g ≡ Over v
    fit true e = ih a e
    fit false e = cc

pub run_more : {A : Type 0} (p : Play A) (few more : Source) → ((q : Question) (a : Answer) → few q ≡ Some a → more q ≡ Some a)
    → (v : A) → run few p ≡ Over v → run more p ≡ Over v
run_more (Ends a) few more m v e = e
run_more (Asks q k) few more m v e =
    heard_more q (λ a. run few (k a)) (λ a. run more (k a)) v (λ a. run_more (k a) few more m v) (few q.question) (more q.question) (m q.question) e

-- in a source that gives the answers that were read, an evaluation comes to what the rest of it comes to
pub run-leads : {A : Type 0} (p : Play A) (look : Source) (reads : List Read) (rest : Play A) → Leads p reads rest → GivesEach look reads → run look p ≡ run look rest
run-leads p look [] rest l g = ap (run look) l
run-leads (Ends a) look (r ∷ rs) rest l g = absurd l
run-leads (Asks q k) look (r ∷ rs) rest l g =
    let e : heard q.question (look q.question) ≡ Some r.answer = subst (λ x. heard x (look x) ≡ Some r.answer) (sym l.0) g.0 in
    ap (λ o. on_answer q o (λ a. run look (k a))) e ∙ run-leads (k r.answer) look rs rest l.2 g.1

-- one read more
pub leads_more : {A : Type 0} (p : Play A) (reads : List Read) (q : Ask) (a : Answer) (k : Answer → Play A) → Leads p reads (Asks q k) → fits q.question a ≡ true
    → Leads p (reads ++ record { question = q.question; answer = a } ∷ []) (k a)
leads_more p [] q a k l f = subst (λ x. Leads x (record { question = q.question; answer = a } ∷ []) (k a)) (sym l) (refl, f, refl)
leads_more (Ends b) (r ∷ rs) q a k l f = absurd l
leads_more (Asks q' k') (r ∷ rs) q a k l f = (l.0, l.1, leads_more (k' r.answer) rs q a k l.2 f)

-- the reads lead to an equal rest
pub leads_to : {A : Type 0} (p rest rest' : Play A) (reads : List Read) → rest ≡ rest' → Leads p reads rest → Leads p reads rest'
leads_to p rest rest' reads e l = subst (λ x. Leads p reads x) e l
