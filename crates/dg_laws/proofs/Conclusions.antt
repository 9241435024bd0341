-- What a text comes to in a source.
use Rattle.std.proofs.Common.{◌≡◌, refl, ap, ◌∙◌}
use Rattle.std.specs.Prelude.{Option, Some, None}
use Rattle.dg_world.specs.declared.question.Answer.{Answer}
use Rattle.dg_language.specs.Play.{Play, Ends, Asks, Source, Coming, heard, on_answer, run}
use Rattle.dg_language.specs.Evaluation.{Ending, Then}
use Rattle.dg_laws.specs.Grafting.{Conclusion, graft, Grafted}
use Rattle.dg_laws.specs.Law.{go_on}

run-graft : (look : Source) (p : Play Conclusion) (k : Then) → run look (graft p k) ≡ go_on look (run look p) k
run-graft look (Ends o) k = refl
run-graft look (Asks q f) k = step (λ a. run-graft look (f a) k) (heard q.question (look q.question))
  where
    step : ((a : Answer) → run look (graft (f a) k) ≡ go_on look (run look (f a)) k) → (o : Option Answer)
        → on_answer q o (λ a. run look (graft (f a) k)) ≡ go_on look (on_answer q o (λ a. run look (f a))) k
    step onward None = refl
    step onward (Some a) = onward a

pub Grafted-conclusion : {f : Then → Play Ending} → Grafted f → (look : Source)
    → (comes_to : Coming Conclusion) × ((k : Then) → run look (f k) ≡ go_on look comes_to k)
Grafted-conclusion g look = (run look g.alone, λ k. ap (run look) (g.grows k) ∙ run-graft look g.alone k)
