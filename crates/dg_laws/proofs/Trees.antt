-- One evaluation after another: the tree of the second is grafted on the tree of the first.
use Rattle.std.proofs.Common.{◌≡◌, ℕ, List, refl, ap, sym, ◌∙◌}
use Rattle.dg_language.specs.declared.code.Code.{Code}
use Rattle.dg_language.specs.Play.{Play, Ends, Asks}
use Rattle.dg_language.specs.State.{State}
use Rattle.dg_language.specs.Evaluation.{Ending, Then}
use Rattle.dg_laws.specs.Grafting.{Conclusion, Completes, Stops, graft, Grafted}

-- a tree, with trees at its ends
abbrev pub onward : Play Conclusion → (Code → List ℕ → State → Play Conclusion) → Play Conclusion
onward (Ends (Completes c v s)) g = g c v s
onward (Ends (Stops e)) g = Ends (Stops e)
onward (Asks q f) g = Asks q (λ a. onward (f a) g)

pub graft-onward : (p : Play Conclusion) (g : Code → List ℕ → State → Play Conclusion) (k : Then)
    → graft (onward p g) k ≡ graft p (λ c v s. graft (g c v s) k)
graft-onward (Ends (Completes c v s)) g k = refl
graft-onward (Ends (Stops e)) g k = refl
graft-onward (Asks q f) g k = ap (Asks q) (λ i a. graft-onward (f a) g k i)

pub one_after_another : {f : Then → Play Ending} {g : Code → List ℕ → State → Then → Play Ending} → Grafted f
    → ((c : Code) (v : List ℕ) (s : State) → Grafted (g c v s)) → Grafted (λ k. f (λ c v s. g c v s k))
one_after_another {g = g} first second =
    record {
      alone = onward first.alone (λ c v s. (second c v s).alone);
      grows = λ k.
          first.grows (λ c v s. g c v s k)
          ∙ ap (graft first.alone) (λ i c v s. (second c v s).grows k i)
          ∙ sym (graft-onward first.alone (λ c v s. (second c v s).alone) k);
    }
