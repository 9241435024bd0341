-- Evaluations without continuations: what a text comes to alone, and what is grafted on it.
use Rattle.std.specs.Prelude.{◌≡◌, ℕ, List}
use Rattle.dg_language.specs.declared.code.Code.{Code}
use Rattle.dg_language.specs.Play.{Play, Ends, Asks}
use Rattle.dg_language.specs.State.{State}
use Rattle.dg_language.specs.Evaluation.{Ending, Then}

-- What an evaluation comes to: it completes with a code and a value in a state, or a limit stops the whole test.
pub data Conclusion : Type 0 where
  Completes : Code → List ℕ → State → Conclusion
  Stops : Ending → Conclusion

-- what comes after a conclusion; after a limit nothing does
abbrev pub after : Conclusion → Then → Play Ending
after (Completes c v s) k = k c v s
after (Stops e) k = Ends e

-- a tree of questions, with a continuation grafted on its ends
abbrev pub graft : Play Conclusion → Then → Play Ending
graft (Ends o) k = after o k
graft (Asks ask f) k = Asks ask (λ a. graft (f a) k)

-- An evaluation is a tree of its own, on which whatever comes after is grafted.
pub record Grafted (evaluation : Then → Play Ending) : Type 0 where
  pub alone : Play Conclusion
  pub grows : (k : Then) → evaluation k ≡ graft alone k
