-- What more answers can't change.
use Rattle.std.specs.Prelude.{◌≡◌, ℕ, List, Some}
use Rattle.dg_world.specs.declared.question.Question.{Question}
use Rattle.dg_world.specs.declared.question.Answer.{Answer}
use Rattle.dg_language.specs.Play.{Source, run, Over}
use Rattle.dg_language.specs.State.{State}
use Rattle.dg_language.specs.Evaluation.{Ending, Then}
use Rattle.dg_language.specs.Language.{evaluate}

-- A source that gives each answer that another gives, gives the evaluation of a text the same end.
abbrev pub MoreAnswersKeepTheEnd : Type 0
MoreAnswersKeepTheEnd =
    (depth : ℕ) (text : List ℕ) (s : State) (k : Then) (few more : Source) → ((q : Question) (a : Answer) → few q ≡ Some a → more q ≡ Some a)
    → (e : Ending) → run few (evaluate depth text s k) ≡ Over e → run more (evaluate depth text s k) ≡ Over e
