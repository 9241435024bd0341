-- An evaluation as a tree of questions, and the sources of their answers.
use Rattle.std.specs.Prelude.{◌≡◌, true, false, Option, Some, None, List, [], ◌∷◌}
use Rattle.dg_world.specs.declared.question.Question.{Question}
use Rattle.dg_world.specs.declared.question.Answer.{Answer}
use Rattle.dg_world.specs.declared.question.Read.{Read}
use Rattle.dg_world.specs.Question.{fits, same_question}
use Rattle.dg_language.specs.declared.ask.Ask.{Ask}

-- a question that no action stands beside
abbrev pub plain : Question → Ask
plain q = record { question = q; action = None }

-- What is left of an evaluation: it has ended, or it asks a question and goes on with what it is told.
pub data Play (A : Type 0) : Type 0 where
  Ends : A → Play A
  Asks : Ask → (Answer → Play A) → Play A

-- A source gives answers to some questions.
abbrev pub Source : Type 0
Source = Question → Option Answer

-- the answer to a question, if the source gives one of its kind
abbrev pub heard : Question → Option Answer → Option Answer
heard q None = None
heard q (Some a) = elim (fits q a) [ true ↦ Some a | false ↦ None ]

-- Where an evaluation comes to with a source: to its end, or to the first question without an answer.
pub data Coming (A : Type 0) : Type 0 where
  Over : A → Coming A
  Needs : Ask → Coming A

abbrev pub on_answer : {A : Type 0} → Ask → Option Answer → (Answer → Coming A) → Coming A
on_answer ask None f = Needs ask
on_answer ask (Some a) f = f a

abbrev pub run : {A : Type 0} → Source → Play A → Coming A
run look (Ends a) = Over a
run look (Asks ask k) = on_answer ask (heard ask.question (look ask.question)) (λ a. run look (k a))

-- the end, if an evaluation came to it
abbrev pub end_of : {A : Type 0} → Coming A → Option A
end_of (Over a) = Some a
end_of (Needs ask) = None

-- the first answer to a question among reads
unfoldable pub lookup : Question → List Read → Option Answer
lookup q [] = None
lookup q (r ∷ rs) = elim (same_question r.question q) [ true ↦ Some r.answer | false ↦ lookup q rs ]

-- the source of just these answers
abbrev pub source_of : List Read → Source
source_of reads q = lookup q reads

-- the source gives the answers that were read
abbrev pub GivesEach : Source → List Read → Type 0
GivesEach look [] = Unit {0}
GivesEach look (r ∷ rs) = (heard r.question (look r.question) ≡ Some r.answer) × GivesEach look rs

-- the evaluation asks just these questions first, in this order, and with these answers goes on to that
abbrev pub Leads : {A : Type 0} → Play A → List Read → Play A → Type 0
Leads play [] rest = play ≡ rest
Leads (Ends a) (r ∷ rs) rest = ⊥
Leads (Asks ask k) (r ∷ rs) rest = (ask.question ≡ r.question) × (fits ask.question r.answer ≡ true) × Leads (k r.answer) rs rest

-- the questions that an evaluation asks of a source, with their answers, up to the first that has none
abbrev pub read_on : Question → Option Answer → (Answer → List Read) → List Read
read_on q None more = []
read_on q (Some a) more = record { question = q; answer = a } ∷ more a

abbrev pub reads_in : {A : Type 0} → Source → Play A → List Read
reads_in look (Ends a) = []
reads_in look (Asks ask k) = read_on ask.question (heard ask.question (look ask.question)) (λ a. reads_in look (k a))
