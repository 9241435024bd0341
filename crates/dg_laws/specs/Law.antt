-- What comes after a text is grafted on the tree of the text.
use Rattle.std.specs.Prelude.{◌≡◌, ℕ, List, []}
use Rattle.dg_language.specs.declared.code.Code.TheVariants.{Done}
use Rattle.dg_language.specs.Play.{Play, Ends, Asks, Source, Coming, Over, Needs, run}
use Rattle.dg_language.specs.State.{State}
use Rattle.dg_language.specs.Evaluation.{Ending, Then, ended}
use Rattle.dg_language.specs.Language.{evaluate}
use Rattle.dg_language.specs.Judge.{open_board}
use Rattle.dg_laws.specs.Grafting.{Conclusion, after, Grafted}

-- Each text, at each depth and in each state, has a tree of its own, on which whatever comes after is grafted.
abbrev pub EachTextIsGrafted : Type 0
EachTextIsGrafted = (depth : ℕ) (text : List ℕ) (s : State) → Grafted (evaluate depth text s)

-- So has the board's file with the tool's library and the script behind it.
abbrev pub TheJudgingIsGrafted : Type 0
TheJudgingIsGrafted = (s : State) → Grafted (open_board s)

-- where an evaluation goes on to with a source, from a conclusion or from a question without an answer
abbrev pub go_on : Source → Coming Conclusion → Then → Coming Ending
go_on look (Over o) k = run look (after o k)
go_on look (Needs ask) k = Needs ask

-- In each source a text comes to a conclusion or to a question without an answer, whatever comes after.
abbrev pub EachTextComesToAConclusion : Type 0
EachTextComesToAConclusion =
    (depth : ℕ) (text : List ℕ) (s : State) (look : Source)
    → (comes_to : Coming Conclusion) × ((k : Then) → run look (evaluate depth text s k) ≡ go_on look comes_to k)

-- a play that asks nothing more
abbrev pub without_asking : Ending → Play Ending → Play Ending
without_asking other (Ends e) = Ends e
without_asking other (Asks ask f) = Ends other

-- an evaluation that looks at what comes after it, and ends where that would ask
abbrev pub peek : State → Then → Play Ending
peek s k = without_asking (ended s) (k Done [] s)

-- It is not grafted.
abbrev pub NoPeekIsGrafted : Type 0
NoPeekIsGrafted = (s : State) → Grafted (peek s) → ⊥
