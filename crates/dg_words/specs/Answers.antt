-- How the code's answers are seen by the definitions.
use Rattle.std.specs.Prelude.{◌≡◌, ℕ, List, Result, Ok, Err, ◌⊎◌}
use Rattle.dg_lists.specs.declared.fault.WordFault.{WordFault}
use Rattle.dg_lists.specs.declared.fault.WordFault.TheVariants.{Memory}
use Rattle.dg_words.specs.declared.scan.Step.{Step}
use Rattle.dg_words.specs.declared.scan.Step.TheVariants as steps
use Rattle.dg_words.specs.declared.word.Word.{Word}
use Rattle.dg_words.specs.Machine.{Stepped, Go, Over, Fails, State, Answer}
use Rattle.dg_words.specs.Reading.{kind_of}

-- the move that the code made, which left the state new
abbrev pub Made : Stepped → Step → State → Type 0
Made m steps.Go new = m ≡ Go new
Made m (steps.Over n) new = m ≡ Over new.draft.words n
Made m (steps.Bad f) new = m ≡ Fails f

-- A function returned the result of the reading, seen by view, unless memory ran out.
abbrev pub ReadsAs : {X : Type 0} → (X → List Word × ℕ) → Result X WordFault → Answer → Type 0
ReadsAs view (Ok x) a = a ≡ Ok (view x)
ReadsAs view (Err f) a = (f ≡ Memory) ⊎ (kind_of a ≡ Err f)
