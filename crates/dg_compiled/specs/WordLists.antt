-- Words that are made of a list in one argument.
use Rattle.std.specs.Prelude.{ℕ, List, [], Result, Ok, Err}
use Rattle.dg_lists.specs.declared.fault.WordFault.{WordFault}
use Rattle.dg_words.specs.declared.word.Word.{Word}
use Rattle.dg_words.specs.Reading.{words_of}
use Rattle.dg_lists.specs.Faults.{fault_text}
use Rattle.dg_language.specs.declared.substitution.Purpose.{Purpose}
use Rattle.dg_language.specs.Play.{Play}
use Rattle.dg_language.specs.State.{State}
use Rattle.dg_language.specs.Evaluation.{Ending, Then, fail}
use Rattle.dg_language.specs.Language.{used, evaluate}
use Rattle.dg_language.specs.WordSteps.{substitutions}
use Rattle.dg_compiled.specs.Gathering.{gather}
use Rattle.dg_compiled.specs.declared.word_lists.WordList.{WordList}
use Rattle.dg_compiled.specs.declared.word_lists.WordList.TheVariants.{Words, Unreadable}

-- the steps in which these words are made, if they can be read
abbrev pub steps_for : Result (List Word) WordFault → WordList
steps_for (Ok words) = Words (substitutions words)
steps_for (Err fault) = Unreadable fault

-- the steps in which the words of a list are made
abbrev pub word_list_in : List ℕ → WordList
word_list_in text = steps_for (words_of text)

-- the words of a list are made and used, or the evaluation fails where it can't be read
abbrev pub words_on : WordList → Purpose → ℕ → State → Then → Play Ending
words_on (Words steps) purpose depth s k = gather (evaluate depth) (used (evaluate depth) purpose) [] [] [] steps s k
words_on (Unreadable fault) purpose depth s k = fail (fault_text fault) s k
