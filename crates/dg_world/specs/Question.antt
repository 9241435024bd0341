-- Questions and the kinds of their answers.
use Rattle.std.specs.Prelude.{Bool, true, false, ◌&&◌, ◌==◌}
use Rattle.dg_match.specs.declared.reading.Reading.{Reading}
use Rattle.dg_match.specs.declared.reading.Reading.TheVariants.{Read, Syntax, TooLarge}
use Rattle.dg_world.specs.Entries.{same_entry}
use Rattle.dg_bytes.specs.Same.{same_bytes}
use Rattle.dg_world.specs.Test.{same_test}
use Rattle.dg_world.specs.declared.question.System.{System}
use Rattle.dg_world.specs.declared.question.System.TheVariants.{Target, Host, Build}
use Rattle.dg_world.specs.declared.question.EntryPlace.{EntryPlace}
use Rattle.dg_world.specs.declared.question.Question.{Question}
use Rattle.dg_world.specs.declared.question.Question.TheVariants.{File, Tool, Triplet, Variable, Entry, Pattern}
use Rattle.dg_world.specs.declared.question.Answer.{Answer}
use Rattle.dg_world.specs.declared.question.Answer.TheVariants as answer

-- whether two systems are the same
abbrev pub same_system : System → System → Bool
same_system Target Target = true
same_system Host Host = true
same_system Build Build = true
same_system _ _ = false

-- whether two places of entries are the same
abbrev pub same_place : EntryPlace → EntryPlace → Bool
same_place a b = same_test a.test b.test && (a.session == b.session) && (a.place == b.place)

-- whether two questions are the same
abbrev pub same_question : Question → Question → Bool
same_question (File a) (File b) = same_bytes a b
same_question Tool Tool = true
same_question (Triplet a) (Triplet b) = same_system a b
same_question (Variable a) (Variable b) = same_bytes a b
same_question (Entry a) (Entry b) = same_place a b
same_question (Pattern a) (Pattern b) = same_bytes a b
same_question _ _ = false

-- whether two readings of a pattern are the same
abbrev pub same_reading : Reading → Reading → Bool
same_reading Read Read = true
same_reading Syntax Syntax = true
same_reading TooLarge TooLarge = true
same_reading _ _ = false

-- whether two answers are the same
abbrev pub same_answer : Answer → Answer → Bool
same_answer answer.Absent answer.Absent = true
same_answer (answer.Content a) (answer.Content b) = same_bytes a b
same_answer (answer.Tool a) (answer.Tool b) = same_bytes a b
same_answer (answer.Triplet a) (answer.Triplet b) = same_bytes a b
same_answer answer.Unset answer.Unset = true
same_answer (answer.Value a) (answer.Value b) = same_bytes a b
same_answer answer.Ended answer.Ended = true
same_answer (answer.Entry a) (answer.Entry b) = same_entry a b
same_answer (answer.Reading a) (answer.Reading b) = same_reading a b
same_answer _ _ = false

-- whether an answer is of the kind that a question has
abbrev pub fits : Question → Answer → Bool
fits (File n) answer.Absent = true
fits (File n) (answer.Content bytes) = true
fits Tool (answer.Tool name) = true
fits (Triplet system) (answer.Triplet triplet) = true
fits (Variable n) answer.Unset = true
fits (Variable n) (answer.Value v) = true
fits (Entry place) answer.Ended = true
fits (Entry place) (answer.Entry e) = true
fits (Pattern text) (answer.Reading r) = true
fits _ _ = false
