-- What is kept of the answers that an evaluation has had.
use Rattle.std.specs.Prelude.{Bool, true, List, [], map}
use Rattle.dg_world.specs.declared.question.Question.{Question}
use Rattle.dg_world.specs.declared.question.Answer.{Answer}
use Rattle.dg_world.specs.declared.question.Read.{Read}
use Rattle.dg_language.specs.Row.{are_new}
use Rattle.dg_language.specs.declared.reads.Form.{Form}
use Rattle.dg_language.specs.declared.reads.Form.TheVariants.{Few, Row, Many}

-- questions with their answers, as reads
abbrev pub reads_of : List (Question × Answer) → List Read
reads_of es = map (λ e. record { question = e.0; answer = e.1 }) es

-- the reads that are kept
abbrev pub reads_held : Form → List Read
reads_held (Few reads) = reads.items
reads_held (Row row) = row
reads_held (Many answers) = reads_of answers.entries

-- whether none of a few asks what an earlier one asked; of the others none does
abbrev pub is_once : Form → Bool
is_once (Few reads) = are_new [] reads.items
is_once (Row row) = true
is_once (Many answers) = true
