-- What questions are about, and what edits touch.
use Rattle.std.specs.Prelude.{Bool, true, false, ◌&&◌}
use Rattle.dg_bytes.specs.Same.{same_bytes}
use Rattle.dg_world.specs.declared.edit.Edit.{Edit}
use Rattle.dg_world.specs.declared.edit.Edit.TheVariants.{PutFile, RemoveFile, Select, PutTranscript, DropTranscript}
use Rattle.dg_world.specs.declared.question.Question.{Question}
use Rattle.dg_world.specs.declared.question.Question.TheVariants.{File, Tool, Triplet, Variable, Entry, Pattern}
use Rattle.dg_index.specs.declared.topic.Topic.{Topic}
use Rattle.dg_index.specs.declared.topic.Topic.TheVariants as topic

-- what a question is about
abbrev pub topic_of : Question → Topic
topic_of (File name) = topic.File name
topic_of Tool = topic.Selection
topic_of (Triplet machine) = topic.Selection
topic_of (Variable name) = topic.Selection
topic_of (Entry place) = topic.Transcript place.test.board place.test.script
topic_of (Pattern text) = topic.Pattern text

-- what an edit touches
abbrev pub touched : Edit → Topic
touched (PutFile name bytes) = topic.File name
touched (RemoveFile name) = topic.File name
touched (Select selection) = topic.Selection
touched (PutTranscript board script text) = topic.Transcript board script
touched (DropTranscript board script) = topic.Transcript board script

-- whether two topics are the same
abbrev pub same_topic : Topic → Topic → Bool
same_topic (topic.File a) (topic.File b) = same_bytes a b
same_topic topic.Selection topic.Selection = true
same_topic (topic.Transcript a s) (topic.Transcript b t) = same_bytes a b && same_bytes s t
same_topic (topic.Pattern a) (topic.Pattern b) = same_bytes a b
same_topic _ _ = false

-- whether a question is on a topic
abbrev pub is_on : Topic → Question → Bool
is_on t q = same_topic t (topic_of q)
