-- What the transcript of a test answers to its judging.
use Rattle.std.specs.Prelude.{List, Option, None, Some, cond, option_and_then}
use Rattle.dg_transcript.specs.declared.entry.Entry.{Entry as EntryOfSession}
use Rattle.dg_transcript.specs.Sessions.{entry_at}
use Rattle.dg_world.specs.Test.{TestView, same_test}
use Rattle.dg_world.specs.Transcripts.{entry_answer}
use Rattle.dg_world.specs.declared.question.Answer.{Answer}
use Rattle.dg_world.specs.declared.question.Question.{Question}
use Rattle.dg_world.specs.declared.question.Question.TheVariants.{Entry}

-- its entries, and no other question
abbrev pub replayed : TestView → Option (List (List EntryOfSession)) → Question → Option Answer
replayed test sessions (Entry place) =
    cond (same_test place.test test) (Some (entry_answer (option_and_then (λ ss. entry_at ss place.session place.place) sessions))) None
replayed test sessions q = None
