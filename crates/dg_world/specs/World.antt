-- Worlds, their edits, and what they answer.
use Rattle.std.specs.Prelude.{ℕ, Bool, false, not, cond, ◌&&◌, ◌++◌, ◌∷◌, ◌≡◌, nat_le, List, [], length, is_ok, is_some, option_and_then, option_map, MatchOption}
use Rattle.std.specs.declared.option.Option.{Option}
use Rattle.std.specs.declared.option.Option.TheVariants.{None, Some}
use Rattle.std.specs.declared.result.Result.{Result}
use Rattle.std.specs.declared.result.Result.TheVariants.{Ok, Err}
use Rattle.std.specs.List.{list_all, flat_map, filter}
use Rattle.std.specs.Ordering.{nat_cmp}
use Rattle.std.specs.Cmp.Lexicographic.{slice_cmp}
use Rattle.std.specs.BTreeMap.{insert_entry, is_at}
use Rattle.std.specs.Map.{keys_of, lookup, remove_entry}
use Rattle.dg_world.specs.Name.{is_name}
use Rattle.dg_world.specs.Selection.{first_selection, is_selection, is_selected, triplet_of}
use Rattle.dg_world.specs.Setting.{value_of}
use Rattle.dg_world.specs.Tests.{tests_on}
use Rattle.dg_world.specs.Test.{TestView, test_cmp, test_of}
use Rattle.dg_world.specs.Transcripts.{transcript_in, for_test, for_sessions, entry_answer}
use Rattle.dg_transcript.specs.declared.entry.Entry.{Entry as EntryOfSession}
use Rattle.dg_transcript.specs.Sessions.{entry_at}
use Rattle.dg_match.specs.declared.reading.Reading.{Reading as ReadingOfText}
use Rattle.dg_match.specs.Book.{reading_of, Fits}
use Rattle.dg_world.specs.declared.question.EntryPlace.{EntryPlace}
use Rattle.dg_world.specs.declared.selection.Selection.{Selection}
use Rattle.dg_world.specs.declared.test_id.TestId.{TestId}
use Rattle.dg_world.specs.declared.question.Question.{Question}
use Rattle.dg_world.specs.declared.question.Question.TheVariants.{File, Tool, Triplet, Variable, Entry, Pattern}
use Rattle.dg_world.specs.declared.question.Answer.{Answer}
use Rattle.dg_world.specs.declared.question.Answer.TheVariants as answer
use Rattle.dg_world.specs.declared.edit.Edit.{Edit}
use Rattle.dg_world.specs.declared.edit.Edit.TheVariants.{PutFile, RemoveFile, Select, PutTranscript, DropTranscript}
use Rattle.dg_world.specs.declared.refusal.Refusal.{Refusal}
use Rattle.dg_world.specs.declared.refusal.Refusal.TheVariants.{BadName, TooLong, TooMany, NoSuchFile, NoSuchTranscript, BadSelection}
use Rattle.dg_world.specs.declared.world.TheConstants.{MAX_FILES, MAX_FILE_LENGTH, MAX_TRANSCRIPTS}

-- the files, each name with its bytes, in byte order of the names and each name once; what is run; the sessions of
-- each test that has a transcript, in the tests' order and each test once; and the book of patterns
pub record WorldView : Type 0 where
  pub files : List (List ℕ × List ℕ)
  pub selection : Selection
  pub transcripts : List (TestView × List (List EntryOfSession))
  pub book : List (List ℕ × ReadingOfText)

-- a file of a world: a name, and at most 1,048,576 bytes
abbrev pub is_file : List ℕ × List ℕ → Bool
is_file file = is_name file.0 && nat_le (length file.1) MAX_FILE_LENGTH

-- whether a world is within the limits: at most 4,096 files and 65,536 transcripts, and a valid selection
unfoldable pub is_world : WorldView → Bool
is_world w = nat_le (length w.files) MAX_FILES && list_all is_file w.files && is_selection w.selection && nat_le (length w.transcripts) MAX_TRANSCRIPTS

-- a new world has no files and no transcripts, and was asked for no pattern
abbrev pub new_world : WorldView
new_world = record { files = []; selection = first_selection; transcripts = []; book = [] }

-- the bytes of the file of this name, if there is one
abbrev pub content_of : WorldView → List ℕ → Option (List ℕ)
content_of w name = lookup (is_at (slice_cmp nat_cmp name)) w.files

-- what a world answers where a file has these bytes, or there is none
abbrev pub answer_of : Option (List ℕ) → Answer
answer_of None = answer.Absent
answer_of (Some bytes) = answer.Content bytes

-- what it answers where a line sets a variable to this, or leaves it
abbrev pub setting_answer : Option (List ℕ) → Answer
setting_answer None = answer.Unset
setting_answer (Some value) = answer.Value value

-- the sessions of a test's transcript, if it has one
abbrev pub transcript_of : WorldView → TestView → Option (List (List EntryOfSession))
transcript_of w t = lookup (is_at (test_cmp t)) w.transcripts

-- the entry at a place of a test's transcript, if there is one
abbrev pub entry_of : WorldView → EntryPlace → Option EntryOfSession
entry_of w p = option_and_then (λ ss. entry_at ss p.session p.place) (transcript_of w p.test)

-- what a world answers, if it has an answer: all but a pattern that isn't in the book
abbrev pub look : WorldView → Question → Option Answer
look w (File name) = Some (answer_of (content_of w name))
look w Tool = Some (answer.Tool w.selection.tool)
look w (Triplet system) = Some (answer.Triplet (triplet_of w.selection system))
look w (Variable name) = Some (setting_answer (value_of w.selection.variables name))
look w (Entry place) = Some (entry_answer (entry_of w place))
look w (Pattern text) = option_map answer.Reading (reading_of w.book text)

-- a world with these bytes as the file of this name, in its place in the order
abbrev pub with_file : WorldView → List ℕ → List ℕ → WorldView
with_file w name bytes = record w { files = insert_entry (slice_cmp nat_cmp) w.files name bytes }

-- a world without the file of this name
abbrev pub without_file : WorldView → List ℕ → WorldView
without_file w name = record w { files = remove_entry (is_at (slice_cmp nat_cmp name)) w.files }

-- a world with these sessions as the transcript of a test, in its place in the order
abbrev pub with_transcript : WorldView → TestView → List (List EntryOfSession) → WorldView
with_transcript w t ss = record w { transcripts = insert_entry test_cmp w.transcripts t ss }

-- a world without the transcript of a test
abbrev pub without_transcript : WorldView → TestView → WorldView
without_transcript w t = record w { transcripts = remove_entry (is_at (test_cmp t)) w.transcripts }

-- whether there is no room for a transcript of this test
abbrev pub lacks_room : WorldView → TestView → Bool
lacks_room w t = not (is_some (transcript_of w t)) && nat_le MAX_TRANSCRIPTS (length w.transcripts)

-- the world with the transcript of a test, or the refusal for want of room
abbrev pub recorded : WorldView → TestView → List (List EntryOfSession) → Result WorldView Refusal
recorded w t ss = cond (lacks_room w t) (Err TooMany) (Ok (with_transcript w t ss))

-- the world after an edit, or the first refusal that applies
abbrev pub edited : WorldView → Edit → Result WorldView Refusal
edited w (PutFile name bytes) =
    cond (not (is_name name)) (Err BadName)
    (cond (not (nat_le (length bytes) MAX_FILE_LENGTH)) (Err TooLong)
    (cond (not (is_some (content_of w name)) && nat_le MAX_FILES (length w.files)) (Err TooMany)
    (Ok (with_file w name bytes))))
edited w (RemoveFile name) =
    cond (not (is_name name)) (Err BadName)
    (cond (is_some (content_of w name)) (Ok (without_file w name)) (Err NoSuchFile))
edited w (Select selection) = cond (is_selection selection) (Ok (record w { selection = selection })) (Err BadSelection)
edited w (PutTranscript board script text) =
    for_test (test_of board script) (λ t. cond (lacks_room w t) (Err TooMany) (for_sessions (transcript_in text) (with_transcript w t)))
edited w (DropTranscript board script) =
    for_test (test_of board script) (λ t. cond (is_some (transcript_of w t)) (Ok (without_transcript w t)) (Err NoSuchTranscript))

-- whether a transcript of a test is read
abbrev pub is_read : WorldView → Option TestView → Bool
is_read w None = false
is_read w (Some t) = not (lacks_room w t)

-- whether an edit takes memory: one that is made and adds a file does, and one that reads a transcript; bytes in the place of others, a removal and a selection take none
abbrev pub takes_memory : WorldView → Edit → Bool
takes_memory w (PutFile name bytes) = not (is_some (content_of w name)) && is_ok (edited w (PutFile name bytes))
takes_memory w (RemoveFile name) = false
takes_memory w (Select selection) = false
takes_memory w (PutTranscript board script text) = is_read w (test_of board script)
takes_memory w (DropTranscript board script) = false

-- the reading of a pattern fits its text: `Read` only of what `regex` reads, `Syntax` only of what it doesn't read or that nests too deeply
abbrev pub FitsQuestion : Question → Answer → Type 0
FitsQuestion (Pattern text) (answer.Reading r) = Fits text r
FitsQuestion q a = Unit {0}

-- An asked question has an answer then, which fits it. Where it had one before, nothing has changed; else its pattern stands last in the book, with that answer.
pub record IsAsked (old new : WorldView) (q : Question) (a : Answer) : Type 0 where
  pub answered : look new q ≡ Some a
  pub fits : FitsQuestion q a
  pub grown : MatchOption (look old q) ((text : List ℕ) × (r : ReadingOfText) × (q ≡ Pattern text) × (new ≡ record old { book = old.book ++ (text, r) ∷ [] })) (λ _. new ≡ old)

-- the scripts that are run on each board, in byte order
unfoldable pub scripts : WorldView → List (List ℕ)
scripts w = filter (is_selected w.selection) (keys_of w.files)

-- the selected tests: board by board, and on each the scripts in byte order
unfoldable pub selected : WorldView → List TestId
selected w = flat_map (tests_on (scripts w)) w.selection.boards
