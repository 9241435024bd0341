-- The text of a transcript: a line for each thing that a child did, spelled in one way.
use Rattle.std.specs.Prelude.{ℕ, suc, List, [], ◌∷◌, ◌++◌, map, flat_map, codes, decimal}
use Rattle.std.specs.List.{join_with_byte}
use Rattle.hex.specs.Hex.{encode_lower}
use Rattle.dg_transcript.specs.declared.code.ErrorCode.{ErrorCode}
use Rattle.dg_transcript.specs.declared.code.ErrorCode.TheVariants.{NotFound, NotPermitted, BrokenPipe, Other}
use Rattle.dg_transcript.specs.declared.entry.Entry.{Entry}
use Rattle.dg_transcript.specs.declared.entry.Entry.TheVariants as entry
use Rattle.dg_transcript.specs.declared.line.Line.{Line}
use Rattle.dg_transcript.specs.declared.line.Line.TheVariants as line

abbrev pub code_number : ErrorCode → ℕ
code_number NotFound = 1
code_number NotPermitted = 2
code_number BrokenPipe = 3
code_number Other = 4

-- a word in lower-case hexadecimal; an empty one is `-`
abbrev pub word_field : List ℕ → List ℕ
word_field [] = codes "-"
word_field (b ∷ bs) = encode_lower (b ∷ bs)

-- the fields of an entry's line
abbrev pub entry_fields : Entry → List (List ℕ)
entry_fields (entry.Started words) = codes "started" ∷ map word_field words
entry_fields (entry.NoStart code words) = codes "nostart" ∷ decimal (code_number code) ∷ map word_field words
entry_fields (entry.Sent bytes) = codes "sent" ∷ encode_lower bytes ∷ []
entry_fields (entry.NoSend code bytes) = codes "nosend" ∷ decimal (code_number code) ∷ encode_lower bytes ∷ []
entry_fields (entry.Chunk wait bytes) = codes "chunk" ∷ decimal wait ∷ encode_lower bytes ∷ []
entry_fields (entry.End wait) = codes "end" ∷ decimal wait ∷ []
entry_fields (entry.NoRead code) = codes "noread" ∷ decimal (code_number code) ∷ []
entry_fields (entry.Silence wait) = codes "silence" ∷ decimal wait ∷ []
entry_fields entry.Closed = codes "closed" ∷ []
entry_fields (entry.NoClose code) = codes "noclose" ∷ decimal (code_number code) ∷ []
entry_fields (entry.Exited status) = codes "exited" ∷ decimal status ∷ []
entry_fields (entry.Killed signal) = codes "killed" ∷ decimal signal ∷ []
entry_fields (entry.NoWait code) = codes "nowait" ∷ decimal (code_number code) ∷ []

abbrev pub line_fields : Line → List (List ℕ)
line_fields line.Header = codes "dejagnu-transcript" ∷ codes "1" ∷ []
line_fields (line.Session n) = codes "session" ∷ decimal n ∷ []
line_fields (line.Said e) = entry_fields e
line_fields line.Done = codes "done" ∷ []

-- a line: its fields with one space between each two, and a newline
unfoldable pub line_text : Line → List ℕ
line_text l = join_with_byte 32 (line_fields l) ++ 10 ∷ []

-- the lines of sessions, the first of which has the number n
unfoldable pub sessions_lines : ℕ → List (List Entry) → List Line
sessions_lines n [] = []
sessions_lines n (s ∷ ss) = line.Session n ∷ (map line.Said s ++ sessions_lines (suc n) ss)

-- the lines of a transcript
abbrev pub transcript_lines : List (List Entry) → List Line
transcript_lines ss = line.Header ∷ (sessions_lines 1 ss ++ line.Done ∷ [])

-- the text of a transcript
unfoldable pub text_of : List (List Entry) → List ℕ
text_of ss = flat_map line_text (transcript_lines ss)
