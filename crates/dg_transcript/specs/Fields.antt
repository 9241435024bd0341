-- What a line says, read on its own.
use Rattle.std.specs.Prelude.{ℕ, ◌≡◌, ◌==◌, nat_lt, nat_le, min, Bool, not, ◌&&◌, ◌||◌, if◌then◌else◌, List, [], ◌∷◌, length, slice_index, codes, find, drop, Option, None, Result, Ok, Err, ok_or}
use Rattle.std.specs.List.{slice_split, list_all}
use Rattle.std.specs.Result.{result_ok}
use Rattle.std.specs.Char.{is_ascii_digit}
use Rattle.std.specs.Str.Parse.{digits_value}
use Rattle.hex.specs.Hex.{encode_lower, decode_of}
use Rattle.dg_transcript.specs.declared.cause.Cause.{Cause}
use Rattle.dg_transcript.specs.declared.cause.Cause.TheVariants as cause
use Rattle.dg_transcript.specs.declared.code.ErrorCode.{ErrorCode}
use Rattle.dg_transcript.specs.declared.code.ErrorCode.TheVariants.{NotFound, NotPermitted, BrokenPipe, Other}
use Rattle.dg_transcript.specs.declared.entry.Entry.{Entry}
use Rattle.dg_transcript.specs.declared.entry.Entry.TheVariants as entry
use Rattle.dg_transcript.specs.declared.line.Line.{Line}
use Rattle.dg_transcript.specs.declared.line.Line.TheVariants as line
use Rattle.dg_transcript.specs.declared.line.Kind.{Kind}
use Rattle.dg_transcript.specs.declared.line.Kind.TheVariants as kind
use Rattle.dg_bytes.specs.Chain.{◌>>=◌}
use Rattle.dg_bytes.specs.Same.{same_bytes}
use Rattle.dg_transcript.specs.declared.limits.TheConstants.{MAX_CHUNK, MAX_SENT, MAX_WAIT, MAX_WORDS}

-- what a function answered, seen by view, is what reading gives, unless memory ran out
abbrev pub Fails : {Y : Type 0} → Cause → Result Y Cause → Type 0
Fails cause.Memory read = Unit {0}
Fails c read = read ≡ Err c

abbrev pub Parses : {X Y : Type 0} → (X → Y) → Result X Cause → Result Y Cause → Type 0
Parses view (Ok x) read = read ≡ Ok (view x)
Parses view (Err e) read = Fails e read

-- ---- fields

abbrev pub is_space : ℕ → Bool
is_space b = b == 32

-- digits, with no zero in front of another
abbrev pub is_numeral : List ℕ → Bool
is_numeral text = list_all is_ascii_digit text && nat_lt 0 (length text) && (not (slice_index text 0 == 48) || (length text == 1))

-- the number that a numeral stands for; what is past 10,000,000, and so past every limit, counts as that
unfoldable pub number_of : List ℕ → Result ℕ Cause
number_of text = if is_numeral text then Ok (min (digits_value 10 text) 10000000) else Err cause.Field

-- a number within limits
unfoldable pub within : ℕ → ℕ → List ℕ → Result ℕ Cause
within low high text = number_of text >>= λ n. if nat_le low n && nat_le n high then Ok n else Err cause.Field

abbrev pub wait_of : List ℕ → Result ℕ Cause
wait_of = within 0 MAX_WAIT

abbrev pub code_at : ℕ → ErrorCode
code_at n = if n == 1 then NotFound else (if n == 2 then NotPermitted else (if n == 3 then BrokenPipe else Other))

unfoldable pub code_of : List ℕ → Result ErrorCode Cause
code_of text = within 1 4 text >>= λ n. Ok (code_at n)

-- the bytes, at least one, whose lower-case hexadecimal the text is
abbrev pub spelled_by : List ℕ → List ℕ → Result (List ℕ) Cause
spelled_by text bytes = if same_bytes (encode_lower bytes) text && nat_lt 0 (length bytes) then Ok bytes else Err cause.Field

unfoldable pub hex_of : List ℕ → Result (List ℕ) Cause
hex_of text = ok_or (result_ok (decode_of text)) cause.Field >>= spelled_by text

-- at most so many bytes
unfoldable pub bytes_of : ℕ → List ℕ → Result (List ℕ) Cause
bytes_of most text = hex_of text >>= λ bytes. if nat_le (length bytes) most then Ok bytes else Err cause.Field

-- a word; `-` is the empty one
unfoldable pub word_of : List ℕ → Result (List ℕ) Cause
word_of text = if same_bytes text (codes "-") then Ok [] else hex_of text

unfoldable pub each_word : List (List ℕ) → Result (List (List ℕ)) Cause
each_word [] = Ok []
each_word (field ∷ fields) = word_of field >>= λ word. each_word fields >>= λ words. Ok (word ∷ words)

-- 1 to 64 words
unfoldable pub words_of : List (List ℕ) → Result (List (List ℕ)) Cause
words_of fields = if nat_lt 0 (length fields) && nat_le (length fields) MAX_WORDS then each_word fields else Err cause.Field

-- the one field
abbrev pub only_field : List (List ℕ) → Result (List ℕ) Cause
only_field [] = Err cause.Field
only_field (f ∷ []) = Ok f
only_field (f ∷ g ∷ fs) = Err cause.Field

-- the first field, and those behind it
abbrev pub first_field : List (List ℕ) → Result (List ℕ × List (List ℕ)) Cause
first_field [] = Err cause.Field
first_field (f ∷ fs) = Ok (f, fs)

-- nothing
abbrev pub no_field : List (List ℕ) → Result (Unit {0}) Cause
no_field [] = Ok tt
no_field (f ∷ fs) = Err cause.Field

-- ---- kinds

abbrev pub keyword : Kind → List ℕ
keyword kind.Session = codes "session"
keyword kind.Started = codes "started"
keyword kind.NoStart = codes "nostart"
keyword kind.Sent = codes "sent"
keyword kind.NoSend = codes "nosend"
keyword kind.Chunk = codes "chunk"
keyword kind.End = codes "end"
keyword kind.NoRead = codes "noread"
keyword kind.Silence = codes "silence"
keyword kind.Closed = codes "closed"
keyword kind.NoClose = codes "noclose"
keyword kind.Exited = codes "exited"
keyword kind.Killed = codes "killed"
keyword kind.NoWait = codes "nowait"
keyword kind.Done = codes "done"

abbrev pub kinds : List Kind
kinds = kind.Session ∷ kind.Started ∷ kind.NoStart ∷ kind.Sent ∷ kind.NoSend ∷ kind.Chunk ∷ kind.End ∷ kind.NoRead ∷ kind.Silence ∷ kind.Closed ∷ kind.NoClose ∷ kind.Exited ∷ kind.Killed ∷ kind.NoWait ∷ kind.Done ∷ []

-- the kind that a word names
unfoldable pub kind_of : List ℕ → Option Kind
kind_of word = find (λ k. same_bytes (keyword k) word) kinds

-- ---- lines

abbrev pub said : Entry → Result Line Cause
said e = Ok (line.Said e)

-- a line of a kind, from the fields behind its first word
unfoldable pub line_by : Kind → List (List ℕ) → Result Line Cause
line_by kind.Session fs = only_field fs >>= λ f. number_of f >>= λ n. Ok (line.Session n)
line_by kind.Started fs = words_of fs >>= λ words. said (entry.Started words)
line_by kind.NoStart fs = first_field fs >>= λ f. code_of f.0 >>= λ code. words_of f.1 >>= λ words. said (entry.NoStart code words)
line_by kind.Sent fs = only_field fs >>= λ f. bytes_of MAX_SENT f >>= λ bytes. said (entry.Sent bytes)
line_by kind.NoSend fs = first_field fs >>= λ f. code_of f.0 >>= λ code. only_field f.1 >>= λ g. bytes_of MAX_SENT g >>= λ bytes. said (entry.NoSend code bytes)
line_by kind.Chunk fs = first_field fs >>= λ f. wait_of f.0 >>= λ wait. only_field f.1 >>= λ g. bytes_of MAX_CHUNK g >>= λ bytes. said (entry.Chunk wait bytes)
line_by kind.End fs = only_field fs >>= λ f. wait_of f >>= λ wait. said (entry.End wait)
line_by kind.NoRead fs = only_field fs >>= λ f. code_of f >>= λ code. said (entry.NoRead code)
line_by kind.Silence fs = only_field fs >>= λ f. wait_of f >>= λ wait. said (entry.Silence wait)
line_by kind.Closed fs = no_field fs >>= λ _. said entry.Closed
line_by kind.NoClose fs = only_field fs >>= λ f. code_of f >>= λ code. said (entry.NoClose code)
line_by kind.Exited fs = only_field fs >>= λ f. within 0 255 f >>= λ status. said (entry.Exited status)
line_by kind.Killed fs = only_field fs >>= λ f. within 1 127 f >>= λ signal. said (entry.Killed signal)
line_by kind.NoWait fs = only_field fs >>= λ f. code_of f >>= λ code. said (entry.NoWait code)
line_by kind.Done fs = no_field fs >>= λ _. Ok line.Done

-- the kind that the first of a line's fields names, if it names one
abbrev pub kind_from : List (List ℕ) → Option Kind
kind_from [] = None
kind_from (word ∷ fields) = kind_of word

-- a line from its fields: the first names the kind
unfoldable pub line_from : List (List ℕ) → Result Line Cause
line_from fields = ok_or (kind_from fields) cause.Kind >>= λ k. line_by k (drop 1 fields)

-- what a line says, without its newline
abbrev pub read_line : List ℕ → Result Line Cause
read_line text = line_from (slice_split is_space text)
