-- What a line of a session asks.
use Rattle.std.specs.Prelude.{ℕ, ◌==◌, List, [], ◌∷◌, length, codes, if◌then◌else◌, Option, Some, None}
use Rattle.std.specs.List.{slice_split}
use Rattle.std.specs.Result.{result_ok}
use Rattle.hex.specs.Hex.{decode_of}
use Rattle.dg_session.specs.declared.request.Request.{Request}
use Rattle.dg_session.specs.declared.request.Request.TheVariants.{Put, Remove, PutTranscript, DropTranscript, Select, Report, Unknown}
use Rattle.dg_bytes.specs.Same.{same_bytes}

-- what stands between the spaces of a line
abbrev pub fields_of : List ℕ → List (List ℕ)
fields_of line = slice_split (λ b. b == 32) line

-- the bytes that a field stands for: `-` for none, and else one or more pairs of hexadecimal digits
unfoldable pub content_of : List ℕ → Option (List ℕ)
content_of field = if length field == 0 then None else if same_bytes field (codes "-") then Some [] else result_ok (decode_of field)

-- a put of this file, where the content can be read
abbrev pub put_of : List ℕ → Option (List ℕ) → Request
put_of name (Some bytes) = Put name bytes
put_of name None = Unknown

-- a transcript of this test, where its text can be read
abbrev pub transcript_of : List ℕ → List ℕ → Option (List ℕ) → Request
transcript_of board script (Some text) = PutTranscript board script text
transcript_of board script None = Unknown

-- what the fields of a line ask that doesn't select
unfoldable pub asked_by : List (List ℕ) → Request
asked_by (word ∷ []) = if same_bytes word (codes "report") then Report else Unknown
asked_by (word ∷ name ∷ []) = if same_bytes word (codes "remove") then Remove name else Unknown
asked_by (word ∷ name ∷ content ∷ []) = if same_bytes word (codes "put") then put_of name (content_of content) else (if same_bytes word (codes "drop") then DropTranscript name content else Unknown)
asked_by (word ∷ board ∷ script ∷ content ∷ []) = if same_bytes word (codes "transcript") then transcript_of board script (content_of content) else Unknown
asked_by others = Unknown

-- what the fields ask: `select` with its words, or another line
abbrev pub asked_in : List (List ℕ) → Request
asked_in [] = Unknown
asked_in (word ∷ words) = if same_bytes word (codes "select") then Select words else asked_by (word ∷ words)

-- what a line without its line feed asks
abbrev pub request_of : List ℕ → Request
request_of line = asked_in (fields_of line)
