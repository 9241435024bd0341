-- Which lines may come after which, and the first bad line of a text.
use Rattle.std.specs.Prelude.{◌≡◌, ℕ, suc, ◌+◌, ◌-◌, ◌==◌, nat_lt, nat_le, Bool, true, false, ◌&&◌, if◌then◌else◌, List, [], ◌∷◌, ◌++◌, length, take, slice_index, slice_get, count_by, codes, Option, Some, None, Result, Ok, Err}
use Rattle.std.specs.List.{slice_split}
use Rattle.bstr.specs.Text.{lines_of}
use Rattle.dg_transcript.specs.declared.cause.Cause.{Cause}
use Rattle.dg_transcript.specs.declared.cause.Cause.TheVariants as cause
use Rattle.dg_transcript.specs.declared.line.Kind.{Kind}
use Rattle.dg_transcript.specs.declared.line.Line.{Line}
use Rattle.dg_transcript.specs.declared.line.Line.TheVariants as line
use Rattle.dg_transcript.specs.declared.line.Place.{Place}
use Rattle.dg_transcript.specs.declared.line.Place.TheVariants as place
use Rattle.dg_transcript.specs.Order.{role_of, admits, opens_session, after_line}
use Rattle.dg_bytes.specs.Chain.{◌>>=◌}
use Rattle.dg_transcript.specs.Fields.{is_space, kind_from, read_line}
use Rattle.dg_bytes.specs.Same.{same_bytes}
use Rattle.dg_transcript.specs.declared.limits.TheConstants.{MAX_ENTRIES, MAX_SESSIONS}

abbrev pub is_session : Line → Bool
is_session (line.Session n) = true
is_session l = false

abbrev pub is_said : Line → Bool
is_said (line.Said e) = true
is_said l = false

-- the place after some lines is that after the last of them
abbrev pub place_from : Place → List Line → Place
place_from p [] = p
place_from p (l ∷ ls) = place_from (after_line l) ls

abbrev pub place_of : List Line → Place
place_of = place_from place.Top

-- a line may come at a place where so many sessions have begun; a session has the next number
abbrev pub may_come : Place → ℕ → Line → Bool
may_come p sessions line.Header = false
may_come p sessions (line.Session n) = opens_session p && (n == sessions + 1)
may_come p sessions (line.Said e) = admits p (role_of e)
may_come p sessions line.Done = opens_session p

-- the 65th session, or the 65,537th entry
abbrev pub is_past : ℕ → ℕ → Line → Bool
is_past sessions entries line.Header = false
is_past sessions entries (line.Session n) = nat_le MAX_SESSIONS sessions
is_past sessions entries (line.Said e) = nat_le MAX_ENTRIES entries
is_past sessions entries line.Done = false

abbrev pub placed : Place → ℕ → ℕ → Line → Result Line Cause
placed p sessions entries l = if may_come p sessions l then (if is_past sessions entries l then Err cause.TooMany else Ok l) else Err cause.SessionOrder

abbrev pub ends_line : List ℕ → Bool
ends_line text = nat_lt 0 (length text) && (slice_index text (length text - 1) == 10)

-- a line without its newline
abbrev pub body : List ℕ → List ℕ
body text = take (length text - 1) text

abbrev pub kind_at : List ℕ → Option Kind
kind_at text = kind_from (slice_split is_space (body text))

-- what a line with its newline says at a place, or what is wrong with it
unfoldable pub whole_line_at : Place → ℕ → ℕ → List ℕ → Result Line Cause
whole_line_at place.Top sessions entries text = if same_bytes text (codes "dejagnu-transcript 1\n") then Ok line.Header else Err cause.Header
whole_line_at place.Over sessions entries text = Err cause.Kind
whole_line_at p sessions entries text = read_line (body text) >>= placed p sessions entries

unfoldable pub line_at : Place → ℕ → ℕ → List ℕ → Result Line Cause
line_at p sessions entries text = if ends_line text then whole_line_at p sessions entries text else Err cause.Truncated

-- what a line says behind those lines, or what is wrong with it
abbrev pub line_behind : List Line → List ℕ → Result Line Cause
line_behind before text = line_at (place_of before) (count_by is_session before) (count_by is_said before) text

-- lines that are good, each behind those before it, and what they say
abbrev pub Say : List Line → List (List ℕ) → List Line → Type 0
Say before [] [] = Unit {0}
Say before (text ∷ texts) (l ∷ ls) = (line_behind before text ≡ Ok l) × Say (before ++ l ∷ []) texts ls
Say before [] (l ∷ ls) = ⊥
Say before (text ∷ texts) [] = ⊥

abbrev pub is_over : Place → Bool
is_over place.Over = true
is_over p = false

-- the next line is bad: it has a fault, or it is missing before the last line was there
abbrev pub IsBad : List Line → Option (List ℕ) → Cause → Type 0
IsBad before (Some text) why = line_behind before text ≡ Err why
IsBad before None why = (is_over (place_of before) ≡ false) × (why ≡ cause.Truncated)

-- line n, from 1, is the first bad line of the text, and why
abbrev pub IsFirstBad : List ℕ → ℕ → Cause → Type 0
IsFirstBad text n why = (said : List Line) × (n ≡ suc (length said)) × Say [] (take (length said) (lines_of text)) said × IsBad said (slice_get (lines_of text) (length said)) why

-- one more line that is good
abbrev pub Takes : List Line → List ℕ → List Line → Type 0
Takes before text new = (l : Line) × (line_behind before text ≡ Ok l) × (new ≡ before ++ l ∷ [])

-- why a text is not read: memory ran out, or it has this first bad line
abbrev pub IsFault : List ℕ → ℕ → Cause → Type 0
IsFault text n cause.Memory = Unit {0}
IsFault text n why = IsFirstBad text n why
