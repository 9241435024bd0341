-- The transcript that a text spells, or the first bad line of the text.
use Rattle.std.specs.Prelude.{ℕ, suc, if◌then◌else◌, List, [], ◌∷◌, ◌++◌, length, Result, Ok, Err, ◌≡◌, ◌↔◌}
use Rattle.std.specs.Result.{result_map_both}
use Rattle.bstr.specs.Text.{lines_of}
use Rattle.dg_transcript.specs.declared.cause.Cause.{Cause}
use Rattle.dg_transcript.specs.declared.cause.Cause.TheVariants.{Truncated}
use Rattle.dg_transcript.specs.declared.entry.Entry.{Entry}
use Rattle.dg_transcript.specs.declared.line.Line.{Line}
use Rattle.dg_transcript.specs.Limits.{IsTranscript}
use Rattle.dg_transcript.specs.Lines.{is_over, line_behind, place_of, IsFirstBad}
use Rattle.dg_transcript.specs.Sessions.{sessions_in}
use Rattle.dg_transcript.specs.Text.{text_of}

-- goes on behind a good line; a bad one is told with its number
abbrev pub on_line : ℕ → Result Line Cause → (Line → Result (List Line) (ℕ × Cause)) → Result (List Line) (ℕ × Cause)
on_line n (Ok l) next = next l
on_line n (Err why) next = Err (n, why)

-- what lines say behind those that were read, or the first bad one: its number from 1, and what is wrong with it
abbrev pub said_behind : List Line → List (List ℕ) → Result (List Line) (ℕ × Cause)
said_behind before [] = if is_over (place_of before) then Ok before else Err (suc (length before), Truncated)
said_behind before (text ∷ texts) = on_line (suc (length before)) (line_behind before text) (λ l. said_behind (before ++ l ∷ []) texts)

-- the sessions of a transcript's text, or its first bad line
unfoldable pub decoded : List ℕ → Result (List (List Entry)) (ℕ × Cause)
decoded text = result_map_both sessions_in (λ e. e) (said_behind [] (lines_of text))

-- each text spells one transcript, or has one first bad line
abbrev pub EachTextIsDecoded : Type 0
EachTextIsDecoded =
    (text : List ℕ) → ((ss : List (List Entry)) → (decoded text ≡ Ok ss) ↔ (IsTranscript ss × (text ≡ text_of ss)))
    × ((n : ℕ) (why : Cause) → (decoded text ≡ Err (n, why)) ↔ IsFirstBad text n why)
