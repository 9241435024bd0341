-- What a reader of lines keeps of them.
use Rattle.std.specs.Prelude.{◌≡◌, ℕ, ◌+◌, ◌≤◌, List, length, count_by}
use Rattle.dg_transcript.specs.declared.line.Line.{Line}
use Rattle.dg_transcript.specs.declared.line.Line.TheVariants as line
use Rattle.dg_transcript.specs.declared.line.Place.{Place}
use Rattle.dg_transcript.specs.declared.line.Place.TheVariants as place
use Rattle.dg_transcript.specs.Order.{role_of, after_role}
use Rattle.dg_transcript.specs.Lines.{place_of, is_session, is_said}
use Rattle.dg_transcript.specs.declared.limits.TheConstants.{MAX_ENTRIES, MAX_SESSIONS}

-- the lines that are neither a session nor an entry: the header and the last line
abbrev pub other_lines : Place → ℕ
other_lines place.Top = 0
other_lines place.Between = 1
other_lines place.Opened = 1
other_lines place.Running = 1
other_lines place.Ended = 1
other_lines place.Over = 2

pub record Keeps (lines : List Line) (at : Place) (sessions entries : ℕ) : Type 0 where
  pub here : place_of lines ≡ at
  pub begun : count_by is_session lines ≡ sessions
  pub said : count_by is_said lines ≡ entries
  pub few_begun : sessions ≤ MAX_SESSIONS
  pub few_said : entries ≤ MAX_ENTRIES
  pub count : length lines ≡ other_lines at + sessions + entries

-- what is kept behind one more line
abbrev pub next_of : Line → ℕ → ℕ → Place × ℕ × ℕ
next_of line.Header s e = (place.Between, s, e)
next_of (line.Session n) s e = (place.Opened, s + 1, e)
next_of (line.Said x) s e = (after_role (role_of x), s, e + 1)
next_of line.Done s e = (place.Over, s, e)
