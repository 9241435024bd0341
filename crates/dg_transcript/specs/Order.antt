-- The order in which the lines of a transcript come.
use Rattle.std.specs.Prelude.{Bool, true, false}
use Rattle.dg_transcript.specs.declared.entry.Entry.{Entry}
use Rattle.dg_transcript.specs.declared.entry.Entry.TheVariants as entry
use Rattle.dg_transcript.specs.declared.line.Role.{Role}
use Rattle.dg_transcript.specs.declared.line.Role.TheVariants as role
use Rattle.dg_transcript.specs.declared.line.Place.{Place}
use Rattle.dg_transcript.specs.declared.line.Place.TheVariants as place
use Rattle.dg_transcript.specs.declared.line.Line.{Line}
use Rattle.dg_transcript.specs.declared.line.Line.TheVariants as line

-- what an entry does in its session
abbrev pub role_of : Entry → Role
role_of (entry.Started words) = role.Start
role_of (entry.NoStart code words) = role.Failure
role_of (entry.Sent bytes) = role.Talk
role_of (entry.NoSend code bytes) = role.Talk
role_of (entry.Chunk wait bytes) = role.Talk
role_of (entry.Silence wait) = role.Talk
role_of (entry.End wait) = role.End
role_of (entry.NoRead code) = role.End
role_of entry.Closed = role.End
role_of (entry.NoClose code) = role.End
role_of (entry.Exited status) = role.Wait
role_of (entry.Killed signal) = role.Wait
role_of (entry.NoWait code) = role.Wait

-- which entries may come at a place: a start, or its failure; then what was said; then one end; then one wait
abbrev pub admits : Place → Role → Bool
admits place.Opened role.Start = true
admits place.Opened role.Failure = true
admits place.Running role.Talk = true
admits place.Running role.End = true
admits place.Ended role.Wait = true
admits p r = false

-- where a session, or the last line, may come: behind a session's last entry and behind the header
abbrev pub opens_session : Place → Bool
opens_session place.Between = true
opens_session place.Running = true
opens_session place.Ended = true
opens_session place.Top = false
opens_session place.Opened = false
opens_session place.Over = false

-- the place after an entry; nothing of its session follows a failed start or a wait
abbrev pub after_role : Role → Place
after_role role.Start = place.Running
after_role role.Talk = place.Running
after_role role.End = place.Ended
after_role role.Failure = place.Between
after_role role.Wait = place.Between

-- the place after a line
abbrev pub after_line : Line → Place
after_line line.Header = place.Between
after_line (line.Session n) = place.Opened
after_line (line.Said e) = after_role (role_of e)
after_line line.Done = place.Over
