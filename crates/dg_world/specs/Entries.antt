-- When two entries of a session's record are the same.
use Rattle.std.specs.Prelude.{Bool, true, false, ◌&&◌, ◌==◌}
use Rattle.dg_bytes.specs.Same.{same_bytes, same_words}
use Rattle.dg_transcript.specs.declared.code.ErrorCode.{ErrorCode}
use Rattle.dg_transcript.specs.declared.code.ErrorCode.TheVariants.{NotFound, NotPermitted, BrokenPipe, Other}
use Rattle.dg_transcript.specs.declared.entry.Entry.{Entry}
use Rattle.dg_transcript.specs.declared.entry.Entry.TheVariants as entry

-- whether two codes are the same
abbrev pub same_code : ErrorCode → ErrorCode → Bool
same_code NotFound NotFound = true
same_code NotPermitted NotPermitted = true
same_code BrokenPipe BrokenPipe = true
same_code Other Other = true
same_code _ _ = false

-- whether two entries are the same
abbrev pub same_entry : Entry → Entry → Bool
same_entry (entry.Started a) (entry.Started b) = same_words a b
same_entry (entry.NoStart c a) (entry.NoStart d b) = same_code c d && same_words a b
same_entry (entry.Sent a) (entry.Sent b) = same_bytes a b
same_entry (entry.NoSend c a) (entry.NoSend d b) = same_code c d && same_bytes a b
same_entry (entry.Chunk m a) (entry.Chunk n b) = (m == n) && same_bytes a b
same_entry (entry.End m) (entry.End n) = m == n
same_entry (entry.NoRead c) (entry.NoRead d) = same_code c d
same_entry (entry.Silence m) (entry.Silence n) = m == n
same_entry entry.Closed entry.Closed = true
same_entry (entry.NoClose c) (entry.NoClose d) = same_code c d
same_entry (entry.Exited m) (entry.Exited n) = m == n
same_entry (entry.Killed m) (entry.Killed n) = m == n
same_entry (entry.NoWait c) (entry.NoWait d) = same_code c d
same_entry _ _ = false
