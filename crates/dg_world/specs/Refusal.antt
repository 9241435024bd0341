-- The numbers of the refusals.
use Rattle.std.specs.Prelude.{ℕ}
use Rattle.dg_world.specs.declared.refusal.Refusal.{Refusal}
use Rattle.dg_world.specs.declared.refusal.Refusal.TheVariants.{BadName, TooLong, TooMany, NoSuchFile, NoSuchTranscript, BadSelection, BadTranscript, Memory}

-- the number by which a session names a refusal
abbrev pub refusal_number : Refusal → ℕ
refusal_number BadName = 1
refusal_number TooLong = 2
refusal_number TooMany = 3
refusal_number NoSuchFile = 4
refusal_number NoSuchTranscript = 5
refusal_number BadSelection = 6
refusal_number (BadTranscript line why) = 7
refusal_number Memory = 8
