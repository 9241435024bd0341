use Rattle.dg_transcript.proofs.KnownKinds.{known_kind}
use Rattle.dg_transcript.proofs.laws.a_bad_field_is_of_a_known_kind.Goals as goal

pub returns : goal.returns
returns c = λ text n bad. known_kind text n bad
