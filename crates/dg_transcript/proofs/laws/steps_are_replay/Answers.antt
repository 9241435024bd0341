use Rattle.dg_transcript.proofs.Replaying.{steps_replay}
use Rattle.dg_transcript.proofs.laws.steps_are_replay.Goals as goal

pub returns : goal.returns
returns c = λ add place a buffer es room. steps_replay add place a buffer es room
