use Rattle.dg_transcript.proofs.Digits.{digit_step}
use Rattle.dg_transcript.proofs.fields.value_of.Goals as goal

pub loop-digit-preserved : goal.loop-digit-preserved
loop-digit-preserved c = digit_step c.args.digits.now c.loop-digit.digit-index c.loop-digit.value c.min-value.result c.requires c.loop-digit-test.true c.loop-digit.invariant (rw (← c.from.ensures) c.min-value.ensures)
