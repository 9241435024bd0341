use Rattle.dg_transcript.proofs.DecodedLemmas.{each_text}
use Rattle.dg_transcript.proofs.laws.each_text_is_decoded.Goals as goal

pub returns : goal.returns
returns c = each_text
