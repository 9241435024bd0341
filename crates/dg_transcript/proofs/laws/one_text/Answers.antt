use Rattle.dg_transcript.proofs.Texts.{text_unique}
use Rattle.dg_transcript.proofs.laws.one_text.Goals as goal

pub returns : goal.returns
returns c = λ ss ts a b e. text_unique ss ts a b e
