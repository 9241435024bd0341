use Rattle.std.proofs.Common.{◌∙◌, ap}
use Rattle.dg_language.specs.Reads.{reads_of}
use Rattle.dg_language.proofs.ReadsLemmas.{insert-reads}
use Rattle.dg_language.proofs.reads.add.Goals as goal

pub returns : goal.returns
returns c = ap reads_of c.in_ok-insert.ensures.entries ∙ insert-reads _ _ _ c.requires
