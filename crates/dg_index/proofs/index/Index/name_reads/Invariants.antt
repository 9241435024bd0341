use Rattle.std.proofs.Common.{take}
use Rattle.dg_index.specs.Index.{AreNamed, NamesMore, NamesReads}
use Rattle.dg_index.proofs.index.Index.name_reads.Given as goal

abbrev pub invariant-loop-read : goal.invariant-loop-read
invariant-loop-read l = record {
  named : NamesReads l.self l.place (take l.read-index l.reads);
  told : AreNamed l.self l.place l.named;
  stays : NamesMore l.fn.self l.self;
}
