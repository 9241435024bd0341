use Rattle.dg_cmds.proofs.MemoryLemmas.{pure-free}
use Rattle.dg_cmds.proofs.law.no_command_wants_memory.Goals as goal

pub returns : goal.returns
returns c = pure-free
