use Rattle.std.proofs.Common.{arith}
use Rattle.dg_match.proofs.OccursLemmas.{passed_nowhere}
use Rattle.dg_match.proofs.search.passed_by.Goals as goal

pub returns-clause-passed : goal.returns-clause-passed
returns-clause-passed c = let size = c.length_of.ensures in passed_nowhere _ _ _ (omega arith) c.requires
