use Rattle.dg_expr.proofs.Spelling.{read_is_spelled, spelled_is_read}
use Rattle.dg_expr.proofs.reading.one_tree.Goals as goal

pub returns-clause-read_is_spelled : goal.returns-clause-read_is_spelled
returns-clause-read_is_spelled c text tree e = read_is_spelled text tree e

pub returns-clause-spelled_is_read : goal.returns-clause-spelled_is_read
returns-clause-spelled_is_read c text tree s h = spelled_is_read text tree s h
