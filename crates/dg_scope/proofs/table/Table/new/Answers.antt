use Rattle.std.proofs.Common.{ap₂, ◌∙◌}
use Rattle.dg_scope.specs.Table.{joined}
use Rattle.dg_scope.proofs.Joined.{joined-empty}
use Rattle.dg_scope.proofs.table.Table.new.Goals as goal

pub returns : goal.returns
returns g c = ap₂ joined c.new.ensures c.new-2.ensures ∙ joined-empty
