use Rattle.std.proofs.Common.{◌≡◌, length}
use Rattle.dg_language.specs.Procedures.{has_colons}
use Rattle.dg_forms.proofs.procedures.has_colons.Given as goal

abbrev pub invariant-bytes : goal.invariant-bytes
invariant-bytes l = has_colons l.left ≡ has_colons l.fn.name

abbrev pub decreases-bytes : goal.decreases-bytes
decreases-bytes l = length l.left
