use Rattle.std.proofs.Common.{◌∙◌, get_or, length-set, true, refl, arith}
use Rattle.dg_cmds.specs.Bytes.{member}
use Rattle.dg_cmds.proofs.SetLemmas.{marks-none, marks-more}
use Rattle.dg_cmds.proofs.bytes.set_of.Goals as goal

pub loop-byte-init : goal.loop-byte-init
loop-byte-init c = (refl, λ b. marks-none 256 b (member c.args.bytes.now b))

pub loop-byte-preserved : goal.loop-byte-preserved
loop-byte-preserved c = (
  length-set c.loop-byte.marks (get_or c.args.bytes.now c.loop-byte.byte-index 0) true ∙ c.loop-byte.invariant.0,
  λ b. marks-more c.loop-byte.marks c.args.bytes.now c.loop-byte.byte-index b (omega arith) (omega (arith, c.loop-byte.invariant.0, c.type_inv.bytes c.loop-byte.byte-index)) (c.loop-byte.invariant.1 b),
)
