use Rattle.std.proofs.Common.{◌∙◌, sym, inl, inr, arith}
use Rattle.dg_forms.proofs.OutputLemmas.{groups-next, groups-past}
use Rattle.dg_forms.proofs.outputs.write_groups.Goals as goal

pub loop-n-preserved : goal.loop-n-preserved
loop-n-preserved c =
    rw c.in_ok-write_group.ensures
    (sym (groups-next c.args.bytes.now c.args.groups.now c.loop-n.n _ c.loop-n.state c.loop-n-test.true (omega arith)) ∙ c.loop-n.invariant)

pub returns : goal.returns
returns c = sym (groups-past c.args.bytes.now c.args.groups.now c.loop-n.n c.loop-n.state (inl c.loop-n-test.false)) ∙ c.loop-n.invariant

pub returns-then-n-groups : goal.returns-then-n-groups
returns-then-n-groups c =
    sym (groups-past c.args.bytes.now c.args.groups.now c.loop-n.n c.loop-n.state (inr c.if-n-groups.true)) ∙ c.loop-n.invariant
