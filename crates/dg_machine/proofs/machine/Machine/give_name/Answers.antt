use Rattle.std.proofs.Common.{refl, arith}
use Rattle.dg_language.specs.State.{assigned}
use Rattle.dg_machine.specs.Meaning.{rest, weight}
use Rattle.dg_machine.proofs.ActingLemmas.{id-short}
use Rattle.dg_machine.proofs.machine.Machine.give_name.Goals as goal

pub assign-requires : goal.assign-requires
assign-requires c = rw c.in_ok-id.ensures (id-short c.args.session c.ranges.session.fits)

pub returns : goal.returns
unfolding rest weight assigned
returns c =
    rw (c.end.ensures, c.in_ok-assign.ensures, c.in_ok-from_slice.ensures, c.in_ok-id.ensures, c.requires) (refl, refl, omega arith)
