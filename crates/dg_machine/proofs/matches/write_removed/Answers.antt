use Rattle.std.proofs.Common.{◌≤◌, length, subst, sym}
use Rattle.dg_machine.proofs.ActingLemmas.{id-short}
use Rattle.dg_machine.proofs.matches.write_removed.Goals as goal

pub write_out-requires-2 : goal.write_out-requires-2
write_out-requires-2 c = subst (λ b. length b ≤ 1048576) (sym c.in_ok-id.ensures) (id-short c.args.session c.ranges.session.fits)
