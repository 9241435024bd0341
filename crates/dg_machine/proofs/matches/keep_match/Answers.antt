use Rattle.dg_machine.proofs.AwaitingLemmas.{match-is}
use Rattle.dg_machine.proofs.matches.keep_match.Goals as goal

pub returns : goal.returns
returns c =
    rw (c.in_ok-write_removed.ensures, c.in_ok-write_groups.ensures, c.as_slice-2.ensures, c.as_slice-3.ensures, c.in_ok-write_out.ensures, c.in_ok-matched.ensures, c.as_slice.ensures, c.in_ok-removed.ensures.removed, c.in_ok-removed.ensures.left)
    (match-is _ _ _ _ c.requires)
