use Rattle.std.proofs.Common.{◌+◌, ◌≤◌, length}
use Rattle.dg_glob.specs.Reading.{IsRead}
use Rattle.dg_glob.proofs.parts.read_part.Given as goal

abbrev pub invariant-loop-run : goal.invariant-loop-run
invariant-loop-run l = record {
  read : IsRead l.pattern l.size l.lead l.run l.rest;
  within : l.size + length l.rest ≤ length l.pattern;
}

abbrev pub decreases-loop-run : goal.decreases-loop-run
decreases-loop-run l = length l.rest
