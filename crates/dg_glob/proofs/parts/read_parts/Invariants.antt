use Rattle.std.proofs.Common.{◌≡◌, ◌-◌, ◌≤◌, length, drop}
use Rattle.dg_glob.proofs.TrailLemmas.{AreRead}
use Rattle.dg_glob.proofs.parts.read_parts.Given as goal

abbrev pub invariant-loop-parts : goal.invariant-loop-parts
invariant-loop-parts l = record {
  read : AreRead l.pattern l.parts.items l.rest;
  within : length l.rest ≤ length l.pattern;
  left : l.rest ≡ drop (length l.pattern - length l.rest) l.pattern;
}

abbrev pub decreases-loop-parts : goal.decreases-loop-parts
decreases-loop-parts l = length l.rest
