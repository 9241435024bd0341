use Rattle.std.proofs.Common.{◌≡◌, ◌-◌, length}
use Rattle.dg_glob.specs.Parts.{IsTrail, followed, parts_of}
use Rattle.dg_glob.proofs.parts.Parts.follow.Given as goal

abbrev pub invariant-loop-part : goal.invariant-loop-part
invariant-loop-part l = record {
  known : IsTrail l.self l.found l.text l.passed;
  value : followed l.self l.fn.trail.found l.text l.fn.trail.passed ≡ followed l.self l.found l.text l.passed;
}

abbrev pub decreases-loop-part : goal.decreases-loop-part
decreases-loop-part l = length (parts_of l.self) - l.found
