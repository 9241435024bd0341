use Rattle.std.proofs.Common.{◌≡◌}
use Rattle.regex.specs.Locations.{location}
use Rattle.dg_match.specs.Groups.{groups_of}
use Rattle.dg_match.proofs.found.read_groups.Given as goal

abbrev pub invariant-loop-n : goal.invariant-loop-n
invariant-loop-n l = l.groups.items ≡ groups_of l.n (location l.locations)
