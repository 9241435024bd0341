-- The first match of a `-re` pattern.
use Rattle.std.specs.Prelude.{ℕ, ◌-◌, List, map, length, Option, option_map, option_and_then}
use Rattle.std.specs.List.{range_with_len}
use Rattle.regex_hir.specs.Find.{Match, find}
use Rattle.regex_vm.specs.Found.{span}
use Rattle.regex.specs.Locations.{location, location_count}
use Rattle.regex.specs.Writes.{group_of}
use Rattle.regex.specs.declared.locations.CaptureLocations.{CaptureLocations}
use Rattle.dg_match.specs.Regexes.{pattern_read}
use Rattle.dg_match.specs.declared.found.Found.{Found}
use Rattle.dg_glob.specs.declared.glob.Span.{Span}

abbrev pub span_of : ℕ × ℕ → Span
span_of p = record { start = p.0; end = p.1 }

-- the spans of the groups from the first, of so many with the whole match
abbrev pub groups_of : ℕ → (ℕ → Option (ℕ × ℕ)) → List (Option Span)
groups_of count at = map (λ n. option_map span_of (at n)) (range_with_len 1 (count - 1))

-- the match with so many groups, the whole match included
abbrev pub found_of : ℕ → Match → Found
found_of count m = record {
  start = (span m).0;
  end = (span m).1;
  groups = groups_of count (group_of m);
}

-- the first match of a pattern's text in bytes, as `regex` defines it
abbrev pub regex_match : List ℕ → List ℕ → Option Found
regex_match text hay =
    option_and_then (λ (re, names). option_map (found_of (length names)) (find re.value hay 0)) (pattern_read text)

-- the groups that were written to the locations
abbrev pub groups_in : CaptureLocations → List (Option Span)
groups_in l = groups_of (location_count l) (location l)
