-- How many lines there are of each result class.
use Rattle.std.specs.Prelude.{ℕ, ◌+◌, ◌<◌, ◌^◌, Bool, true, false, List, count_by}
use Rattle.dg_results.specs.declared.class.Class.{Class}
use Rattle.dg_results.specs.declared.class.Class.TheVariants.{Pass, Fail, XPass, XFail, KPass, KFail, Unresolved, Untested, Unsupported, Error, Warning, Note}
use Rattle.dg_results.specs.declared.verdict.Line.{Line}
use Rattle.dg_results.specs.declared.verdict.Tally.{Tally}

-- whether two classes are the same
abbrev pub is_class : Class → Class → Bool
is_class Pass Pass = true
is_class Fail Fail = true
is_class XPass XPass = true
is_class XFail XFail = true
is_class KPass KPass = true
is_class KFail KFail = true
is_class Unresolved Unresolved = true
is_class Untested Untested = true
is_class Unsupported Unsupported = true
is_class Error Error = true
is_class Warning Warning = true
is_class Note Note = true
is_class _ _ = false

-- how many lines are of a class
abbrev pub count_of : Class → List Line → ℕ
count_of of lines = count_by (λ l. is_class of l.class) lines

-- how many lines are of each result class
unfoldable pub tally_of : List Line → Tally
tally_of lines = record {
  passes = count_of Pass lines;
  failures = count_of Fail lines;
  unexpected_successes = count_of XPass lines;
  expected_failures = count_of XFail lines;
  unknown_successes = count_of KPass lines;
  known_failures = count_of KFail lines;
  unresolved = count_of Unresolved lines;
  untested = count_of Untested lines;
  unsupported = count_of Unsupported lines;
}

-- both counts of each class together
unfoldable pub sum_of : Tally → Tally → Tally
sum_of a b = record {
  passes = a.passes + b.passes;
  failures = a.failures + b.failures;
  unexpected_successes = a.unexpected_successes + b.unexpected_successes;
  expected_failures = a.expected_failures + b.expected_failures;
  unknown_successes = a.unknown_successes + b.unknown_successes;
  known_failures = a.known_failures + b.known_failures;
  unresolved = a.unresolved + b.unresolved;
  untested = a.untested + b.untested;
  unsupported = a.unsupported + b.unsupported;
}

-- no sum of counts is past 64 bits
pub record FitTogether (a b : Tally) : Type 0 where
  pub passes : a.passes + b.passes < 2 ^ 64
  pub failures : a.failures + b.failures < 2 ^ 64
  pub unexpected_successes : a.unexpected_successes + b.unexpected_successes < 2 ^ 64
  pub expected_failures : a.expected_failures + b.expected_failures < 2 ^ 64
  pub unknown_successes : a.unknown_successes + b.unknown_successes < 2 ^ 64
  pub known_failures : a.known_failures + b.known_failures < 2 ^ 64
  pub unresolved : a.unresolved + b.unresolved < 2 ^ 64
  pub untested : a.untested + b.untested < 2 ^ 64
  pub unsupported : a.unsupported + b.unsupported < 2 ^ 64
