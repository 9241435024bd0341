-- Tests.
use Rattle.std.specs.Prelude.{ℕ, Bool, ◌&&◌, if◌then◌else◌, Option, Some, None, List, nat_eq}
use Rattle.std.specs.declared.cmp.Ordering.{Ordering}
use Rattle.std.specs.Ordering.{nat_cmp, ordering_then}
use Rattle.std.specs.Cmp.Lexicographic.{pointwise, slice_cmp}
use Rattle.dg_world.specs.Name.{is_name, is_single_part}

-- a test: a board, which is one part of at most 64 bytes, and a script, which is a name
pub record TestView : Type 0 where
  pub board : List ℕ
  pub script : List ℕ

-- whether two tests are the same
abbrev pub same_test : TestView → TestView → Bool
same_test a b = pointwise nat_eq a.script b.script && pointwise nat_eq a.board b.board

-- the order of tests: by their scripts, and of one script by their boards
abbrev pub test_cmp : TestView → TestView → Ordering
test_cmp a b = ordering_then (slice_cmp nat_cmp a.script b.script) (slice_cmp nat_cmp a.board b.board)

-- the test of a script on a board, if these bytes are such
abbrev pub test_of : List ℕ → List ℕ → Option TestView
test_of board script = if is_single_part board && is_name script then Some (record { board = board; script = script }) else None
