-- The tests of scripts on a board.
use Rattle.std.specs.Prelude.{ℕ, List, map}
use Rattle.dg_world.specs.declared.test_id.TestId.{TestId}

-- the tests of some scripts on a board
abbrev pub tests_on : List (List ℕ) → List ℕ → List TestId
tests_on scripts board = map (λ s. record { board = board; script = s }) scripts
