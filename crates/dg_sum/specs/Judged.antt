-- A judged test.
use Rattle.std.specs.Prelude.{List}
use Rattle.dg_world.specs.declared.test_id.TestId.{TestId}
use Rattle.dg_results.specs.declared.verdict.Line.{Line}

-- a test, and the lines that it wrote
pub record Judged : Type 0 where
  pub test : TestId
  pub verdict : List Line
