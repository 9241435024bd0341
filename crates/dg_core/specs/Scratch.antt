-- The report of a world from scratch: every selected test is judged on the world as it stands.
use Rattle.std.specs.Prelude.{◌≡◌, ℕ, Option, Some, None, List, [], ◌∷◌, option_map}
use Rattle.dg_world.specs.World.{WorldView, selected}
use Rattle.dg_world.specs.declared.test_id.TestId.{TestId}
use Rattle.dg_results.specs.declared.verdict.Line.{Line}
use Rattle.dg_language.specs.Play.{Source}
use Rattle.dg_language.specs.Judge.{verdict_in}
use Rattle.dg_records.specs.Truth.{answers_of}
use Rattle.dg_sum.specs.Judged.{Judged}
use Rattle.dg_sum.specs.Report.{report, status}

-- a test with its lines
abbrev pub judged : TestId → List Line → Judged
judged t v = record { test = t; verdict = v }

-- a test with the lines that it has in a world
abbrev pub IsJudged : WorldView → TestId → Judged → Type 0
IsJudged w t j = (j.test ≡ t) × (verdict_in (answers_of w) t ≡ Some j.verdict)

abbrev pub and_judged : TestId → Option (List Line) → Option (List Judged) → Option (List Judged)
and_judged t None js = None
and_judged t (Some v) None = None
and_judged t (Some v) (Some js) = Some (judged t v ∷ js)

-- each test with the lines that it has in a source, if that answers all their questions
abbrev pub all_judged : Source → List TestId → Option (List Judged)
all_judged source [] = Some []
all_judged source (t ∷ ts) = and_judged t (verdict_in source t) (all_judged source ts)

-- the report's bytes and the exit status of a world
unfoldable pub scratch : WorldView → Option (List ℕ × ℕ)
scratch w = option_map (λ js. (report w.selection js, status js)) (all_judged (answers_of w) (selected w))
