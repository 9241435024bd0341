-- How tests are judged on kept records: the questions of each are asked in turn, and its record is kept.
use Rattle.std.specs.Prelude.{◌≡◌, ◌≤◌, ℕ, List, [], ◌∷◌, length, take}
use Rattle.dg_world.specs.declared.question.Read.{Read}
use Rattle.dg_world.specs.declared.test_id.TestId.{TestId}
use Rattle.dg_index.specs.Kept.{KeptView, IsAskedOf, committed}
use Rattle.dg_core.specs.Core.{CoreView, record_in, kept_of, pending}

-- these questions were asked one after another, and had these answers
abbrev pub AsksInTurn : KeptView → List Read → KeptView → Type 0
AsksInTurn old [] new = new ≡ old
AsksInTurn old (r ∷ rs) new = (next : KeptView) × IsAskedOf old next r.question r.answer × AsksInTurn next rs new

-- a test was judged: all that its record reads was asked in turn, and the record was kept
abbrev pub JudgesOne : KeptView → TestId → KeptView → Type 0
JudgesOne old t new =
    (asked : KeptView) × AsksInTurn old (record_in asked.world t).reads asked × (new ≡ committed asked (record_in asked.world t))

-- these tests were judged one after another
abbrev pub JudgesAll : KeptView → List TestId → KeptView → Type 0
JudgesAll old [] new = new ≡ old
JudgesAll old (t ∷ ts) new = (next : KeptView) × JudgesOne old t next × JudgesAll next ts new

-- Some first pending tests were judged, and some questions of the next one asked at most.
pub record JudgesSome (old new : CoreView) : Type 0 where
  pub judged : ℕ
  pub within : judged ≤ length (pending old)
  pub last : KeptView
  pub all : JudgesAll (kept_of old) (take judged (pending old)) last
  pub reads : List Read
  pub asked : AsksInTurn last reads (kept_of new)
