-- Marks: which reads of a record have another answer than a world gives.
use Rattle.std.specs.Prelude.{ℕ, ◌+◌, ◌-◌, ◌^◌, min, Bool, not, cond, Option, List, [], ◌∷◌, map, count_by}
use Rattle.std.specs.List.{list_all, sum_by}
use Rattle.dg_world.specs.World.{WorldView, look}
use Rattle.dg_world.specs.declared.question.Read.{Read}
use Rattle.dg_world.specs.declared.test_id.TestId.{TestId}
use Rattle.dg_records.specs.Truth.{RecordView, is_given}
use Rattle.dg_sum.specs.Judged.{Judged}
use Rattle.dg_index.specs.declared.topic.Topic.{Topic}
use Rattle.dg_index.specs.Topic.{is_on}

-- the test of a record with its lines
abbrev pub judged_of : RecordView → Judged
judged_of r = record { test = r.test; verdict = r.verdict }

-- a record, and for each of its reads a mark and the number of the content that it was given
pub record MarkedView : Type 0 where
  pub record_of : RecordView
  pub marks : List Bool
  pub numbers : List (Option ℕ)

-- whether a read has another answer than the world gives now
abbrev pub is_stale : WorldView → Read → Bool
is_stale w read = not (is_given (look w read.question) read.answer)

-- the marks of reads in a world
abbrev pub marks_in : WorldView → List Read → List Bool
marks_in w reads = map (is_stale w) reads

-- the marks once each read of a topic was compared with the world
abbrev pub looked_again : WorldView → Topic → List Read → List Bool → List Bool
looked_again w t [] marks = marks
looked_again w t (r ∷ rs) [] = []
looked_again w t (r ∷ rs) (m ∷ ms) = cond (is_on t r.question) (is_stale w r) m ∷ looked_again w t rs ms

-- whether no mark is set
abbrev pub is_clear : List Bool → Bool
is_clear marks = list_all not marks

-- how many of some reads are on a topic
abbrev pub reads_on : Topic → List Read → ℕ
reads_on t reads = count_by (λ read. is_on t read.question) reads

-- how many reads of all records are
abbrev pub reads_of : Topic → List RecordView → ℕ
reads_of t shelf = sum_by (λ r. reads_on t r.reads) shelf

-- a record once each of its reads of a topic was compared with the world
abbrev pub looked : WorldView → Topic → MarkedView → MarkedView
looked w t m = record m { marks = looked_again w t m.record_of.reads m.marks }

-- all records then
abbrev pub all_looked : WorldView → Topic → List (TestId × MarkedView) → List (TestId × MarkedView)
all_looked w t es = map (λ e. (e.0, looked w t e.1)) es

-- the records alone
abbrev pub shelf_of : List (TestId × MarkedView) → List RecordView
shelf_of es = map (λ e. e.1.record_of) es

-- a count that stays at its last value
abbrev pub counted : ℕ → ℕ → ℕ
counted count more = min (count + more) (2 ^ 64 - 1)
