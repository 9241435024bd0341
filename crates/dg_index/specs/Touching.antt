-- What reads a topic, among the kept records.
use Rattle.std.specs.Prelude.{◌≡◌, ℕ, suc, Bool, false, List, [], ◌∷◌}
use Rattle.dg_records.specs.Truth.{RecordView}
use Rattle.dg_index.specs.declared.topic.Topic.{Topic}
use Rattle.dg_index.specs.Marks.{reads_on}

-- no record but those whose place passes the test reads a topic
abbrev pub OnlyTheseRead : (ℕ → Bool) → Topic → List RecordView → Type 0
OnlyTheseRead at t [] = Unit {0}
OnlyTheseRead at t (r ∷ rs) = (at 0 ≡ false → reads_on t r.reads ≡ 0) × OnlyTheseRead (λ k. at (suc k)) t rs
