-- An index: the places of the records that read a topic.
use Rattle.std.specs.Prelude.{ℕ, suc, Bool, List, [], ◌∷◌, ◌≡◌, ◌⊎◌, true, false, Option, Some, IsTrue, MatchOption, nat_eq, unwrap_or}
use Rattle.std.specs.Borrow.{Bor}
use Rattle.std.specs.List.{list_any, IsDistinct}
use Rattle.std.specs.Map.{lookup}
use Rattle.dg_world.specs.declared.question.Read.{Read}
use Rattle.dg_world.specs.declared.test_id.TestId.{TestId}
use Rattle.dg_index.specs.declared.index.Named.{Named}
use Rattle.dg_index.specs.declared.topic.Topic.{Topic}
use Rattle.dg_index.specs.declared.topic.Topic.TheVariants as topic
use Rattle.dg_index.specs.Marks.{MarkedView, reads_on}
use Rattle.dg_index.specs.Topic.{same_topic, topic_of}

-- each topic with the places of records that may read it
abbrev pub IndexView : Type 0
IndexView = List (Topic × List ℕ)

-- the places that it names for a topic
abbrev pub readers_of : IndexView → Topic → List ℕ
readers_of index t = unwrap_or (lookup (same_topic t) index) []

-- whether a place is among some places
abbrev pub is_among : List ℕ → ℕ → Bool
is_among places place = list_any (nat_eq place) places

-- each place that one index names for a topic, the other names too
abbrev pub NamesMore : IndexView → IndexView → Type 0
NamesMore few more = (t : Topic) (place : ℕ) → IsTrue (is_among (readers_of few t) place) → IsTrue (is_among (readers_of more t) place)

-- a topic is one of those that are told: the selection, or the last of the others
abbrev pub IsOneOf : Named → Topic → Type 0
IsOneOf told t = ((t ≡ topic.Selection) × (told.selection ≡ true)) ⊎ (told.last ≡ Some t)

-- one topic more
abbrev pub with_topic : Named → Topic → Named
with_topic told topic.Selection = record told { selection = true }
with_topic told t = record told { last = Some t }

-- the index names a place for each topic that is told
abbrev pub AreNamed : IndexView → ℕ → Named → Type 0
AreNamed index place told = (t : Topic) → IsOneOf told t → IsTrue (is_among (readers_of index t) place)

-- the index names a place for the topic of each read
abbrev pub NamesReads : IndexView → ℕ → List Read → Type 0
NamesReads index place [] = Unit {0}
NamesReads index place (r ∷ rs) = IsTrue (is_among (readers_of index (topic_of r.question)) place) × NamesReads index place rs

-- the index names each record's place, counted from this one, for the topic of each of its reads
abbrev pub NamesAll : IndexView → ℕ → List (TestId × MarkedView) → Type 0
NamesAll index first [] = Unit {0}
NamesAll index first (e ∷ es) = NamesReads index first e.1.record_of.reads × NamesAll index (suc first) es

-- what is found for a topic: nothing, or the topic with its places, each once
abbrev pub Finds : IndexView → Topic → Option (Bor Topic × Bor (List ℕ)) → Type 0
Finds index t found = MatchOption found (readers_of index t ≡ []) (λ r. (r.0.now ≡ t) × (r.1.now ≡ readers_of index t) × IsDistinct nat_eq r.1.now)

-- no record but those whose place passes the test reads a topic
abbrev pub NoneElseReads : (ℕ → Bool) → Topic → List (TestId × MarkedView) → Type 0
NoneElseReads at t [] = Unit {0}
NoneElseReads at t (e ∷ es) = (at 0 ≡ false → reads_on t e.1.record_of.reads ≡ 0) × NoneElseReads (λ k. at (suc k)) t es
