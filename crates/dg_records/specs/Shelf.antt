-- Records that are kept, one for each test, in the order in which the tests first had one.
use Rattle.std.specs.Prelude.{◌≡◌, if◌then◌else◌, Option, List, [], ◌∷◌, find}
use Rattle.dg_world.specs.Test.{same_test}
use Rattle.dg_world.specs.declared.test_id.TestId.{TestId}
use Rattle.dg_records.specs.Truth.{RecordView}

-- the record of a test
abbrev pub kept : List RecordView → TestId → Option RecordView
kept shelf t = find (λ r. same_test t r.test) shelf

-- the shelf with a record, in the place of the one that its test had, or last
abbrev pub with_record : List RecordView → RecordView → List RecordView
with_record [] r = r ∷ []
with_record (x ∷ xs) r = if same_test r.test x.test then r ∷ xs else x ∷ with_record xs r

-- a record was kept on the shelf `before`, which had `previous` of its test and is now `after`
pub record Exchanges (before : List RecordView) (newest : RecordView) (previous : Option RecordView) (after : List RecordView) : Type 0 where
  pub had : previous ≡ kept before newest.test
  pub shelf : after ≡ with_record before newest
