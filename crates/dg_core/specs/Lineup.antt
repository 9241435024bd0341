-- The lineup of a core: the selected tests in order, the places of their records as far as they are known, and which of the
-- tests may be pending.
use Rattle.std.specs.Prelude.{◌≡◌, ◌<◌, ℕ, Bool, true, false, List, [], ◌∷◌, length, Option, Some, None, Ok, IfSome, IsTrue, slice_get, unwrap_or}
use Rattle.std.specs.List.{list_any}
use Rattle.std.specs.BTreeMap.{is_at}
use Rattle.std.specs.Ordering.{nat_cmp}
use Rattle.dg_world.specs.World.{WorldView, edited, selected}
use Rattle.dg_world.specs.declared.edit.Edit.{Edit}
use Rattle.dg_world.specs.declared.edit.Edit.TheVariants.{PutFile, RemoveFile, Select, PutTranscript, DropTranscript}
use Rattle.dg_world.specs.declared.test_id.TestId.{TestId}
use Rattle.dg_records.specs.Truth.{RecordView}
use Rattle.dg_index.specs.Index.{is_among}
use Rattle.dg_index.specs.Kept.{is_held, place_of}
use Rattle.dg_core.specs.declared.lineup.Lineup.{Lineup}
use Rattle.dg_core.specs.declared.openings.Openings.{Openings}

-- a place, where it is known, is that of the record of a test
abbrev pub IsPlace : List RecordView → TestId → Option ℕ → Type 0
IsPlace shelf t None = Unit {0}
IsPlace shelf t (Some place) = place_of shelf t ≡ Some place

-- each of these places is that of the record of the test beside it
abbrev pub ArePlaces : List RecordView → List TestId → List (Option ℕ) → Type 0
ArePlaces shelf [] places = Unit {0}
ArePlaces shelf (t ∷ ts) [] = ⊥
ArePlaces shelf (t ∷ ts) (place ∷ places) = IsPlace shelf t place × ArePlaces shelf ts places

-- the place that stands here is known, and leads back here
abbrev pub LeadsBack : List (Option ℕ) → List (Option ℕ) → ℕ → Type 0
LeadsBack places positions at = (place : ℕ) × (slice_get places at ≡ Some (Some place)) × (slice_get positions place ≡ Some (Some at))

-- and so does each
abbrev pub AllLeadBack : List (Option ℕ) → List (Option ℕ) → Type 0
AllLeadBack places positions = (at : ℕ) → at < length places → LeadsBack places positions at

abbrev pub LeadBack : List (Option ℕ) → Openings → Type 0
LeadBack places o = AllLeadBack places o.positions

-- the selected tests of a world, and places of their records on a shelf
pub record IsLineup (w : WorldView) (shelf : List RecordView) (l : Lineup) : Type 0 where
  pub tests : l.tests ≡ selected w
  pub places : ArePlaces shelf l.tests l.places
  pub lead : IfSome l.openings (LeadBack l.places)

-- the place that a lineup has for the test that stands here in it, if it has one
abbrev pub place_in : Lineup → ℕ → Option ℕ
place_in l at = unwrap_or (slice_get l.places at) None

-- whether a position is open
abbrev pub is_open : Openings → ℕ → Bool
is_open o at = list_any (is_at (nat_cmp at)) o.opened.keys

-- each of these tests is held, but those at open positions
abbrev pub HoldsElsewhere : WorldView → List RecordView → List TestId → Openings → Type 0
HoldsElsewhere w shelf tests o = (at : ℕ) (t : TestId) → slice_get tests at ≡ Some t → is_open o at ≡ false → is_held w shelf t ≡ true

-- a lineup that leaves no pending test out
pub record IsCurrent (w : WorldView) (shelf : List RecordView) (l : Lineup) : Type 0 where
  pub lineup : IsLineup w shelf l
  pub held : IfSome l.openings (HoldsElsewhere w shelf l.tests)

-- and none of the world that an edit makes
pub record IsOpenTo (e : Edit) (w : WorldView) (shelf : List RecordView) (l : Lineup) : Type 0 where
  pub before : IsCurrent w shelf l
  pub after : (v : WorldView) → edited w e ≡ Ok v → IfSome l.openings (HoldsElsewhere v shelf l.tests)

-- what was open is, and so is the position of each test whose record stands at one of these places
pub record OpensAt (places : List ℕ) (old new : Openings) : Type 0 where
  pub positions : new.positions ≡ old.positions
  pub stays : (at : ℕ) → is_open old at ≡ true → is_open new at ≡ true
  pub opened : (place at : ℕ) → IsTrue (is_among places place) → slice_get old.positions place ≡ Some (Some at) → is_open new at ≡ true

-- the same lineup with openings, if it has any, of these places
pub record Opens (places : List ℕ) (old new : Lineup) : Type 0 where
  pub tests : new.tests ≡ old.tests
  pub places_stay : new.places ≡ old.places
  pub openings : IfSome new.openings (λ n. (o : Openings) × (old.openings ≡ Some o) × OpensAt places o n)

-- the same lineup with no position open
pub record IsClosedOf (old new : Lineup) : Type 0 where
  pub tests : new.tests ≡ old.tests
  pub places_stay : new.places ≡ old.places
  pub lead : IfSome new.openings (LeadBack new.places)
  pub none_open : IfSome new.openings (λ o. o.opened.keys ≡ [])

-- whether an edit leaves the selection as it is, and takes no file away
abbrev pub adds_at_most : Edit → Bool
adds_at_most (PutFile name bytes) = true
adds_at_most (RemoveFile name) = false
adds_at_most (Select selection) = false
adds_at_most (PutTranscript board script text) = true
adds_at_most (DropTranscript board script) = true
