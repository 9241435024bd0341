-- Cells of places, in blocks.
use Rattle.std.specs.Prelude.{ℕ, ◌≡◌, ◌/◌, ◌%◌, List, slice_get, Some}
use Rattle.once_cell.specs.declared.race.note.Note.{Note}
use Rattle.dg_bench.specs.declared.cells.TheConstants.{BLOCK}
use Rattle.dg_bench.specs.declared.note.PlaceNote.{PlaceNote}
use Rattle.dg_bench.specs.declared.place.Place.{Place}

-- how many places there are, and the names of the cells of their blocks
pub record Named : Type 0 where
  pub limit : ℕ
  pub names : List ℕ

-- the note is of the block of the k-th place, and knows that it is there
pub record HasBlock (names : List ℕ) (k : ℕ) (n : Note (List ℕ)) : Type 0 where
  pub cells : List ℕ
  pub block : slice_get names (k / BLOCK) ≡ Some n.cell
  pub block_holds : n.known ≡ Some cells

-- The note is of the k-th place of blocks whose cells have these names: it knows the names of the cells of its block, its
-- own among them, and that its place holds p.
pub record Sees (names : List ℕ) (k : ℕ) (n : PlaceNote) (p : Place) : Type 0 where
  pub cells : List ℕ
  pub block : slice_get names (k / BLOCK) ≡ Some n.block.cell
  pub block_holds : n.block.known ≡ Some cells
  pub cell : slice_get cells (k % BLOCK) ≡ Some n.place.cell
  pub holds : n.place.known ≡ Some p
