-- What a note of a place tells once its cells were read.
use Rattle.std.proofs.Common.{◌≡◌, ◌∙◌, List, ℕ, Option, Some, ap, ap₂, sym, subst, IfSome}
use Rattle.once_cell.specs.Once.{Agrees}
use Rattle.once_cell.specs.declared.race.note.Note.{Note}
use Rattle.dg_bench.specs.declared.note.PlaceNote.{PlaceNote}
use Rattle.dg_bench.specs.declared.place.Place.{Place}

module _ {X : Type 0} where
  -- a note that knew a value knows the same once its cell was read
  same_known : (new old : Note X) (x y : X) → new.cell ≡ old.cell → old.known ≡ Some x → new.known ≡ Some y → Agrees old.known y → new ≡ old
  same_known new old x y cell knew knows agrees =
      let same : x ≡ y = subst (λ (o : Option X). IfSome o (λ z. z ≡ y)) knew agrees in
      let known : new.known ≡ old.known = knows ∙ (ap (λ (z : X). Some z) (sym same) ∙ sym knew) in
      ap₂ (λ (a : ℕ) (k : Option X). record old { cell = a; known = k }) cell known

pub same_note : (block old_block : Note (List ℕ)) (place old_place : Note Place) (cells read : List ℕ) (p q : Place) → block.cell ≡ old_block.cell → place.cell ≡ old_place.cell
    → old_block.known ≡ Some cells → block.known ≡ Some read → Agrees old_block.known read → old_place.known ≡ Some p → place.known ≡ Some q → Agrees old_place.known q
    → ◌≡◌ {A = PlaceNote} (record { block = block; place = place }) (record { block = old_block; place = old_place })
same_note block old_block place old_place cells read p q one two knew knows agrees had has same =
    let b = same_known block old_block cells read one knew knows agrees in
    let c = same_known place old_place p q two had has same in
    cc
