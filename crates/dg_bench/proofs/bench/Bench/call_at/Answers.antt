use Rattle.std.proofs.Common.{ℕ, List, sym, subst}
use Rattle.dg_bench.specs.Cells.{Sees}
use Rattle.dg_bench.specs.Seen.{IsTold}
use Rattle.dg_bench.specs.declared.note.PlaceNote.{PlaceNote}
use Rattle.dg_bench.proofs.bench.Bench.call_at.Goals as goal

pub place-requires : goal.place-requires
place-requires g c =
    let told = subst (λ n. IsTold g.B.Room.names c.receipt.inside.number n) c.in-Some.is c.receipt.invariant in
    record { known = (told.0, subst (λ (names : List ℕ). Sees names c.receipt.inside.number c.in-Some.note told.0) (sym c.self.invariant) told.1) }

pub invariant_of-receipt-2 : goal.invariant_of-receipt-2
invariant_of-receipt-2 g c =
    let told = subst (λ n. IsTold g.B.Room.names c.receipt.inside.number n) c.in-Some.is c.receipt.invariant in
    (told.0, subst (λ (n : PlaceNote). Sees g.B.Room.names c.receipt.inside.number n told.0) (sym c.place.ensures.same) told.1)
