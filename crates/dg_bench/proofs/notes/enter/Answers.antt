use Rattle.std.proofs.Common.{◌≡◌, ◌∙◌, ℕ, length, sym, subst}
use Rattle.dg_bench.specs.Cells.{Sees}
use Rattle.dg_bench.specs.declared.note.PlaceNote.{PlaceNote}
use Rattle.dg_bench.proofs.Places.{entered}
use Rattle.dg_bench.proofs.notes.enter.Goals as goal

pub of_note-requires : goal.of_note-requires
of_note-requires g c =
    let sees = subst (λ (names : _). Sees names c.len-number.result c.in-Some.note c.args.place.value) c.requires.cells c.in-Some.ensures in
    (c.args.place.value, subst (λ (n : PlaceNote). Sees g.B.Room.names c.len-number.result n c.args.place.value) (sym c.again.ensures.0) sees)

pub returns-clause-all : goal.returns-clause-all
returns-clause-all g c =
    let number : c.len-number.result ≡ length c.args.calls.now.items = c.len-number.ensures ∙ c.args.calls.now.ok.0 in
    let sees = subst (λ (names : _). Sees names c.len-number.result c.in-Some.note c.args.place.value) c.requires.cells c.in-Some.ensures in
    rw (c.push_reserved-2.ensures.items, c.push_reserved.ensures.items, c.again.ensures.1)
    (entered _ _ _ _ c.args.place.value _ c.requires.all (subst (λ (k : ℕ). Sees g.B.Room.names k c.in-Some.note c.args.place.value) number sees) c.requires.call c.requires.before)
