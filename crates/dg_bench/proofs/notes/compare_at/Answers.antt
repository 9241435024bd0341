use Rattle.std.proofs.Common.{◌≡◌, ◌∙◌, subst, IfSome}
use Rattle.std.proofs.lemmas.Option.{get_or_from_slice_get, slice_get_read}
use Rattle.once_cell.specs.Once.{Agrees}
use Rattle.dg_bench.specs.declared.note.PlaceNote.{PlaceNote}
use Rattle.dg_bench.proofs.notes.compare_at.Goals as goal

pub compare-requires : goal.compare-requires
compare-requires c =
    let at = slice_get_read c.args.notes.now.items _ c.args.at c.index_mut.result.now c.args.notes.now.ok.0 c.requires.within c.index_mut.ensures.value in
    let known = c.requires.known c.index_mut.result.now at in
    (known.0, c.args.at, known.1, known.2, known.3, known.4)

pub returns-clause-agrees : goal.returns-clause-agrees
returns-clause-agrees c n at =
    let same : c.index_mut.result.now ≡ n = c.index_mut.ensures.value ∙ get_or_from_slice_get c.args.notes.now.items c.args.at n c.index_mut.result.now at in
    subst (λ (m : PlaceNote). IfSome c.args.other.place.known (Agrees m.place.known)) same c.compare.ensures.agrees
