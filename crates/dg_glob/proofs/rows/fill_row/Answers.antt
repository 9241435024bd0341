use Rattle.std.proofs.Common.{◌≡◌, ◌+◌, ◌-◌, arith, length, drop, sym, ap, ◌∙◌, le-leb}
use Rattle.std.proofs.lemmas.Bool.{leb-true}
use Rattle.std.proofs.lemmas.List.{take_rest}
use Rattle.dg_glob.specs.Rows.{last, cell}
use Rattle.dg_glob.proofs.RowLemmas.{row_begins, row_grows}
use Rattle.dg_glob.proofs.rows.fill_row.Goals as goal

pub loop-place-init : goal.loop-place-init
loop-place-init c =
    row_begins c.args.limit c.args.pattern.now c.args.text.now c.mark.new.marks _ (leb-true _ _, le-leb _ _) c.mark.ensures.same

pub loop-place-preserved : goal.loop-place-preserved
loop-place-preserved c =
    let p = c.args.pattern.now in
    let i = c.loop-place.place in
    let at : length p - 1 - i ≡ length p - (i + 1) = omega arith in
    let end : last (i + 1) p ≡ drop (length p - 1 - i) p = ap (λ k. drop k p) (sym at) in
    row_grows c.args.limit i p c.args.text.now c.args.later.now c.loop-place.row c.mark-in-loop-place.new.marks c.cell-on.result c.loop-place-test.true c.loop-place.invariant c.requires.later
    (c.cell-on.ensures ∙ ap (λ y. cell y c.args.text.now c.args.later.now c.is_marked-here.result) (take_rest p (length p - 1 - i) ∙ sym end) ∙ ap (cell (last (i + 1) p) c.args.text.now c.args.later.now) c.is_marked-here.ensures)
    c.mark-in-loop-place.ensures.same c.mark-in-loop-place.ensures.others
