use Rattle.std.proofs.Common.{◌∙◌, take, take_all, length, ap, sym, arith}
use Rattle.std.specs.Prelude.{slice_set}
use Rattle.dg_index.specs.Marks.{is_stale}
use Rattle.dg_index.proofs.MarksLemmas.{looked_at, looked_at-length, looked_at-more, looked_at-all, told-stale}
use Rattle.dg_index.proofs.marked.look.Goals as goal

pub put-requires : goal.put-requires
put-requires c =
    omega (arith, ap length c.loop-place.invariant, looked_at-length c.args.world.now (take c.loop-place.place c.args.reads.now) c.args.marks.now)

pub loop-place-preserved : goal.loop-place-preserved
loop-place-preserved c =
    let w = c.args.world.now in
    let i = c.loop-place.place in
    let read = c.index-reads-place.result in
    c.put.ensures ∙ ap (slice_set c.loop-place.marks i) (told-stale c.agrees_with-agrees.result w read c.agrees_with-agrees.ensures)
    ∙ ap (λ ms. slice_set ms i (is_stale w read)) c.loop-place.invariant
    ∙ sym (looked_at-more w c.args.reads.now c.args.marks.now i read c.loop-place-test.true c.requires c.index-reads-place.is)

pub returns : goal.returns
returns c =
    c.loop-place.invariant ∙ ap (λ rs. looked_at c.args.world.now rs c.args.marks.now) (take_all c.loop-place.place c.args.reads.now c.loop-place-test.false)
    ∙ looked_at-all c.args.world.now c.args.reads.now c.args.marks.now c.requires
