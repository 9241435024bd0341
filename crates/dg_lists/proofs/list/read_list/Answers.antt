use Rattle.std.proofs.Common.{◌≡◌, ◌+◌, arith, sym, ◌∙◌, get_or, inl, inr, ap, Ok, Err}
use Rattle.dg_lists.specs.Elements.{list_step, elements_of, without_place}
use Rattle.dg_lists.specs.ListRuns.{Passes}
use Rattle.dg_lists.proofs.Listing.{list_move, list_halt, step_depth}
use Rattle.dg_lists.proofs.list.read_list.Goals as goal

pub pass-requires-clause-deep : goal.pass-requires-clause-deep
pass-requires-clause-deep c =
    let s = c.loop-place.listing in
    let b = get_or c.args.text.now c.loop-place.place 0 in
    let took : list_step s b ≡ Ok c.step.new.self = c.in-Ok.ensures in
    omega (arith, step_depth s c.step.new.self b took, c.loop-place.invariant.deep)

pub loop-place-preserved : goal.loop-place-preserved
loop-place-preserved c =
    let s = c.loop-place.listing in
    let b = get_or c.args.text.now c.loop-place.place 0 in
    let took : list_step s b ≡ Ok c.step.new.self = c.in-Ok.ensures in
    let falls = step_depth s c.step.new.self b took in
    let run : Passes c.args.text.now (c.loop-place.place + 1) c.step.new.self c.in_ok-place-in-Ok.place c.pass.new.self = c.in_ok-place-in-Ok.ensures in
    let deep = run.deep in
    let before = c.loop-place.invariant.deep in
    record {
      reads = sym run.reads ∙ sym (list_move c.args.text.now s c.loop-place.place (Ok c.step.new.self) (omega (arith, c.loop-place-test.true)) took) ∙ c.loop-place.invariant.reads;
      within = run.within;
      deep = omega arith;
    }

pub returns-in-Err : goal.returns-in-Err
unfolding elements_of
returns-in-Err c =
    elim c.in-Err.ensures [
      | inl m ↦ inl m
      | inr e ↦ inr (ap without_place (sym c.loop-place.invariant.reads ∙ list_move c.args.text.now c.loop-place.listing c.loop-place.place (Err c.in-Err.fault) (omega (arith, c.loop-place-test.true)) e))
    ]

pub returns-in-Ok-stop : goal.returns-in-Ok-stop
unfolding elements_of
returns-in-Ok-stop c =
    ap without_place (sym c.loop-place.invariant.reads ∙ list_halt c.args.text.now c.loop-place.listing c.loop-place.place (Ok c.in-Ok-stop.elements) (omega (arith, c.loop-place-test.false)) c.in-Ok-stop.ensures)

pub returns-in-Err-stop : goal.returns-in-Err-stop
unfolding elements_of
returns-in-Err-stop c =
    elim c.in-Err-stop.ensures [
      | inl m ↦ inl m
      | inr e ↦ inr (ap without_place (sym c.loop-place.invariant.reads ∙ list_halt c.args.text.now c.loop-place.listing c.loop-place.place (Err c.in-Err-stop.fault) (omega (arith, c.loop-place-test.false)) e))
    ]
