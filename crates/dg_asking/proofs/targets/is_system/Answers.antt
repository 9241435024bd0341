use Rattle.std.proofs.Common.{refl, sym}
use Rattle.dg_language.specs.Boards.{do_is}
use Rattle.dg_asking.proofs.AttemptLemmas.{miscounts}
use Rattle.dg_asking.proofs.TargetLemmas.{told_place, is-miscounted, is-of, asks-first, goes-with}
use Rattle.dg_asking.proofs.targets.is_system.Goals as goal

pub returns-in_default : goal.returns-in_default
returns-in_default c = miscounts c.miscounted.result _ _ _ c.miscounted.ensures (is-miscounted _ _ _ (sym c.in_default.ensures))

pub returns-in_default-answer_about : goal.returns-in_default-answer_about
returns-in_default-answer_about c =
    let none = sym c.in_default-answer_about.ensures in
    ((λ k. asks-first _ (told_place c.in-Some.pattern.now) (do_is c.args.system c.args.name.now c.args.args.now) (is-of _ _ _ _ c.in-Some.ensures) _ k none), refl, none)

pub returns : goal.returns
returns c =
    let f = do_is c.args.system c.args.name.now c.args.args.now in
    rw (c.in_ok-value.ensures, c.truth_text.ensures, c.glob_matches-holds.ensures.value, c.as_slice.ensures, c.triplet_of.ensures)
    ((λ k. goes-with _ (told_place c.in-Some.pattern.now) f (is-of _ _ _ _ c.in-Some.ensures) c.args.state.now k _ (sym c.in-Some-answer_about.ensures)), (refl, refl, refl))
