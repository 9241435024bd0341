use Rattle.std.proofs.Common.{◌∙◌, refl, sym}
use Rattle.dg_language.specs.Boards.{do_flag}
use Rattle.dg_asking.proofs.TargetLemmas.{flag-none, flag-of, flag_on, flag-hits, flag-misses, asks-first, goes-with, keeps-called}
use Rattle.dg_asking.proofs.targets.run_flag.Goals as goal

pub returns-then-not-any_pattern : goal.returns-then-not-any_pattern
returns-then-not-any_pattern c =
    let none = sym c.any_pattern.ensures ∙ c.if-not-any_pattern.true in
    rw c.new.ensures ((λ k. flag-none c.args.which c.args.args.now c.args.state.now k none), (refl, refl, refl))

pub returns-in_default : goal.returns-in_default
returns-in_default c =
    let some = sym c.any_pattern.ensures ∙ c.if-not-any_pattern.false in
    let none = sym c.in_default.ensures in
    ((λ k. asks-first _ (flag_on c.args.which c.args.args.now) (do_flag c.args.which c.args.args.now) (flag-of _ _ some) _ k none), refl, none)

pub returns-then-not-is_flagged : goal.returns-then-not-is_flagged
returns-then-not-is_flagged c =
    let s = c.args.state.now in
    let some = sym c.any_pattern.ensures ∙ c.if-not-any_pattern.false in
    let misses = sym c.is_flagged.ensures ∙ c.if-not-is_flagged.true in
    rw c.new-then-not-is_flagged.ensures (
      λ k. goes-with _ (flag_on c.args.which c.args.args.now) (do_flag c.args.which c.args.args.now) (flag-of _ _ some) s k c.in-Some.answer.now (sym c.in-Some.ensures)
          ∙ flag-misses c.args.which c.args.args.now c.in-Some.answer.now c.triplet_of.result.now c.triplet_of.ensures s k misses,
      (refl, refl, refl),
    )

pub returns : goal.returns
returns c =
    let s = c.args.state.now in
    let some = sym c.any_pattern.ensures ∙ c.if-not-any_pattern.false in
    let hits = sym c.is_flagged.ensures ∙ c.if-not-is_flagged.false in
    rw (c.new-2.ensures, c.in_ok-add_call.ensures, c.flag_call.ensures) (
      λ k. goes-with _ (flag_on c.args.which c.args.args.now) (do_flag c.args.which c.args.args.now) (flag-of _ _ some) s k c.in-Some.answer.now (sym c.in-Some.ensures)
          ∙ flag-hits c.args.which c.args.args.now c.in-Some.answer.now c.triplet_of.result.now c.triplet_of.ensures s k hits,
      keeps-called _ s,
    )
