use Rattle.std.proofs.Common.{◌∙◌, refl, sym}
use Rattle.dg_language.specs.Boards.{do_is_native}
use Rattle.dg_forms.proofs.Choices.{empty-if, some-if}
use Rattle.dg_asking.proofs.AttemptLemmas.{miscounts}
use Rattle.dg_asking.proofs.TargetLemmas.{native_on, native-miscounted, native-of, native-asks, native-known, asks-first}
use Rattle.dg_asking.proofs.targets.is_native.Goals as goal

pub returns-then-not-is_empty : goal.returns-then-not-is_empty
returns-then-not-is_empty c =
    let some = some-if c.args.args.now (sym c.is_empty.ensures ∙ c.if-not-is_empty.true) in
    miscounts c.miscounted.result _ _ _ c.miscounted.ensures (native-miscounted _ some)

pub returns-in_default : goal.returns-in_default
returns-in_default c =
    let empty = empty-if c.args.args.now (sym c.is_empty.ensures ∙ c.if-not-is_empty.false) in
    let none = sym c.in_default.ensures in
    ((λ k. asks-first _ native_on (do_is_native c.args.args.now) (native-of _ empty) _ k none), refl, none)

pub returns-in_default-answer_about : goal.returns-in_default-answer_about
returns-in_default-answer_about c =
    let empty = empty-if c.args.args.now (sym c.is_empty.ensures ∙ c.if-not-is_empty.false) in
    let none = sym c.in_default-answer_about.ensures in
    ((λ k. native-asks c.args.args.now empty c.in-Some.build.now c.args.state.now k (sym c.in-Some.ensures) none), refl, none)

pub returns : goal.returns
returns c =
    let empty = empty-if c.args.args.now (sym c.is_empty.ensures ∙ c.if-not-is_empty.false) in
    rw (c.in_ok-value.ensures, c.truth_text.ensures, c.eq-holds.ensures, c.triplet_of.ensures, c.triplet_of-2.ensures) (
      (λ k. native-known c.args.args.now empty c.in-Some.build.now c.args.state.now k c.in-Some-answer_about.target.now (sym c.in-Some.ensures)
          (sym c.in-Some-answer_about.ensures)),
      (refl, refl, refl),
    )
