use Rattle.std.proofs.Common.{ℕ, List, Vec, Global, map, subst, sym}
use Rattle.std.specs.List.{All}
use Rattle.std.proofs.lemmas.List.Elements.{All-get_or}
use Rattle.regex_extract.specs.Needles.{needles_of}
use Rattle.dg_match.specs.Literals.{IsNowhere}
use Rattle.dg_match.specs.Needs.{NeedsOneOf}
use Rattle.dg_match.proofs.watch.Watch.lacks.Goals as goal

pub loop-texts-init : goal.loop-texts-init
loop-texts-init c = rw c.turn_to.ensures c.requires

pub lacks_all-requires : goal.lacks_all-requires
lacks_all-requires c = c.loop-texts.invariant

pub returns-then-branch-clause-none : goal.returns-then-branch-clause-none
returns-then-branch-clause-none c = λ _ text all.
    let P : Vec (Vec ℕ Global) Global → Type 0 = λ s. NeedsOneOf text (needles_of s) in
    let Q : List (Vec ℕ Global) → Type 0 = λ vs. All (λ t. IsNowhere t c.args.bytes.now) (map (λ v. v.items) vs) in
    let sets = subst (All P) (sym c.deref-texts-items.ensures.value) all in
    let needs = subst P (sym c.texts-item.is) (All-get_or P c.deref-texts-items.result.now c.loop-texts.texts-index c.texts-item.result c.loop-texts-test.true sets) in
    needs c.args.bytes.now (λ k. (c.type_inv.bytes k).fits) (subst Q c.as_slice.ensures.value (c.in_ok-lacks_all.ensures.nowhere c.if-branch.true))

pub returns-then-branch-clause-passed : goal.returns-then-branch-clause-passed
returns-then-branch-clause-passed c = c.in_ok-lacks_all.ensures.passed

pub loop-texts-preserved : goal.loop-texts-preserved
loop-texts-preserved c = c.in_ok-lacks_all.ensures.passed

pub returns-clause-passed : goal.returns-clause-passed
returns-clause-passed c = c.loop-texts.invariant
