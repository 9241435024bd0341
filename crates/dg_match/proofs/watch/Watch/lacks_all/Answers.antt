use Rattle.std.proofs.Common.{ℕ, List, Vec, Global, arith, subst}
use Rattle.std.proofs.lemmas.List.Elements.{All-map}
use Rattle.dg_match.specs.Literals.{IsNowhere}
use Rattle.dg_match.proofs.NeedsLemmas.{one_more}
use Rattle.dg_match.proofs.watch.Watch.lacks_all.Goals as goal

pub loop-text-init : goal.loop-text-init
loop-text-init c = record { passed = c.requires; nowhere = λ k d low. absurd (omega arith) }

pub finds-requires : goal.finds-requires
finds-requires c = c.loop-text.invariant.passed

pub loop-text-preserved : goal.loop-text-preserved
loop-text-preserved c = record {
  passed = c.in_ok-finds.ensures.passed;
  nowhere =
      one_more (λ (v : Vec ℕ Global). IsNowhere v.items c.args.bytes.now) c.args.texts.now c.loop-text.text-index c.text-item.result c.loop-text-test.true c.text-item.is
      (subst (λ (t : List ℕ). IsNowhere t c.args.bytes.now) c.as_slice.ensures.value (c.in_ok-finds.ensures.nowhere c.if-branch.false)) c.loop-text.invariant.nowhere;
}

pub returns-clause-nowhere : goal.returns-clause-nowhere
returns-clause-nowhere c = λ _.
    All-map (λ t. IsNowhere t c.args.bytes.now) (λ (v : Vec ℕ Global). v.items) c.args.texts.now
    (λ k d low. c.loop-text.invariant.nowhere k d (omega (arith, c.loop-text-test.false, c.loop-text.auto.text-index-end)))

pub returns-clause-passed : goal.returns-clause-passed
returns-clause-passed c = c.loop-text.invariant.passed
