use Rattle.std.proofs.Common.{refl, subst}
use Rattle.dg_machine.specs.Evaluating.{NeedsNext}
use Rattle.dg_machine.proofs.EvaluationLemmas.{stands, needs, ends}
use Rattle.dg_machine.proofs.evaluation.arrive.Goals as goal

pub invariant_of-result : goal.invariant_of-result
invariant_of-result c =
    let come = rw c.in-AtQuestion.is at c.requires in
    stands _ _ _ c.args.machine come.1 come.2

pub returns-in-AtQuestion : goal.returns-in-AtQuestion
returns-in-AtQuestion c =
    rw c.in-AtQuestion.is
    (λ old k h. (subst (λ reads. NeedsNext c.args.test reads c.in-AtQuestion.ask) h.1 (needs _ _ _ (stands _ _ _ c.args.machine k h)), refl, h.1), refl)

pub returns-in-Lost : goal.returns-in-Lost
returns-in-Lost c = rw c.in-Lost.is (λ old k h. h, tt)

pub returns-in_ok-reads-in-AtEnd : goal.returns-in_ok-reads-in-AtEnd
returns-in_ok-reads-in-AtEnd c =
    rw (
      c.in-AtEnd.is,
      c.in_ok-reads-in-AtEnd.ensures,
      c.steps-steps.ensures,
      c.board_steps-board_steps.ensures,
      c.into_parts-state.ensures,
      c.into_inner-verdict.ensures,
      c.into_inner.ensures,
    ) (λ old k h. (ends _ _ _ c.args.machine k h, refl, h.1), tt)
