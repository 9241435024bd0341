use Rattle.std.proofs.Common.{sym, ◌∙◌}
use Rattle.dg_world.proofs.AnswerLemmas.{same_answer-refl, same_answer-true, answer_eq}
use Rattle.dg_world.proofs.question.Answer.is.Goals as goal

pub returns-clause-test : goal.returns-clause-test
returns-clause-test c = c.eq.ensures ∙ answer_eq c.args.self.now c.args.other.now

pub returns-clause-equal : goal.returns-clause-equal
returns-clause-equal c =
    let test = c.eq.ensures ∙ answer_eq c.args.self.now c.args.other.now in
    (λ h. same_answer-true _ _ (sym test ∙ h), λ e. test ∙ same_answer-refl _ _ e)
