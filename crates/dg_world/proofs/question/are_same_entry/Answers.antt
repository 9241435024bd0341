use Rattle.std.proofs.Common.{sym, ◌∙◌, ◌≡◌, true, subst}
use Rattle.dg_world.specs.Entries.{same_entry}
use Rattle.dg_world.proofs.AnswerLemmas.{entry_eq, entry-refl, entry-true}
use Rattle.dg_world.proofs.question.are_same_entry.Goals as goal

pub returns : goal.returns
returns c =
    let test = c.eq.ensures ∙ entry_eq c.args.one.now c.args.two.now in
    (λ h. entry-true _ _ (sym test ∙ h), λ e. test ∙ subst (λ x. same_entry c.args.one.now x ≡ true) e (entry-refl c.args.one.now))
