-- What a selection is answered, by what its words select.
use Rattle.std.proofs.Common.{◌≡◌, ℕ, List, Some, None, inl, inr, ap, sym, subst}
use Rattle.dg_core.specs.Core.{CoreView}
use Rattle.dg_line.specs.Select.{selection_by}
use Rattle.dg_world.specs.declared.edit.Edit.TheVariants.{Select}
use Rattle.dg_world.specs.declared.selection.Selection.{Selection}
use Rattle.dg_session.specs.declared.answer.LineAnswer.{LineAnswer}
use Rattle.dg_session.specs.declared.answer.LineAnswer.TheVariants as answer
use Rattle.dg_session.specs.declared.request.Request.TheVariants as request
use Rattle.dg_session.specs.Session.{AnswersEdit, AnswersOne, Follows, Selects}

-- words that select: the edit's answer
pub selects : (old new : CoreView) (words : List (List ℕ)) (selection : Selection) (given : LineAnswer) → Some selection ≡ selection_by words → AnswersEdit old new (Select selection) given → AnswersOne old new (request.Select words) given
unfolding Follows
selects old new words selection given e (inl made) = inl (subst (λ o. Selects old o new given) e made)
selects old new words selection given e (inr (memory, is)) = inr (inl (ap (λ g. Some g) (sym is)))

-- words that select nothing
pub selects_nothing : (old new : CoreView) (words : List (List ℕ)) (number : ℕ) → None ≡ selection_by words → new ≡ old → number ≡ 6 → AnswersOne old new (request.Select words) (answer.Refused number)
unfolding Follows
selects_nothing old new words number e same six =
    inl (subst (λ o. Selects old o new (answer.Refused number)) e (same, ap (λ n. answer.Refused n) six))

-- memory ran out
pub selects_short : (old new : CoreView) (words : List (List ℕ)) (number : ℕ) → number ≡ 8 → AnswersOne old new (request.Select words) (answer.Refused number)
selects_short old new words number eight = inr (inl (ap (λ n. Some (answer.Refused n)) (sym eight)))
