use Rattle.std.proofs.Common.{◌++◌, ◌∷◌, [], ap, ◌∙◌}
use Rattle.dg_forms.proofs.StepLemmas.{added-nested}
use Rattle.dg_forms.proofs.substitute.push_word.Goals as goal

pub returns : goal.returns
returns c = c.in_ok-push.ensures.ok ∙ ap (λ t. t ++ c.args.end ∷ []) (added-nested _ _ _ c.in_ok-push_parts.ensures)
