use Rattle.std.proofs.Common.{◌≡◌, ◌∷◌, [], ap, ◌∙◌}
use Rattle.dg_language.specs.declared.substitution.Substitution.TheVariants.{WordEnds}
use Rattle.dg_compiled.proofs.TextLemmas.{two-of, one-word}
use Rattle.dg_compiled.proofs.texts.one_value.Goals as goal

pub returns : goal.returns
returns c =
    let ends : c.index-steps-1.result ≡ WordEnds = rw c.if-not-ends_word.false at c.ends_word.ensures in
    let steps = two-of c.args.steps.now _ _ c.if-steps-ne2.false c.index-steps-0.is c.index-steps-1.is ∙ ap (λ y. c.index-steps-0.result ∷ y ∷ []) ends in
    one-word c.args.state.now c.args.steps.now _ steps c.short_text.result (λ a. a.now) c.short_text.ensures.text c.short_text.ensures.short
