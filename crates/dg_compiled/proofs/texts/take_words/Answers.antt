use Rattle.std.proofs.Common.{◌≡◌, ◌+◌, ◌∷◌, ap, ◌∙◌, drop, arith}
use Rattle.dg_language.specs.declared.substitution.Substitution.TheVariants.{WordEnds}
use Rattle.dg_compiled.proofs.TextLemmas.{two-at, word-goes}
use Rattle.dg_compiled.proofs.texts.take_words.Goals as goal

pub words-preserved : goal.words-preserved
words-preserved c =
    let ends : c.index-steps-at.result ≡ WordEnds = rw c.if-not-ends_word.false at c.ends_word.ensures in
    let text = rw c.in-Some.is at c.short_text.ensures.text in
    let short = rw c.in-Some.is at c.short_text.ensures.short in
    let here = two-at c.args.steps.now c.words.at _ _ (omega (arith, c.words-test.true)) c.index-steps-at-in-words.is c.index-steps-at.is
    ∙ ap (λ y. c.index-steps-at-in-words.result ∷ y ∷ drop (c.words.at + 2) c.args.steps.now) ends in
    rw (c.in_ok-push.ensures.ok, c.in_ok-copy.ensures)
    ((λ d k. word-goes c.words.making d _ k _ _ _ _ c.words.invariant.3 text short here ∙ c.words.invariant.0 d k), omega (arith, c.words-test.true), c.words.invariant.2, c.words.invariant.3)
