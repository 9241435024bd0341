use Rattle.std.proofs.Common.{◌∙◌, ap, refl}
use Rattle.dg_language.specs.State.{assigned}
use Rattle.dg_language.specs.Variables.{or_empty, store}
use Rattle.dg_language.proofs.TouchLemmas.{within-short, within-long}
use Rattle.dg_asking.proofs.variables.append_text.Goals as goal

pub returns-then-not-branch : goal.returns-then-not-branch
unfolding store
returns-then-not-branch c =
    let long = rw c.if-not-branch.true at c.in_ok-append_text.ensures in
    rw long.1 ((λ k. within-long _ _ _ long.0), (refl, refl, refl))

pub returns : goal.returns
unfolding store assigned
returns c =
    let grown = rw c.if-not-branch.false at c.in_ok-append_text.ensures in
    let value = c.in_ok-value.ensures ∙ ap or_empty (c.value_of.ensures ∙ grown.1) in
    rw (value, grown.0) ((λ k. within-short _ _ _ grown.2), (refl, refl, refl))
