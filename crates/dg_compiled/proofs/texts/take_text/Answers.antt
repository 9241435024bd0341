use Rattle.std.proofs.Common.{◌+◌, ◌≤◌, ◌∷◌, length, sym, refl}
use Rattle.dg_language.specs.declared.substitution.Substitution.TheVariants.{Literal, Variable, WordEnds}
use Rattle.dg_compiled.proofs.GatherLemmas.{gather-word}
use Rattle.dg_compiled.proofs.TextLemmas.{text-added, value-added}
use Rattle.dg_compiled.proofs.texts.take_text.Goals as goal

pub returns-in_ok-add_text-in-Literal-clause-taken : goal.returns-in_ok-add_text-in-Literal-clause-taken
returns-in_ok-add_text-in-Literal-clause-taken c =
    let short : length c.args.making.now.text + length c.in-Literal.text ≤ 1048576 = rw c.if-not-has_room.false at c.has_room.ensures.short in
    rw (c.in_ok-add_text-in-Literal.ensures, c.in_ok-copy-in-Literal.ensures, c.in-Literal.is)
    (λ left d k. text-added d _ _ _ _ (Literal c.in-Literal.text ∷ left) _ k _ left refl short)

pub returns-in_ok-add_text-in-Variable-clause-taken : goal.returns-in_ok-add_text-in-Variable-clause-taken
returns-in_ok-add_text-in-Variable-clause-taken c =
    let value = rw c.in-Some.is at c.in_ok-value-in-Variable.ensures.value in
    let room = rw c.in-Some.is at c.in_ok-value-in-Variable.ensures.room in
    rw (c.in_ok-add_text-in-Variable.ensures, c.in-Variable.is)
    (λ left d k. value-added d _ _ _ _ (Variable c.in-Variable.name ∷ left) _ k _ left _ refl value room)

pub returns-in_ok-push-in-WordEnds-clause-taken : goal.returns-in_ok-push-in-WordEnds-clause-taken
returns-in_ok-push-in-WordEnds-clause-taken c =
    rw (c.in_ok-push-in-WordEnds.ensures.ok, c.replace-word.ensures.value, c.replace-word.ensures.after, c.new.ensures, c.in-WordEnds.is)
    (λ left d k. sym (gather-word d _ _ _ _ (WordEnds ∷ left) _ k left refl))
