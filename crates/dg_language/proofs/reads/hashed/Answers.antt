use Rattle.std.proofs.Common.{◌≡◌, List, ◌++◌, ◌∷◌, [], length, ◌∙◌, ap, sym, refl, append-nil, arith}
use Rattle.dg_world.specs.declared.question.Read.{Read}
use Rattle.dg_language.specs.Row.{are_new}
use Rattle.dg_language.specs.Reads.{reads_of}
use Rattle.dg_language.proofs.ReadsLemmas.{next-new}
use Rattle.dg_language.proofs.reads.hashed.Goals as goal

pub loop-question-init : goal.loop-question-init
loop-question-init c =
    let none : reads_of c.in_ok-answers.answers.entries ≡ [] = ap reads_of c.in_ok-answers.ensures.empty in
    let all = c.into_iter-question-iterator.ensures.into_iter_gives.0 in
    record {
      whole = ap (λ reads. reads ++ c.into_iter-question-iterator.result.rest.items) none ∙ all;
      new = ap (λ reads. are_new reads c.into_iter-question-iterator.result.rest.items) none ∙ ap (are_new []) all ∙ c.requires;
    }

pub add-requires : goal.add-requires
add-requires c =
    (next-new (reads_of c.loop-question.answers.entries) c.loop-question.question-iterator.rest.items _ _ c.in-Some.field-0 c.in-Some.ensures.steps.0
    c.loop-question.invariant.whole c.loop-question.invariant.new).0

pub loop-question-preserved : goal.loop-question-preserved
loop-question-preserved c =
    let next = next-new (reads_of c.loop-question.answers.entries) c.loop-question.question-iterator.rest.items _ _ c.in-Some.field-0 c.in-Some.ensures.steps.0
    c.loop-question.invariant.whole c.loop-question.invariant.new in
    record {
      whole = ap (λ reads. reads ++ c.next.new.self.rest.items) c.in_ok-add.ensures ∙ next.1;
      new = ap (λ reads. are_new reads c.next.new.self.rest.items) c.in_ok-add.ensures ∙ next.2;
    }

none-left : (reads : List Read) → 0 ≡ length reads → reads ≡ []
none-left [] h = refl
none-left (r ∷ rs) h = absurd (omega arith)

pub returns : goal.returns
returns c =
    let left = c.loop-question.question-iterator.rest in
    let none : left.items ≡ [] = none-left left.items (sym c.in-None.ensures.steps.0 ∙ left.ok.0) in
    sym (append-nil (reads_of c.loop-question.answers.entries)) ∙ ap (λ l. reads_of c.loop-question.answers.entries ++ l) (sym none) ∙ c.loop-question.invariant.whole
