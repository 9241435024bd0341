use Rattle.std.proofs.Common.{◌++◌, ℕ, List, ap, sym, ◌∙◌, inl, inr, get_or}
use Rattle.dg_cmds.specs.Answers.{limited}
use Rattle.dg_cmds.proofs.AnswerLemmas.{further-between, further-one}
use Rattle.dg_cmds.proofs.lists.add_further.Goals as goal

pub returns-in-Err : goal.returns-in-Err
returns-in-Err c =
    elim c.in-Err.ensures.adds [
      | inl m ↦ inl m
      | inr e ↦ inr (further-between c.loop-one.text c.args.between.now _ c.args.texts.now c.loop-one.one-index c.in-Err.fault c.one-item.result c.loop-one-test.true c.loop-one.invariant.0 e)
    ]

pub returns-in-Err-add : goal.returns-in-Err-add
returns-in-Err-add c =
    elim c.in-Err-add.ensures.adds [
      | inl m ↦ inl m
      | inr e ↦
          inr (further-one c.loop-one.text c.args.between.now _ c.args.texts.now c.loop-one.one-index c.in-Err-add.fault c.one-item.result c.loop-one-test.true c.loop-one.invariant.0
          (ap limited (ap (λ (t : List ℕ). t ++ get_or c.args.texts.now c.loop-one.one-index c.one-item.result) (sym c.in_default.ensures.adds.0)
          ∙ ap (λ (t : List ℕ). c.add.new.text ++ t) (sym (c.as_slice.ensures ∙ c.one-item.is))) ∙ e))
    ]
