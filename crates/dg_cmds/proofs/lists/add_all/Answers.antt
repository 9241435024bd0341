use Rattle.std.proofs.Common.{◌++◌, ℕ, List, ap, sym, ◌∙◌, inl, inr}
use Rattle.dg_cmds.specs.Answers.{limited}
use Rattle.dg_cmds.proofs.AnswerLemmas.{all-first}
use Rattle.dg_cmds.proofs.lists.add_all.Goals as goal

pub returns-in-Err : goal.returns-in-Err
returns-in-Err c =
    elim c.in-Err.ensures.adds [
      | inl m ↦ inl m
      | inr e ↦
          inr (all-first c.args.text.now c.args.between.now c.args.texts.now c.in-Err.fault c.first-item.result c.in-len1-up.len_at_least
          (ap (λ (t : List ℕ). limited (c.args.text.now ++ t)) (sym (c.as_slice.ensures ∙ c.first-item.is)) ∙ e))
    ]
