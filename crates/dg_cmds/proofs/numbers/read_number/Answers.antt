use Rattle.std.proofs.Common.{◌≡◌, ℤ, List, ℕ, ◌++◌, Option, None, subst, sym, ap, ◌∙◌}
use Rattle.std.specs.Prelude.{codes}
use Rattle.dg_expr.specs.Number.{number_of}
use Rattle.dg_cmds.specs.Answers.{Gives, failed, quoted}
use Rattle.dg_cmds.specs.Numbers.{number_or_error}
use Rattle.dg_cmds.proofs.numbers.read_number.Goals as goal

pub returns-in-None : goal.returns-in-None
returns-in-None c =
    let e : None ≡ number_of c.args.word.now = sym c.in-None.is ∙ (c.number.ensures ∙ ap number_of c.as_slice.ensures) in
    subst (λ (o : Option ℤ). Gives c.fail_about.result (number_or_error o c.args.word.now)) e
    (subst (λ (w : List ℕ). Gives c.fail_about.result (failed (codes "expected integer but got " ++ quoted w))) c.as_slice-in-None.ensures c.fail_about.ensures)
