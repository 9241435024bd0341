use Rattle.std.proofs.Common.{◌∙◌, length, sym, ap, arith}
use Rattle.dg_language.specs.Choosing.{and_clause, clauses_at, AtCondition}
use Rattle.dg_forms.proofs.ClauseLemmas.{behind_clauses, behind-clause, clauses-more}
use Rattle.dg_forms.proofs.clause.clauses_of.Goals as goal

pub clauses-smaller : goal.clauses-smaller
clauses-smaller c = omega (arith, c.in-Some.ensures.fewer, ap length c.in-Some-split.ensures)

pub clauses-preserved : goal.clauses-preserved
clauses-preserved c =
    let o = clauses_at AtCondition c.in-Some-split.others.now in
    let elseif = sym c.is_elseif.ensures ∙ c.if-not-is_elseif.false in
    rw (c.in_ok-push.ensures.ok, c.in_ok-clause_of.ensures)
    (behind-clause c.clauses.tested c.in-Some.condition.now c.in-Some.body.now o
    ∙ ap (λ x. behind_clauses c.clauses.tested (and_clause c.in-Some.condition.now c.in-Some.body.now x)) (sym (clauses-more c.in-Some.behind.now _ _ c.in-Some-split.ensures elseif))
    ∙ ap (behind_clauses c.clauses.tested) (sym c.in-Some.ensures.clause)
    ∙ c.clauses.invariant)
