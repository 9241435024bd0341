use Rattle.std.proofs.Common.{◌≡◌, length}
use Rattle.dg_language.specs.Choosing.{clauses_at, AtCondition}
use Rattle.dg_forms.proofs.ClauseLemmas.{behind_clauses}
use Rattle.dg_forms.proofs.clause.clauses_of.Given as goal

abbrev pub invariant-clauses : goal.invariant-clauses
invariant-clauses l = behind_clauses l.tested (clauses_at AtCondition l.left) ≡ clauses_at AtCondition l.fn.words

abbrev pub decreases-clauses : goal.decreases-clauses
decreases-clauses l = length l.left
