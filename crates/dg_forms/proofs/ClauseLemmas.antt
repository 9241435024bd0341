-- The clauses of `if`, one after another.
use Rattle.std.proofs.Common.{◌≡◌, ℕ, true, false, List, [], ◌∷◌, ◌++◌, append_assoc, ap, refl, ◌∙◌}
use Rattle.std.specs.Prelude.{Option, Some, None, nat_eq, codes}
use Rattle.std.specs.Cmp.Lexicographic.{pointwise}
use Rattle.dg_language.specs.declared.clause.Clause.{Clause}
use Rattle.dg_language.specs.declared.clause.Clauses.{Clauses}
use Rattle.dg_language.specs.Choosing.{and_clause, clauses_at, last_words, AtCondition, BehindBody}

-- clauses that were read, before those that are read now
abbrev pub behind_clauses : List Clause → Option Clauses → Option Clauses
behind_clauses read None = None
behind_clauses read (Some c) = Some (record c { tested = read ++ c.tested })

pub behind-clause : (read : List Clause) (condition body : List ℕ) (o : Option Clauses)
    → behind_clauses (read ++ record { condition = condition; body = body } ∷ []) o ≡ behind_clauses read (and_clause condition body o)
behind-clause read condition body None = refl
behind-clause read condition body (Some c) =
    ap (λ x. Some (record c { tested = x })) (append_assoc read (record { condition = condition; body = body } ∷ []) c.tested)

pub clauses-more : (ws : List (List ℕ)) (w : List ℕ) (others : List (List ℕ)) → ws ≡ w ∷ others → pointwise nat_eq w (codes "elseif") ≡ true
    → clauses_at BehindBody ws ≡ clauses_at AtCondition others
unfolding clauses_at
clauses-more ws w others e t =
    ap (clauses_at BehindBody) e
    ∙ ap (λ b. elim b as (λ _. Option Clauses) [ true ↦ clauses_at AtCondition others | false ↦ last_words w others ]) t
