-- The commands that choose and repeat: if(n), while(n), for(n).
use Rattle.std.specs.Prelude.{ℕ, suc, zero, Bool, true, false, Option, Some, None, List, [], ◌∷◌, nat_eq, codes}
use Rattle.std.specs.Cmp.Lexicographic.{pointwise}
use Rattle.dg_language.specs.declared.code.Code.TheVariants.{Done, Failed, Returned, Broken, Continued, ExpContinued}
use Rattle.dg_language.specs.declared.clause.Clause.{Clause}
use Rattle.dg_language.specs.declared.clause.Clauses.{Clauses}
use Rattle.dg_language.specs.declared.state.TheConstants.{STEPS}
use Rattle.dg_language.specs.Play.{Play, Ends}
use Rattle.dg_language.specs.State.{State}
use Rattle.dg_language.specs.Evaluation.{Ending, Then, Nested, out_of_steps, tick, fail, if_done, loop_after, wrong_count}
use Rattle.dg_language.specs.Arguments.{on, two, four}
use Rattle.dg_language.specs.Expressions.{condition}

-- a clause before others
abbrev pub and_clause : List ℕ → List ℕ → Option Clauses → Option Clauses
and_clause condition body None = None
and_clause condition body (Some c) = Some (record c { tested = record { condition = condition; body = body } ∷ c.tested })

-- only the body behind `else`
abbrev pub last_body : List (List ℕ) → Option Clauses
last_body [] = None
last_body (body ∷ []) = Some (record { tested = []; otherwise = Some body })
last_body (_ ∷ _ ∷ _) = None

-- `else` and the last body, or that body alone
abbrev pub last_words : List ℕ → List (List ℕ) → Option Clauses
last_words w ws = elim (pointwise nat_eq w (codes "else")) [ true ↦ last_body ws | false ↦ last_body (w ∷ ws) ]

-- A place in the words of `if`: where a condition comes; behind a condition; behind a condition and `then`; behind a body.
pub data Place : Type 0 where
  AtCondition : Place
  Behind : List ℕ → Place
  BehindThen : List ℕ → Place
  BehindBody : Place

-- The clauses of `if` in the words from a place on: a condition, perhaps `then`, and a body; `elseif` begins the next, and
-- perhaps `else`, and a body, end them. None if the words have no such form.
unfoldable pub clauses_at : Place → List (List ℕ) → Option Clauses
clauses_at AtCondition [] = None
clauses_at AtCondition (w ∷ ws) = clauses_at (Behind w) ws
clauses_at (Behind c) [] = None
clauses_at (Behind c) (w ∷ ws) =
    elim (pointwise nat_eq w (codes "then")) [ true ↦ clauses_at (BehindThen c) ws | false ↦ and_clause c w (clauses_at BehindBody ws) ]
clauses_at (BehindThen c) [] = None
clauses_at (BehindThen c) (w ∷ ws) = and_clause c w (clauses_at BehindBody ws)
clauses_at BehindBody [] = Some (record { tested = []; otherwise = None })
clauses_at BehindBody (w ∷ ws) =
    elim (pointwise nat_eq w (codes "elseif")) [ true ↦ clauses_at AtCondition ws | false ↦ last_words w ws ]

abbrev pub do_otherwise : Nested → Option (List ℕ) → State → Then → Play Ending
do_otherwise nested None s k = k Done [] s
do_otherwise nested (Some body) s k = nested body s k

-- the body of the first clause whose condition is true, or else the last body
unfoldable pub choose : Nested → List Clause → Option (List ℕ) → State → Then → Play Ending
choose nested [] otherwise s k = do_otherwise nested otherwise s k
choose nested (c ∷ cs) otherwise s k =
    condition nested c.condition s (λ holds t. elim holds [ true ↦ nested c.body t k | false ↦ choose nested cs otherwise t k ]) k

-- `if condition ?then? body ?elseif condition ?then? body ..? ??else? body?`
unfoldable pub do_if : Nested → List (List ℕ) → State → Then → Play Ending
do_if nested args s k =
    on (clauses_at AtCondition args) (fail (wrong_count (codes "if")) s k) (λ c. choose nested c.tested c.otherwise s k)

-- what `for` does after its third script
abbrev pub next_after : (State → Play Ending) → Then → Then
next_after again k Done v s = again s
next_after again k Broken v s = k Done [] s
next_after again k Continued v s = k Continued v s
next_after again k ExpContinued v s = k ExpContinued v s
next_after again k Failed v s = k Failed v s
next_after again k Returned v s = k Returned v s

-- what comes between a body and the next test: the third script of `for`
abbrev pub between : Nested → Option (List ℕ) → (State → Play Ending) → State → Then → Play Ending
between nested None again s k = again s
between nested (Some next) again s k = nested next s (next_after again k)

-- a body, after which a loop goes on with `again`, or the end of the loop
abbrev pub body_if : Bool → Nested → List ℕ → Option (List ℕ) → (State → Play Ending) → State → Then → Play Ending
body_if true nested body next again s k = nested body s (loop_after (λ t. between nested next again t k) k)
body_if false nested body next again s k = k Done [] s

-- The tests of a loop, which are at most this many. Each takes a step; the body comes after each that is true.
unfoldable pub repeat : Nested → ℕ → List ℕ → Option (List ℕ) → List ℕ → State → Then → Play Ending
repeat nested zero test next body s k = Ends (out_of_steps s)
repeat nested (suc r) test next body s k =
    tick s (λ t. condition nested test t (λ holds u. body_if holds nested body next (λ w. repeat nested r test next body w k) u k) k)

-- `while test body`
unfoldable pub do_while : Nested → List (List ℕ) → State → Then → Play Ending
do_while nested args s k =
    on (two args) (fail (wrong_count (codes "while")) s k) (λ a. repeat nested STEPS a.0 None a.1 s k)

-- `for start test next body`
unfoldable pub do_for : Nested → List (List ℕ) → State → Then → Play Ending
do_for nested args s k =
    on (four args) (fail (wrong_count (codes "for")) s k) (λ a.
    nested a.0 s (if_done (λ v t. repeat nested STEPS a.1 (Some a.2) a.3 t k) k))
