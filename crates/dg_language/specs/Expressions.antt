-- Expressions inside an evaluation: expr(n), and the conditions of if(n), while(n) and for(n).
use Rattle.std.specs.Prelude.{ℕ, ℤ, Bool, Option, Some, None, List, [], ◌∷◌, ◌++◌, length, codes, Result, Ok, Err}
use Rattle.dg_lists.specs.Faults.{fault_text}
use Rattle.dg_expr.specs.declared.fault.Side.{Side}
use Rattle.dg_expr.specs.declared.fault.Side.TheVariants.{Left, Right}
use Rattle.dg_expr.specs.declared.fault.ExprFault.{ExprFault}
use Rattle.dg_expr.specs.declared.fault.ExprFault.TheVariants.{Syntax, NotWhole, DivideByZero, TooLarge, NotTruth, NegativeShift, BadList}
use Rattle.dg_expr.specs.declared.code.Instruction.{Instruction}
use Rattle.dg_expr.specs.Code.{Host, value, code_of}
use Rattle.dg_expr.specs.Number.{number_of, decimal_text}
use Rattle.dg_expr.specs.Reading.{tree_in}
use Rattle.dg_expr.specs.Tree.{Tree}
use Rattle.dg_expr.specs.Truth.{truth_of}
use Rattle.dg_language.specs.declared.code.Code.TheVariants.{Done}
use Rattle.dg_language.specs.Play.{Play}
use Rattle.dg_language.specs.State.{State}
use Rattle.dg_language.specs.Evaluation.{Ending, Then, Nested, within, fail, if_done, quoted, wrong_count}
use Rattle.dg_language.specs.Words.{joined, nested_in}

-- the operand on a side
abbrev pub on_side : Side → List ℕ → List ℕ → List ℕ
on_side Left x y = x
on_side Right x y = y

-- The message of a fault, of which these are the operands, or the text that spells no expression. What is none of the others is
-- an error of syntax.
abbrev pub fault_message : ExprFault → List ℕ → List ℕ → List ℕ
fault_message (NotWhole side) x y = codes "expected integer but got " ++ quoted (on_side side x y)
fault_message DivideByZero x y = codes "divide by zero"
fault_message TooLarge x y = codes "integer value too large to represent"
fault_message NotTruth x y = codes "expected boolean value but got " ++ quoted x
fault_message NegativeShift x y = codes "negative shift argument"
fault_message (BadList fault) x y = fault_text fault
fault_message _ x y = codes "syntax error in expression " ++ quoted x

-- Operands are made like words, of their parts, and a fault is an error.
unfoldable pub host : Nested → Then → Host State (Play Ending)
host nested k =
    record {
      load = λ pieces s f. joined nested (nested_in pieces) [] s k f;
      fail = λ fault x y s. fail (fault_message fault x y) s k;
    }

abbrev pub value_of_tree : Nested → Option Tree → List ℕ → State → Then → Play Ending
value_of_tree nested None text s k = fail (fault_message Syntax text []) s k
value_of_tree nested (Some tree) text s k = value (host nested k) tree s (k Done)

-- the value of the expression that a text spells
unfoldable pub calculate : Nested → Nested
calculate nested text s k = value_of_tree nested (tree_in text) text s k

abbrev pub judged : Option Bool → List ℕ → State → Then → (Bool → Play Ending) → Play Ending
judged None v s k f = fail (fault_message NotTruth v []) s k
judged (Some holds) v s k f = f holds

-- what comes after a condition, by its truth
abbrev pub decided : (Bool → State → Play Ending) → Then → Then
decided f k = if_done (λ v s. judged (truth_of v) v s k (λ holds. f holds s)) k

-- whether the expression that a text spells is true
unfoldable pub condition : Nested → List ℕ → State → (Bool → State → Play Ending) → Then → Play Ending
condition nested text s f k = calculate nested text s (decided f k)

abbrev pub decimal_or : List ℕ → Option ℤ → List ℕ
decimal_or v None = v
decimal_or v (Some z) = decimal_text z

-- a number is written in decimal
unfoldable pub in_decimal : List ℕ → List ℕ
in_decimal v = decimal_or v (number_of v)

-- words, each behind a space
abbrev pub behind_spaces : List (List ℕ) → List ℕ
behind_spaces [] = []
behind_spaces (w ∷ ws) = 32 ∷ (w ++ behind_spaces ws)

abbrev pub written : Then → Then
written k = if_done (λ v s. k Done (in_decimal v) s) k

-- `expr word..`
unfoldable pub do_expr : Nested → List (List ℕ) → State → Then → Play Ending
do_expr nested [] s k = fail (wrong_count (codes "expr")) s k
do_expr nested (w ∷ ws) s k =
    within (length (w ++ behind_spaces ws)) s (calculate nested (w ++ behind_spaces ws) s (written k))

-- What a function of an expression's operands returned is this, with the message of its fault.
abbrev pub or_fault : Result (List ℕ) ExprFault → List ℕ → List ℕ → Result (List ℕ) (List ℕ)
or_fault (Ok v) x y = Ok v
or_fault (Err fault) x y = Err (fault_message fault x y)

abbrev pub or_no_truth : Option Bool → List ℕ → Result Bool (List ℕ)
or_no_truth None x = Err (fault_message NotTruth x [])
or_no_truth (Some holds) x = Ok holds

abbrev pub code_in : Option Tree → Option (List Instruction)
code_in None = None
code_in (Some tree) = Some (code_of tree)
