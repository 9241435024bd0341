-- Which operands an operator needs, and the value of a tree by their values.
use Rattle.std.specs.Prelude.{◌≡◌, ℕ, List, [], Bool, true, false, not, Option, None, Some, Ok, Err, if◌then◌else◌}
use Rattle.dg_words.specs.Piece.{Piece}
use Rattle.dg_expr.specs.declared.fault.ExprFault.TheVariants.{NotTruth}
use Rattle.dg_expr.specs.declared.operator.Infix.{Infix}
use Rattle.dg_expr.specs.declared.operator.Infix.TheVariants as between
use Rattle.dg_expr.specs.declared.operator.Prefix.{Prefix}
use Rattle.dg_expr.specs.Code.{Host, code_of, run, value}
use Rattle.dg_expr.specs.Operator.{Value, value_of, value_of_one}
use Rattle.dg_expr.specs.Tree.{Tree, Operand, One, Two, Choice}
use Rattle.dg_expr.specs.Truth.{truth_of}

-- Whether an operator needs its right operand, by the truth of the left: `&&` where that is true, `||` where it is false.
abbrev pub needs_right : Infix → Option Bool → Bool
needs_right between.And (Some t) = t
needs_right between.And None = false
needs_right between.Or (Some t) = not t
needs_right between.Or None = false
needs_right op left = true

-- the operands with which its fault is told, once both have a value
abbrev pub told_first : Infix → List ℕ → List ℕ → List ℕ
told_first between.And x y = y
told_first between.Or x y = y
told_first op x y = x

abbrev pub told_second : Infix → List ℕ → List ℕ → List ℕ
told_second between.And x y = []
told_second between.Or x y = []
told_second op x y = y

-- From a state a tree comes to a text in a state, from which all that may come after goes on. `see` is what is seen of an
-- answer, as what comes of it with one source of answers: so seen, a tree that asks comes to a text too.
abbrev pub Comes : {S R Q : Type 0} → Host S R → (R → Q) → Tree → S → List ℕ → S → Type 0
Comes host see a s x t = (then_do : List ℕ → _ → _) → see (value host a s then_do) ≡ see (then_do x t)

-- it ends so, whatever were to come after
abbrev pub Ends : {S R Q : Type 0} → Host S R → (R → Q) → Tree → S → R → Type 0
Ends host see a s end = (then_do : List ℕ → _ → _) → see (value host a s then_do) ≡ see end

-- it comes to this value's text, or ends with its fault, told with these operands
abbrev pub Settles : {S R Q : Type 0} → Host S R → (R → Q) → Tree → S → Value → List ℕ → List ℕ → S → Type 0
Settles host see a s (Ok v) x y t = Comes host see a s v t
Settles host see a s (Err f) x y t = Ends host see a s (host.fail f x y t)

-- it does what another tree does from another state
abbrev pub DoesAs : {S R Q : Type 0} → Host S R → (R → Q) → Tree → S → Tree → S → Type 0
DoesAs host see a s b t = (then_do : List ℕ → _ → _) → see (value host a s then_do) ≡ see (value host b t then_do)

-- Where both sides have a value, the tree's is the one that the operator has of the two; the state is the one that the
-- last side leaves that is needed.
abbrev pub SidesAreApplied : Type 0 → Type 0 → Type 0 → Type 0
SidesAreApplied S R Q =
    (host : Host S R) (see : R → Q) (op : Infix) (a b : Tree) (s t u : S) (x y v : List ℕ)
    → Comes host see a s x t → Comes host see b t y u → value_of op x y ≡ Ok v
    → Comes host see (Two op a b) s v (if needs_right op (truth_of x) then u else t)

-- A right side that isn't needed is not evaluated, whatever it is: the value, or the fault, is the one that the operator has of
-- the left operand and any right one.
abbrev pub RightIsLeftAlone : Type 0 → Type 0 → Type 0 → Type 0
RightIsLeftAlone S R Q =
    (host : Host S R) (see : R → Q) (op : Infix) (a b : Tree) (s t : S) (x any : List ℕ)
    → Comes host see a s x t → needs_right op (truth_of x) ≡ false
    → Settles host see (Two op a b) s (value_of op x any) x [] t

-- One that is needed is evaluated behind the left one; the value, or the fault, is the one that the operator has of both.
abbrev pub RightIsTaken : Type 0 → Type 0 → Type 0 → Type 0
RightIsTaken S R Q =
    (host : Host S R) (see : R → Q) (op : Infix) (a b : Tree) (s t u : S) (x y : List ℕ)
    → Comes host see a s x t → needs_right op (truth_of x) ≡ true → Comes host see b t y u
    → Settles host see (Two op a b) s (value_of op x y) (told_first op x y) (told_second op x y) u

-- An operand comes to the text that is substituted for it.
abbrev pub OperandIsLoaded : Type 0 → Type 0 → Type 0 → Type 0
OperandIsLoaded S R Q =
    (host : Host S R) (see : R → Q) (pieces : List Piece) (s t : S) (x : List ℕ)
    → ((then_do : List ℕ → S → R) → see (host.load pieces s then_do) ≡ see (then_do x t)) → Comes host see (Operand pieces) s x t

-- An operator before a tree has the value that it has of the tree's, and ends where that ends without a value.
abbrev pub OneIsApplied : Type 0 → Type 0 → Type 0 → Type 0
OneIsApplied S R Q =
    (host : Host S R) (see : R → Q) (op : Prefix) (a : Tree) (s t : S) (x : List ℕ)
    → Comes host see a s x t → Settles host see (One op a) s (value_of_one op x) x [] t

abbrev pub OneEnds : Type 0 → Type 0 → Type 0 → Type 0
OneEnds S R Q =
    (host : Host S R) (see : R → Q) (op : Prefix) (a : Tree) (s : S) (end : R) → Ends host see a s end → Ends host see (One op a) s end

-- Where a side ends without a value, so does the tree, if it needs that side.
abbrev pub LeftEnds : Type 0 → Type 0 → Type 0 → Type 0
LeftEnds S R Q =
    (host : Host S R) (see : R → Q) (op : Infix) (a b : Tree) (s : S) (end : R)
    → Ends host see a s end → Ends host see (Two op a b) s end

abbrev pub RightEnds : Type 0 → Type 0 → Type 0 → Type 0
RightEnds S R Q =
    (host : Host S R) (see : R → Q) (op : Infix) (a b : Tree) (s t : S) (x : List ℕ) (end : R)
    → Comes host see a s x t → needs_right op (truth_of x) ≡ true → Ends host see b t end → Ends host see (Two op a b) s end

-- Of the branches of a condition just the chosen one is evaluated, behind the condition.
abbrev pub OneBranchIsChosen : Type 0 → Type 0 → Type 0 → Type 0
OneBranchIsChosen S R Q =
    (host : Host S R) (see : R → Q) (c a b : Tree) (s t : S) (x : List ℕ) (holds : Bool)
    → Comes host see c s x t → truth_of x ≡ Some holds → DoesAs host see (Choice c a b) s (if holds then a else b) t

-- None is where the condition is no truth, or ends without a value.
abbrev pub NoBranchIsChosen : Type 0 → Type 0 → Type 0 → Type 0
NoBranchIsChosen S R Q =
    (host : Host S R) (see : R → Q) (c a b : Tree) (s t : S) (x : List ℕ)
    → Comes host see c s x t → truth_of x ≡ None → Ends host see (Choice c a b) s (host.fail NotTruth x [] t)

abbrev pub ConditionEnds : Type 0 → Type 0 → Type 0 → Type 0
ConditionEnds S R Q =
    (host : Host S R) (see : R → Q) (c a b : Tree) (s : S) (end : R)
    → Ends host see c s end → Ends host see (Choice c a b) s end

-- A tree's code, run by itself, does what the tree does.
abbrev pub CodeDoesAsItsTree : Type 0 → Type 0 → Type 0
CodeDoesAsItsTree S R =
    (host : Host S R) (tree : Tree) (s : S) (then_do : List ℕ → S → R) → run host [] 0 (code_of tree) s then_do ≡ value host tree s then_do
