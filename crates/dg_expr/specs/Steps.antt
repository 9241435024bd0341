-- How the answers of the reader are seen by the definitions.
use Rattle.std.specs.Prelude.{◌≡◌, ℕ, ◌≤◌, List, length, drop, true, false, Result, Ok, Err, ◌⊎◌, Option, None, Some}
use Rattle.dg_expr.specs.declared.fault.ExprFault.{ExprFault}
use Rattle.dg_expr.specs.declared.fault.ExprFault.TheVariants.{Memory, Syntax}
use Rattle.dg_expr.specs.declared.frame.Frame.{Frame}
use Rattle.dg_expr.specs.declared.token.Lexeme.{Lexeme}
use Rattle.dg_expr.specs.Reading.{is_low, read_behind}
use Rattle.dg_expr.specs.Token.{lexeme_at, tokens_of}
use Rattle.dg_expr.specs.Tree.{Tree}

-- This was made, or it is too high, or memory ran out.
abbrev pub Makes : Tree → Result Tree ExprFault → Type 0
Makes t (Ok u) = (u ≡ t) × (is_low t ≡ true)
Makes t (Err f) = (f ≡ Memory) ⊎ ((f ≡ Syntax) × (is_low t ≡ false))

-- This is the answer, or there is none, or memory ran out.
abbrev pub Finds : {A : Type 0} → Option A → Result A ExprFault → Type 0
Finds o (Ok x) = o ≡ Some x
Finds o (Err f) = (f ≡ Memory) ⊎ ((f ≡ Syntax) × (o ≡ None))

-- The same with the items that are open then.
abbrev pub Leads : {A : Type 0} → Option (List Frame × A) → List Frame → Result A ExprFault → Type 0
Leads o fs (Ok x) = o ≡ Some (fs, x)
Leads o fs (Err f) = (f ≡ Memory) ⊎ ((f ≡ Syntax) × (o ≡ None))

-- The first lexeme of a text, which lies within it.
abbrev pub Lexes : List ℕ → Result Lexeme ExprFault → Type 0
Lexes text (Ok l) = (lexeme_at text ≡ Some l) × (1 ≤ l.length) × (l.length ≤ length text)
Lexes text (Err f) = (f ≡ Memory) ⊎ ((f ≡ Syntax) × (lexeme_at text ≡ None))

-- A lexeme of so many bytes.
abbrev pub LexesTo : Option Lexeme → ℕ → Result Lexeme ExprFault → Type 0
LexesTo o n (Ok l) = (o ≡ Some l) × (l.length ≡ n) × (1 ≤ n)
LexesTo o n (Err f) = (f ≡ Syntax) × (o ≡ None)

-- The reading of a text goes on behind so many bytes, with another tree.
abbrev pub Advances : List ℕ → List Frame → Option Tree → List Frame → Result (Option Tree × ℕ) ExprFault → Type 0
Advances text fs a gs (Ok (b, n)) =
    (read_behind (tokens_of text) fs a ≡ read_behind (tokens_of (drop n text)) gs b) × (1 ≤ n) × (n ≤ length text)
Advances text fs a gs (Err f) = (f ≡ Memory) ⊎ ((f ≡ Syntax) × (read_behind (tokens_of text) fs a ≡ None))
