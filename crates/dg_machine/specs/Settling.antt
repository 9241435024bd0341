-- Commands that run where they stand: nothing is asked or evaluated for them.
use Rattle.std.specs.Prelude.{◌≡◌, ℕ, ◌+◌, ◌≤◌, List, [], ◌∷◌, drop, Option, Some, None}
use Rattle.dg_language.specs.declared.code.Code.TheVariants.{Done, Returned}
use Rattle.dg_words.specs.declared.word.Word.{Word}
use Rattle.dg_expr.specs.declared.code.Instruction.{Instruction}
use Rattle.dg_language.specs.declared.command.Command.{Command}
use Rattle.dg_language.specs.declared.command.Command.TheVariants.{Words}
use Rattle.dg_language.specs.declared.substitution.Substitution.{Substitution}
use Rattle.dg_language.specs.State.{State, assigned, stepped}
use Rattle.dg_language.specs.Evaluation.{Then}
use Rattle.dg_language.specs.Language.{evaluate, sequence}
use Rattle.dg_language.specs.WordSteps.{substitutions}
use Rattle.dg_compiled.specs.Script.{begins}
use Rattle.dg_compiled.specs.Texts.{IsText}
use Rattle.dg_compiled.specs.Ways.{HasCode, HasWord}

-- the word at a place is this text, by itself or as the value of a variable in use
abbrev pub HasText : List Substitution → ℕ → State → List ℕ → Type 0
HasText steps at s v = (x : Substitution) × (HasWord steps at x × IsText s x v)

-- the command of these words comes to a value and a state by itself
abbrev pub Settles : ℕ → List Substitution → State → List ℕ → State → Type 0
Settles depth steps s v t = (k : Then) → begins steps depth s k ≡ k Done v t

-- it only gives this variable this value, which is its own too
abbrev pub Sets : List Substitution → State → List ℕ → List ℕ → Type 0
Sets steps s n v = (depth : ℕ) → Settles depth steps s v (assigned n v s)

-- what is left of commands, behind a value and in a state, is what was left of those
abbrev pub GoesOnAs : ℕ → List Command → List ℕ → State → List Command → List ℕ → State → Type 0
GoesOnAs depth cs v s ds w t = (k : Then) → sequence (evaluate depth) ds w t k ≡ sequence (evaluate depth) cs v s k

-- The command at a place came to a value by itself, behind whatever value; or nothing has changed.
abbrev pub Passes : ℕ → List Command → ℕ → State → State → Option (List ℕ) → Type 0
Passes depth cs at s t None = t ≡ s
Passes depth cs at s t (Some w) = (v : List ℕ) → GoesOnAs depth (drop at cs) v s (drop (at + 1) cs) w t

-- behind a value that is there a step more was taken; else nothing has changed
abbrev pub IsAfter : Option (List ℕ) → State → State → Type 0
IsAfter None s t = t ≡ s
IsAfter (Some v) s t = t ≡ stepped s

-- the only one of these commands comes to this value by itself, and takes a step
abbrev pub IsOnly : ℕ → List Command → State → List ℕ → Type 0
IsOnly depth cs s v = (k : Then) → sequence (evaluate depth) cs [] s k ≡ k Done v (stepped s)

-- so does an `expr` of this code
abbrev pub Yields : ℕ → Option (List Instruction) → State → List ℕ → Type 0
Yields depth code s v = (ws : List Word) → HasCode (substitutions ws) code → IsOnly depth (Words ws ∷ []) s v

-- so does a text
abbrev pub ComesBy : ℕ → List ℕ → State → List ℕ → Type 0
ComesBy depth text s v = (k : Then) → evaluate depth text s k ≡ k Done v (stepped s)

-- the first of these commands returns from what is around it with a value, behind whatever value
abbrev pub Returns : ℕ → List Command → State → List ℕ → State → Type 0
Returns depth cs s v t = (u : List ℕ) (k : Then) → sequence (evaluate depth) cs u s k ≡ k Returned v t

-- no answer came and no entry was used; steps may have been taken
abbrev pub AsksNothing : State → State → Type 0
AsksNothing s t = (t.known ≡ s.known) × (t.sessions ≡ s.sessions) × (s.steps ≤ t.steps)
