-- The answers of commands to their words.
use Rattle.std.specs.Prelude.{◌≡◌, ℕ, List, [], ◌∷◌, ◌++◌, length, nat_eq, nat_le, codes, Option, None, Some, Result, Ok, Err, MatchOption, MatchResult, ◌≢◌, ◌⊎◌, if◌then◌else◌}
use Rattle.std.specs.Cmp.Lexicographic.{pointwise}
use Rattle.std.specs.Fmt.{decimal}
use Rattle.dg_cmds.specs.declared.fault.CmdFault.{CmdFault}
use Rattle.dg_cmds.specs.declared.fault.CmdFault.TheVariants.{Tcl, TooLong, Memory}
use Rattle.dg_cmds.specs.declared.answer.TheConstants.{LONGEST}

-- a value, or why there is none
abbrev pub Answer : Type 0
Answer = Result (List ℕ) CmdFault

-- A function returned the defined answer, unless memory ran out.
abbrev pub Gives : {X : Type 0} → Result X CmdFault → Result X CmdFault → Type 0
Gives r a = MatchResult r (λ x. a ≡ Ok x) (λ f. (f ≡ Memory) ⊎ (a ≡ Err f))

-- A function returned the answer of the command of this name, or None exactly where no command has the name.
abbrev pub GivesIfNamed : {X : Type 0} → Option (Result X CmdFault) → Option (Result X CmdFault) → Type 0
GivesIfNamed r a = MatchOption r (a ≡ None) (λ given. MatchResult given (λ x. a ≡ Some (Ok x)) (λ f. ((f ≡ Memory) × (a ≢ None)) ⊎ (a ≡ Some (Err f))))

-- the answer of a command, by the words after its name
abbrev pub Command : Type 0
Command = List (List ℕ) → Answer

-- the answer of the first command of a table that has this name; None where none has
abbrev pub given_by : List (List ℕ × Command) → List ℕ → List (List ℕ) → Option Answer
given_by [] name words = None
given_by (row ∷ rows) name words = if pointwise nat_eq name row.0 then Some (row.1 words) else given_by rows name words

-- a value of a script has at most 1,048,576 bytes
unfoldable pub limited : List ℕ → Answer
limited v = if nat_le (length v) LONGEST then Ok v else Err TooLong

-- a script error; its message is a value too
unfoldable pub failed : {X : Type 0} → List ℕ → Result X CmdFault
failed m = if nat_le (length m) LONGEST then Err (Tcl m) else Err TooLong

abbrev pub quoted : List ℕ → List ℕ
quoted word = 34 ∷ word ++ 34 ∷ []

-- a command has too few arguments, or too many
abbrev pub wrong_count : {X : Type 0} → List ℕ → Result X CmdFault
wrong_count name = Err (Tcl (codes "wrong # args: " ++ name))

-- a place, or -1
abbrev pub place_text : Option ℕ → List ℕ
place_text None = codes "-1"
place_text (Some n) = decimal n

-- Bytes were added at the end of a value, which stays within the limit if it was; or they couldn't be.
abbrev pub Adds : Result (Unit {0}) CmdFault → List ℕ → List ℕ → List ℕ → Type 0
Adds r old new bytes = MatchResult r (λ _. (new ≡ old ++ bytes) × (limited old ≡ Ok old → limited new ≡ Ok new)) (λ f. (f ≡ Memory) ⊎ (limited (old ++ bytes) ≡ Err f))

-- A value was changed to the defined answer, or it couldn't be.
abbrev pub Makes : Result (Unit {0}) CmdFault → List ℕ → Answer → Type 0
Makes r new a = MatchResult r (λ _. a ≡ Ok new) (λ f. (f ≡ Memory) ⊎ (a ≡ Err f))
