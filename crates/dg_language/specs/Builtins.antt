-- The commands of the language by their names, but for those of strings, lists and `format`.
use Rattle.std.specs.Prelude.{ℕ, Bool, true, false, ◌&&◌, Option, Some, None, List, [], ◌∷◌, nat_eq, codes}
use Rattle.std.specs.Cmp.Lexicographic.{pointwise}
use Rattle.dg_language.specs.declared.command.Builtin.{Builtin}
use Rattle.dg_language.specs.declared.command.Builtin.TheVariants.{Variable, Control, Choice, Target, Flag, Session, LoadLib, Expect, Regexp}
use Rattle.dg_language.specs.declared.command.VariableCommand.TheVariants.{Set, Append, ListAppend, Increase, Unset, Info, Global}
use Rattle.dg_language.specs.declared.command.ControlCommand.TheVariants.{Foreach, Catch}
use Rattle.dg_language.specs.declared.command.ChoiceCommand.TheVariants.{Expr, Eval, If, Switch, While, For}
use Rattle.dg_language.specs.declared.command.TargetCommand.TheVariants.{IsTarget, IsHost, IsBuild, IsNative}
use Rattle.dg_language.specs.declared.command.FlagCommand.TheVariants.{SetupXfail, SetupKfail, ClearXfail, ClearKfail}
use Rattle.dg_language.specs.declared.command.SessionCommand.TheVariants.{Spawn, Send, Close, Wait, MatchMax}
use Rattle.dg_language.specs.Immediate.{immediate_commands}

-- Those that ask, use a variable or evaluate something inside: the name of each, what it is, and whether it belongs to scripts
-- alone, since it records a result, sets or clears a flag for the next one, or is about sessions.
abbrev pub further_commands : List (List ℕ × Builtin × Bool)
further_commands =
    (codes "set", Variable Set, false)
    ∷ (codes "append", Variable Append, false)
    ∷ (codes "lappend", Variable ListAppend, false)
    ∷ (codes "incr", Variable Increase, false)
    ∷ (codes "unset", Variable Unset, false)
    ∷ (codes "info", Variable Info, false)
    ∷ (codes "global", Variable Global, false)
    ∷ (codes "regexp", Regexp, false)
    ∷ (codes "expr", Choice Expr, false)
    ∷ (codes "eval", Choice Eval, false)
    ∷ (codes "if", Choice If, false)
    ∷ (codes "switch", Choice Switch, false)
    ∷ (codes "while", Choice While, false)
    ∷ (codes "for", Choice For, false)
    ∷ (codes "foreach", Control Foreach, false)
    ∷ (codes "catch", Control Catch, false)
    ∷ (codes "load_lib", LoadLib, false)
    ∷ (codes "istarget", Target IsTarget, false)
    ∷ (codes "ishost", Target IsHost, false)
    ∷ (codes "isbuild", Target IsBuild, false)
    ∷ (codes "isnative", Target IsNative, false)
    ∷ (codes "setup_xfail", Flag SetupXfail, true)
    ∷ (codes "setup_kfail", Flag SetupKfail, true)
    ∷ (codes "clear_xfail", Flag ClearXfail, true)
    ∷ (codes "clear_kfail", Flag ClearKfail, true)
    ∷ (codes "spawn", Session Spawn, true)
    ∷ (codes "send", Session Send, true)
    ∷ (codes "close", Session Close, true)
    ∷ (codes "wait", Session Wait, true)
    ∷ (codes "match_max", Session MatchMax, true)
    ∷ (codes "expect", Expect, true) ∷ []

-- what stands beside a name in the first row that has it
abbrev pub with_name : List ℕ → List (List ℕ × Builtin × Bool) → Option (Builtin × Bool)
with_name n [] = None
with_name n (r ∷ rs) = elim (pointwise nat_eq n r.0) [ true ↦ Some (r.1, r.2) | false ↦ with_name n rs ]

abbrev pub or_else : Option (Builtin × Bool) → Option (Builtin × Bool) → Option (Builtin × Bool)
or_else (Some r) more = Some r
or_else None more = more

unfoldable pub builtin_of : List ℕ → Option (Builtin × Bool)
builtin_of n = or_else (with_name n further_commands) (with_name n immediate_commands)

-- in a board's file those that belong to scripts alone are no commands
abbrev pub usable : Bool → Option (Builtin × Bool) → Option Builtin
usable on_board None = None
usable on_board (Some r) = elim (on_board && r.1) [ true ↦ None | false ↦ Some r.0 ]
