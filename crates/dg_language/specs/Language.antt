-- What the text of a script means.
use Rattle.std.specs.Prelude.{ℕ, suc, zero, ◌-◌, Option, Some, None, List, [], ◌∷◌, ◌++◌, length, codes, Result, Ok, Err}
use Rattle.std.specs.FinMap as names
use Rattle.dg_lists.specs.Faults.{fault_text}
use Rattle.dg_words.specs.Reading.{command_at}
use Rattle.dg_words.specs.declared.word.Word.{Word}
use Rattle.dg_lists.specs.declared.fault.WordFault.{WordFault}
use Rattle.dg_language.specs.declared.code.Code.TheVariants.{Done}
use Rattle.dg_language.specs.declared.procedure.Procedure.{Procedure}
use Rattle.dg_language.specs.declared.command.Command.{Command}
use Rattle.dg_language.specs.declared.command.Command.TheVariants.{Words, Unreadable}
use Rattle.dg_language.specs.declared.command.Builtin.{Builtin}
use Rattle.dg_language.specs.declared.command.Builtin.TheVariants.{Immediate as ImmediateBuiltin, Variable as VariableBuiltin, Control as ControlBuiltin, Choice as ChoiceBuiltin, Target as TargetBuiltin, Flag as FlagBuiltin, Session as SessionBuiltin, LoadLib as LoadLibBuiltin, Expect as ExpectBuiltin, Regexp as RegexpBuiltin}
use Rattle.dg_language.specs.declared.command.ChoiceCommand.{ChoiceCommand}
use Rattle.dg_language.specs.declared.command.ChoiceCommand.TheVariants.{Expr, Eval, If, Switch, While, For}
use Rattle.dg_language.specs.declared.substitution.Purpose.{Purpose}
use Rattle.dg_language.specs.declared.substitution.Purpose.TheVariants.{Run, Load, Expect}
use Rattle.dg_language.specs.Play.{Play}
use Rattle.dg_language.specs.State.{State}
use Rattle.dg_language.specs.Evaluation.{Ending, Then, Nested, cut, tick, fail, if_done, quoted}
use Rattle.dg_language.specs.Completing.{completed}
use Rattle.dg_language.specs.Immediate.{immediate}
use Rattle.dg_language.specs.Builtins.{builtin_of, usable}
use Rattle.dg_language.specs.Variables.{do_variable}
use Rattle.dg_language.specs.Procedures.{call}
use Rattle.dg_language.specs.Control.{do_control, head_or_empty}
use Rattle.dg_language.specs.Expressions.{do_expr}
use Rattle.dg_language.specs.Choosing.{do_if, do_while, do_for}
use Rattle.dg_language.specs.Switching.{do_eval, do_switch}
use Rattle.dg_language.specs.Boards.{do_load_lib, do_target, do_flag}
use Rattle.dg_language.specs.Words.{Act, words_made}
use Rattle.dg_language.specs.Sessions.{do_session}
use Rattle.dg_language.specs.Expecting.{do_expect, expect_with}
use Rattle.dg_language.specs.Matching.{do_regexp}
use Rattle.dg_cmds.specs.Commands.{pure_of}
use Rattle.dg_cmds.specs.declared.fault.CmdFault.{CmdFault}
use Rattle.dg_cmds.specs.declared.fault.CmdFault.TheVariants.{Tcl}

-- a command that computes, chooses or repeats
abbrev pub do_choice : Nested → ChoiceCommand → List (List ℕ) → State → Then → Play Ending
do_choice nested Expr args s k = do_expr nested args s k
do_choice nested Eval args s k = do_eval nested args s k
do_choice nested If args s k = do_if nested args s k
do_choice nested Switch args s k = do_switch nested args s k
do_choice nested While args s k = do_while nested args s k
do_choice nested For args s k = do_for nested args s k

abbrev pub builtin : Nested → Builtin → List (List ℕ) → State → Then → Play Ending
builtin nested (ImmediateBuiltin c) args s k = completed (immediate c args s) s k
builtin nested (VariableBuiltin c) args s k = do_variable c args s k
builtin nested (ControlBuiltin c) args s k = do_control nested c args s k
builtin nested (ChoiceBuiltin c) args s k = do_choice nested c args s k
builtin nested (TargetBuiltin c) args s k = do_target c args s k
builtin nested (FlagBuiltin c) args s k = do_flag c args s k
builtin nested (SessionBuiltin c) args s k = do_session c args s k
builtin nested LoadLibBuiltin args s k = do_load_lib nested args s k
builtin nested ExpectBuiltin args s k = do_expect nested args s k
builtin nested RegexpBuiltin args s k = do_regexp args s k

-- The value of a string or list command or of `format`; there is no other command. Where one comes to neither a value nor an
-- error, the value is too long.
abbrev pub pure_value : Option (Result (List ℕ) CmdFault) → List ℕ → State → Then → Play Ending
pure_value None n s k = fail (codes "invalid command name " ++ quoted n) s k
pure_value (Some (Ok v)) n s k = k Done v s
pure_value (Some (Err (Tcl message))) n s k = fail message s k
pure_value (Some (Err _)) n s k = cut (codes "value too long") s

abbrev pub known_command : Nested → Option Builtin → List ℕ → List (List ℕ) → State → Then → Play Ending
known_command nested (Some b) n args s k = builtin nested b args s k
known_command nested None n args s k = pure_value (pure_of n args) n s k

-- procedures come before the commands here
abbrev pub by_name : Nested → Option Procedure → List ℕ → List (List ℕ) → State → Then → Play Ending
by_name nested (Some p) n args s k = call nested n p args s k
by_name nested None n args s k = known_command nested (usable s.on_board (builtin_of n)) n args s k

-- the command that these words name
unfoldable pub command : Nested → List (List ℕ) → State → Then → Play Ending
command nested [] s k = k Done [] s
command nested (n ∷ args) s k = by_name nested (names.get s.procedures n) n args s k

-- what is done with words that were made: they are a command, or the first is an operand
abbrev pub used : Nested → Purpose → Act
used nested Run = command nested
used nested Load = λ made s k. k Done (head_or_empty made) s
used nested Expect = expect_with nested

-- commands one after another; v is the value of the last
unfoldable pub sequence : Nested → List Command → List ℕ → State → Then → Play Ending
sequence nested [] v s k = k Done v s
sequence nested (Unreadable fault ∷ cs) v s k = fail (fault_text fault) s k
sequence nested (Words ws ∷ cs) v s k =
    tick s (λ s'. words_made nested (command nested) ws s' (if_done (λ v' s''. sequence nested cs v' s'' k) k))

abbrev pub and_commands : Result (List Word × ℕ) WordFault → (ℕ → List Command) → List Command
and_commands (Err fault) more = Unreadable fault ∷ []
and_commands (Ok ([], next)) more = []
and_commands (Ok (w ∷ ws, next)) more = Words (w ∷ ws) ∷ more next

-- at most n commands of a text, from a place on
abbrev pub first_commands : ℕ → List ℕ → ℕ → List Command
first_commands zero text at = []
first_commands (suc n) text at = and_commands (command_at text at) (λ next. first_commands n text next)

-- The commands of a text from a place on, up to the first that can't be read. There are no more of them than bytes.
unfoldable pub commands_at : List ℕ → ℕ → List Command
commands_at text at = first_commands (suc (length text - at)) text at

-- a text, evaluated inside as many others as this leaves
unfoldable pub evaluate : ℕ → Nested
evaluate zero t s k = cut (codes "too many nested evaluations") s
evaluate (suc d) t s k = sequence (evaluate d) (commands_at t 0) [] s k
