-- Commands by their names, and texts.
use Rattle.std.proofs.Common.{ℕ, suc, zero, List, [], ◌∷◌}
use Rattle.std.specs.Prelude.{Option, Some, None, Result, Ok, Err}
use Rattle.std.specs.FinMap as names
use Rattle.dg_cmds.specs.Commands.{pure_of}
use Rattle.dg_cmds.specs.declared.fault.CmdFault.{CmdFault}
use Rattle.dg_cmds.specs.declared.fault.CmdFault.TheVariants.{Tcl, TooLong, Memory}
use Rattle.dg_language.specs.declared.code.Code.TheVariants.{Done}
use Rattle.dg_language.specs.declared.command.Builtin.{Builtin}
use Rattle.dg_language.specs.declared.command.Builtin.TheVariants.{Immediate as ImmediateBuiltin, Variable as VariableBuiltin, Control as ControlBuiltin, Choice as ChoiceBuiltin, Target as TargetBuiltin, Flag as FlagBuiltin, Session as SessionBuiltin, LoadLib as LoadLibBuiltin, Expect as ExpectBuiltin, Regexp as RegexpBuiltin}
use Rattle.dg_language.specs.declared.command.Command.{Command}
use Rattle.dg_language.specs.declared.command.Command.TheVariants.{Words, Unreadable}
use Rattle.dg_language.specs.declared.procedure.Procedure.{Procedure}
use Rattle.dg_language.specs.State.{State}
use Rattle.dg_language.specs.Evaluation.{Nested}
use Rattle.dg_language.specs.Immediate.{immediate}
use Rattle.dg_language.specs.Builtins.{builtin_of, usable}
use Rattle.dg_language.specs.Language.{builtin, pure_value, known_command, by_name, command, sequence, commands_at, evaluate}
use Rattle.dg_living.proofs.ElementLengths.{AreShort}
use Rattle.dg_living.proofs.Steps.{Lives, LivesInside, completes, cut-lives, tick-lives, fail-lives, if_done-lives}
use Rattle.dg_living.proofs.Completing.{completed-lives}
use Rattle.dg_living.proofs.VariableCommands.{do_variable-lives}
use Rattle.dg_living.proofs.CourseCommands.{call-lives, do_control-lives}
use Rattle.dg_living.proofs.WordMaking.{words-lives}
use Rattle.dg_living.proofs.ChoiceCommands.{do_choice-lives}
use Rattle.dg_living.proofs.BoardCommands.{do_load_lib-lives, do_target-lives, do_flag-lives}
use Rattle.dg_living.proofs.SessionCommands.{do_session-lives}
use Rattle.dg_living.proofs.Matching.{do_regexp-lives}
use Rattle.dg_living.proofs.ExpectCommands.{do_expect-lives}

pure_value-lives : (value : Option (Result (List ℕ) CmdFault)) (n : List ℕ) (s : State) → Lives s (pure_value value n s)
pure_value-lives None n s = fail-lives _ s
pure_value-lives (Some (Ok v)) n s = completes Done v s
pure_value-lives (Some (Err (Tcl message))) n s = fail-lives message s
pure_value-lives (Some (Err TooLong)) n s = cut-lives _ s
pure_value-lives (Some (Err Memory)) n s = cut-lives _ s

module _ (nested : Nested) (inside : LivesInside nested) where
  builtin-lives : (b : Builtin) (args : List (List ℕ)) (s : State) → AreShort args → Lives s (builtin nested b args s)
  builtin-lives (ImmediateBuiltin c) args s short = completed-lives (immediate c args s) s
  builtin-lives (VariableBuiltin c) args s short = do_variable-lives c args s
  builtin-lives (ControlBuiltin c) args s short = do_control-lives nested inside c args s
  builtin-lives (ChoiceBuiltin c) args s short = do_choice-lives nested inside c args s
  builtin-lives (TargetBuiltin c) args s short = do_target-lives c args s
  builtin-lives (FlagBuiltin c) args s short = do_flag-lives c args s
  builtin-lives (SessionBuiltin c) args s short = do_session-lives c args s short
  builtin-lives LoadLibBuiltin args s short = do_load_lib-lives nested inside args s
  builtin-lives ExpectBuiltin args s short = do_expect-lives nested inside args s
  builtin-lives RegexpBuiltin args s short = do_regexp-lives args s

  known_command-lives : (b : Option Builtin) (n : List ℕ) (args : List (List ℕ)) (s : State) → AreShort args → Lives s (known_command nested b n args s)
  known_command-lives (Some b) n args s short = builtin-lives b args s short
  known_command-lives None n args s short = pure_value-lives (pure_of n args) n s

  by_name-lives : (p : Option Procedure) (n : List ℕ) (args : List (List ℕ)) (s : State) → AreShort args → Lives s (by_name nested p n args s)
  by_name-lives (Some p) n args s short = call-lives nested inside n p args s
  by_name-lives None n args s short = known_command-lives (usable s.on_board (builtin_of n)) n args s short

  command-lives : (words : List (List ℕ)) (s : State) → AreShort words → Lives s (command nested words s)
  unfolding command
  command-lives [] s short = completes Done [] s
  command-lives (n ∷ args) s short = by_name-lives (names.get s.procedures n) n args s short.1

  sequence-lives : (cs : List Command) (v : List ℕ) (s : State) → Lives s (sequence nested cs v s)
  unfolding sequence
  sequence-lives [] v s = completes Done v s
  sequence-lives (Unreadable fault ∷ cs) v s = fail-lives _ s
  sequence-lives (Words ws ∷ cs) v s =
      tick-lives s (λ s'.
      if_done-lives (words-lives nested inside (command nested) command-lives ws s')
      (λ v' s''. sequence-lives cs v' s''))

pub evaluate-lives : (depth : ℕ) → LivesInside (evaluate depth)
unfolding evaluate
evaluate-lives zero text s = cut-lives _ s
evaluate-lives (suc d) text s = sequence-lives (evaluate d) (evaluate-lives d) (commands_at text 0) [] s
