-- Commands by their names, and texts.
use Rattle.std.proofs.Common.{ℕ, suc, zero, List, [], ◌∷◌}
use Rattle.std.specs.Prelude.{Option, Some, None, Result, Ok, Err}
use Rattle.std.specs.FinMap as names
use Rattle.dg_cmds.specs.Commands.{pure_of}
use Rattle.dg_cmds.specs.declared.fault.CmdFault.{CmdFault}
use Rattle.dg_cmds.specs.declared.fault.CmdFault.TheVariants.{Tcl, TooLong, Memory}
use Rattle.dg_language.specs.declared.code.Code.TheVariants.{Done}
use Rattle.dg_language.specs.declared.command.Builtin.{Builtin}
use Rattle.dg_language.specs.declared.command.Builtin.TheVariants.{Immediate as ImmediateBuiltin, Variable as VariableBuiltin, Control as ControlBuiltin, Choice as ChoiceBuiltin, Target as TargetBuiltin, Flag as FlagBuiltin, Session as SessionBuiltin, LoadLib as LoadLibBuiltin, Expect as ExpectBuiltin, Regexp as RegexpBuiltin}
use Rattle.dg_language.specs.declared.command.Command.{Command}
use Rattle.dg_language.specs.declared.command.Command.TheVariants.{Words, Unreadable}
use Rattle.dg_language.specs.declared.procedure.Procedure.{Procedure}
use Rattle.dg_language.specs.State.{State}
use Rattle.dg_language.specs.Evaluation.{Nested}
use Rattle.dg_language.specs.Immediate.{immediate}
use Rattle.dg_language.specs.Builtins.{builtin_of, usable}
use Rattle.dg_language.specs.Language.{builtin, pure_value, known_command, by_name, command, sequence, commands_at, evaluate}
use Rattle.dg_laws.specs.Grafting.{Grafted}
use Rattle.dg_laws.proofs.Steps.{IsGraftedInside, completes, cut-grafted, tick-grafted, fail-grafted, if_done-grafted}
use Rattle.dg_laws.proofs.Completing.{completed-grafted}
use Rattle.dg_laws.proofs.VariableCommands.{do_variable-grafted}
use Rattle.dg_laws.proofs.CourseCommands.{call-grafted, do_control-grafted}
use Rattle.dg_laws.proofs.WordMaking.{words-grafted}
use Rattle.dg_laws.proofs.ChoiceCommands.{do_choice-grafted}
use Rattle.dg_laws.proofs.BoardCommands.{do_load_lib-grafted, do_target-grafted, do_flag-grafted}
use Rattle.dg_laws.proofs.SessionCommands.{do_session-grafted}
use Rattle.dg_laws.proofs.Matching.{do_regexp-grafted}
use Rattle.dg_laws.proofs.ExpectCommands.{do_expect-grafted}

pure_value-grafted : (value : Option (Result (List ℕ) CmdFault)) (n : List ℕ) (s : State) → Grafted (pure_value value n s)
pure_value-grafted None n s = fail-grafted _ s
pure_value-grafted (Some (Ok v)) n s = completes Done v s
pure_value-grafted (Some (Err (Tcl message))) n s = fail-grafted message s
pure_value-grafted (Some (Err TooLong)) n s = cut-grafted _ s
pure_value-grafted (Some (Err Memory)) n s = cut-grafted _ s

module _ (nested : Nested) (inside : IsGraftedInside nested) where
  builtin-grafted : (b : Builtin) (args : List (List ℕ)) (s : State) → Grafted (builtin nested b args s)
  builtin-grafted (ImmediateBuiltin c) args s = completed-grafted (immediate c args s) s
  builtin-grafted (VariableBuiltin c) args s = do_variable-grafted c args s
  builtin-grafted (ControlBuiltin c) args s = do_control-grafted nested inside c args s
  builtin-grafted (ChoiceBuiltin c) args s = do_choice-grafted nested inside c args s
  builtin-grafted (TargetBuiltin c) args s = do_target-grafted c args s
  builtin-grafted (FlagBuiltin c) args s = do_flag-grafted c args s
  builtin-grafted (SessionBuiltin c) args s = do_session-grafted c args s
  builtin-grafted LoadLibBuiltin args s = do_load_lib-grafted nested inside args s
  builtin-grafted ExpectBuiltin args s = do_expect-grafted nested inside args s
  builtin-grafted RegexpBuiltin args s = do_regexp-grafted args s

  known_command-grafted : (b : Option Builtin) (n : List ℕ) (args : List (List ℕ)) (s : State) → Grafted (known_command nested b n args s)
  known_command-grafted (Some b) n args s = builtin-grafted b args s
  known_command-grafted None n args s = pure_value-grafted (pure_of n args) n s

  by_name-grafted : (p : Option Procedure) (n : List ℕ) (args : List (List ℕ)) (s : State) → Grafted (by_name nested p n args s)
  by_name-grafted (Some p) n args s = call-grafted nested inside n p args s
  by_name-grafted None n args s = known_command-grafted (usable s.on_board (builtin_of n)) n args s

  command-grafted : (words : List (List ℕ)) (s : State) → Grafted (command nested words s)
  unfolding command
  command-grafted [] s = completes Done [] s
  command-grafted (n ∷ args) s = by_name-grafted (names.get s.procedures n) n args s

  sequence-grafted : (cs : List Command) (v : List ℕ) (s : State) → Grafted (sequence nested cs v s)
  unfolding sequence
  sequence-grafted [] v s = completes Done v s
  sequence-grafted (Unreadable fault ∷ cs) v s = fail-grafted _ s
  sequence-grafted (Words ws ∷ cs) v s =
      tick-grafted s (λ s'.
      if_done-grafted (words-grafted nested inside (command nested) command-grafted ws s')
      (λ v' s''. sequence-grafted cs v' s''))

pub evaluate-grafted : (depth : ℕ) → IsGraftedInside (evaluate depth)
unfolding evaluate
evaluate-grafted zero text s = cut-grafted _ s
evaluate-grafted (suc d) text s = sequence-grafted (evaluate d) (evaluate-grafted d) (commands_at text 0) [] s
