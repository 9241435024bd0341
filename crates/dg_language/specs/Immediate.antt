-- The commands that evaluate nothing inside and ask nothing.
use Rattle.std.specs.Prelude.{ℕ, Bool, true, false, List, [], ◌∷◌, codes}
use Rattle.dg_language.specs.declared.code.Code.TheVariants.{Broken, Continued}
use Rattle.dg_language.specs.declared.command.Builtin.{Builtin}
use Rattle.dg_language.specs.declared.command.Builtin.TheVariants.{Immediate}
use Rattle.dg_language.specs.declared.command.ImmediateCommand.{ImmediateCommand}
use Rattle.dg_language.specs.declared.command.ImmediateCommand.TheVariants.{Result, Silent, Proc, Break, Continue, Return, Error, ExpContinue, SetBoardInfo, UnsetBoardInfo, LoadGenericConfig, TargetInfo, BoardInfo}
use Rattle.dg_language.specs.declared.command.ResultCommand.TheVariants.{Pass, Fail, Unresolved, Untested, Unsupported, Note, Perror, Warning}
use Rattle.dg_language.specs.State.{State}
use Rattle.dg_language.specs.Completing.{Immediately, gives}
use Rattle.dg_language.specs.Results.{do_result}
use Rattle.dg_language.specs.Procedures.{do_proc}
use Rattle.dg_language.specs.Control.{do_leave, do_return, do_error}
use Rattle.dg_language.specs.Expecting.{do_exp_continue}
use Rattle.dg_language.specs.Boards.{do_set_board_info, do_unset_board_info, do_load_generic_config, do_target_info, do_board_info}

-- what a command comes to with these arguments
abbrev pub immediate : ImmediateCommand → List (List ℕ) → State → Immediately
immediate (Result c) args s = do_result c args
immediate Silent args s = gives []
immediate Proc args s = do_proc args
immediate Break args s = do_leave Broken (codes "break") args
immediate Continue args s = do_leave Continued (codes "continue") args
immediate Return args s = do_return args
immediate Error args s = do_error args
immediate ExpContinue args s = do_exp_continue args s
immediate SetBoardInfo args s = do_set_board_info args
immediate UnsetBoardInfo args s = do_unset_board_info args
immediate LoadGenericConfig args s = do_load_generic_config args
immediate TargetInfo args s = do_target_info args s
immediate BoardInfo args s = do_board_info args s

-- The name of each, what it is, and whether it belongs to scripts alone: it records a result, or goes on with an `expect`, and is
-- no command in a board's file.
abbrev pub immediate_commands : List (List ℕ × Builtin × Bool)
immediate_commands =
    (codes "pass", Immediate (Result Pass), true)
    ∷ (codes "fail", Immediate (Result Fail), true)
    ∷ (codes "unresolved", Immediate (Result Unresolved), true)
    ∷ (codes "untested", Immediate (Result Untested), true)
    ∷ (codes "unsupported", Immediate (Result Unsupported), true)
    ∷ (codes "note", Immediate (Result Note), true)
    ∷ (codes "perror", Immediate (Result Perror), true)
    ∷ (codes "warning", Immediate (Result Warning), true)
    ∷ (codes "verbose", Immediate Silent, false)
    ∷ (codes "send_user", Immediate Silent, false)
    ∷ (codes "send_log", Immediate Silent, false)
    ∷ (codes "proc", Immediate Proc, false)
    ∷ (codes "break", Immediate Break, false)
    ∷ (codes "continue", Immediate Continue, false)
    ∷ (codes "return", Immediate Return, false)
    ∷ (codes "error", Immediate Error, false)
    ∷ (codes "exp_continue", Immediate ExpContinue, true)
    ∷ (codes "set_board_info", Immediate SetBoardInfo, false)
    ∷ (codes "unset_board_info", Immediate UnsetBoardInfo, false)
    ∷ (codes "load_generic_config", Immediate LoadGenericConfig, false)
    ∷ (codes "target_info", Immediate TargetInfo, false)
    ∷ (codes "board_info", Immediate BoardInfo, false) ∷ []
