-- What an evaluation has made so far.
use Rattle.std.specs.Prelude.{ℕ, ◌+◌, List, [], ◌∷◌, ◌++◌, Bool, true, false, length, nat_lt, nat_eq, Option, Some, is_some, codes}
use Rattle.std.specs.Cmp.Lexicographic.{pointwise}
use Rattle.std.specs.FinMap as map
use Rattle.dg_world.specs.declared.question.Question.{Question}
use Rattle.dg_world.specs.declared.question.Answer.{Answer}
use Rattle.dg_world.specs.declared.question.Read.{Read}
use Rattle.dg_world.specs.declared.test_id.TestId.{TestId}
use Rattle.dg_results.specs.declared.call.ResultCall.{ResultCall}
use Rattle.dg_boards.specs.Table.{setting, without}
use Rattle.dg_scope.specs.Scopes.{Names, Variables, no_variables, with_value, with_global, without_value, with_link, with_scope, with_outermost, without_scope}
use Rattle.dg_sessions.specs.Views.{SessionsView, no_sessions}
use Rattle.dg_language.specs.declared.procedure.Binding.{Binding}
use Rattle.dg_language.specs.declared.procedure.Procedure.{Procedure}

pub record State : Type 0 where
  -- the test that is judged
  pub test : TestId
  -- the calls of result commands, in order
  pub calls : List ResultCall
  -- whether the board's file is evaluated
  pub on_board : Bool
  -- the steps that the board's file took, once it has been evaluated
  pub earlier : ℕ
  -- the steps that were taken since
  pub steps : ℕ
  -- the sessions of the test, and how many entries of their records are used up
  pub sessions : SessionsView
  -- for each procedure call, library and action of `expect` that evaluation stands in, from the innermost out, whether it is
  -- an action
  pub actions : List Bool
  -- the questions that were answered, in order
  pub known : List Read
  pub variables : Variables
  -- the globals that began with what the line gives them
  pub begun : Names (Unit {0})
  pub procedures : Names Procedure
  -- the libraries whose evaluation has begun, and the tool's own
  pub libraries : Names (Unit {0})
  -- the settings of the board, in the order in which each key was first set
  pub settings : List (List ℕ × List ℕ)

-- nothing was done yet
unfoldable pub fresh : TestId → State
fresh t =
    record {
      test = t;
      calls = [];
      on_board = true;
      earlier = 0;
      steps = 0;
      sessions = no_sessions;
      actions = [];
      known = [];
      variables = no_variables;
      begun = map.empty;
      procedures = map.empty;
      libraries = map.empty;
      settings = [];
    }

-- The board's file has been evaluated. Its settings stay, and the count of its steps; variables, procedures, libraries and
-- the steps that are left begin anew.
unfoldable pub with_board_made : State → State
with_board_made s =
    record s {
      on_board = false;
      earlier = s.steps;
      steps = 0;
      variables = no_variables;
      begun = map.empty;
      procedures = map.empty;
      libraries = map.empty;
    }

-- all steps that were taken
abbrev pub taken : State → ℕ
taken s = s.earlier + s.steps

-- those of the board's file
unfoldable pub board_steps : State → ℕ
board_steps s = elim s.on_board [ true ↦ s.steps | false ↦ s.earlier ]

unfoldable pub with_call : ResultCall → State → State
with_call c s = record s { calls = s.calls ++ c ∷ [] }

unfoldable pub stepped : State → State
stepped s = record s { steps = s.steps + 1 }

unfoldable pub learn : Question → Answer → State → State
learn q a s = record s { known = s.known ++ record { question = q; answer = a } ∷ [] }

-- a global has begun, with this value if it has one
unfoldable pub began : List ℕ → State → State
began g s = record s { begun = map.insert s.begun g tt }

unfoldable pub began_with : List ℕ → List ℕ → State → State
began_with g v s = record s { begun = map.insert s.begun g tt; variables = with_global s.variables g v }

-- the same, but for globals that have begun as in another
abbrev pub with_begun : State → State → State
with_begun s t = record s { variables = t.variables; begun = t.begun }

-- a variable has this value
unfoldable pub assigned : List ℕ → List ℕ → State → State
assigned n v s = record s { variables = with_value s.variables n v }

unfoldable pub unassigned : List ℕ → State → State
unassigned n s = record s { variables = without_value s.variables n }

unfoldable pub linked : List ℕ → State → State
linked n s = record s { variables = with_link s.variables n }

unfoldable pub defined : List ℕ → Procedure → State → State
defined n p s = record s { procedures = map.insert s.procedures n p }

-- variables that have these values; of equal names the first counts
abbrev pub bound : List Binding → Variables → Variables
bound [] v = v
bound (b ∷ bs) v = with_value (bound bs v) b.name b.value

-- a procedure's own scope, in which its parameters have these values
unfoldable pub entered : List Binding → State → State
entered bs s = record s { variables = bound bs (with_scope s.variables); actions = false ∷ s.actions }

abbrev pub without_first : List Bool → List Bool
without_first [] = []
without_first (here ∷ outer) = outer

-- the procedure's scope is gone; the first scope stays
unfoldable pub departed : State → State
departed s =
    elim (nat_lt 1 (length s.variables.scopes)) [
      | true ↦ (record s { variables = without_scope s.variables; actions = without_first s.actions })
      | false ↦ (record s { actions = without_first s.actions })
    ]

-- whether evaluation stands in an action of `expect`, and in no procedure or file inside of that
abbrev pub stands_in_action : List Bool → Bool
stands_in_action [] = false
stands_in_action (here ∷ outer) = here

-- an action of `expect` is evaluated from here on, in the same scope
unfoldable pub in_action : State → State
in_action s = record s { actions = true ∷ s.actions }

unfoldable pub out_of_action : State → State
out_of_action s = record s { actions = without_first s.actions }

-- the sessions are these
unfoldable pub with_sessions : SessionsView → State → State
with_sessions ss s = record s { sessions = ss }

-- a library has begun
unfoldable pub marked : List ℕ → State → State
marked name s = record s { libraries = map.insert s.libraries name tt }

-- a library is evaluated from here on, in the global scope
unfoldable pub in_library : List ℕ → State → State
in_library name s = record s { libraries = map.insert s.libraries name tt; variables = with_outermost s.variables; actions = false ∷ s.actions }

-- what the board has for a key; `name` always has the board's name
unfoldable pub setting_of : List ℕ → State → Option (List ℕ)
setting_of key s = elim (pointwise nat_eq key (codes "name")) [ true ↦ Some s.test.board | false ↦ setting s.settings key ]

-- a key that has no setting gets one, behind the others
unfoldable pub with_setting : List ℕ → List ℕ → State → State
with_setting key value s =
    elim (is_some (setting_of key s)) [ true ↦ s | false ↦ (record s { settings = s.settings ++ (key, value) ∷ [] }) ]

-- a key has no setting any more; that of `name` stays
unfoldable pub without_setting : List ℕ → State → State
without_setting key s = record s { settings = without s.settings key }
