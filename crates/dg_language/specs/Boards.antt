-- The commands on boards, targets and libraries, by the DejaGnu manual.
use Rattle.std.specs.Prelude.{ℕ, Bool, true, false, ◌==◌, ◌&&◌, Option, Some, None, List, [], ◌∷◌, ◌++◌, is_some, nat_eq, codes, Err}
use Rattle.std.specs.Cmp.Lexicographic.{pointwise}
use Rattle.std.specs.List.{list_any}
use Rattle.std.specs.FinMap as map
use Rattle.dg_cmds.specs.Places.{glob_matches}
use Rattle.dg_expr.specs.Truth.{truth_text}
use Rattle.dg_results.specs.declared.call.ResultCall.{ResultCall}
use Rattle.dg_results.specs.declared.call.ResultCall.TheVariants as call
use Rattle.dg_world.specs.Name.{is_name}
use Rattle.dg_world.specs.declared.question.System.{System}
use Rattle.dg_world.specs.declared.question.System.TheVariants.{Target, Host, Build}
use Rattle.dg_world.specs.declared.question.Question.TheVariants.{File, Triplet}
use Rattle.dg_world.specs.declared.question.Answer.{Answer}
use Rattle.dg_world.specs.declared.question.Answer.TheVariants as answer
use Rattle.dg_language.specs.declared.code.Code.TheVariants.{Done}
use Rattle.dg_language.specs.declared.completion.Change.TheVariants.{Sets, Unsets}
use Rattle.dg_language.specs.declared.command.TargetCommand.{TargetCommand}
use Rattle.dg_language.specs.declared.command.TargetCommand.TheVariants.{IsTarget, IsHost, IsBuild, IsNative}
use Rattle.dg_language.specs.declared.command.FlagCommand.{FlagCommand}
use Rattle.dg_language.specs.declared.command.FlagCommand.TheVariants.{SetupXfail, SetupKfail, ClearXfail, ClearKfail}
use Rattle.dg_language.specs.Play.{Play}
use Rattle.dg_language.specs.State.{State, with_call, in_library, marked, setting_of, departed}
use Rattle.dg_language.specs.Evaluation.{Ending, Then, Nested, ask, fail, if_done, outside, quoted, wrong_count}
use Rattle.dg_language.specs.Arguments.{on, only, two, split_first}
use Rattle.dg_language.specs.Variables.{or_empty}
use Rattle.dg_language.specs.Completing.{Immediately, gives, does, counted}

-- `set_board_info key value`: a key that has a setting keeps it
unfoldable pub do_set_board_info : List (List ℕ) → Immediately
do_set_board_info args = counted (codes "set_board_info") (two args) (λ p. does (Sets p.0 p.1))

-- `unset_board_info key`
unfoldable pub do_unset_board_info : List (List ℕ) → Immediately
do_unset_board_info args = counted (codes "unset_board_info") (only args) (λ key. does (Unsets key))

-- `load_generic_config name` sets the key `generic_name`
unfoldable pub do_load_generic_config : List (List ℕ) → Immediately
do_load_generic_config args = counted (codes "load_generic_config") (only args) (λ n. does (Sets (codes "generic_name") n))

-- what is told of a key, or of `exists key`: its setting, the empty text where it has none; or whether it has one
abbrev pub told_of : List (List ℕ) → State → Option (List ℕ)
told_of [] s = None
told_of (key ∷ []) s = Some (or_empty (setting_of key s))
told_of (word ∷ key ∷ []) s =
    elim (pointwise nat_eq word (codes "exists")) [ true ↦ Some (truth_text (is_some (setting_of key s))) | false ↦ None ]
told_of (_ ∷ _ ∷ _ ∷ _) s = None

-- `target_info key` and `target_info exists key`
unfoldable pub do_target_info : List (List ℕ) → State → Immediately
do_target_info args s = counted (codes "target_info") (told_of args s) gives

-- `board_info target key` and `board_info target exists key`; there is no other machine
abbrev pub told_by : Bool → List ℕ → Immediately
told_by true v = gives v
told_by false v = Err (codes "unknown machine")

unfoldable pub do_board_info : List (List ℕ) → State → Immediately
do_board_info args s =
    counted (codes "board_info") (split_first args) (λ p.
    counted (codes "board_info") (told_of p.1 s) (λ v. told_by (pointwise nat_eq p.0 (codes "target")) v))

-- the file of a library
abbrev pub library_file : List ℕ → List ℕ
library_file f = codes "lib/" ++ f

abbrev pub no_library : List ℕ → List ℕ
no_library f = codes "couldn't find library " ++ quoted f

-- the bytes of a file, if there is one
abbrev pub content_of : Answer → Option (List ℕ)
content_of (answer.Content t) = Some t
content_of _ = None

-- what comes after a library: the scope where it was loaded is back, and its value is dropped
unfoldable pub after_library : Then → Then
after_library k c v s = outside (if_done (λ _ s'. k Done [] s') k) c v (departed s)

-- a library begins, also where there is no file of it: only the first `load_lib` of that one is an error
abbrev pub found : Nested → List ℕ → Option (List ℕ) → State → Then → Play Ending
found nested f None s k = fail (no_library f) (marked (library_file f) s) k
found nested f (Some t) s k = nested t (in_library (library_file f) s) (after_library k)

-- a library that has begun is not evaluated again
unfoldable pub load : Nested → List ℕ → State → Then → Play Ending
load nested f s k =
    elim (map.contains_key s.libraries (library_file f)) [
      | true ↦ k Done [] s
      | false ↦ ask (File (library_file f)) s (λ a s'. found nested f (content_of a) s' k)
    ]

-- `load_lib file` evaluates `lib/file` in the global scope, once
abbrev pub load_named : Nested → Bool → List ℕ → State → Then → Play Ending
load_named nested false f s k = fail (no_library f) s k
load_named nested true f s k = load nested f s k

unfoldable pub do_load_lib : Nested → List (List ℕ) → State → Then → Play Ending
do_load_lib nested args s k =
    on (only args) (fail (wrong_count (codes "load_lib")) s k) (λ f. load_named nested (is_name (library_file f)) f s k)

-- the triplet of a system
abbrev pub triplet_of : Answer → List ℕ
triplet_of (answer.Triplet t) = t
triplet_of _ = []

-- `istarget pattern`, `ishost pattern`, `isbuild pattern`
unfoldable pub do_is : System → List ℕ → List (List ℕ) → State → Then → Play Ending
do_is m name args s k =
    on (only args) (fail (wrong_count name) s k) (λ p.
    ask (Triplet m) s (λ a s'. k Done (truth_text (glob_matches p (triplet_of a))) s'))

-- `isnative`: whether the tests run where they were built
unfoldable pub do_is_native : List (List ℕ) → State → Then → Play Ending
do_is_native [] s k =
    ask (Triplet Build) s (λ b s'. ask (Triplet Target) s' (λ t s''. k Done (truth_text (pointwise nat_eq (triplet_of b) (triplet_of t))) s''))
do_is_native (_ ∷ _) s k = fail (wrong_count (codes "isnative")) s k

-- a command on the systems' triplets
abbrev pub do_target : TargetCommand → List (List ℕ) → State → Then → Play Ending
do_target IsTarget args s k = do_is Target (codes "istarget") args s k
do_target IsHost args s k = do_is Host (codes "ishost") args s k
do_target IsBuild args s k = do_is Build (codes "isbuild") args s k
do_target IsNative args s k = do_is_native args s k

abbrev pub flag_call : FlagCommand → ResultCall
flag_call SetupXfail = call.SetupXfail
flag_call SetupKfail = call.SetupKfail
flag_call ClearXfail = call.ClearXfail
flag_call ClearKfail = call.ClearKfail

-- an argument without `-` names a bug, and has no effect
abbrev pub is_pattern : List ℕ → Bool
is_pattern arg = list_any (λ b. b == 45) arg

-- the call is made if a pattern matches the target
abbrev pub flagged : FlagCommand → List ℕ → List (List ℕ) → State → State
flagged c target args s =
    elim (list_any (λ p. is_pattern p && glob_matches p target) args) [ true ↦ with_call (flag_call c) s | false ↦ s ]

-- `setup_xfail arg..`, `setup_kfail arg..`, `clear_xfail arg..`, `clear_kfail arg..`
unfoldable pub do_flag : FlagCommand → List (List ℕ) → State → Then → Play Ending
do_flag c args s k =
    elim (list_any is_pattern args) [
      | true ↦ ask (Triplet Target) s (λ a s'. k Done [] (flagged c (triplet_of a) args s'))
      | false ↦ k Done [] s
    ]
