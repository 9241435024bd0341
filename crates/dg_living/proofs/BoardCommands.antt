-- The commands on libraries, targets and flags.
use Rattle.std.proofs.Common.{refl, ℕ, Bool, true, false, List, [], ◌∷◌}
use Rattle.std.specs.Prelude.{Option, Some, None}
use Rattle.std.specs.List.{list_any}
use Rattle.std.specs.FinMap as map
use Rattle.dg_world.specs.Name.{is_name}
use Rattle.dg_world.specs.declared.question.System.{System}
use Rattle.dg_world.specs.declared.question.System.TheVariants.{Target, Host, Build}
use Rattle.dg_world.specs.declared.question.Question.TheVariants.{File, Triplet}
use Rattle.dg_language.specs.declared.code.Code.{Code}
use Rattle.dg_language.specs.declared.code.Code.TheVariants.{Done, Failed, Returned, Broken, Continued, ExpContinued}
use Rattle.dg_language.specs.declared.command.TargetCommand.{TargetCommand}
use Rattle.dg_language.specs.declared.command.TargetCommand.TheVariants.{IsTarget, IsHost, IsBuild, IsNative}
use Rattle.dg_language.specs.declared.command.FlagCommand.{FlagCommand}
use Rattle.dg_language.specs.State.{State, in_library, departed}
use Rattle.dg_language.specs.Evaluation.{Nested}
use Rattle.dg_language.specs.Arguments.{only}
use Rattle.dg_language.specs.Boards.{library_file, content_of, after_library, found, load, load_named, do_load_lib, do_is, do_is_native, do_target, is_pattern, triplet_of, do_flag}
use Rattle.dg_living.proofs.Steps.{Lives}
use Rattle.dg_living.proofs.Changes.{departed-same, in_library-same, flagged-same, marked-same}
use Rattle.dg_living.proofs.Steps.{LivesInside, completes, along, one_after_another, either, on-lives, ask-lives, fail-lives}

after_library-at : (c : Code) (v : List ℕ) (s : State) → Lives s (λ k. after_library k c v s)
unfolding after_library
after_library-at Done v s = along (departed-same s) (completes Done [] (departed s))
after_library-at Returned v s = along (departed-same s) (completes Done [] (departed s))
after_library-at Failed v s = along (departed-same s) (completes Failed v (departed s))
after_library-at Broken v s = along (departed-same s) (completes Failed _ (departed s))
after_library-at Continued v s = along (departed-same s) (completes Failed _ (departed s))
after_library-at ExpContinued v s = along (departed-same s) (completes Failed _ (departed s))

module _ (nested : Nested) (inside : LivesInside nested) where
  found-lives : (f : List ℕ) (content : Option (List ℕ)) (s : State) → Lives s (found nested f content s)
  found-lives f None s = along (marked-same (library_file f) s) (fail-lives _ _)
  found-lives f (Some t) s = along (in_library-same (library_file f) s) (one_after_another (inside t (in_library (library_file f) s)) after_library-at)

  load-lives : (f : List ℕ) (s : State) → Lives s (load nested f s)
  unfolding load
  load-lives f s =
      either (map.contains_key s.libraries (library_file f))
      (completes Done [] s)
      (ask-lives (File (library_file f)) s refl (λ a s' _. found-lives f (content_of a) s'))

  load_named-lives : (named : Bool) (f : List ℕ) (s : State) → Lives s (load_named nested named f s)
  load_named-lives false f s = fail-lives _ s
  load_named-lives true f s = load-lives f s

  pub do_load_lib-lives : (args : List (List ℕ)) (s : State) → Lives s (do_load_lib nested args s)
  unfolding do_load_lib
  do_load_lib-lives args s =
      on-lives (only args) (fail-lives _ s) (λ f. load_named-lives (is_name (library_file f)) f s)

do_is-lives : (m : System) (name : List ℕ) (args : List (List ℕ)) (s : State) → Lives s (do_is m name args s)
unfolding do_is
do_is-lives m name args s =
    on-lives (only args) (fail-lives _ s) (λ p. ask-lives (Triplet m) s refl (λ a s' _. completes Done _ s'))

do_is_native-lives : (args : List (List ℕ)) (s : State) → Lives s (do_is_native args s)
unfolding do_is_native
do_is_native-lives [] s =
    ask-lives (Triplet Build) s refl (λ b s' _. ask-lives (Triplet Target) s' refl (λ t s'' _. completes Done _ s''))
do_is_native-lives (_ ∷ _) s = fail-lives _ s

pub do_target-lives : (c : TargetCommand) (args : List (List ℕ)) (s : State) → Lives s (do_target c args s)
do_target-lives IsTarget args s = do_is-lives Target _ args s
do_target-lives IsHost args s = do_is-lives Host _ args s
do_target-lives IsBuild args s = do_is-lives Build _ args s
do_target-lives IsNative args s = do_is_native-lives args s

pub do_flag-lives : (c : FlagCommand) (args : List (List ℕ)) (s : State) → Lives s (do_flag c args s)
unfolding do_flag
do_flag-lives c args s =
    either (list_any is_pattern args)
    (ask-lives (Triplet Target) s refl (λ a s' _. along (flagged-same c (triplet_of a) args s') (completes Done [] _)))
    (completes Done [] s)
