-- The commands on libraries, targets and flags.
use Rattle.std.proofs.Common.{ℕ, Bool, true, false, List, [], ◌∷◌}
use Rattle.std.specs.Prelude.{Option, Some, None}
use Rattle.std.specs.List.{list_any}
use Rattle.std.specs.FinMap as map
use Rattle.dg_world.specs.Name.{is_name}
use Rattle.dg_world.specs.declared.question.System.{System}
use Rattle.dg_world.specs.declared.question.System.TheVariants.{Target, Host, Build}
use Rattle.dg_world.specs.declared.question.Question.TheVariants.{File, Triplet}
use Rattle.dg_language.specs.declared.code.Code.{Code}
use Rattle.dg_language.specs.declared.code.Code.TheVariants.{Done, Failed, Returned, Broken, Continued, ExpContinued}
use Rattle.dg_language.specs.declared.command.TargetCommand.{TargetCommand}
use Rattle.dg_language.specs.declared.command.TargetCommand.TheVariants.{IsTarget, IsHost, IsBuild, IsNative}
use Rattle.dg_language.specs.declared.command.FlagCommand.{FlagCommand}
use Rattle.dg_language.specs.State.{State, in_library, departed}
use Rattle.dg_language.specs.Evaluation.{Nested}
use Rattle.dg_language.specs.Arguments.{only}
use Rattle.dg_language.specs.Boards.{library_file, content_of, after_library, found, load, load_named, do_load_lib, do_is, do_is_native, do_target, is_pattern, do_flag}
use Rattle.dg_laws.specs.Grafting.{Grafted}
use Rattle.dg_laws.proofs.Trees.{one_after_another}
use Rattle.dg_laws.proofs.Steps.{IsGraftedInside, completes, either, on-grafted, ask-grafted, fail-grafted}

after_library-at : (c : Code) (v : List ℕ) (s : State) → Grafted (λ k. after_library k c v s)
unfolding after_library
after_library-at Done v s = completes Done [] (departed s)
after_library-at Returned v s = completes Done [] (departed s)
after_library-at Failed v s = completes Failed v (departed s)
after_library-at Broken v s = completes Failed _ (departed s)
after_library-at Continued v s = completes Failed _ (departed s)
after_library-at ExpContinued v s = completes Failed _ (departed s)

module _ (nested : Nested) (inside : IsGraftedInside nested) where
  found-grafted : (f : List ℕ) (content : Option (List ℕ)) (s : State) → Grafted (found nested f content s)
  found-grafted f None s = fail-grafted _ _
  found-grafted f (Some t) s = one_after_another (inside t (in_library (library_file f) s)) after_library-at

  load-grafted : (f : List ℕ) (s : State) → Grafted (load nested f s)
  unfolding load
  load-grafted f s =
      either (map.contains_key s.libraries (library_file f))
      (completes Done [] s)
      (ask-grafted (File (library_file f)) s (λ a s'. found-grafted f (content_of a) s'))

  load_named-grafted : (named : Bool) (f : List ℕ) (s : State) → Grafted (load_named nested named f s)
  load_named-grafted false f s = fail-grafted _ s
  load_named-grafted true f s = load-grafted f s

  pub do_load_lib-grafted : (args : List (List ℕ)) (s : State) → Grafted (do_load_lib nested args s)
  unfolding do_load_lib
  do_load_lib-grafted args s =
      on-grafted (only args) (fail-grafted _ s) (λ f. load_named-grafted (is_name (library_file f)) f s)

do_is-grafted : (m : System) (name : List ℕ) (args : List (List ℕ)) (s : State) → Grafted (do_is m name args s)
unfolding do_is
do_is-grafted m name args s =
    on-grafted (only args) (fail-grafted _ s) (λ p. ask-grafted (Triplet m) s (λ a s'. completes Done _ s'))

do_is_native-grafted : (args : List (List ℕ)) (s : State) → Grafted (do_is_native args s)
unfolding do_is_native
do_is_native-grafted [] s =
    ask-grafted (Triplet Build) s (λ b s'. ask-grafted (Triplet Target) s' (λ t s''. completes Done _ s''))
do_is_native-grafted (_ ∷ _) s = fail-grafted _ s

pub do_target-grafted : (c : TargetCommand) (args : List (List ℕ)) (s : State) → Grafted (do_target c args s)
do_target-grafted IsTarget args s = do_is-grafted Target _ args s
do_target-grafted IsHost args s = do_is-grafted Host _ args s
do_target-grafted IsBuild args s = do_is-grafted Build _ args s
do_target-grafted IsNative args s = do_is_native-grafted args s

pub do_flag-grafted : (c : FlagCommand) (args : List (List ℕ)) (s : State) → Grafted (do_flag c args s)
unfolding do_flag
do_flag-grafted c args s =
    either (list_any is_pattern args)
    (ask-grafted (Triplet Target) s (λ a s'. completes Done [] _))
    (completes Done [] s)
