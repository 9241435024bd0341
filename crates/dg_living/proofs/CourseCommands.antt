-- Procedures, and the commands on the course of a script.
use Rattle.std.proofs.Common.{ℕ, suc, zero, List, [], ◌∷◌, length}
use Rattle.std.specs.Prelude.{Option, Some, None, Result, Ok, Err}
use Rattle.dg_language.specs.declared.code.Code.{Code}
use Rattle.dg_language.specs.declared.code.Code.TheVariants.{Done}
use Rattle.dg_language.specs.declared.command.ControlCommand.{ControlCommand}
use Rattle.dg_language.specs.declared.command.ControlCommand.TheVariants.{Foreach, Catch}
use Rattle.dg_language.specs.declared.procedure.Binding.{Binding}
use Rattle.dg_language.specs.declared.procedure.Procedure.{Procedure}
use Rattle.dg_language.specs.Play.{Play}
use Rattle.dg_language.specs.State.{State, assigned, entered, departed}
use Rattle.dg_language.specs.Evaluation.{Ending, Then, Nested, list_in}
use Rattle.dg_language.specs.Arguments.{split_first, three}
use Rattle.dg_language.specs.Procedures.{bindings, longest, call_bound, call}
use Rattle.dg_language.specs.Control.{digit_of, caught, catch_name, do_catch, head_or_empty, behind_first, give_each, each, with_values, with_names, do_foreach, do_control}
use Rattle.dg_living.proofs.Steps.{Lives}
use Rattle.dg_living.proofs.Changes.{assigned-same, entered-same, departed-same}
use Rattle.dg_living.proofs.Steps.{LivesInside, completes, along, ends_out, one_after_another, on-lives, tick-lives, within-lives, fail-lives, loop_after-lives, outside-at}
use Rattle.dg_living.proofs.VariableCommands.{touch-lives}

caught-at : (n : Option (List ℕ)) (c : Code) (v : List ℕ) (s : State) → Lives s (λ k. caught n k c v s)
unfolding caught
caught-at None c v s = completes Done (digit_of c) s
caught-at (Some n) c v s =
    touch-lives n s (λ s' _. within-lives (length v) s' (along (assigned-same n v s') (completes Done (digit_of c) (assigned n v s'))))

pub give_each-lives : (ns vs : List (List ℕ)) (s : State) {f : List (List ℕ) → State → Then → Play Ending}
    → ((left : List (List ℕ)) (t : State) → Lives t (f left t)) → Lives s (λ k. give_each ns vs s (λ left t. f left t k))
unfolding give_each
give_each-lives [] vs s f = f vs s
give_each-lives (n ∷ ns) vs s f =
    touch-lives n s (λ s' _.
    within-lives (length (head_or_empty vs)) s'
    (along (assigned-same n (head_or_empty vs) s') (give_each-lives ns (behind_first vs) (assigned n (head_or_empty vs) s') f)))

module _ (nested : Nested) (inside : LivesInside nested) where
  call_bound-lives : (bs : Option (List Binding)) (name body : List ℕ) (s : State) → Lives s (call_bound nested bs name body s)
  call_bound-lives None name body s = fail-lives _ s
  call_bound-lives (Some bs) name body s =
      within-lives (longest bs) s
      (along (entered-same bs s) (one_after_another (inside body (entered bs s)) (λ c v t. along (departed-same t) (outside-at c v (departed t)))))

  pub call-lives : (name : List ℕ) (p : Procedure) (args : List (List ℕ)) (s : State) → Lives s (call nested name p args s)
  unfolding call
  call-lives name p args s = call_bound-lives (bindings p.parameters args) name p.body s

  do_catch-lives : (args : List (List ℕ)) (s : State) → Lives s (do_catch nested args s)
  unfolding do_catch
  do_catch-lives args s =
      on-lives (split_first args) (fail-lives _ s) (λ p.
      on-lives (catch_name p.1) (fail-lives _ s) (λ n. one_after_another (inside p.0 s) (caught-at n)))

  each-lives : (r : ℕ) (names : List (List ℕ)) (body : List ℕ) (vs : List (List ℕ)) (s : State) → Lives s (each nested r names body vs s)
  unfolding each
  each-lives r names body [] s = completes Done [] s
  each-lives zero names body (v ∷ vs) s = ends_out s
  each-lives (suc r) names body (v ∷ vs) s =
      tick-lives s (λ s'.
      give_each-lives names (v ∷ vs) s' (λ left t.
      loop_after-lives (inside body t) (λ u. each-lives r names body left u)))

  with_values-lives : (names : List (List ℕ)) (body : List ℕ) (values : Result (List (List ℕ)) (List ℕ)) (s : State)
      → Lives s (with_values nested names body values s)
  with_values-lives names body (Err message) s = fail-lives message s
  with_values-lives names body (Ok values) s = each-lives 100000 names body values s

  with_names-lives : (names : Result (List (List ℕ)) (List ℕ)) (values body : List ℕ) (s : State)
      → Lives s (with_names nested names values body s)
  with_names-lives (Err message) values body s = fail-lives message s
  with_names-lives (Ok []) values body s = fail-lives _ s
  with_names-lives (Ok (n ∷ ns)) values body s = with_values-lives (n ∷ ns) body (list_in values) s

  do_foreach-lives : (args : List (List ℕ)) (s : State) → Lives s (do_foreach nested args s)
  unfolding do_foreach
  do_foreach-lives args s =
      on-lives (three args) (fail-lives _ s) (λ a. with_names-lives (list_in a.0) a.1 a.2 s)

  pub do_control-lives : (c : ControlCommand) (args : List (List ℕ)) (s : State) → Lives s (do_control nested c args s)
  do_control-lives Foreach args s = do_foreach-lives args s
  do_control-lives Catch args s = do_catch-lives args s
