-- Procedures, and the commands on the course of a script.
use Rattle.std.proofs.Common.{ℕ, suc, zero, List, [], ◌∷◌, length}
use Rattle.std.specs.Prelude.{Option, Some, None, Result, Ok, Err}
use Rattle.dg_language.specs.declared.code.Code.{Code}
use Rattle.dg_language.specs.declared.code.Code.TheVariants.{Done}
use Rattle.dg_language.specs.declared.command.ControlCommand.{ControlCommand}
use Rattle.dg_language.specs.declared.command.ControlCommand.TheVariants.{Foreach, Catch}
use Rattle.dg_language.specs.declared.procedure.Binding.{Binding}
use Rattle.dg_language.specs.declared.procedure.Procedure.{Procedure}
use Rattle.dg_language.specs.Play.{Play}
use Rattle.dg_language.specs.State.{State, assigned, entered, departed}
use Rattle.dg_language.specs.Evaluation.{Ending, Then, Nested, list_in}
use Rattle.dg_language.specs.Arguments.{split_first, three}
use Rattle.dg_language.specs.Procedures.{bindings, longest, call_bound, call}
use Rattle.dg_language.specs.Control.{digit_of, caught, catch_name, do_catch, head_or_empty, behind_first, give_each, each, with_values, with_names, do_foreach, do_control}
use Rattle.dg_laws.specs.Grafting.{Grafted}
use Rattle.dg_laws.proofs.Trees.{one_after_another}
use Rattle.dg_laws.proofs.Steps.{IsGraftedInside, completes, stops, on-grafted, tick-grafted, within-grafted, fail-grafted, loop_after-grafted, outside-at}
use Rattle.dg_laws.proofs.VariableCommands.{touch-grafted}

caught-at : (n : Option (List ℕ)) (c : Code) (v : List ℕ) (s : State) → Grafted (λ k. caught n k c v s)
unfolding caught
caught-at None c v s = completes Done (digit_of c) s
caught-at (Some n) c v s =
    touch-grafted n s (λ s'. within-grafted (length v) s' (completes Done (digit_of c) (assigned n v s')))

pub give_each-grafted : (ns vs : List (List ℕ)) (s : State) {f : List (List ℕ) → State → Then → Play Ending}
    → ((left : List (List ℕ)) (t : State) → Grafted (f left t)) → Grafted (λ k. give_each ns vs s (λ left t. f left t k))
unfolding give_each
give_each-grafted [] vs s f = f vs s
give_each-grafted (n ∷ ns) vs s f =
    touch-grafted n s (λ s'.
    within-grafted (length (head_or_empty vs)) s' (give_each-grafted ns (behind_first vs) (assigned n (head_or_empty vs) s') f))

module _ (nested : Nested) (inside : IsGraftedInside nested) where
  call_bound-grafted : (bs : Option (List Binding)) (name body : List ℕ) (s : State) → Grafted (call_bound nested bs name body s)
  call_bound-grafted None name body s = fail-grafted _ s
  call_bound-grafted (Some bs) name body s =
      within-grafted (longest bs) s (one_after_another (inside body (entered bs s)) (λ c v t. outside-at c v (departed t)))

  pub call-grafted : (name : List ℕ) (p : Procedure) (args : List (List ℕ)) (s : State) → Grafted (call nested name p args s)
  unfolding call
  call-grafted name p args s = call_bound-grafted (bindings p.parameters args) name p.body s

  do_catch-grafted : (args : List (List ℕ)) (s : State) → Grafted (do_catch nested args s)
  unfolding do_catch
  do_catch-grafted args s =
      on-grafted (split_first args) (fail-grafted _ s) (λ p.
      on-grafted (catch_name p.1) (fail-grafted _ s) (λ n. one_after_another (inside p.0 s) (caught-at n)))

  each-grafted : (r : ℕ) (names : List (List ℕ)) (body : List ℕ) (vs : List (List ℕ)) (s : State) → Grafted (each nested r names body vs s)
  unfolding each
  each-grafted r names body [] s = completes Done [] s
  each-grafted zero names body (v ∷ vs) s = stops _
  each-grafted (suc r) names body (v ∷ vs) s =
      tick-grafted s (λ s'.
      give_each-grafted names (v ∷ vs) s' (λ left t.
      loop_after-grafted (inside body t) (λ u. each-grafted r names body left u)))

  with_values-grafted : (names : List (List ℕ)) (body : List ℕ) (values : Result (List (List ℕ)) (List ℕ)) (s : State)
      → Grafted (with_values nested names body values s)
  with_values-grafted names body (Err message) s = fail-grafted message s
  with_values-grafted names body (Ok values) s = each-grafted 100000 names body values s

  with_names-grafted : (names : Result (List (List ℕ)) (List ℕ)) (values body : List ℕ) (s : State)
      → Grafted (with_names nested names values body s)
  with_names-grafted (Err message) values body s = fail-grafted message s
  with_names-grafted (Ok []) values body s = fail-grafted _ s
  with_names-grafted (Ok (n ∷ ns)) values body s = with_values-grafted (n ∷ ns) body (list_in values) s

  do_foreach-grafted : (args : List (List ℕ)) (s : State) → Grafted (do_foreach nested args s)
  unfolding do_foreach
  do_foreach-grafted args s =
      on-grafted (three args) (fail-grafted _ s) (λ a. with_names-grafted (list_in a.0) a.1 a.2 s)

  pub do_control-grafted : (c : ControlCommand) (args : List (List ℕ)) (s : State) → Grafted (do_control nested c args s)
  do_control-grafted Foreach args s = do_foreach-grafted args s
  do_control-grafted Catch args s = do_catch-grafted args s
