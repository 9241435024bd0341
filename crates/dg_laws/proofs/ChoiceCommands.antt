-- The commands that compute, choose and repeat.
use Rattle.std.proofs.Common.{ℕ, suc, zero, Bool, true, false, List, [], ◌∷◌}
use Rattle.std.specs.Prelude.{Option, Some, None, Result, Ok, Err}
use Rattle.dg_cmds.specs.Lists.{concat_of}
use Rattle.dg_language.specs.declared.clause.Clause.{Clause}
use Rattle.dg_language.specs.declared.code.Code.{Code}
use Rattle.dg_language.specs.declared.code.Code.TheVariants.{Done, Failed, Returned, Broken, Continued, ExpContinued}
use Rattle.dg_language.specs.declared.command.ChoiceCommand.{ChoiceCommand}
use Rattle.dg_language.specs.declared.command.ChoiceCommand.TheVariants.{Expr, Eval, If, Switch, While, For}
use Rattle.dg_language.specs.Play.{Play}
use Rattle.dg_language.specs.State.{State}
use Rattle.dg_language.specs.Evaluation.{Ending, Then, Nested}
use Rattle.dg_language.specs.Arguments.{two, four}
use Rattle.dg_language.specs.Choosing.{AtCondition, clauses_at, do_otherwise, choose, do_if, next_after, between, body_if, repeat, do_while, do_for}
use Rattle.dg_language.specs.Switching.{switched, do_taken, do_switch, text_in, evaluated, do_eval}
use Rattle.dg_language.specs.Language.{do_choice}
use Rattle.dg_laws.specs.Grafting.{Grafted}
use Rattle.dg_laws.proofs.Trees.{one_after_another}
use Rattle.dg_laws.proofs.Steps.{IsGraftedInside, completes, stops, cut-grafted, either, on-grafted, tick-grafted, fail-grafted, if_done-grafted, loop_after-grafted}
use Rattle.dg_laws.proofs.ExpressionValues.{condition-grafted, do_expr-grafted}

next_after-at : {f : State → Then → Play Ending} → ((s : State) → Grafted (f s)) → (c : Code) (v : List ℕ) (s : State)
    → Grafted (λ k. next_after (λ s'. f s' k) k c v s)
next_after-at f Done v s = f s
next_after-at f Broken v s = completes Done [] s
next_after-at f Continued v s = completes Continued v s
next_after-at f Failed v s = completes Failed v s
next_after-at f Returned v s = completes Returned v s
next_after-at f ExpContinued v s = completes ExpContinued v s

module _ (nested : Nested) (inside : IsGraftedInside nested) where
  do_otherwise-grafted : (otherwise : Option (List ℕ)) (s : State) → Grafted (do_otherwise nested otherwise s)
  do_otherwise-grafted None s = completes Done [] s
  do_otherwise-grafted (Some body) s = inside body s

  choose-grafted : (cs : List Clause) (otherwise : Option (List ℕ)) (s : State) → Grafted (choose nested cs otherwise s)
  unfolding choose
  choose-grafted [] otherwise s = do_otherwise-grafted otherwise s
  choose-grafted (c ∷ cs) otherwise s =
      condition-grafted nested inside c.condition s (λ holds t. either holds (inside c.body t) (choose-grafted cs otherwise t))

  do_if-grafted : (args : List (List ℕ)) (s : State) → Grafted (do_if nested args s)
  unfolding do_if
  do_if-grafted args s = on-grafted (clauses_at AtCondition args) (fail-grafted _ s) (λ c. choose-grafted c.tested c.otherwise s)

  between-grafted : (next : Option (List ℕ)) {f : State → Then → Play Ending} → ((s : State) → Grafted (f s)) → (s : State)
      → Grafted (λ k. between nested next (λ t. f t k) s k)
  between-grafted None again s = again s
  between-grafted (Some next) again s = one_after_another (inside next s) (next_after-at again)

  body_if-grafted : (holds : Bool) (body : List ℕ) (next : Option (List ℕ)) {f : State → Then → Play Ending} → ((s : State) → Grafted (f s))
      → (s : State) → Grafted (λ k. body_if holds nested body next (λ t. f t k) s k)
  body_if-grafted true body next again s = loop_after-grafted (inside body s) (λ t. between-grafted next again t)
  body_if-grafted false body next again s = completes Done [] s

  repeat-grafted : (r : ℕ) (test : List ℕ) (next : Option (List ℕ)) (body : List ℕ) (s : State) → Grafted (repeat nested r test next body s)
  unfolding repeat
  repeat-grafted zero test next body s = stops _
  repeat-grafted (suc r) test next body s =
      tick-grafted s (λ t.
      condition-grafted nested inside test t (λ holds u. body_if-grafted holds body next (λ w. repeat-grafted r test next body w) u))

  do_while-grafted : (args : List (List ℕ)) (s : State) → Grafted (do_while nested args s)
  unfolding do_while
  do_while-grafted args s = on-grafted (two args) (fail-grafted _ s) (λ a. repeat-grafted 100000 a.0 None a.1 s)

  do_for-grafted : (args : List (List ℕ)) (s : State) → Grafted (do_for nested args s)
  unfolding do_for
  do_for-grafted args s =
      on-grafted (four args) (fail-grafted _ s) (λ a.
      if_done-grafted (inside a.0 s) (λ v t. repeat-grafted 100000 a.1 (Some a.2) a.3 t))

  do_taken-grafted : (body : Result (Option (List ℕ)) (List ℕ)) (s : State) → Grafted (do_taken nested body s)
  do_taken-grafted (Err message) s = fail-grafted message s
  do_taken-grafted (Ok body) s = do_otherwise-grafted body s

  do_switch-grafted : (args : List (List ℕ)) (s : State) → Grafted (do_switch nested args s)
  unfolding do_switch
  do_switch-grafted args s = do_taken-grafted (switched args) s

  evaluated-grafted : (text : Option (List ℕ)) (s : State) → Grafted (evaluated nested text s)
  evaluated-grafted None s = cut-grafted _ s
  evaluated-grafted (Some text) s = inside text s

  do_eval-grafted : (args : List (List ℕ)) (s : State) → Grafted (do_eval nested args s)
  unfolding do_eval
  do_eval-grafted [] s = fail-grafted _ s
  do_eval-grafted (w ∷ ws) s = evaluated-grafted (text_in (concat_of (w ∷ ws))) s

  pub do_choice-grafted : (c : ChoiceCommand) (args : List (List ℕ)) (s : State) → Grafted (do_choice nested c args s)
  do_choice-grafted Expr args s = do_expr-grafted nested inside args s
  do_choice-grafted Eval args s = do_eval-grafted args s
  do_choice-grafted If args s = do_if-grafted args s
  do_choice-grafted Switch args s = do_switch-grafted args s
  do_choice-grafted While args s = do_while-grafted args s
  do_choice-grafted For args s = do_for-grafted args s
