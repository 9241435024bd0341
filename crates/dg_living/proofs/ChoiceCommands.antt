-- The commands that compute, choose and repeat.
use Rattle.std.proofs.Common.{ℕ, suc, zero, Bool, true, false, List, [], ◌∷◌}
use Rattle.std.specs.Prelude.{Option, Some, None, Result, Ok, Err}
use Rattle.dg_cmds.specs.Lists.{concat_of}
use Rattle.dg_language.specs.declared.clause.Clause.{Clause}
use Rattle.dg_language.specs.declared.code.Code.{Code}
use Rattle.dg_language.specs.declared.code.Code.TheVariants.{Done, Failed, Returned, Broken, Continued, ExpContinued}
use Rattle.dg_language.specs.declared.command.ChoiceCommand.{ChoiceCommand}
use Rattle.dg_language.specs.declared.command.ChoiceCommand.TheVariants.{Expr, Eval, If, Switch, While, For}
use Rattle.dg_language.specs.Play.{Play}
use Rattle.dg_language.specs.State.{State}
use Rattle.dg_language.specs.Evaluation.{Ending, Then, Nested}
use Rattle.dg_language.specs.Arguments.{two, four}
use Rattle.dg_language.specs.Choosing.{AtCondition, clauses_at, do_otherwise, choose, do_if, next_after, between, body_if, repeat, do_while, do_for}
use Rattle.dg_language.specs.Switching.{switched, do_taken, do_switch, text_in, evaluated, do_eval}
use Rattle.dg_language.specs.Language.{do_choice}
use Rattle.dg_living.proofs.Steps.{Lives}
use Rattle.dg_living.proofs.Steps.{LivesInside, completes, ends_out, one_after_another, cut-lives, either, on-lives, tick-lives, fail-lives, if_done-lives, loop_after-lives}
use Rattle.dg_living.proofs.ExpressionValues.{condition-lives, do_expr-lives}

next_after-at : {f : State → Then → Play Ending} → ((s : State) → Lives s (f s)) → (c : Code) (v : List ℕ) (s : State)
    → Lives s (λ k. next_after (λ s'. f s' k) k c v s)
next_after-at f Done v s = f s
next_after-at f Broken v s = completes Done [] s
next_after-at f Continued v s = completes Continued v s
next_after-at f Failed v s = completes Failed v s
next_after-at f Returned v s = completes Returned v s
next_after-at f ExpContinued v s = completes ExpContinued v s

module _ (nested : Nested) (inside : LivesInside nested) where
  do_otherwise-lives : (otherwise : Option (List ℕ)) (s : State) → Lives s (do_otherwise nested otherwise s)
  do_otherwise-lives None s = completes Done [] s
  do_otherwise-lives (Some body) s = inside body s

  choose-lives : (cs : List Clause) (otherwise : Option (List ℕ)) (s : State) → Lives s (choose nested cs otherwise s)
  unfolding choose
  choose-lives [] otherwise s = do_otherwise-lives otherwise s
  choose-lives (c ∷ cs) otherwise s =
      condition-lives nested inside c.condition s (λ holds t. either holds (inside c.body t) (choose-lives cs otherwise t))

  do_if-lives : (args : List (List ℕ)) (s : State) → Lives s (do_if nested args s)
  unfolding do_if
  do_if-lives args s = on-lives (clauses_at AtCondition args) (fail-lives _ s) (λ c. choose-lives c.tested c.otherwise s)

  between-lives : (next : Option (List ℕ)) {f : State → Then → Play Ending} → ((s : State) → Lives s (f s)) → (s : State)
      → Lives s (λ k. between nested next (λ t. f t k) s k)
  between-lives None again s = again s
  between-lives (Some next) again s = one_after_another (inside next s) (next_after-at again)

  body_if-lives : (holds : Bool) (body : List ℕ) (next : Option (List ℕ)) {f : State → Then → Play Ending} → ((s : State) → Lives s (f s))
      → (s : State) → Lives s (λ k. body_if holds nested body next (λ t. f t k) s k)
  body_if-lives true body next again s = loop_after-lives (inside body s) (λ t. between-lives next again t)
  body_if-lives false body next again s = completes Done [] s

  repeat-lives : (r : ℕ) (test : List ℕ) (next : Option (List ℕ)) (body : List ℕ) (s : State) → Lives s (repeat nested r test next body s)
  unfolding repeat
  repeat-lives zero test next body s = ends_out s
  repeat-lives (suc r) test next body s =
      tick-lives s (λ t.
      condition-lives nested inside test t (λ holds u. body_if-lives holds body next (λ w. repeat-lives r test next body w) u))

  do_while-lives : (args : List (List ℕ)) (s : State) → Lives s (do_while nested args s)
  unfolding do_while
  do_while-lives args s = on-lives (two args) (fail-lives _ s) (λ a. repeat-lives 100000 a.0 None a.1 s)

  do_for-lives : (args : List (List ℕ)) (s : State) → Lives s (do_for nested args s)
  unfolding do_for
  do_for-lives args s =
      on-lives (four args) (fail-lives _ s) (λ a.
      if_done-lives (inside a.0 s) (λ v t. repeat-lives 100000 a.1 (Some a.2) a.3 t))

  do_taken-lives : (body : Result (Option (List ℕ)) (List ℕ)) (s : State) → Lives s (do_taken nested body s)
  do_taken-lives (Err message) s = fail-lives message s
  do_taken-lives (Ok body) s = do_otherwise-lives body s

  do_switch-lives : (args : List (List ℕ)) (s : State) → Lives s (do_switch nested args s)
  unfolding do_switch
  do_switch-lives args s = do_taken-lives (switched args) s

  evaluated-lives : (text : Option (List ℕ)) (s : State) → Lives s (evaluated nested text s)
  evaluated-lives None s = cut-lives _ s
  evaluated-lives (Some text) s = inside text s

  do_eval-lives : (args : List (List ℕ)) (s : State) → Lives s (do_eval nested args s)
  unfolding do_eval
  do_eval-lives [] s = fail-lives _ s
  do_eval-lives (w ∷ ws) s = evaluated-lives (text_in (concat_of (w ∷ ws))) s

  pub do_choice-lives : (c : ChoiceCommand) (args : List (List ℕ)) (s : State) → Lives s (do_choice nested c args s)
  do_choice-lives Expr args s = do_expr-lives nested inside args s
  do_choice-lives Eval args s = do_eval-lives args s
  do_choice-lives If args s = do_if-lives args s
  do_choice-lives Switch args s = do_switch-lives args s
  do_choice-lives While args s = do_while-lives args s
  do_choice-lives For args s = do_for-lives args s
