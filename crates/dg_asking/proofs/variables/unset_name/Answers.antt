use Rattle.std.proofs.Common.{◌≡◌, ◌∙◌, ap, sym, true, true≢false}
use Rattle.std.specs.Prelude.{is_some}
use Rattle.dg_scope.specs.Scopes.{value_of}
use Rattle.dg_language.specs.State.{State}
use Rattle.dg_language.specs.Evaluation.{Then}
use Rattle.dg_language.specs.Variables.{unset_one}
use Rattle.dg_asking.specs.declared.attempt.AttemptEnd.TheVariants.{Fails}
use Rattle.dg_asking.proofs.AttemptLemmas.{keeps-on, used-ends}
use Rattle.dg_asking.proofs.VariableLemmas.{unset-passes, unset-fails, keeps-unset}
use Rattle.dg_asking.proofs.variables.unset_name.Goals as goal
use Rattle.dg_asking.proofs.variables.unset_name.Goals.{else-complains-via-then-complains+else-not-was_set, else-complains-via-else-complains}

pub returns-in-Some : goal.returns-in-Some
returns-in-Some c more =
    let n = c.args.name.now in
    (rw c.in-Some.is at c.in_ok-attempt.ensures.precedes)
    (λ s k. unset_one c.args.complains (is_some (value_of s.variables n)) n s (λ t. more t k) k)

pub returns-then-not-was_set : goal.returns-then-not-was_set
returns-then-not-was_set c more =
    let n = c.args.name.now in
    let ready = rw c.in_default.is at c.in_ok-attempt.ensures.precedes in
    let was = c.unassign-was_set.result in
    let did = c.unassign-was_set.ensures in
    let rest = λ (s : State) (k : Then). unset_one c.args.complains (is_some (value_of s.variables n)) n s (λ t. more t k) k in
    used-ends n rest c.args.state.now c.before_use.new.state c.unassign-was_set.new.self (Fails c.in_ok-message.message) ready (
      unset-fails n c.before_use.new.state c.unassign-was_set.new.self c.in_ok-message.message c.args.complains was (λ k t. more t k) c.if-complains.true
          c.if-not-was_set.true did.was did.unset c.in_ok-message.ensures,
      keeps-unset n c.before_use.new.state c.unassign-was_set.new.self was did.set did.unset,
    )

pub returns : goal.returns
returns c =
    let n = c.args.name.now in
    let s = c.before_use.new.state in
    let t = c.unassign-was_set.new.self in
    let ready = rw c.in_default.is at c.in_ok-attempt.ensures.precedes in
    let was = c.unassign-was_set.result in
    let did = c.unassign-was_set.ensures in
    let keeps = keeps-unset n s t was did.set did.unset in
    let passes : c.args.complains ≡ true → was ≡ true =
    elim c.else-complains.branch [
      | else-complains-via-then-complains+else-not-was_set w ↦ λ h. w.if-not-was_set.false
      | else-complains-via-else-complains w ↦ λ h. absurd (true≢false (sym h ∙ w.if-complains.false))
    ] in (
      λ more k. ready.0 (λ u. unset_one c.args.complains (is_some (value_of u.variables n)) n u more k) k
          ∙ ap (λ b. unset_one c.args.complains b n s more k) (sym did.was)
          ∙ unset-passes n s t c.args.complains was more k did.set did.unset passes,
      keeps-on c.args.state.now s t ready.1 keeps,
    )
