use Rattle.std.proofs.Common.{refl, sym}
use Rattle.std.specs.Prelude.{None}
use Rattle.dg_language.specs.Evaluation.{fail}
use Rattle.dg_language.specs.Sessions.{later_limit, session_limit}
use Rattle.dg_asking.specs.declared.seeking.Fit.TheVariants.{Started}
use Rattle.dg_asking.specs.declared.attempt.AttemptEnd.TheVariants.{Fails}
use Rattle.dg_asking.proofs.AttemptLemmas.{attempts-as, ends-as}
use Rattle.dg_asking.proofs.SeekingLemmas.{match-fault, match-later, match-session, sought-ends}
use Rattle.dg_asking.proofs.limits.run_match_max.Goals as goal

pub returns-in-Err : goal.returns-in-Err
returns-in-Err c =
    let words = sym (rw c.in-Err.is at c.in_ok-words.ensures) in
    ends-as _ (fail c.in-Err.message) c.args.state.now c.args.state.now (Fails c.in-Err.message) ((λ k. refl), (refl, refl, refl)) (match-fault c.args.args.now c.in-Err.message words)

pub returns-then-later : goal.returns-then-later
returns-then-later c =
    let words = sym (rw c.in-Ok.is at c.in_ok-words.ensures) in
    ends-as _ (λ s k. later_limit c.in-Ok.words.1 s k) _ _ _ c.in_ok-outcome.ensures (match-later c.args.args.now c.in-Ok.words words c.if-later.true)

pub returns-in_ok-outcome-in-Ok-2 : goal.returns-in_ok-outcome-in-Ok-2
returns-in_ok-outcome-in-Ok-2 c =
    let words = sym (rw c.in-Ok.is at c.in_ok-words.ensures) in
    let sought = rw c.in-Ok-2.is at c.in_ok-session.ensures in
    ends-as _ _ _ _ _
    (sought-ends Started None c.in-Ok-2.session (λ n s k. session_limit n c.in-Ok.words.1 s k) _ _ _ _ sought c.in_ok-outcome-in-Ok-2.ensures)
    (match-session c.args.args.now c.in-Ok.words words c.if-later.false)

pub returns-in-Err-2 : goal.returns-in-Err-2
returns-in-Err-2 c =
    let words = sym (rw c.in-Ok.is at c.in_ok-words.ensures) in
    let sought = rw c.in-Err-2.is at c.in_ok-session.ensures in
    attempts-as _ _ _ _ _ (sought (λ n s k. session_limit n c.in-Ok.words.1 s k)) (match-session c.args.args.now c.in-Ok.words words c.if-later.false)
