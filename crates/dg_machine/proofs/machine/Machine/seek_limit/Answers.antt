use Rattle.std.proofs.Common.{◌^◌, ◌∙◌, ap, refl, arith}
use Rattle.std.proofs.lemmas.Result.{IfOk-weaker}
use Rattle.std.specs.Prelude.{codes}
use Rattle.dg_scope.specs.Scopes.{value_of}
use Rattle.dg_language.specs.Sessions.{sought}
use Rattle.dg_language.specs.Expecting.{or_ten}
use Rattle.dg_machine.specs.declared.machine.Machine.{Machine}
use Rattle.dg_machine.specs.Meaning.{go, rest}
use Rattle.dg_machine.proofs.GatherLemmas.{Comes-along}
use Rattle.dg_machine.proofs.LimitLemmas.{limit-asks, limited, limited_by, ready-comes, unlimited}
use Rattle.dg_machine.proofs.ResultLemmas.{Goes-comes-ok}
use Rattle.dg_machine.proofs.machine.Machine.seek_limit.Goals as goal

pub returns-in-Some : goal.returns-in-Some
returns-in-Some c =
    let went = rw (c.as_slice.ensures, c.in_ok-text.ensures) at c.begin_compiling.ensures in
    Goes-comes-ok _ _ _ _ _ _ _ went (limited _ _ _ _ c.in-Some.is) (omega arith)

pub returns-in_ok-push-in-Some-Stands : goal.returns-in_ok-push-in-Some-Stands
unfolding rest go
returns-in_ok-push-in-Some-Stands c =
    let asks = rw (c.as_slice-2.ensures, c.in_ok-name.ensures) at (rw c.in-Some-Stands.field-0-is at (rw c.in-Some-Stands.is at c.in_ok-ask.ensures)) in
    rw (c.in-Some-Stands.field-0-is, c.in_ok-push-in-Some-Stands.ensures, asks.1, c.requires)
    (limit-asks _ _ _ _ c.in_default.is asks.0, refl, asks.2)

pub returns-in-Some-Over : goal.returns-in-Some-Over
returns-in-Some-Over c =
    let over = rw (c.as_slice-2.ensures, c.in_ok-name.ensures) at (rw c.in-Some-Over.field-0-is at (rw c.in-Some-Over.is at c.in_ok-ask.ensures)) in
    rw c.in-Some-Over.field-0-is (unlimited _ _ _ c.in_default.is ∙ over.0 _, ap (λ (m : Machine). m.state.known) over.1)

pub returns-in_ok-text-in-None : goal.returns-in_ok-text-in-None
returns-in_ok-text-in-None c =
    let l = c.args.expecting in
    let name = sought (codes "timeout") c.args.self.now.state in
    let ready = rw (c.as_slice-2.ensures, c.in_ok-name.ensures) at (rw c.in-None.is at c.in_ok-ask.ensures) in
    let went = rw (c.as_slice-in-None-2.ensures, c.in_ok-text-in-None.ensures, c.value_of.ensures, c.as_slice-in-None.ensures, c.in_ok-name.ensures) at c.begin_compiling-in-None.ensures in
    IfOk-weaker c.begin_compiling-in-None.result _ _
    (λ p h.
    Comes-along p _ _ _ _ _ _ (ready-comes name (λ t k. limited_by l (or_ten (value_of t.variables name)) t k) (2 ^ 60) _ _ _ p ready h)
    (unlimited l _ _ c.in_default.is) (omega arith))
    went
