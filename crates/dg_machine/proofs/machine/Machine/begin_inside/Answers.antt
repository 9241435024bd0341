use Rattle.std.proofs.Common.{◌≡◌, ◌<◌, ◌∙◌, [], drop, length, ap, refl, sym, arith}
use Rattle.std.proofs.lemmas.List.{drop_all}
use Rattle.std.specs.Arc.{arc_value}
use Rattle.dg_machine.specs.Meaning.{all_back, go, rest}
use Rattle.dg_machine.specs.declared.frame.Control.TheVariants.{Go}
use Rattle.dg_machine.specs.declared.machine.Machine.{Machine}
use Rattle.dg_machine.proofs.MachineLemmas.{sequence-done, weight-cons}
use Rattle.dg_machine.proofs.SettlingLemmas.{behind-any, left-settled, weight-ended, weight-settled}
use Rattle.dg_machine.proofs.ResultLemmas.{Goes-along-ok}
use Rattle.dg_machine.proofs.machine.Machine.begin_inside.Goals as goal

pub returns-then-at-count : goal.returns-then-at-count
unfolding rest
returns-then-at-count c =
    let old = c.args.self.now in
    let all = arc_value c.in-Ok.all in
    let at = c.in_ok-at-in-Ok.at in
    let settled = rw c.deref.ensures at c.in_ok-at-in-Ok.ensures in
    let stack = ap (λ (m : Machine). m.stack) settled.same in
    let less = weight-settled Go old.stack old.state c.settle_from.new.self.state settled.asks in
    let count = rw c.deref-in-Ok.ensures at c.count.ensures in
    let none : drop at all ≡ [] = drop_all at all (omega (arith, count, c.if-at-count.true)) in
    let left = left-settled _ _ all _ at _ _ _ _ _ (all_back old.stack) c.in-Ok.ensures c.new-value.ensures settled.goes_on in
    rw (c.end.ensures, stack) (sym (left ∙ sequence-done _ _ _ _ _ none), settled.asks.0, rw (weight-ended, c.requires) (omega (arith, less)))

pub returns-else-at-count : goal.returns-else-at-count
returns-else-at-count c =
    let old = c.args.self.now in
    let all = arc_value c.in-Ok.all in
    let at = c.in_ok-at-in-Ok.at in
    let settled = rw c.deref.ensures at c.in_ok-at-in-Ok.ensures in
    let stack = ap (λ (m : Machine). m.stack) settled.same in
    let control = ap (λ (m : Machine). m.control) settled.same in
    let less = weight-settled old.control old.stack old.state c.settle_from.new.self.state settled.asks in
    let count = rw c.deref-in-Ok.ensures at c.count.ensures in
    let more : at < length all = omega (arith, count, c.if-at-count.false) in
    let left = left-settled _ _ all _ at _ _ _ _ _ (all_back old.stack) c.in-Ok.ensures c.new-value.ensures settled.goes_on in
    let went = rw (stack, control) at c.begin_at.ensures in
    Goes-along-ok _ _ _ _ _ _ _ _ went (left ∙ behind-any _ all at _ [] _ _ more) settled.asks.0 (omega (arith, less))

pub returns-in_ok-push-in-Err : goal.returns-in_ok-push-in-Err
unfolding rest go
returns-in_ok-push-in-Err c = rw (c.in_ok-push-in-Err.ensures, c.in-Err.ensures, c.requires) (refl, refl, rw weight-cons (omega arith))
