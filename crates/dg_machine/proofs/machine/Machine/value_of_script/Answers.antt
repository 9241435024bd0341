use Rattle.std.proofs.Common.{◌≡◌, ◌∙◌, ap, length, sym}
use Rattle.std.specs.Arc.{arc_value}
use Rattle.std.specs.Box.{with_value}
use Rattle.dg_compiled.specs.Ways.{HasCode}
use Rattle.dg_machine.proofs.SettlingLemmas.{if-some, only-yields, text-computes}
use Rattle.dg_machine.proofs.machine.Machine.value_of_script.Goals as goal

pub returns-clause-some : goal.returns-clause-some
returns-clause-some c =
    let told = c.in-Some-default-Computing.ensures in
    let steps = c.in-Some-default-Computing._steps.now in
    let code = arc_value c.in-Some-default-Computing.formula in
    let coded : HasCode steps code = rw c.in-Some-default-Computing.field-0-1-is at told.way in
    let commands = c.deref-2.result.now in
    let one : length commands ≡ 1 = rw (c.deref.ensures, ← c.deref-2.ensures) at (sym c.count.ensures ∙ c.if-count-ne1.false) in
    if-some _ _ _
    (λ v yields. text-computes c.args.depth c.args.script.now commands c.args.self.now.state v c.if-depth-eq0.false (c.deref-2.ensures ∙ c.in_ok-commands.ensures)
    (only-yields _ commands steps code _ v told.steps one coded yields))
    c.in_ok-value.ensures.some

pub returns-then-count-ne1-clause-same : goal.returns-then-count-ne1-clause-same
returns-then-count-ne1-clause-same c =
    let m = c.args.self.now in
    ap (λ v. record { state = m.state; stack = m.stack; control = m.control; shelves = with_value m.shelves v }) c.deref_mut.ensures.value

pub returns-in_default-clause-same : goal.returns-in_default-clause-same
returns-in_default-clause-same c =
    let m = c.args.self.now in
    ap (λ v. record { state = m.state; stack = m.stack; control = m.control; shelves = with_value m.shelves v }) c.deref_mut.ensures.value

pub returns-clause-same : goal.returns-clause-same
returns-clause-same c =
    let m = c.args.self.now in
    let state = c.value_of_only.new.self.state in
    c.in_ok-value.ensures.same ∙ ap (λ v. record { state = state; stack = m.stack; control = m.control; shelves = with_value m.shelves v }) c.deref_mut.ensures.value
