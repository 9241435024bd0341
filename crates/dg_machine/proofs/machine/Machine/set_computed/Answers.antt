use Rattle.std.proofs.Common.{◌∙◌, ap, sym}
use Rattle.std.specs.Arc.{arc_value}
use Rattle.dg_language.specs.State.{assigned, stepped}
use Rattle.dg_language.specs.Variables.{is_to_begin}
use Rattle.dg_machine.proofs.SettlingLemmas.{asks-assigned, asks-stepped, coded-computes, set-computes}
use Rattle.dg_machine.proofs.machine.Machine.set_computed.Goals as goal

pub returns-clause-some : goal.returns-clause-some
returns-clause-some c =
    let s = c.args.self.now.state in
    let way = c.requires in
    let none = rw c.if-is_hidden.false at c.is_hidden.ensures in
    let free = ap (λ n. is_to_begin n s) (sym c.as_slice.ensures) ∙ sym c.is_to_begin.ensures ∙ c.if-is_to_begin.false in
    let after = rw c.in-Some-2.is at c.in_ok-value.ensures.after in
    let yields = rw c.in-Some-2.is at c.in_ok-value.ensures.some in
    let short = rw c.in-Some-2.is at c.in_ok-value.ensures.short in
    let comes = coded-computes c.args.depth way.0 (arc_value c.args.formula.now) s c.in-Some-2.value c.if-depth-eq0.false way.1.3 yields in
    rw (c.in_ok-assign.ensures, after, c.as_slice-2.ensures, c.in_ok-copy.ensures)
    (set-computes c.args.depth s c.args.steps.now c.in-Some.name.now way.0 c.in-Some-2.value way.1.0 c.in-Some.ensures.word
    way.1.1 way.1.2 c.in-Some.ensures.short none free comes short)

pub returns-clause-asks : goal.returns-clause-asks
returns-clause-asks c =
    let s = c.args.self.now.state in
    let n = c.as_slice-2.result.now in
    let v = c.in_ok-copy.field-0 in
    let after = rw c.in-Some-2.is at c.in_ok-value.ensures.after in
    rw (c.in_ok-assign.ensures, after) (asks-stepped s (assigned n v (stepped s)) (asks-assigned (stepped s) n v))
