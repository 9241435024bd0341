use Rattle.std.proofs.Common.{◌≡◌, ℕ, ◌+◌, ◌-◌, ◌<◌, ◌≢◌, List, [], ◌++◌, length, Ok, ap, sym, ◌∙◌, inr, arith}
use Rattle.std.specs.List.{repeat}
use Rattle.std.proofs.lemmas.Bool.{false≢true, eqb-true, eq-eqb}
use Rattle.std.proofs.lemmas.List.{nil_from_length}
use Rattle.dg_cmds.specs.Answers.{limited}
use Rattle.dg_cmds.proofs.RepeatLemmas.{repeat-nil, repeat-more, repeat-end, repeat-fits, repeat-past, limited-nil}
use Rattle.dg_cmds.proofs.strings.repeated.Goals as goal

pub loop-init : goal.loop-init
loop-init c = ap (λ (v : List ℕ). v ++ repeat (c.args.count - 0) c.args.text.now) c.new-value.ensures ∙ ap (λ (n : ℕ). repeat n c.args.text.now) (let e : c.args.count - 0 ≡ c.args.count = omega arith in e)

pub loop-preserved : goal.loop-preserved
loop-preserved c =
    ap (λ (v : List ℕ). v ++ repeat (c.args.count - (c.loop.counter + 1)) c.args.text.now) c.in_ok-extend.ensures.ok
    ∙ repeat-more c.args.count c.loop.counter c.loop.value c.args.text.now _ c.loop-test.true c.loop.invariant

pub returns-then-is_empty : goal.returns-then-is_empty
returns-then-is_empty c =
    let empty : c.args.text.now ≡ [] = nil_from_length c.args.text.now (eqb-true _ 0 (sym c.is_empty.ensures ∙ c.if-is_empty.true)) in
    ap (λ (t : List ℕ). limited (repeat c.args.count t)) empty ∙ (ap limited (repeat-nil c.args.count) ∙ (limited-nil ∙ ap (λ (v : List ℕ). Ok v) (sym c.new.ensures)))

pub returns-then-count-text : goal.returns-then-count-text
returns-then-count-text c =
    let some : length c.args.text.now ≢ 0 = λ e. false≢true (sym c.if-is_empty.false ∙ (c.is_empty.ensures ∙ eq-eqb _ 0 e)) in
    inr (repeat-past c.args.count c.args.text.now (let l : 0 < length c.args.text.now = omega arith in l) c.if-count-text.true)

pub returns : goal.returns
returns c =
    let some : length c.args.text.now ≢ 0 = λ e. false≢true (sym c.if-is_empty.false ∙ (c.is_empty.ensures ∙ eq-eqb _ 0 e)) in
    repeat-fits c.args.count c.args.text.now c.loop.value (let l : 0 < length c.args.text.now = omega arith in l) c.if-count-text.false
    (repeat-end c.args.count c.loop.counter c.loop.value c.args.text.now _ c.loop-test.false c.loop.invariant)
