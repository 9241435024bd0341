use Rattle.std.proofs.Common.{◌≡◌, ◌∷◌, ◌∙◌, sym, subst, length, drop, List, ℕ, []}
use Rattle.bstr.specs.Text.{lines_of}
use Rattle.dg_transcript.specs.Lines.{Say}
use Rattle.dg_transcript.proofs.GoodLines.{take_on, fault_is, cut_short, some_at, whole_at}
use Rattle.dg_transcript.proofs.decoding.read_lines.Goals as goal

pub returns-in-Err-clause-fault : goal.returns-in-Err-clause-fault
returns-in-Err-clause-fault c =
    let all = lines_of c.args.text.now in
    let said = c.loop-line.lines in
    let here : drop (length said) all ≡ c.in-Some.line.now ∷ c.next.new.self = c.loop-line.invariant.rest ∙ c.in-Some.ensures.steps in
    fault_is c.args.text.now c.next-number.result c.in-Err.cause said c.in-Some.line.now c.next-number.ensures c.loop-line.invariant.say (some_at all (length said) c.in-Some.line.now c.next.new.self here).0 c.in-Err.ensures.why

pub loop-line-preserved : goal.loop-line-preserved
loop-line-preserved c =
    let all = lines_of c.args.text.now in
    let said = c.loop-line.lines in
    let here : drop (length said) all ≡ c.in-Some.line.now ∷ c.next.new.self = c.loop-line.invariant.rest ∙ c.in-Some.ensures.steps in
    let t = take_on all said c.take.new.self c.in-Some.line.now c.next.new.self c.loop-line.invariant.say here c.in_default.ensures.ok in
    record { say = t.0; rest = t.1 }

pub returns-then-not-is_over-clause-fault : goal.returns-then-not-is_over-clause-fault
returns-then-not-is_over-clause-fault c =
    cut_short c.args.text.now c.next-then-not-is_over.result c.loop-line.lines c.next-then-not-is_over.ensures c.loop-line.invariant.say (c.loop-line.invariant.rest ∙ c.in-None.ensures.steps.0) (sym c.is_over.ensures ∙ c.if-not-is_over.true)

pub returns-clause-ok : goal.returns-clause-ok
returns-clause-ok c =
    let all = lines_of c.args.text.now in
    let said = c.loop-line.lines in
    let whole = whole_at all (length said) (c.loop-line.invariant.rest ∙ c.in-None.ensures.steps.0) in
    rw c.into_lines.ensures.value (subst (λ (t : List (List ℕ)). Say [] t said) whole c.loop-line.invariant.say)
