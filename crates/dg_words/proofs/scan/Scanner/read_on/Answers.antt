use Rattle.std.proofs.Common.{◌≡◌, ◌+◌, ◌≤◌, length, arith, subst, sym, ◌∙◌, get_or, inr, ap, refl}
use Rattle.dg_words.specs.Machine.{Go, Over, Fails, step, stop, stopped}
use Rattle.dg_words.specs.Reading.{kind_of}
use Rattle.dg_words.specs.Answers.{Made}
use Rattle.dg_words.specs.Runs.{Reaches}
use Rattle.dg_words.proofs.Loop.{Falls, reads_move, reads_stop, step_depth, step_falls}
use Rattle.dg_words.proofs.scan.Scanner.read_on.Goals as goal

pub pass-requires-clause-deep : goal.pass-requires-clause-deep
pass-requires-clause-deep c =
    let s = c.loop-place.self in
    let b = get_or c.args.text.now c.loop-place.place 0 in
    let took : step c.args.level s b ≡ Go c.step.new.self = subst (λ p. Made (step c.args.level s b) p c.step.new.self) c.in-Go.is c.in_ok-step.ensures in
    omega (arith, step_depth c.args.level s c.step.new.self b took, c.loop-place.invariant.deep)

pub loop-place-preserved : goal.loop-place-preserved
loop-place-preserved c =
    let s = c.loop-place.self in
    let b = get_or c.args.text.now c.loop-place.place 0 in
    let took : step c.args.level s b ≡ Go c.step.new.self = subst (λ p. Made (step c.args.level s b) p c.step.new.self) c.in-Go.is c.in_ok-step.ensures in
    let falls = step_depth c.args.level s c.step.new.self b took in
    let run : Reaches c.args.text.now (c.loop-place.place + 1) c.step.new.self c.in_ok-place-in-Go.place c.pass.new.self = c.in_ok-place-in-Go.ensures in
    let deep = run.deep in
    let before = c.loop-place.invariant.deep in
    record {
      reads = sym (run.reads c.args.level) ∙ sym (reads_move c.args.level c.args.text.now s c.loop-place.place (Go c.step.new.self) (omega (arith, c.loop-place-test.true)) took) ∙ c.loop-place.invariant.reads;
      within = run.within;
      deep = omega arith;
    }

pub overflow_add-result : goal.overflow_add-result
overflow_add-result c =
    let s = c.loop-place.self in
    let b = get_or c.args.text.now c.loop-place.place 0 in
    let took : step c.args.level s b ≡ Over c.step.new.self.draft.words c.in-Over.taken = subst (λ p. Made (step c.args.level s b) p c.step.new.self) c.in-Over.is c.in_ok-step.ensures in
    let one : c.in-Over.taken ≤ 1 = subst (λ m. Falls s.depth m) took (step_falls c.args.level s b) in
    omega (arith, one, c.loop-place-test.true)

pub returns-in-Over : goal.returns-in-Over
returns-in-Over c =
    let s = c.loop-place.self in
    let b = get_or c.args.text.now c.loop-place.place 0 in
    let took : step c.args.level s b ≡ Over c.step.new.self.draft.words c.in-Over.taken = subst (λ p. Made (step c.args.level s b) p c.step.new.self) c.in-Over.is c.in_ok-step.ensures in
    sym c.loop-place.invariant.reads ∙ reads_move c.args.level c.args.text.now s c.loop-place.place (Over c.step.new.self.draft.words c.in-Over.taken) (omega (arith, c.loop-place-test.true)) took

pub returns-in-Bad : goal.returns-in-Bad
returns-in-Bad c =
    let s = c.loop-place.self in
    let b = get_or c.args.text.now c.loop-place.place 0 in
    let took : step c.args.level s b ≡ Fails c.in-Bad.fault = subst (λ p. Made (step c.args.level s b) p c.step.new.self) c.in-Bad.is c.in_ok-step.ensures in
    inr (ap kind_of (sym c.loop-place.invariant.reads ∙ reads_move c.args.level c.args.text.now s c.loop-place.place (Fails c.in-Bad.fault) (omega (arith, c.loop-place-test.true)) took))

pub returns : goal.returns
returns c =
    let place : c.loop-place.place ≡ length c.args.text.now = omega (arith, c.loop-place-test.false) in
    sym c.loop-place.invariant.reads ∙ reads_stop c.args.level c.args.text.now c.loop-place.self c.loop-place.place (stop c.loop-place.self) (omega arith) refl
    ∙ ap (λ q. stopped (stop c.loop-place.self) q) place
