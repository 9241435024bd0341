use Rattle.std.proofs.Common.{◌∙◌, ◌<◌, ◌≤◌, ◌+◌, ◌^◌, ◌++◌, ◌∷◌, [], take, length, get_or, ap, sym, refl, subst, arith}
use Rattle.std.proofs.lemmas.List.{take_more, take_all}
use Rattle.dg_index.specs.Marks.{counted}
use Rattle.dg_core.specs.Core.{CoreView, kept_of, pending, with_judged}
use Rattle.dg_core.specs.Turning.{JudgesAll, JudgesSome}
use Rattle.dg_core.proofs.Turning.{judges-more}
use Rattle.std.proofs.lemmas.Result.{err_from_is_err_and}
use Rattle.dg_core.proofs.Growing.{grown-refl, grown-trans, selected-grown}
use Rattle.dg_core.specs.Lineup.{IsLineup}
use Rattle.dg_core.proofs.LineupLemmas.{lineup-settled}
use Rattle.dg_core.proofs.Settling.{settled-zero, settled-more, settled-begun, settled-all, ends-more, pending-settled, partly, on_err, blames-tells}
use Rattle.dg_core.proofs.judging_core.Core.settle_by.Goals as goal

pub returns-in_err-pending-clause-grown : goal.returns-in_err-pending-clause-grown
returns-in_err-pending-clause-grown c = grown-refl c.args.self.now.world

pub returns-in_err-pending-clause-kept : goal.returns-in_err-pending-clause-kept
returns-in_err-pending-clause-kept c =
    let few = subst (λ n. n < 2 ^ 64) c.evaluations-begun.ensures c.evaluations-begun.type_inv in
    on_err _ _ (partly _ _ 0 0 (omega arith) (omega arith) (omega arith) (settled-zero _ few))

pub sum-requires-clause-lineup : goal.sum-requires-clause-lineup
sum-requires-clause-lineup c =
    let world = c.loop-test.self.world in
    let lineup = c.args.lineup.now in
    subst (λ s. IsLineup world s lineup) (sym (ap (λ x. x.shelf) c.loop-test.invariant.settled))
    (lineup-settled c.args.self.now world c.loop-test.self.compared c.loop-test.test-index lineup (selected-grown c.args.self.now.world world c.loop-test.invariant.grown) c.requires.lineup)

pub loop-test-init : goal.loop-test-init
loop-test-init c =
    record {
      grown = grown-refl c.args.self.now.world;
      settled = settled-zero _ (subst (λ n. n < 2 ^ 64) c.evaluations-begun.ensures c.evaluations-begun.type_inv);
      judged = refl;
      ended = tt;
    }

pub returns-in_err-judge-clause-grown : goal.returns-in_err-judge-clause-grown
returns-in_err-judge-clause-grown c = grown-trans _ _ _ c.loop-test.invariant.grown c.in_err-judge.ensures.grown

pub returns-in_err-judge-clause-kept : goal.returns-in_err-judge-clause-kept
returns-in_err-judge-clause-kept c =
    let i = c.loop-test.test-index in
    let items = c.as_slice-test-items.ensures ∙ c.in_ok-pending.ensures in
    let within = subst (λ l. i < length l) items c.loop-test-test.true in
    let world = c.judge.new.self.world in
    let n = c.judge.new.self.compared in
    let begun : CoreView → CoreView = λ m. record m { world = world; compared = n; evaluations = counted m.evaluations 1 } in
    on_err _ _
    (partly _ _ i (i + 1) (omega (arith, within)) (omega arith) (omega arith)
    (c.in_err-judge.ensures.err ∙ ap begun c.loop-test.invariant.settled
    ∙ settled-begun _ c.loop-test.self.world world c.loop-test.self.compared n i c.in_err-judge.ensures.grown c.loop-test.invariant.ended))

pub loop-test-preserved : goal.loop-test-preserved
loop-test-preserved c =
    let i = c.loop-test.test-index in
    let t = c.test-item.result in
    let old = c.loop-test.self.world in
    let world = c.judge.new.self.world in
    let n = c.judge.new.self.compared in
    let items = c.as_slice-test-items.ensures ∙ c.in_ok-pending.ensures in
    let within = subst (λ l. i < length l) items c.loop-test-test.true in
    let at = c.test-item.is ∙ ap (λ l. get_or l i t) items in
    record {
      grown = grown-trans _ _ _ c.loop-test.invariant.grown c.in_ok-judge.ensures.grown;
      settled = c.in_ok-judge.ensures.ok ∙ ap (λ m. with_judged world n m t) c.loop-test.invariant.settled
          ∙ settled-more _ old world c.loop-test.self.compared n i t c.in_ok-judge.ensures.grown c.loop-test.invariant.ended within at;
      judged = subst (λ ts. JudgesAll (kept_of c.args.self.now) ts (kept_of c.judge.new.self))
          (ap (λ u. take i (pending c.args.self.now) ++ u ∷ []) at ∙ sym (take_more (pending c.args.self.now) i t within))
          (judges-more _ _ _ _ _ c.loop-test.invariant.judged c.in_ok-judge.ensures.judges);
      ended = ends-more c.args.self.now old world i t c.in_ok-judge.ensures.grown c.loop-test.invariant.ended within at c.in_ok-judge.ensures.ends;
    }

pub sum-requires-clause-held : goal.sum-requires-clause-held
sum-requires-clause-held c =
    let i = c.loop-test.test-index in
    let world = c.loop-test.self.world in
    let items = c.as_slice-test-items.ensures ∙ c.in_ok-pending.ensures in
    let all =
    settled-all world c.loop-test.self.compared c.args.self.now i (subst (λ l. length l ≤ i) items c.loop-test-test.false) (subst (λ l. i ≤ length l) items c.loop-test.auto.test-index-end) in
    ap pending (c.loop-test.invariant.settled ∙ all) ∙ pending-settled world c.loop-test.self.compared c.args.self.now c.loop-test.invariant.grown

pub returns-in_err-judge-clause-why : goal.returns-in_err-judge-clause-why
returns-in_err-judge-clause-why c =
    let i = c.loop-test.test-index in
    let t = c.test-item.result in
    let items = c.as_slice-test-items.ensures ∙ c.in_ok-pending.ensures in
    let within = subst (λ l. i < length l) items c.loop-test-test.true in
    let at = c.test-item.is ∙ ap (λ l. get_or l i t) items in
    let p = err_from_is_err_and c.from_residual-in_err-judge.result c.from_residual-in_err-judge.ensures.1 in
    rw (p.1, p.2) (blames-tells c.args.self.now c.judge.new.self.world i t c.in_err-judge.field-0.0 within at c.in_err-judge.ensures.why)

pub returns-clause-judges : goal.returns-clause-judges
returns-clause-judges c =
    let i = c.loop-test.test-index in
    let items = c.as_slice-test-items.ensures ∙ c.in_ok-pending.ensures in
    let last = subst (λ l. length l ≤ i) items c.loop-test-test.false in
    subst (λ ts. JudgesAll (kept_of c.args.self.now) ts (kept_of c.loop-test.self)) (take_all i (pending c.args.self.now) last) c.loop-test.invariant.judged

pub returns-in_err-judge-clause-stopped : goal.returns-in_err-judge-clause-stopped
returns-in_err-judge-clause-stopped c =
    let i = c.loop-test.test-index in
    let items = c.as_slice-test-items.ensures ∙ c.in_ok-pending.ensures in
    let more = c.in_err-judge.ensures.stopped in
    let some : JudgesSome c.args.self.now c.judge.new.self =
    record {
      judged = i;
      within = (let less = subst (λ l. i < length l) items c.loop-test-test.true in omega (arith, less));
      last = kept_of c.loop-test.self;
      all = c.loop-test.invariant.judged;
      reads = more.0;
      asked = more.1;
    } in
    on_err _ _ some

pub returns-in_err-sum-clause-stopped : goal.returns-in_err-sum-clause-stopped
returns-in_err-sum-clause-stopped c =
    let items = c.as_slice-test-items.ensures ∙ c.in_ok-pending.ensures in
    let some : JudgesSome c.args.self.now c.loop-test.self =
    record {
      judged = c.loop-test.test-index;
      within = subst (λ l. c.loop-test.test-index ≤ length l) items c.loop-test.auto.test-index-end;
      last = kept_of c.loop-test.self;
      all = c.loop-test.invariant.judged;
      reads = [];
      asked = refl;
    } in
    on_err _ _ some
