use Rattle.std.proofs.Common.{◌≡◌, ◌∙◌, ◌++◌, List, ap, refl, subst, sym}
use Rattle.dg_world.specs.declared.question.Read.{Read}
use Rattle.dg_eval.specs.Truth.{JobView}
use Rattle.dg_core.specs.Asking.{Ends, IsTold, IsToldMore}
use Rattle.dg_core.specs.Turning.{AsksInTurn}
use Rattle.dg_core.proofs.Turning.{asks-append}
use Rattle.dg_eval.specs.Advance.{started}
use Rattle.dg_core.proofs.Asking.{told-first}
use Rattle.dg_core.proofs.Growing.{grown-refl, grown-trans}
use Rattle.dg_core.proofs.Settling.{on_err}
use Rattle.dg_core.proofs.evaluate.evaluate.Goals as goal

pub turns-init : goal.turns-init
turns-init c =
    let begun = c.in_ok-job.ensures ∙ ap started c.in_ok-copy.ensures in
    record {
      told = told-first _ _ _ begun;
      grown = grown-refl c.args.kept.now.world;
      shelf = refl;
      asked = subst (λ rs. AsksInTurn c.args.kept.now rs c.args.kept.now) (sym (ap (λ (j : JobView). j.reads) begun)) refl;
    }

pub turns-preserved : goal.turns-preserved
turns-preserved c =
    let before = c.turns.kept in
    let after = c.take_turns.new.kept in
    let t : IsToldMore before after c.turns.job c.take_turns.new.job = rw c.in_default.is at c.in_ok-record.ensures.turn in
    record {
      told = subst (λ u. IsTold after.world u c.take_turns.new.job) c.turns.invariant.told.test t.told;
      grown = grown-trans _ _ _ c.turns.invariant.grown c.in_ok-record.ensures.grown;
      shelf = c.in_ok-record.ensures.shelf ∙ c.turns.invariant.shelf;
      asked = subst (λ rs. AsksInTurn c.args.kept.now rs after) (sym t.reads)
          (asks-append c.args.kept.now before after c.turns.job.reads t.more c.turns.invariant.asked t.asked);
    }

pub returns-in_err-record-clause-stopped : goal.returns-in_err-record-clause-stopped
returns-in_err-record-clause-stopped c =
    let more = c.in_err-record.ensures.stopped in
    let all : (reads : List Read) × AsksInTurn c.args.kept.now reads c.take_turns.new.kept =
    (c.turns.job.reads ++ more.0, asks-append c.args.kept.now c.turns.kept c.take_turns.new.kept c.turns.job.reads more.0 c.turns.invariant.asked more.1) in
    on_err _ _ all

pub returns-in-Some-clause-asked : goal.returns-in-Some-clause-asked
returns-in-Some-clause-asked c =
    let before = c.turns.kept in
    let after = c.take_turns.new.kept in
    let t : Ends before c.turns.job c.in-Some.record × (after ≡ before) = rw c.in-Some.is at c.in_ok-record.ensures.turn in
    let more = t.0.1.0 in
    subst (λ k. AsksInTurn c.args.kept.now c.in-Some.record.reads k) (sym t.1)
    (subst (λ rs. AsksInTurn c.args.kept.now rs before) (sym t.0.1.2)
    (asks-append c.args.kept.now before before c.turns.job.reads more c.turns.invariant.asked t.0.1.1))
