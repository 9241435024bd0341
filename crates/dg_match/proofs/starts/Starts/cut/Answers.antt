use Rattle.std.proofs.Common.{length, ap, sym, ◌∙◌, arith}
use Rattle.dg_match.proofs.StartLemmas.{all_later, cut_step, cut_all, lent_back}
use Rattle.dg_match.proofs.starts.Starts.cut.Goals as goal

pub loop-start-preserved : goal.loop-start-preserved
loop-start-preserved c =
    let size = ap length (c.deref_mut-start-items.ensures.value ∙ c.self.view_is) in
    cut_step c.args.count c.loop-start.start-index c.args.self.now c.loop-start.start-items c.start-item.result c.cut.new.self (omega (arith, size, c.loop-start-test.true)) c.loop-start.invariant c.start-item.is c.cut.ensures

pub returns : goal.returns
returns c =
    let value = c.deref_mut-start-items.ensures.value in
    let size = ap length (value ∙ c.self.view_is) in
    let now = cut_all c.args.count c.loop-start.start-index c.args.self.now c.loop-start.start-items (omega (arith, size, c.loop-start-test.false)) c.loop-start.invariant in
    let back = lent_back c.self.inside.entries.len c.loop-start.start-items c.self.inside.entries.items (c.loop-start.auto.start-items ∙ ap length value) (sym c.deref_mut-start-items.ensures.len ∙ ap length value) in
    record {
      value = back ∙ now;
      passed = λ bytes h all. rw (back, now) (all_later bytes c.args.count c.args.self.now h all);
    }
