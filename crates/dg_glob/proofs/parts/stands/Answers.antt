use Rattle.std.proofs.Common.{sym, ◌∙◌}
use Rattle.dg_glob.proofs.ItemLemmas.{after_item_shorter}
use Rattle.dg_glob.proofs.ReadingLemmas.{walk_goes}
use Rattle.dg_glob.proofs.parts.stands.Goals as goal

pub loop-pattern-smaller : goal.loop-pattern-smaller
loop-pattern-smaller c = after_item_shorter c.loop-pattern.pattern.now c.in-Some-after_item.after.now _ (sym c.in-Some-after_item.ensures)

pub loop-pattern-preserved : goal.loop-pattern-preserved
loop-pattern-preserved c =
    walk_goes c.args.pattern.now c.args.text.now c.loop-pattern.pattern.now c.loop-pattern.text.now c.loop-pattern.invariant c.in-Some-after_item.after.now c.in-Some.later.now _
    (sym c.begins_steadily.ensures ∙ c.loop-pattern-test.true) c.in-Some.ensures.cases.0 (sym c.in-Some-after_item.ensures)
