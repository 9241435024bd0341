use Rattle.std.proofs.Common.{rules, tests, ◌==◌}
use Rattle.std.proofs.lemmas.Iterator.Splits.{YieldsList-from_slice_split}
use Rattle.dg_world.proofs.PartLemmas.{last_now}
use Rattle.dg_world.proofs.selection.last_part.Goals as goal

pub returns : goal.returns
returns c =
    last_now c.last.result c.as_slice.result _ c.unwrap_or.ensures c.as_slice.ensures c.last.ensures.ran
    (YieldsList-from_slice_split _ (λ b. b == 47) c.args.name.now c.split.ensures.rest c.split.ensures.done c.split.ensures.closure (λ x r q k. search (rules, tests)))
