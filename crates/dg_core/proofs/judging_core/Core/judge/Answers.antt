use Rattle.std.proofs.Common.{◌∙◌, ap}
use Rattle.dg_records.specs.Truth.{holds}
use Rattle.dg_core.proofs.Settling.{record_in-holds}
use Rattle.dg_core.proofs.judging_core.Core.judge.Goals as goal

pub commit_held-requires : goal.commit_held-requires
commit_held-requires c =
    let w = c.evaluate.new.kept.world in
    ap (holds w) c.in-Ok.ensures.record.made ∙ record_in-holds w c.args.test.now
