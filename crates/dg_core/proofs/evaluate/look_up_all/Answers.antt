use Rattle.std.proofs.Common.{◌∙◌, subst}
use Rattle.std.proofs.lemmas.Result.{MatchResult-weaker}
use Rattle.std.specs.Prelude.{MatchResult}
use Rattle.dg_world.specs.World.{FitsQuestion}
use Rattle.dg_records.specs.Truth.{answers_of}
use Rattle.dg_eval.specs.Advance.{AdvancesAlong, HaltsAlong}
use Rattle.dg_core.proofs.Asking.{along-fails, along-stops}
use Rattle.dg_core.proofs.evaluate.look_up_all.Goals as goal

pub returns : goal.returns
returns c =
    let old = c.args.job.now in
    let new = c.advance_along.new.self in
    let went =
    subst (λ w. MatchResult c.advance_along.result (AdvancesAlong (answers_of w) FitsQuestion old new) (HaltsAlong (answers_of w) FitsQuestion old new))
    (c.new-looking.ensures ∙ c.world.ensures) c.advance_along.ensures in
    MatchResult-weaker c.advance_along.result went (λ turn a. along-stops c.args.kept.now old new turn c.requires a)
    (λ fault h. along-fails c.args.kept.now old new fault c.requires h)
