use Rattle.std.proofs.Common.{◌∙◌, ap, sym, subst}
use Rattle.std.specs.Prelude.{IfSome, option_map, slice_get}
use Rattle.dg_records.specs.Truth.{RecordView, IsTrueRecord}
use Rattle.dg_index.specs.Marks.{judged_of}
use Rattle.dg_core.proofs.LineupLemmas.{held-placed, held-there, judged-placed}
use Rattle.dg_core.proofs.judging_core.Core.judged_test.Goals as goal

pub unreachable-requires : goal.unreachable-requires
unreachable-requires c = held-placed c.args.self.now.world c.args.self.now.shelf c.args.test.now c.requires.held (sym c.in_default.ensures)

pub unreachable-requires-in_default-judged_at : goal.unreachable-requires-in_default-judged_at
unreachable-requires-in_default-judged_at c =
    let s = c.args.self.now in
    let i = c.in-Some.place in
    held-there s.world s.shelf c.args.test.now i c.requires.held (sym c.in-Some.ensures)
    (c.in_default-judged_at.ensures.judged ∙ ap (λ x. option_map judged_of (slice_get x.shelf i)) c.self.view_is)

pub returns : goal.returns
returns c =
    let s = c.args.self.now in
    let i = c.in-Some.place in
    judged-placed s.world s.shelf c.args.test.now i c.in-Some-judged_at.judged c.requires.held (sym c.in-Some.ensures)
    (c.in-Some-judged_at.ensures.judged ∙ ap (λ x. option_map judged_of (slice_get x.shelf i)) c.self.view_is)
    (subst (λ x. IfSome (slice_get x.shelf i) (λ (r : RecordView). IsTrueRecord r.test r.reads r.verdict)) c.self.view_is c.in-Some-judged_at.ensures.is_true)
