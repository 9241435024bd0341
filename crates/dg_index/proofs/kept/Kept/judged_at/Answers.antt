use Rattle.std.proofs.Common.{◌∙◌, ap, sym, subst, Some}
use Rattle.std.specs.Prelude.{IfSome, option_map, slice_get}
use Rattle.dg_world.specs.declared.test_id.TestId.{TestId}
use Rattle.dg_records.specs.Truth.{RecordView, IsTrueRecord}
use Rattle.dg_index.specs.Marks.{MarkedView, judged_of}
use Rattle.dg_index.proofs.KeptLemmas.{judged-at, shelf-at}
use Rattle.dg_index.proofs.kept.Kept.judged_at.Goals as goal

pub returns-in-Some-clause-judged : goal.returns-in-Some-clause-judged
returns-in-Some-clause-judged c =
    ap (λ j. Some j) c.judged.ensures.judged ∙ ap (option_map (λ (e : TestId × MarkedView). judged_of e.1.record_of)) c.in-Some.ensures.entry
    ∙ sym (judged-at c.self.inside.records.entries c.args.place) ∙ ap (λ k. option_map judged_of (slice_get k.shelf c.args.place)) c.self.view_is

pub returns-in-Some-clause-is_true : goal.returns-in-Some-clause-is_true
returns-in-Some-clause-is_true c =
    let record_is = ap (option_map (λ (e : TestId × MarkedView). e.1.record_of)) c.in-Some.ensures.entry
    ∙ sym (shelf-at c.self.inside.records.entries c.args.place) ∙ ap (λ k. slice_get k.shelf c.args.place) c.self.view_is in
    subst (λ o. IfSome o (λ (r : RecordView). IsTrueRecord r.test r.reads r.verdict)) record_is c.judged.ensures.is_true

pub returns-in-None-clause-judged : goal.returns-in-None-clause-judged
returns-in-None-clause-judged c =
    ap (option_map (λ (e : TestId × MarkedView). judged_of e.1.record_of)) c.in-None.ensures.entry
    ∙ sym (judged-at c.self.inside.records.entries c.args.place) ∙ ap (λ k. option_map judged_of (slice_get k.shelf c.args.place)) c.self.view_is

pub returns-in-None-clause-is_true : goal.returns-in-None-clause-is_true
returns-in-None-clause-is_true c =
    let record_is = ap (option_map (λ (e : TestId × MarkedView). e.1.record_of)) c.in-None.ensures.entry
    ∙ sym (shelf-at c.self.inside.records.entries c.args.place) ∙ ap (λ k. slice_get k.shelf c.args.place) c.self.view_is in
    subst (λ o. IfSome o (λ (r : RecordView). IsTrueRecord r.test r.reads r.verdict)) record_is tt
