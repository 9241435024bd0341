use Rattle.std.proofs.Common.{◌∙◌, ap, sym, length}
use Rattle.dg_index.specs.Kept.{edited_kept}
use Rattle.dg_core.proofs.LineupLemmas.{lineup-stays}
use Rattle.dg_core.proofs.judging_core.Core.edit.Goals as goal

pub invariant_of-self-then-file_count-files : goal.invariant_of-self-then-file_count-files
invariant_of-self-then-file_count-files c =
    let kept = c.self.inside.kept in
    let before = c.file_count-files.ensures.count ∙ ap (λ w. length w.files) c.world.ensures in
    let after = c.file_count.ensures.count ∙ ap (λ w. length w.files) c.world-then-may_stay.ensures in
    lineup-stays kept c.edit.new.self c.args.edit c.opened_to-lineup.result.0 (ap (edited_kept kept) (sym c.opened_to-lineup.ensures.back) ∙ c.in_default.ensures.ok)
    (sym c.adds_at_most-may_stay.ensures ∙ c.if-may_stay.true) (sym after ∙ c.if-file_count-files.true ∙ before) c.opened_to-lineup.ensures.lineup
