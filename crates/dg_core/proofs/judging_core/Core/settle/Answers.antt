use Rattle.std.proofs.Common.{◌∙◌, ◌<◌, ◌^◌, OnErr, length, ap, sym, subst, arith}
use Rattle.dg_core.specs.Lineup.{IsLineup}
use Rattle.dg_core.specs.Core.{pending, IsPartlySettled}
use Rattle.dg_core.proofs.LineupLemmas.{lineup-settled}
use Rattle.dg_core.proofs.Settling.{pending-settled, settled-zero, partly, on_err}
use Rattle.dg_core.proofs.Growing.{selected-grown}
use Rattle.dg_core.proofs.judging_core.Core.settle.Goals as goal

pub returns-in_err-lineup-clause-kept : goal.returns-in_err-lineup-clause-kept
returns-in_err-lineup-clause-kept c =
    let old = c.args.self.now in
    let few = subst (λ n. n < 2 ^ 64) c.evaluations-begun.ensures c.evaluations-begun.type_inv in
    subst (λ s. OnErr c.from_residual.result (IsPartlySettled old s)) (sym c.line_up.ensures.stays)
    (on_err _ _ (partly old old 0 0 (omega arith) (omega arith) (omega arith) (settled-zero old few)))

pub keep_lineup-requires-clause-lineup : goal.keep_lineup-requires-clause-lineup
keep_lineup-requires-clause-lineup c =
    let old = c.line_up.new.self in
    let new = c.settle_by.new.self in
    let lineup = c.in_ok-lineup.lineup in
    subst (λ s. IsLineup new.world s lineup) (sym (ap (λ x. x.shelf) c.in_ok-sum.ensures.settles))
    (lineup-settled old new.world new.compared (length (pending old)) lineup (selected-grown old.world new.world c.in_ok-sum.ensures.grown)
    (subst (λ s. IsLineup s.world s.shelf lineup) (sym c.line_up.ensures.stays) c.in_ok-lineup.ensures.lineup.lineup))

pub keep_lineup-requires-clause-held : goal.keep_lineup-requires-clause-held
keep_lineup-requires-clause-held c =
    let old = c.line_up.new.self in
    let new = c.settle_by.new.self in
    ap pending c.in_ok-sum.ensures.settles ∙ pending-settled new.world new.compared old c.in_ok-sum.ensures.grown
