use Rattle.std.proofs.Common.{◌≡◌, ◌∙◌, sym, ap, subst, map, ℕ, List, Bor}
use Rattle.dg_line.specs.Plan.{HasFault}
use Rattle.dg_line.proofs.SelectLemmas.{selects_by_fault}
use Rattle.dg_line.proofs.select.selection_of.Goals as goal

pub returns : goal.returns
returns c =
    let given = rw c.in-Some.is at c.in_ok-texts.ensures in
    let words : map (λ (w : Bor (List ℕ)). w.now) c.as_slice.result.now ≡ c.args.words.now =
    ap (map (λ (w : Bor (List ℕ)). w.now)) c.as_slice.ensures.value ∙ given.1 in
    selects_by_fault c.args.words.now c.in-Err.fault given.0 (subst (λ ws. HasFault ws c.in-Err.fault) words c.in-Err.ensures.err)
    (sym c.is_memory.ensures ∙ c.if-is_memory.false)
