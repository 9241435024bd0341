use Rattle.std.proofs.Common.{◌≡◌, ℕ, zero, suc, ◌<◌, ◌≤◌, List, [], ◌∷◌, length, get_or, ap, arith, length-append}
use Rattle.dg_words.specs.Parts.{pieces_of, pieces_of_part}
use Rattle.dg_words.specs.declared.word.Part.{Part}
use Rattle.dg_forms.proofs.StepLemmas.{added-element, added-more, added-none, added-script, added-text, added-variable}
use Rattle.dg_forms.proofs.substitute.+parts.Goals as goal

-- one of the parts has no more pieces than all of them
length-part : (ps : List Part) (i : ℕ) (p : Part) → i < length ps → p ≡ get_or ps i p → length (pieces_of_part p) ≤ length (pieces_of ps)
length-part [] i p l e = absurd (omega arith)
length-part (q ∷ ps) zero p l e =
    omega (arith, ap (λ x. length (pieces_of_part x)) e, length-append (pieces_of_part q) (pieces_of ps))
length-part (q ∷ ps) (suc i) p l e =
    omega (arith, length-part ps i p (omega arith) e, length-append (pieces_of_part q) (pieces_of ps))

-- src/substitute.rt:43:9
pub push_parts-push_part-requires : goal.push_parts-push_part-requires
push_parts-push_part-requires t c =
    let parts = c.as_slice-part-items.result.now in
    let e : length (pieces_of parts) ≡ length c.args.parts.now = ap length c.as_slice-part-items.ensures in
    let l : c.loop-part.part-index < length parts = omega arith in
    let h = length-part parts c.loop-part.part-index c.part-item.result l c.part-item.is in
    (omega (arith, e, h), tt)

-- src/substitute.rt:13:1
pub push_part-returns-in_ok-push-in-Text : goal.push_part-returns-in_ok-push-in-Text
push_part-returns-in_ok-push-in-Text t c = rw c.in-Text.is (rw c.in_ok-copy-in-Text.ensures at (added-text _ _ _ c.in_ok-push-in-Text.ensures.ok))

pub push_part-returns-in_ok-push-in-Variable : goal.push_part-returns-in_ok-push-in-Variable
push_part-returns-in_ok-push-in-Variable t c = rw c.in-Variable.is (rw c.in_ok-copy-in-Variable.ensures at (added-variable _ _ _ c.in_ok-push-in-Variable.ensures.ok))

pub push_part-returns-in_ok-push-in-Command : goal.push_part-returns-in_ok-push-in-Command
push_part-returns-in_ok-push-in-Command t c = rw c.in-Command.is (rw c.in_ok-copy-in-Command.ensures at (added-script _ _ _ c.in_ok-push-in-Command.ensures.ok))

pub push_part-returns-in_ok-push-in-Element-2 : goal.push_part-returns-in_ok-push-in-Element-2
push_part-returns-in_ok-push-in-Element-2 t c =
    let index = rw (c.in_ok-push-in-Element.ensures.ok, c.in_ok-copy-in-Element.ensures) at c.in_ok-push_parts-in-Element.ensures in
    rw c.in-Element.is (added-element _ _ _ _ _ index c.in_ok-push-in-Element-2.ensures.ok)

pub push_parts-loop-part-init : goal.push_parts-loop-part-init
push_parts-loop-part-init t c = (c.as_slice-part-items.ensures, added-none _)

pub push_parts-loop-part-preserved : goal.push_parts-loop-part-preserved
push_parts-loop-part-preserved t c =
    let l : c.loop-part.part-index < length c.as_slice-part-items.result.now = omega arith in
    (c.loop-part.invariant.0, added-more _ _ _ _ _ _ l c.part-item.is c.loop-part.invariant.1 c.in_ok-push_part.ensures)
