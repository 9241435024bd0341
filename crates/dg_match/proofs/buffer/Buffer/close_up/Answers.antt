use Rattle.std.proofs.Common.{◌≡◌, ℕ, List, ap, ◌∙◌, ◌++◌, ◌-◌, drop, take, length, arith}
use Rattle.std.proofs.lemmas.List.{take_rest}
use Rattle.dg_match.proofs.buffer.Buffer.close_up.Goals as goal

pub invariant_of-self-2 : goal.invariant_of-self-2
invariant_of-self-2 c =
    let front = c.self.inside.front in
    let bytes : List ℕ = c.deref.result.now in
    let kept : c.extend_from_slice.new.self.items ≡ drop front c.self.inside.bytes.items =
    c.in_ok-extend_from_slice.ensures.items ∙ ap (λ (it : List ℕ). it ++ take (length bytes - front) (drop front bytes)) c.clear.ensures.items
    ∙ take_rest bytes front ∙ ap (drop front) c.deref.ensures.value in
    rw (ap (λ v. v.items) c.swap.ensures.x_after ∙ kept) (omega arith, c.self.invariant.1, c.self.invariant.2, c.self.invariant.3)
