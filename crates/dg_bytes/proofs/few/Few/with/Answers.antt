use Rattle.std.proofs.Common.{◌≡◌, ◌++◌, ap, ◌∙◌, sym, ℕ, ◌+◌, ◌-◌, ◌≤◌, length, drop, take, List, [], ◌∷◌, arith, length-append}
use Rattle.std.proofs.lemmas.Slice.{take-put_mid}
use Rattle.std.proofs.Math.Seq.{take-append_seam}
use Rattle.dg_bytes.specs.Few.{few_bytes}
use Rattle.dg_bytes.proofs.few.Few.with.Goals as goal

zeros : List ℕ
zeros = 0 ∷ 0 ∷ 0 ∷ 0 ∷ 0 ∷ 0 ∷ 0 ∷ 0 ∷ 0 ∷ 0 ∷ 0 ∷ 0 ∷ 0 ∷ 0 ∷ 0 ∷ 0 ∷ []

pub returns : goal.returns
unfolding zeros
returns c =
    let front : List ℕ = c.copy_from_slice.new.self in
    let behind : List ℕ = c.copy_from_slice-2.new.self in
    let at : ℕ = length c.as_slice-before.result.now in
    let is : front ≡ c.as_slice-before.result.now = c.copy_from_slice.ensures.after in
    let more : behind ≡ c.args.more.now = c.copy_from_slice-2.ensures.after in
    let sum : c.in_ok-count.count ≡ at + length behind = c.in_ok-count.ensures.1 ∙ ap (λ xs. at + length xs) (sym more) in
    let room : at ≤ length (front ++ drop at zeros) =
    let whole : length (front ++ drop at zeros) ≡ length front + length (drop at zeros) = length-append front (drop at zeros) in
    let own : length front ≡ at = ap length is in
    omega (arith, whole, own) in
    take-put_mid at (c.in_ok-count.count - at) (front ++ drop at zeros) behind c.in_ok-count.count sum room
    ∙ ap (λ n. take n (front ++ drop at zeros) ++ behind) (ap length (sym is))
    ∙ ap (λ xs. xs ++ behind) (take-append_seam front (drop at zeros) ∙ is ∙ c.as_slice-before.ensures)
    ∙ ap (λ xs. few_bytes c.args.self.now ++ xs) more
