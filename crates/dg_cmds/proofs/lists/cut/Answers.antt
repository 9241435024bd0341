use Rattle.std.proofs.Common.{◌≡◌, ℕ, ◌+◌, ◌<◌, Bool, true, false, List, [], ◌∷◌, ◌++◌, get_or, drop, ap, sym, ◌∙◌, arith}
use Rattle.std.specs.List.{slice_split}
use Rattle.dg_cmds.specs.Bytes.{member}
use Rattle.dg_cmds.proofs.ListLemmas.{onto, onto-nil, cut-no, cut-yes}
use Rattle.dg_cmds.proofs.lists.cut.Goals as goal

pub loop-byte-init : goal.loop-byte-init
loop-byte-init c =
    let p : ℕ → Bool = member c.args.separators.now in
    ap (λ (xs : List (List ℕ)). xs ++ onto c.new-part.result (slice_split p c.args.text.now)) c.new-parts.ensures.items
    ∙ (ap (λ (q : List ℕ). onto q (slice_split p c.args.text.now)) c.new-part.ensures ∙ onto-nil p c.args.text.now)

pub loop-byte-preserved-then-set-byte : goal.loop-byte-preserved-then-set-byte
loop-byte-preserved-then-set-byte c =
    let p : ℕ → Bool = member c.args.separators.now in
    let i : ℕ = c.loop-byte.byte-index in
    let byte : ℕ = get_or c.args.text.now i 0 in
    let small : byte < 256 = omega (arith, c.type_inv.text i) in
    let hit : p byte ≡ true = sym (c.set_of-set.ensures byte small) ∙ c.if-set-byte.true in
    let rest : List (List ℕ) = slice_split p (drop (i + 1) c.args.text.now) in
    ap (λ (xs : List (List ℕ)). xs ++ onto c.new-part-then-set-byte.result rest) c.in_ok-push.ensures.items
    ∙ (ap (λ (q : List ℕ). (c.loop-byte.parts.items ++ c.loop-byte.part ∷ []) ++ onto q rest) c.new-part-then-set-byte.ensures
    ∙ cut-yes p c.loop-byte.parts.items c.loop-byte.part c.args.text.now i _ c.loop-byte-test.true hit c.loop-byte.invariant)

pub loop-byte-preserved : goal.loop-byte-preserved
loop-byte-preserved c =
    let p : ℕ → Bool = member c.args.separators.now in
    let i : ℕ = c.loop-byte.byte-index in
    let byte : ℕ = get_or c.args.text.now i 0 in
    let small : byte < 256 = omega (arith, c.type_inv.text i) in
    let miss : p byte ≡ false = sym (c.set_of-set.ensures byte small) ∙ c.if-set-byte.false in
    ap (λ (q : List ℕ). c.loop-byte.parts.items ++ onto q (slice_split p (drop (i + 1) c.args.text.now))) c.in_ok-push-2.ensures.ok
    ∙ cut-no p c.loop-byte.parts.items c.loop-byte.part c.args.text.now i _ c.loop-byte-test.true miss c.loop-byte.invariant
