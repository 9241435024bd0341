use Rattle.std.proofs.Common.{ℕ, ◌+◌, ◌*◌, ◌<◌, List, [], ◌∷◌, ◌++◌, take_all, get_or, refl, ap, ◌∙◌, sym, arith}
use Rattle.std.proofs.lemmas.List.{take_more}
use Rattle.dg_scope.proofs.Numbers.{name-behind, has_room}
use Rattle.dg_scope.proofs.short_names.number_of.Goals as goal

pub loop-byte-init : goal.loop-byte-init
loop-byte-init c = refl

pub overflow_mul-number : goal.overflow_mul-number
overflow_mul-number c =
    let room = has_room c.loop-byte.number c.loop-byte.byte-index c.args.name.now c.loop-byte.invariant c.loop-byte-test.true c.requires in
    omega arith

pub overflow_add-number : goal.overflow_add-number
overflow_add-number c =
    let room = has_room c.loop-byte.number c.loop-byte.byte-index c.args.name.now c.loop-byte.invariant c.loop-byte-test.true c.requires in
    let byte : get_or c.args.name.now c.loop-byte.byte-index 0 < 256 = omega (arith, c.type_inv.name c.loop-byte.byte-index) in
    omega (arith, c.from.ensures)

pub overflow_add-number-in-loop-byte : goal.overflow_add-number-in-loop-byte
overflow_add-number-in-loop-byte c =
    let room = has_room c.loop-byte.number c.loop-byte.byte-index c.args.name.now c.loop-byte.invariant c.loop-byte-test.true c.requires in
    let byte : get_or c.args.name.now c.loop-byte.byte-index 0 < 256 = omega (arith, c.type_inv.name c.loop-byte.byte-index) in
    omega (arith, c.from.ensures)

pub loop-byte-preserved : goal.loop-byte-preserved
loop-byte-preserved c =
    let name : List ℕ = c.args.name.now in
    let i : ℕ = c.loop-byte.byte-index in
    let byte : ℕ = get_or name i 0 in
    let small : byte < 256 = omega (arith, c.type_inv.name i) in
    name-behind c.loop-byte.number byte _ small (ap (λ b. c.loop-byte.number * 256 + b + 1) c.from.ensures)
    ∙ ap (λ (l : List ℕ). l ++ byte ∷ []) c.loop-byte.invariant
    ∙ sym (take_more name i 0 c.loop-byte-test.true)

pub returns : goal.returns
returns c = c.loop-byte.invariant ∙ take_all c.loop-byte.byte-index c.args.name.now c.loop-byte-test.false
