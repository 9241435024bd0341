use Rattle.std.proofs.Common.{◌<◌, ◌/◌, ◌%◌, get_or, ap, ◌∙◌, arith, w64}
use Rattle.std.specs.Int.{bit_at}
use Rattle.std.proofs.lemmas.Nat.Bits.{bit_at_set_same, bit_at_set_other, bit_at_clear_same, bit_at_clear_other}
use Rattle.dg_glob.proofs.MarkLemmas.{marked_same, marked_other, one_is_on, zero_is_off}
use Rattle.dg_glob.proofs.marks.mark.Goals as goal
use Rattle.dg_glob.proofs.marks.mark.Goals.{then-on, else-on}

pub returns-clause-same : goal.returns-clause-same
returns-clause-same c =
    let k : c.args.place % 64 < 64 = omega arith in
    let word = get_or c.args.marks.now (c.args.place / 64) 0 in
    marked_same c.args.marks.now c.args.place c.if-on.marks c.requires ∙ elim c.if-on.branch [
      | then-on w ↦ one_is_on _ _ (ap (λ x. bit_at x (c.args.place % 64)) w.marks-is ∙ bit_at_set_same w64 word (c.args.place % 64) k) w.if-on.true
      | else-on w ↦ zero_is_off _ _ (ap (λ x. bit_at x (c.args.place % 64)) w.marks-is ∙ bit_at_clear_same w64 word (c.args.place % 64) k) w.if-on.false
    ]

pub returns-clause-others : goal.returns-clause-others
returns-clause-others c = λ i other.
    let k : c.args.place % 64 < 64 = omega arith in
    let word = get_or c.args.marks.now (c.args.place / 64) 0 in
    marked_other c.args.marks.now c.args.place i c.if-on.marks c.requires (λ j low apart. elim c.if-on.branch [
      | then-on w ↦ ap (λ x. bit_at x j) w.marks-is ∙ bit_at_set_other w64 word (c.args.place % 64) k j apart
      | else-on w ↦ ap (λ x. bit_at x j) w.marks-is ∙ bit_at_clear_other w64 word (c.args.place % 64) k j low apart
    ]) other
