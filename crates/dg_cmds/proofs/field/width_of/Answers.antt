use Rattle.std.proofs.Common.{◌≡◌, ℕ, ◌+◌, ◌-◌, ◌*◌, ◌≤◌, min, get_or, drop, ap, ◌∙◌, arith}
use Rattle.dg_cmds.specs.Formats.{number_behind, width_of}
use Rattle.dg_cmds.proofs.FieldLemmas.{width-more}
use Rattle.dg_cmds.proofs.field.width_of.Goals as goal

pub loop-digit-preserved : goal.loop-digit-preserved
loop-digit-preserved c =
    let made : c.min-width.result ≡ min (c.loop-digit.width * 10 + (get_or c.args.digits.now c.loop-digit.digit-index 0 - 48)) 1048577 =
    c.min-width.ensures ∙ ap (λ (d : ℕ). min (c.loop-digit.width * 10 + d) 1048577) c.saturating_sub.ensures in
    let small : c.min-width.result ≤ 1048577 = omega arith in (
      ap (λ (n : ℕ). min (number_behind n (drop (c.loop-digit.digit-index + 1) c.args.digits.now)) 1048577) made
          ∙ width-more c.loop-digit.width c.loop-digit.digit-index 1048577 (width_of c.args.digits.now) c.args.digits.now c.loop-digit-test.true c.loop-digit.invariant.0,
      small,
    )
