use Rattle.std.proofs.Common.{◌+◌, ◌<◌, ◌≤◌, ◌∙◌, length, refl, sym, arith}
use Rattle.dg_machine.specs.Meaning.{go, rest}
use Rattle.dg_language.proofs.TouchLemmas.{within-short, within-long}
use Rattle.dg_machine.proofs.GatherLemmas.{weight-gathering}
use Rattle.dg_machine.proofs.machine.Machine.add_value.Goals.{then-length-gt-LONGEST_VALUE-via-then-length-gt-LONGEST_VALUE, then-length-gt-LONGEST_VALUE-via-else-length-gt-LONGEST_VALUE+then-len-length}
use Rattle.dg_machine.proofs.machine.Machine.add_value.Goals as goal

pub returns-then-length-gt-LONGEST_VALUE : goal.returns-then-length-gt-LONGEST_VALUE
returns-then-length-gt-LONGEST_VALUE c =
    let long : 1048576 < length c.args.making.text + length c.args.value =
    elim c.then-length-gt-LONGEST_VALUE.branch [
      | then-length-gt-LONGEST_VALUE-via-then-length-gt-LONGEST_VALUE w ↦ omega arith
      | then-length-gt-LONGEST_VALUE-via-else-length-gt-LONGEST_VALUE+then-len-length w ↦ omega arith
    ] in
    rw c.cut.ensures.same (within-long _ _ _ long ∙ c.in_ok-closing.ensures.ends, refl)

pub returns : goal.returns
unfolding rest go
returns c =
    let short : length c.args.making.text + length c.args.value ≤ 1048576 = omega arith in
    rw (c.in_ok-push.ensures, c.in_ok-add_text.ensures, c.requires)
    (sym (within-short _ _ _ short), refl, (rw weight-gathering (omega arith)))
