use Rattle.std.proofs.Common.{◌∙◌, refl, sym, ap, arith}
use Rattle.dg_language.specs.Judge.{tool_library}
use Rattle.dg_machine.specs.Meaning.{go, rest}
use Rattle.dg_machine.proofs.OpeningLemmas.{tool-asks, tool-known, known-marked, weight-marked, weight-pushed}
use Rattle.dg_machine.proofs.machine.Machine.open_tool.Goals as goal

pub returns-in_default : goal.returns-in_default
returns-in_default c = rw c.in_ok-ask.ensures (tool-asks _ _ (sym c.in_default.ensures), refl, sym c.in_default.ensures)

pub returns : goal.returns
unfolding rest go
returns c =
    let name = c.in_ok-name.ensures ∙ ap tool_library c.tool_of.ensures in
    rw (c.in_ok-push.ensures, c.in_ok-mark.ensures, c.as_slice.ensures, c.requires)
    (sym (tool-known _ _ _ _ (sym c.in-Some.ensures) name), known-marked _ _, (rw (weight-pushed, weight-marked) (omega arith)))
