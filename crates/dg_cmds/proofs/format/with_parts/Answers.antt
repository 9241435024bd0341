use Rattle.std.proofs.Common.{◌≡◌, [], ap, sym, subst, ◌∙◌, Err}
use Rattle.std.specs.Prelude.{codes}
use Rattle.std.proofs.lemmas.List.{nil_from_length}
use Rattle.dg_cmds.specs.declared.fault.CmdFault.TheVariants.{Tcl}
use Rattle.dg_bytes.specs.Chain.{◌>>=◌}
use Rattle.dg_cmds.specs.Answers.{Answer, Gives}
use Rattle.dg_cmds.specs.Formats.{with_parts}
use Rattle.dg_cmds.proofs.FormatLemmas.{plain-step, field-step, none-step}
use Rattle.dg_cmds.proofs.format.with_parts.Goals as goal

pub loop-part-preserved-in-Some-plain_behind : goal.loop-part-preserved-in-Some-plain_behind
loop-part-preserved-in-Some-plain_behind c =
    let empty : c.in-Some.part.now ≡ [] = nil_from_length c.in-Some.part.now c.in-Some-plain_behind.ensures.0 in
    sym (plain-step c.loop-part.text c.in-Some.part.now c.in-Some-plain_behind.plain.now c.loop-part.parts.now c.in-Some.later.now c.in-Some-plain_behind.rest.now c.loop-part.values.now c.in-Some.ensures.cases.0 empty c.in-Some-plain_behind.ensures.1
    ∙ ap (λ (a : Answer). a >>= λ longer. with_parts longer c.in-Some-plain_behind.rest.now c.loop-part.values.now) c.in_default-add_plain.ensures)
    ∙ c.loop-part.invariant

pub returns-in_default-split_first : goal.returns-in_default-split_first
returns-in_default-split_first c =
    let e : Err (Tcl (codes "not enough arguments for all format specifiers")) ≡ with_parts c.args.text c.args.parts.now c.args.values.now =
    sym (none-step c.loop-part.text c.in-Some.part.now c.loop-part.parts.now c.in-Some.later.now c.loop-part.values.now c.in-Some.ensures.cases.0 c.in_default-plain_behind.ensures c.in_default-split_first.ensures.cases) ∙ c.loop-part.invariant in
    subst (λ (a : Answer). Gives c.fail.result a) e c.fail.ensures

pub loop-part-preserved : goal.loop-part-preserved
loop-part-preserved c =
    sym (field-step c.loop-part.text c.in-Some.part.now c.in-Some-split_first.value.now c.loop-part.parts.now c.in-Some.later.now c.loop-part.values.now c.in-Some-split_first.others.now c.in-Some.ensures.cases.0 c.in_default-plain_behind.ensures c.in-Some-split_first.ensures.cases.0
    ∙ ap (λ (a : Answer). a >>= λ longer. with_parts longer c.in-Some.later.now c.in-Some-split_first.others.now) c.in_default-add_field.ensures)
    ∙ c.loop-part.invariant
