use Rattle.std.proofs.Common.{◌∙◌, sym, ap, inl, inr, true≢false}
use denote.Enum.Bare.{sameb}
use Rattle.dg_lists.specs.contracts.fault.WordFault.{the_type}
use Rattle.dg_lists.specs.declared.fault.WordFault.TheVariants.{Memory}
use Rattle.dg_forms.proofs.Choices.{empty-if, some-if}
use Rattle.dg_compiled.proofs.ScriptLemmas.{commands_at-none, commands_at-words, commands_at-fault}
use Rattle.dg_compiled.proofs.script.read_command.Goals as goal

pub returns-then-is_empty : goal.returns-then-is_empty
returns-then-is_empty c =
    commands_at-none _ _ _ _ c.requires c.in-Ok.ensures.reading (empty-if _ (sym c.is_empty.ensures ∙ c.if-is_empty.true))

pub returns-else-is_empty : goal.returns-else-is_empty
returns-else-is_empty c =
    let some = some-if _ (sym c.is_empty.ensures ∙ c.if-is_empty.false) in
    (commands_at-words _ _ _ _ c.requires c.in-Ok.ensures.reading some, c.in-Ok.ensures.onward some, c.in-Ok.ensures.within)

pub returns-else-eq : goal.returns-else-eq
returns-else-eq c = elim c.in-Err.ensures.reading [
  | inl memory ↦ absurd (true≢false (sym (sym c.if-eq.false ∙ c.eq.ensures ∙ ap (λ f. sameb the_type f Memory) memory)))
  | inr read ↦ commands_at-fault _ _ _ c.requires read
]
