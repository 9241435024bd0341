use Rattle.std.proofs.Common.{◌∙◌, ap, sym}
use Rattle.dg_language.specs.Builtins.{builtin_of, or_else, with_name}
use Rattle.dg_language.specs.Immediate.{immediate_commands}
use Rattle.dg_forms.proofs.names.find_any.Goals as goal

pub returns-in-Some : goal.returns-in-Some
unfolding builtin_of
returns-in-Some c = ap (λ found. or_else found (with_name c.args.name.now immediate_commands)) (sym c.in-Some.is ∙ c.search.ensures)

pub returns-in-None : goal.returns-in-None
unfolding builtin_of
returns-in-None c =
    c.search-in-None.ensures ∙ ap (λ found. or_else found (with_name c.args.name.now immediate_commands)) (sym c.in-None.is ∙ c.search.ensures)
