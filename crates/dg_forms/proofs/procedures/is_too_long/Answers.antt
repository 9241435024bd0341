use Rattle.std.proofs.Common.{rules, tests, ◌∙◌, length, nat_lt}
use Rattle.std.proofs.lemmas.Iterator.{YieldsList-from_slice}
use Rattle.std.proofs.lemmas.Iterator.Search.{any_from_yields_List}
use Rattle.dg_forms.proofs.ProcedureLemmas.{longest-any}
use Rattle.dg_forms.proofs.procedures.is_too_long.Goals as goal

pub returns : goal.returns
returns c =
    let bs = c.args.bindings.now in
    any_from_yields_List (λ b. nat_lt 1048576 (length b.value)) _ _ _ c.any.ensures.ran (YieldsList-from_slice bs cc) (λ x b q k. search (rules, tests))
    ∙ longest-any bs
