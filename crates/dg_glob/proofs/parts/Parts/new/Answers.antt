use Rattle.std.proofs.Common.{sym, ap, ◌∙◌}
use Rattle.dg_glob.specs.Glob.{body}
use Rattle.dg_glob.proofs.parts.Parts.new.Goals as goal

pub invariant_of-result : goal.invariant_of-result
invariant_of-result c = (
  c.in_ok-from_slice-2.ensures.items ∙ c.body.ensures ∙ ap body (sym c.in_ok-from_slice.ensures.items),
  rw (c.in_ok-from_slice-2.ensures.items ∙ c.body.ensures, c.in_ok-from_slice.ensures.items) c.in_ok-read_glob.ensures,
)
