use Rattle.std.proofs.Common.{sym, subst, nat_eq}
use Rattle.std.specs.List.{IsDistinct}
use Rattle.dg_index.proofs.places.Places.as_slice.Goals as goal

-- one place is distinct from all others
pub returns-in-One-clause-distinct : goal.returns-in-One-clause-distinct
unfolding IsDistinct
returns-in-One-clause-distinct c = subst (IsDistinct nat_eq) (sym c.from_ref.ensures.value) (tt, tt)
