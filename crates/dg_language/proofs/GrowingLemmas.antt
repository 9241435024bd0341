-- A variable whose value grows.
use Rattle.std.proofs.Common.{◌≡◌, ℕ, ◌<◌, ◌≤◌, ◌∙◌, true, false, List, Option, Some, None, length, ap, refl, arith}
use Rattle.dg_scope.specs.Scopes.{Variables, value_limit, value_of, with_value, or_none}
use Rattle.dg_scope.proofs.Exchanges.{is_set}
use Rattle.dg_language.specs.State.{State, assigned}
use Rattle.dg_language.specs.Variables.{or_empty}
use Rattle.dg_language.specs.Growing.{Gets}

pub or-same : (o : Option (List ℕ)) → or_none o ≡ or_empty o
or-same None = refl
or-same (Some v) = refl

-- the value was put
pub gets : (s : State) (vs : Variables) (name text : List ℕ) → vs ≡ with_value s.variables name text → length text ≤ value_limit
    → Gets name text s (record s { variables = vs }) true
unfolding assigned
gets s vs name text e l =
    (ap (λ (v : Variables). record s { variables = v }) e, ap (λ (v : Variables). value_of v name) e ∙ is_set s.variables name text, l)

-- the value would be too long
pub gets-not : (s : State) (vs : Variables) (name text : List ℕ) → vs ≡ s.variables → value_limit < length text → Gets name text s (record s { variables = vs }) false
gets-not s vs name text e l = (l, ap (λ (v : Variables). record s { variables = v }) e)

-- what is not too long is short enough
pub is-short : (limit n : ℕ) → (limit < n → ⊥) → n ≤ limit
is-short limit n h = grind (arith, h)
