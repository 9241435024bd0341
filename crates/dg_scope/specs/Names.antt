-- Names of variables, as bytes: `:` is 58, `(` is 40, `)` is 41.
use Rattle.std.specs.Prelude.{ℕ, ◌==◌, nat_eq, Bool, ◌&&◌, if◌then◌else◌, List, [], ◌∷◌, drop}
use Rattle.std.specs.List.{starts_with, ends_with, list_any, before_first}

-- a name that begins with `::` is a global's in each scope
abbrev pub is_qualified : List ℕ → Bool
is_qualified name = starts_with nat_eq name (58 ∷ 58 ∷ [])

-- the name of that global
abbrev pub global_name : List ℕ → List ℕ
global_name name = if is_qualified name then drop 2 name else name

-- an element's name has a `(`, and `)` at its end
abbrev pub has_index : List ℕ → Bool
has_index name = ends_with nat_eq name (41 ∷ []) && list_any (λ b. b == 40) name

-- the part before the first `(` of a name that ends with `)`, or the whole name
abbrev pub base_of : List ℕ → List ℕ
base_of name = if ends_with nat_eq name (41 ∷ []) then before_first (λ b. b == 40) name else name
