-- Variables: the first scope's map from names to texts, and the scopes that stand above it, each with a map of its own in
-- which a name can also be a link to the first map.
use Rattle.std.specs.Prelude.{◌≡◌, ℕ, Bool, true, false, ◌||◌, if◌then◌else◌, List, [], ◌∷◌, ◌++◌, ◌≤◌, length, drop, Option, None, Some, Ok}
use Rattle.std.specs.Ordering.{nat_cmp}
use Rattle.std.specs.Cmp.Lexicographic.{slice_cmp}
use Rattle.std.specs.FinMap as map
use Rattle.std.specs.FinMap.{FinMap}
use Rattle.dg_lists.specs.Canonical.{text_of_list}
use Rattle.dg_lists.specs.Elements.{elements_of}
use Rattle.dg_scope.specs.Names.{is_qualified, global_name, base_of}
use Rattle.dg_scope.specs.declared.scope.Slot.{Slot}
use Rattle.dg_scope.specs.declared.scope.Slot.TheVariants.{Held, Link}
use Rattle.dg_scope.specs.declared.scope.Scope.{Scope}
use Rattle.dg_scope.specs.declared.scope.Scope.TheVariants.{Outermost, Local}
use Rattle.dg_scope.specs.declared.scopes.TheConstants.{LONGEST_VALUE}

-- maps by names, which are bytes
abbrev pub Names : Type 0 → Type 0
Names V = FinMap (slice_cmp nat_cmp) V

-- the variables of the first scope, and the scopes from the one where evaluation is now down to the first
pub record Variables : Type 0 where
  pub globals : Names (List ℕ)
  pub scopes : List Scope

-- the most bytes that a value may have
abbrev pub value_limit : ℕ
value_limit = LONGEST_VALUE

-- no variables, in the first scope
abbrev pub no_variables : Variables
no_variables = record { globals = map.empty; scopes = Outermost ∷ [] }

-- whether a place in a scope is a link
abbrev pub is_link : Option Slot → Bool
is_link (Some Link) = true
is_link _ = false

-- the text at a place in a scope
abbrev pub held : Option Slot → Option (List ℕ)
held (Some (Held text)) = Some text
held _ = None

-- whether a name means the global in a scope: in the first scope, if it begins with `::`, or if it or its base is linked
abbrev pub means_global_in : Scope → List ℕ → Bool
means_global_in Outermost name = true
means_global_in (Local names) name = is_qualified name || (is_link (map.get names name) || is_link (map.get names (base_of name)))

-- the same in the first of these scopes
abbrev pub means_global_at : List Scope → List ℕ → Bool
means_global_at [] name = true
means_global_at (s ∷ scopes) name = means_global_in s name

-- whether a name means the global where evaluation is now
abbrev pub means_global : Variables → List ℕ → Bool
means_global v name = means_global_at v.scopes name

-- the text of a name in a scope of its own
abbrev pub own_value : List Scope → List ℕ → Option (List ℕ)
own_value (Local names ∷ scopes) name = held (map.get names name)
own_value _ name = None

-- the scopes with a place changed in the one where evaluation is now
abbrev pub with_place : List Scope → List ℕ → Slot → List Scope
with_place (Local names ∷ scopes) name slot = Local (map.insert names name slot) ∷ scopes
with_place scopes name slot = scopes

-- the scopes with a place taken away in the one where evaluation is now
abbrev pub without_place : List Scope → List ℕ → List Scope
without_place (Local names ∷ scopes) name = Local (map.remove names name) ∷ scopes
without_place scopes name = scopes

-- the value of a global
abbrev pub global_value : Variables → List ℕ → Option (List ℕ)
global_value v name = map.get v.globals (global_name name)

-- the value of a name, if it is set
abbrev pub value_of : Variables → List ℕ → Option (List ℕ)
value_of v name = if means_global v name then global_value v name else own_value v.scopes name

-- a global set to a text
abbrev pub with_global : Variables → List ℕ → List ℕ → Variables
with_global v name text = record v { globals = map.insert v.globals (global_name name) text }

-- a name set to a text
abbrev pub with_value : Variables → List ℕ → List ℕ → Variables
with_value v name text =
    if means_global v name
    then with_global v name text
    else (record v { scopes = with_place v.scopes name (Held text) })

-- the text of a name, of which one that isn't set has none
abbrev pub or_none : Option (List ℕ) → List ℕ
or_none None = []
or_none (Some text) = text

-- A name is set to the canonical text of the list that it held with more elements behind, which is no longer than a value
-- may be.
abbrev pub LongerList : Variables → List ℕ → List (List ℕ) → Variables → Type 0
LongerList old name more new =
    (xs : List (List ℕ)) × ((elements_of (or_none (value_of old name)) ≡ Ok xs) × (new ≡ with_value old name (text_of_list (xs ++ more))) × (length (text_of_list (xs ++ more)) ≤ value_limit))

-- a name unset
abbrev pub without_value : Variables → List ℕ → Variables
without_value v name =
    if means_global v name
    then (record v { globals = map.remove v.globals (global_name name) })
    else (record v { scopes = without_place v.scopes name })

-- a name linked to the global of that name
abbrev pub with_link : Variables → List ℕ → Variables
with_link v name = record v { scopes = with_place v.scopes (global_name name) Link }

-- one scope more, with no names
abbrev pub with_scope : Variables → Variables
with_scope v = record v { scopes = Local map.empty ∷ v.scopes }

-- one scope more, in which each name means the global
abbrev pub with_outermost : Variables → Variables
with_outermost v = record v { scopes = Outermost ∷ v.scopes }

-- the scope where evaluation is now gone
abbrev pub without_scope : Variables → Variables
without_scope v = record v { scopes = drop 1 v.scopes }
