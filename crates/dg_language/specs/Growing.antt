-- A variable whose value grows.
use Rattle.std.specs.Prelude.{◌≡◌, ℕ, ◌<◌, ◌≤◌, Bool, true, false, List, Some, length}
use Rattle.dg_scope.specs.Scopes.{value_limit, value_of}
use Rattle.dg_language.specs.State.{State, assigned}

-- A variable has got a value, if that is no longer than a value may be.
abbrev pub Gets : List ℕ → List ℕ → State → State → Bool → Type 0
Gets name text old new true = (new ≡ assigned name text old) × (value_of new.variables name ≡ Some text) × (length text ≤ value_limit)
Gets name text old new false = (value_limit < length text) × (new ≡ old)
