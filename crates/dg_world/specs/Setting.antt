-- What a line sets variables to.
use Rattle.std.specs.Prelude.{ℕ, Bool, false, ◌&&◌, ◌||◌, ◌==◌, nat_le, Option, List, [], ◌∷◌, length}
use Rattle.std.specs.Option.{option_map}
use Rattle.std.specs.List.{list_all, find}
use Rattle.dg_bytes.specs.Same.{same_bytes}
use Rattle.dg_world.specs.declared.setting.Setting.{Setting}
use Rattle.dg_world.specs.declared.setting.TheConstants.{MAX_VALUE_LENGTH}

-- a letter or `_`
abbrev pub is_variable_start : ℕ → Bool
is_variable_start b = (nat_le 65 b && nat_le b 90) || (nat_le 97 b && nat_le b 122) || (b == 95)

-- a letter, a digit or `_`
abbrev pub is_variable_byte : ℕ → Bool
is_variable_byte b = is_variable_start b || (nat_le 48 b && nat_le b 57)

-- the name of a variable of the line: a letter or `_`, then letters, digits and `_`, at most 64 bytes
abbrev pub is_variable : List ℕ → Bool
is_variable [] = false
is_variable (b ∷ bs) = is_variable_start b && list_all is_variable_byte bs && nat_le (length bs) 63

-- a setting: such a variable, and a value of at most 65,536 bytes
abbrev pub is_setting : Setting → Bool
is_setting s = is_variable s.name && nat_le (length s.value) MAX_VALUE_LENGTH

-- what a variable is set to, if it is
abbrev pub value_of : List Setting → List ℕ → Option (List ℕ)
value_of settings name = option_map (λ s. s.value) (find (λ s. same_bytes s.name name) settings)
