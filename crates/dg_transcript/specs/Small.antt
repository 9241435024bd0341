-- Hexadecimal in lower case.
use Rattle.std.specs.Prelude.{ℕ, nat_le, Bool, not, ◌&&◌}

-- no digit `A` to `F`
abbrev pub is_small : ℕ → Bool
is_small b = not (nat_le 65 b && nat_le b 70)
