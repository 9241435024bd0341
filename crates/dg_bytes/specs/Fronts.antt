-- Bytes as one number.
use Rattle.std.specs.Prelude.{ℕ, ◌+◌, ◌*◌, List, [], ◌∷◌}

-- the number whose digits to the base 256 are those of another, and then these bytes
abbrev pub as_number : ℕ → List ℕ → ℕ
as_number n [] = n
as_number n (b ∷ bs) = as_number (n * 256 + b) bs
