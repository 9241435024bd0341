-- Triplets.
use Rattle.std.specs.Prelude.{ℕ, Bool, List, length, nat_lt, nat_le, ◌==◌, ◌&&◌, count_by}
use Rattle.std.specs.List.{list_all}
use Rattle.dg_bytes.specs.Portable.{is_portable}

-- 1 to 255 bytes that are letters, digits, `.`, `_`, `-` or `+`, with two `-` or more
abbrev pub is_triplet : List ℕ → Bool
is_triplet t = nat_lt 0 (length t) && nat_le (length t) 255 && list_all is_portable t && nat_le 2 (count_by (λ b. b == 45) t)
