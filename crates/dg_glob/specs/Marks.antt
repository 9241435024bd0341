-- A mark for each of many places, in words of 64.
use Rattle.std.specs.Prelude.{ℕ, Bool, List, ◌/◌, ◌%◌, ◌==◌, slice_index}
use Rattle.std.specs.Int.{bit_at}

-- whether a place is marked
abbrev pub marked : List ℕ → ℕ → Bool
marked marks place = bit_at (slice_index marks (place / 64)) (place % 64) == 1
