-- The names of scripts.
use Rattle.std.specs.Prelude.{ℕ, Bool, not, ◌&&◌, ◌||◌, nat_eq, nat_le, List, [], length, codes, slice_get}
use Rattle.std.specs.declared.option.Option.TheVariants.{None}
use Rattle.std.specs.Option.{unwrap_or}
use Rattle.std.specs.List.{list_any, last_or, starts_with, ends_with}
use Rattle.dg_world.specs.Name.{parts_of}
use Rattle.dg_bytes.specs.Same.{same_bytes}

-- the first and the last of the parts of a name
abbrev pub first_part : List ℕ → List ℕ
first_part n = unwrap_or (slice_get (parts_of n) 0) []

abbrev pub last_part : List ℕ → List ℕ
last_part n = unwrap_or (last_or None (parts_of n)) []

-- a folder that no tool's scripts stand in
abbrev pub is_reserved : List ℕ → Bool
is_reserved folder = same_bytes folder (codes "lib") || same_bytes folder (codes "boards") || same_bytes folder (codes "transcripts")

-- whether a name of two parts or more is that of a script of the tool
unfoldable pub is_script : List ℕ → List ℕ → Bool
is_script tool n =
    nat_le 2 (length (parts_of n)) && starts_with nat_eq (first_part n) tool && not (is_reserved (first_part n))
    && ends_with nat_eq n (codes ".exp")

-- whether a list has the name or its last part
abbrev pub is_listed : List (List ℕ) → List ℕ → Bool
is_listed names n = list_any (λ m. same_bytes m n || same_bytes m (last_part n)) names
