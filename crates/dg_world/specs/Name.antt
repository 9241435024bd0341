-- Names of files.
use Rattle.std.specs.Prelude.{ℕ, Bool, not, ◌&&◌, ◌==◌, nat_le, List, length, codes, nat_eq}
use Rattle.std.specs.List.{list_all, slice_split}
use Rattle.std.specs.Cmp.Lexicographic.{pointwise}
use Rattle.dg_bytes.specs.Portable.{is_portable}

-- one or more letters, digits or bytes of `._-+`, but neither `.` nor `..`
abbrev pub is_part : List ℕ → Bool
is_part p =
    nat_le 1 (length p) && list_all is_portable p && not (pointwise nat_eq p (codes ".")) && not (pointwise nat_eq p (codes ".."))

-- what stands between the slashes
abbrev pub parts_of : List ℕ → List (List ℕ)
parts_of n = slice_split (λ b. b == 47) n

-- 1 to 255 bytes: parts joined by single slashes
unfoldable pub is_name : List ℕ → Bool
is_name n = nat_le (length n) 255 && list_all is_part (parts_of n)

-- a board or a tool: one part of at most 64 bytes
unfoldable pub is_single_part : List ℕ → Bool
is_single_part n = nat_le (length n) 64 && is_part n
