-- Values by name, kept in two trees: one by the numbers of the short names, one by the bytes of the others.
use Rattle.std.specs.Prelude.{ℕ, zero, suc, ◌/◌, ◌%◌, Bool, not, nat_le, List, [], ◌∷◌, ◌++◌, length, map}
use Rattle.std.specs.Ordering.{nat_cmp}
use Rattle.std.specs.Cmp.Lexicographic.{slice_cmp}
use Rattle.std.specs.FinMap.{FinMap, entries, from_entries, retain_keys}
use Rattle.std.specs.declared.vec.Vec.{Vec}
use Rattle.std.specs.declared.alloc.Global.{Global}
use Rattle.dg_scope.specs.declared.short_names.TheConstants.{LONGEST_SHORT}

-- entries by what their keys name
abbrev pub by_name : {K V : Type 0} → (K → List ℕ) → List (K × V) → List (List ℕ × V)
by_name name entries = map (λ e. (name e.0, e.1)) entries

-- a name that is kept as its bytes
abbrev pub bytes_of : Vec ℕ Global → List ℕ
bytes_of name = name.items

-- the name that a number stands for, if it has at most so many bytes
abbrev pub name_within : ℕ → ℕ → List ℕ
name_within zero n = []
name_within (suc room) zero = []
name_within (suc room) (suc n) = name_within room (n / 256) ++ n % 256 ∷ []

-- The name that a number stands for. Names are counted by their lengths, and in byte order among those of one length: 0 is the
-- empty one, 1 to 256 are those of one byte, and so on.
abbrev pub name_of : ℕ → List ℕ
name_of n = name_within n n

-- whether a name is kept as a number
abbrev pub is_short : List ℕ → Bool
is_short name = nat_le (length name) LONGEST_SHORT

-- the short names of one map, and the others of another
abbrev pub joined : {V : Type 0} → FinMap (slice_cmp nat_cmp) V → FinMap (slice_cmp nat_cmp) V → FinMap (slice_cmp nat_cmp) V
joined short long = from_entries (entries (retain_keys short is_short) ++ entries (retain_keys long (λ name. not (is_short name))))
