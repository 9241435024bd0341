-- The items of a glob that take one byte, as in `string match` of Tcl(n).
use Rattle.std.specs.Prelude.{ℕ, Bool, true, false, ◌≡◌, Option, Some, None, List, [], ◌∷◌, ◌==◌, ◌&&◌, ◌||◌, not, nat_le, min, max, if◌then◌else◌}

-- an item of a bracket: the bytes from one to the other, in either order, and the pattern after the item
pub record Item : Type 0 where
  pub from : ℕ
  pub to : ℕ
  pub after : List ℕ

abbrev pub single : ℕ → List ℕ → Item
single x p = record { from = x; to = x; after = p }

-- the first item of a bracket whose items are read from here on: there is none at `]`, at the pattern's end, and where
-- a range has no end
abbrev pub first_item : List ℕ → Option Item
first_item [] = None
first_item (x ∷ []) = if x == 93 then None else Some (single x [])
first_item (x ∷ y ∷ []) = if x == 93 then None else (if y == 45 then None else Some (single x (y ∷ [])))
first_item (x ∷ y ∷ z ∷ p) = if x == 93 then None else (if y == 45 then Some (record { from = x; to = z; after = p }) else Some (single x (y ∷ z ∷ p)))

-- the items of a bracket, in order
abbrev pub items : List ℕ → List Item
items [] = []
items (x ∷ []) = if x == 93 then [] else single x [] ∷ []
items (x ∷ y ∷ []) = if x == 93 then [] else (if y == 45 then [] else single x (y ∷ []) ∷ items (y ∷ []))
items (x ∷ y ∷ z ∷ p) = if x == 93 then [] else (if y == 45 then (record { from = x; to = z; after = p }) ∷ items p else single x (y ∷ z ∷ p) ∷ items (y ∷ z ∷ p))

-- the pattern past its first `]`, or its end where it has none
abbrev pub past_close : List ℕ → List ℕ
past_close [] = []
past_close (x ∷ p) = if x == 93 then p else past_close p

abbrev pub takes : Item → ℕ → Bool
takes i c = nat_le (min i.from i.to) c && nat_le c (max i.from i.to)

-- the pattern past the first `]` behind the first of the items that takes the byte
abbrev pub after_first : List Item → ℕ → Option (List ℕ)
after_first [] c = None
after_first (i ∷ is) c = if takes i c then Some (past_close i.after) else after_first is c

-- what is left of a pattern once a backslash, which stood before it, has made its first byte stand for itself
abbrev pub after_escaped : List ℕ → ℕ → Option (List ℕ)
after_escaped [] c = None
after_escaped (x ∷ p) c = if x == c then Some p else None

-- whether a byte stands for itself in a pattern
abbrev pub is_plain : ℕ → Bool
is_plain x = not (x == 42 || x == 63 || x == 91 || x == 92)

-- what is left of a pattern once its first item has taken the byte, if that item takes it: `?` takes any byte, `[`
-- begins a bracket, after `\` a byte stands for itself, as any other byte does but `*`
abbrev pub after_item : List ℕ → ℕ → Option (List ℕ)
after_item [] c = None
after_item (x ∷ p) c = if x == 42 then None else (if x == 63 then Some p else (if x == 91 then after_first (items p) c else (if x == 92 then after_escaped p c else after_escaped (x ∷ p) c)))

-- none of the items is a range that ends with `]`
abbrev pub closes_alike : List Item → Bool
closes_alike [] = true
closes_alike (i ∷ is) = if i.to == 93 then false else closes_alike is

-- whatever byte the first item takes, the same is left of the pattern
abbrev pub IsSteady : List ℕ → Type 0
IsSteady p = (c d : ℕ) (q r : List ℕ) → after_item p c ≡ Some q → after_item p d ≡ Some r → q ≡ r
