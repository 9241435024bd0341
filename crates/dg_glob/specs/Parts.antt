-- The parts of a glob between its stars, and a search for them one behind the other.
use Rattle.std.specs.Prelude.{ℕ, zero, suc, ◌+◌, ◌-◌, ◌≤◌, max, ⊤, Bool, true, false, ◌&&◌, nat_le, ◌≡◌, List, [], ◌∷◌, ◌++◌, ◌==◌, length, drop, Option, None, Some, if◌then◌else◌}
use Rattle.std.specs.Option.{is_some}
use Rattle.dg_glob.specs.Items.{after_item, closes_alike, items, past_close}
use Rattle.dg_glob.specs.Glob.{IsSpan, binds_start, body}
use Rattle.dg_glob.specs.Rows.{begins_with_star}
use Rattle.dg_glob.specs.Least.{least_below}

-- an item that takes one byte, given by the pattern from it on
abbrev pub Item : Type 0
Item = List ℕ

-- whether a pattern begins with an item that takes one byte, behind which the same is left whatever the byte: no bracket
-- with a range that ends with `]`
abbrev pub begins_steadily : List ℕ → Bool
begins_steadily [] = false
begins_steadily (x ∷ p) = if x == 42 then false else (if x == 91 then closes_alike (items p) else true)

-- the rest after such an item
abbrev pub behind_item : List ℕ → List ℕ
behind_item [] = []
behind_item (x ∷ p) = if x == 91 then past_close p else (if x == 92 then drop 1 p else p)

-- the parts with an item in front of the first
abbrev pub with_item : Item → List (List Item) → List (List Item)
with_item i [] = []
with_item i (part ∷ parts) = (i ∷ part) ∷ parts

-- the parts of a pattern of at most n bytes: the items before its first star, those up to the next, and so on, up to an item
-- behind which not always the same is left
abbrev pub parts_within : ℕ → List ℕ → List (List Item)
parts_within zero p = [] ∷ []
parts_within (suc n) p =
    if begins_with_star p then [] ∷ parts_within n (drop 1 p)
    else (if begins_steadily p then with_item p (parts_within n (behind_item p)) else [] ∷ [])

-- the parts of a glob, none of one that is bound to the text's start
unfoldable pub parts_of : List ℕ → List (List Item)
parts_of p = if binds_start p then [] else parts_within (length (body p)) (body p)

-- whether the items of a part take the bytes at the front of a text
abbrev pub stands : List Item → List ℕ → Bool
stands [] t = true
stands (i ∷ part) [] = false
stands (i ∷ part) (c ∷ t) = is_some (after_item i c) && stands part t

-- the least place from the n-th on at which a part stands
unfoldable pub least_stand : List Item → List ℕ → ℕ → Option ℕ
least_stand part t n = least_below (λ k. nat_le n k && stands part (drop k t)) (length t + 1)

-- how many parts a search from the n-th place on finds, each at the least place behind the one before, and the first place
-- at which the next may stand once bytes come behind
abbrev pub trail : List (List Item) → List ℕ → ℕ → ℕ × ℕ
trail [] t n = (0, n)
trail (part ∷ parts) t n =
    elim (least_stand part t n) as (λ _. ℕ × ℕ) [
      | None ↦ (0, max n (length t + 1 - length part))
      | Some k ↦ ((trail parts t (k + length part)).0 + 1, (trail parts t (k + length part)).1)
    ]

-- the same for the parts of a glob but the first few, with how many are found with those
abbrev pub followed : List ℕ → ℕ → List ℕ → ℕ → ℕ × ℕ
followed p found t n = (found + (trail (drop found (parts_of p)) t n).0, (trail (drop found (parts_of p)) t n).1)

-- the parts stand in a text one behind the other, the first of them at the n-th place or behind it
abbrev pub Follow : List (List Item) → List ℕ → ℕ → Type 0
Follow [] t n = ⊤
Follow (part ∷ parts) t n = (k : ℕ) × ((n ≤ k) × ((k + length part ≤ length t) × ((stands part (drop k t) ≡ true) × Follow parts t (k + length part))))

-- Each match of the glob, in the text or in a longer one that begins with it, has its parts but the first few from the n-th
-- place on, and not before it begins. So where they don't stand there, there is no match.
abbrev pub IsTrail : List ℕ → ℕ → List ℕ → ℕ → Type 0
IsTrail p found t n = (more : List ℕ) (s e : ℕ) → IsSpan p (t ++ more) s e → Follow (drop found (parts_of p)) (t ++ more) (max n s)
