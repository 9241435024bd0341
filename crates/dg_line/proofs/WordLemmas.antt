-- Where a byte stands first, and the words behind references.
use Rattle.std.proofs.Common.{◌≡◌, ◌∙◌, ℕ, ◌+◌, Bool, true, false, not, ◌||◌, List, [], ◌∷◌, length, map, Some, None, cond, nat_lt, ap, refl, arith, suc}
use Rattle.std.specs.List.{list_any, position_or_len, position}

step : (b r : Bool) (n m : ℕ) → r ≡ nat_lt n m → (b || r) ≡ nat_lt (cond (not b) (1 + n) 0) (suc m)
step true r n m e = grind arith
step false r n m e = grind (arith, e)

-- whether some element passes, by the place of the first one
pub any_by_place : {X : Type 0} (p : X → Bool) (xs : List X) → list_any p xs ≡ nat_lt (position_or_len p xs) (length xs)
any_by_place p [] = refl
any_by_place p (x ∷ xs) = step (p x) (list_any p xs) (position_or_len p xs) (length xs) (any_by_place p xs)

-- the place of the first one, in a list and behind its references
pub place-map : {X Y : Type 0} (p : Y → Bool) (f : X → Y) (xs : List X) → position_or_len (λ x. p (f x)) xs ≡ position_or_len p (map f xs)
place-map p f [] = refl
place-map p f (x ∷ xs) = ap (λ n. cond (not (p (f x))) (1 + n) 0) (place-map p f xs)

length-map : {X Y : Type 0} (f : X → Y) (xs : List X) → length xs ≡ length (map f xs)
length-map f [] = refl
length-map f (x ∷ xs) = ap suc (length-map f xs)

pub position-map : {X Y : Type 0} (p : Y → Bool) (f : X → Y) (xs : List X) → position (λ x. p (f x)) xs ≡ position p (map f xs)
position-map p f xs =
    ap (λ n. cond (nat_lt n (length xs)) (Some n) None) (place-map p f xs)
    ∙ ap (λ m. cond (nat_lt (position_or_len p (map f xs)) m) (Some (position_or_len p (map f xs))) None) (length-map f xs)

pub not_below : (n m : ℕ) → n ≡ m → nat_lt n m ≡ false
not_below n m e = grind (arith, e)
