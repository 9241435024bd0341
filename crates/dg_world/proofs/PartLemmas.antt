-- What an iterator gives, read through its references.
use Rattle.std.proofs.Common.{◌≡◌, ◌∙◌, ap, ℕ, List, [], ◌∷◌, Option, None, Some, map, refl, Bor}
use Rattle.std.specs.Option.{option_map, unwrap_or}
use Rattle.std.specs.List.{last_or}
use Rattle.std.specs.Iterator.{Drains, DrainsIf}
use Rattle.std.proofs.lemmas.Iterator.{YieldsList, items_from_drains}

-- calls that gave items and then none
drains : {S A : Type 0} (steps : S → Option A → S → Type 0) (s : S) (xs : List A) → Drains steps s xs → DrainsIf steps (Unit {0}) s xs
drains steps s xs d = (d.1.0, d.1.1, λ _. (d.0, d.1.2))

-- what an optional reference or another one points to
now-unwrap_or : (o : Option (Bor (List ℕ))) (d : Bor (List ℕ)) → (unwrap_or o d).now ≡ unwrap_or (option_map (λ x. x.now) o) d.now
now-unwrap_or None d = refl
now-unwrap_or (Some x) d = refl

-- the last of what each points to
last_or-map : (o : Option (Bor (List ℕ))) (xs : List (Bor (List ℕ))) → option_map (λ x. x.now) (last_or o xs) ≡ last_or (option_map (λ x. x.now) o) (map (λ x. x.now) xs)
last_or-map o [] = refl
last_or-map o (x ∷ xs) = last_or-map (Some x) xs

-- an item or nothing, where the items are known
pub first_now : (o : Option (Bor (List ℕ))) (d r : Bor (List ℕ)) → r ≡ unwrap_or o d → d.now ≡ [] → {item : Option (List ℕ)} → option_map (λ x. x.now) o ≡ item → r.now ≡ unwrap_or item []
first_now o d r is none {item} here =
    ap (λ x. x.now) is ∙ now-unwrap_or o d ∙ ap (λ i. unwrap_or i d.now) here ∙ ap (unwrap_or item) none

-- the last item or nothing, where an iterator gave it
pub last_now : {S : Type 0} {steps : S → Option (Bor (List ℕ)) → S → Type 0} {s : S} {items : List (List ℕ)} (o : Option (Bor (List ℕ))) (d r : Bor (List ℕ)) → r ≡ unwrap_or o d → d.now ≡ [] → ((xs : List (Bor (List ℕ))) × Drains steps s xs × (o ≡ last_or None xs)) → YieldsList steps (λ x. x.now) s items → r.now ≡ unwrap_or (last_or None items) []
last_now {S} {steps} {s} {items} o d r is none ran road =
    let same = items_from_drains ran.0 (drains steps s ran.0 ran.1) road in
    first_now o d r is none (ap (option_map (λ x. x.now)) ran.2 ∙ last_or-map None ran.0 ∙ ap (last_or None) same)
