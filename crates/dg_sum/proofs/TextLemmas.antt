-- Texts that grow.
use Rattle.std.proofs.Common.{◌≡◌, ◌∙◌, ap, append_assoc, ℕ, List, ◌++◌, Result, Ok, Err, OnOk}

-- two texts in turn are one
pub then : (x y z a b : List ℕ) → z ≡ y ++ b → y ≡ x ++ a → z ≡ x ++ (a ++ b)
then x y z a b second first = second ∙ ap (λ t. t ++ b) first ∙ append_assoc x a b

pub on_ok_then : {A E : Type 0} (r : Result A E) (x y z a b : List ℕ) → y ≡ x ++ a → OnOk r (z ≡ y ++ b) → OnOk r (z ≡ x ++ (a ++ b))
on_ok_then (Ok v) x y z a b first second = then x y z a b second first
on_ok_then (Err e) x y z a b first second = tt
