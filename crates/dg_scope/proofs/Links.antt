-- Names that don't end as an element's does: each is its own base.
use Rattle.std.proofs.Common.{◌≡◌, ℕ, Bool, true, false, List, Option, None, Some, refl, ap, sym, ◌∙◌, ◌||◌, ◌&&◌, not, if◌then◌else◌, ◌∷◌, []}
use Rattle.std.specs.Prelude.{nat_eq, ◌==◌}
use Rattle.std.specs.List.{ends_with, before_first}
use Rattle.std.specs.FinMap.{get}
use Rattle.dg_scope.specs.Names.{base_of, is_qualified}
use Rattle.dg_scope.specs.Scopes.{Names, held, is_link, means_global_in}
use Rattle.dg_scope.specs.declared.scope.Slot.{Slot}
use Rattle.dg_scope.specs.declared.scope.Slot.TheVariants.{Held, Link}
use Rattle.dg_scope.specs.declared.scope.Scope.TheVariants.{Local}

same : (b : Bool) → b ≡ (b || b)
same true = refl
same false = refl

chosen : (b : Bool) (x n : List ℕ) → b ≡ false → (if b then x else n) ≡ n
chosen true x n e = absurd cc
chosen false x n e = refl

pub once : (names : Names Slot) (n : List ℕ) → ends_with nat_eq n (41 ∷ []) ≡ false → is_link (get names n) ≡ (is_link (get names n) || is_link (get names (base_of n)))
once names n e =
    same (is_link (get names n))
    ∙ ap (λ m. is_link (get names n) || is_link (get names m)) (sym (chosen (ends_with nat_eq n (41 ∷ [])) (before_first (λ b. b == 40) n) n e))

held_is_no_link : (o : Option Slot) (v : List ℕ) → held o ≡ Some v → is_link o ≡ false
held_is_no_link None v e = refl
held_is_no_link (Some (Held text)) v e = refl
held_is_no_link (Some Link) v e = absurd cc

not_left : (a b : Bool) → (not a && not b) ≡ true → a ≡ false
not_left true b e = absurd cc
not_left false b e = refl

not_right : (a b : Bool) → (not a && not b) ≡ true → b ≡ false
not_right true b e = absurd cc
not_right false true e = absurd cc
not_right false false e = refl

neither : (a b : Bool) → a ≡ false → b ≡ false → (a || b) ≡ false
neither true b e f = absurd cc
neither false b e f = f

pub plain_is_no_global :
    (names : Names Slot) (n v : List ℕ)
    → (not (is_qualified n) && not (ends_with nat_eq n (41 ∷ []))) ≡ true
    → held (get names n) ≡ Some v → means_global_in (Local names) n ≡ false
plain_is_no_global names n v p e =
    neither (is_qualified n) _ (not_left (is_qualified n) _ p)
    (sym (once names n (not_right (is_qualified n) _ p)) ∙ held_is_no_link (get names n) v e)
