-- A value that is exchanged for another, and then again.
use Rattle.std.proofs.Common.{◌≡◌, ℕ, Bool, true, false, cond, List, [], ◌∷◌, None, Some, Option, refl, ap, ◌∙◌, sym, ◌||◌}
use Rattle.std.specs.Ordering.{nat_cmp, is_eq, eq_by_cmp}
use Rattle.std.specs.declared.cmp.Ordering.{Ordering}
use Rattle.std.specs.declared.cmp.Ordering.TheVariants.{Less, Equal, Greater}
use Rattle.std.specs.Cmp.{eq_by_cmp_equiv}
use Rattle.std.specs.Cmp.Lexicographic.{slice_cmp, nat_list_cmp_total}
use Rattle.std.specs.FinMap.{get, insert, get-insert, same_map, slice_cmp-IsAntisymmetric, nat_cmp-IsAntisymmetric}
use Rattle.dg_scope.specs.Names.{is_qualified, global_name, base_of}
use Rattle.dg_scope.specs.declared.scope.Slot.{Slot}
use Rattle.dg_scope.specs.declared.scope.Slot.TheVariants.{Held, Link}
use Rattle.dg_scope.specs.declared.scope.Scope.{Scope}
use Rattle.dg_scope.specs.declared.scope.Scope.TheVariants.{Outermost, Local}
use Rattle.dg_scope.specs.Scopes.{Names, Variables, held, is_link, means_global, means_global_at, own_value, value_of, with_global, with_place, with_value}

tied : (r : Ordering) → is_eq r ≡ true → r ≡ Equal
tied Less e = cc
tied Equal e = refl
tied Greater e = cc

inner : {X : Type 0} (b : Bool) (x y z : X) → cond b x (cond b y z) ≡ cond b x z
inner true x y z = refl
inner false x y z = refl

-- maps by names
pub map_twice : {V : Type 0} (m : Names V) (k : List ℕ) (a b : V) → insert (insert m k a) k b ≡ insert m k b
map_twice m k a b =
    same_map nat_list_cmp_total (slice_cmp-IsAntisymmetric nat_cmp-IsAntisymmetric) _ _ (λ q.
    get-insert nat_list_cmp_total (insert m k a) k b q
    ∙ ap (λ r. cond (eq_by_cmp (slice_cmp nat_cmp) q k) (Some b) r) (get-insert nat_list_cmp_total m k a q)
    ∙ inner (eq_by_cmp (slice_cmp nat_cmp) q k) (Some b) (Some a) (get m q)
    ∙ sym (get-insert nat_list_cmp_total m k b q))

pub map_same : {V : Type 0} (m : Names V) (k : List ℕ) (v : V) → get m k ≡ Some v → insert m k v ≡ m
map_same {V} m k v h =
    same_map nat_list_cmp_total (slice_cmp-IsAntisymmetric nat_cmp-IsAntisymmetric) _ _ (λ q.
    get-insert nat_list_cmp_total m k v q ∙ by q (eq_by_cmp (slice_cmp nat_cmp) q k) refl)
  where
    by : (q : List ℕ) (b : Bool) → eq_by_cmp (slice_cmp nat_cmp) q k ≡ b → cond b (Some v) (get m q) ≡ get m q
    by q true e = sym (ap (λ l. get m l) (slice_cmp-IsAntisymmetric nat_cmp-IsAntisymmetric q k (tied (slice_cmp nat_cmp q k) e)) ∙ h)
    by q false e = refl

pub map_has : {V : Type 0} (m : Names V) (k : List ℕ) (v : V) → get (insert m k v) k ≡ Some v
map_has m k v = get-insert nat_list_cmp_total m k v k ∙ ap (λ b. cond b (Some v) (get m k)) ((eq_by_cmp_equiv nat_list_cmp_total).refl k)

-- scopes
or_left : (x y : Bool) → (x || y) ≡ false → x ≡ false
or_left true y e = absurd cc
or_left false y e = refl

or_right : (x y : Bool) → (x || y) ≡ false → y ≡ false
or_right true y e = absurd cc
or_right false y e = e

neither : (x y : Bool) → x ≡ false → y ≡ false → (x || y) ≡ false
neither x y e f = ap (λ b. b || y) e ∙ f

no_link : (b : Bool) (text : List ℕ) (o : Option Slot) → is_link o ≡ false → is_link (cond b (Some (Held text)) o) ≡ false
no_link true text o e = refl
no_link false text o e = e

still_no_link : (names : Names Slot) (n q text : List ℕ) → is_link (get names q) ≡ false → is_link (get (insert names n (Held text)) q) ≡ false
still_no_link names n q text e = ap is_link (get-insert nat_list_cmp_total names n (Held text) q) ∙ no_link (eq_by_cmp (slice_cmp nat_cmp) q n) text (get names q) e

still_own : (ss : List Scope) (n text : List ℕ) → means_global_at ss n ≡ false → means_global_at (with_place ss n (Held text)) n ≡ false
still_own [] n text e = absurd cc
still_own (Outermost ∷ ss) n text e = absurd cc
still_own (Local names ∷ ss) n text e =
    let links = or_right (is_qualified n) _ e in
    neither (is_qualified n) _ (or_left (is_qualified n) _ e)
    (neither _ _ (still_no_link names n n text (or_left (is_link (get names n)) _ links)) (still_no_link names n (base_of n) text (or_right (is_link (get names n)) _ links)))

place_twice : (ss : List Scope) (n a b : List ℕ) → with_place (with_place ss n (Held a)) n (Held b) ≡ with_place ss n (Held b)
place_twice [] n a b = refl
place_twice (Outermost ∷ ss) n a b = refl
place_twice (Local names ∷ ss) n a b = ap (λ (m : Names Slot). Local m ∷ ss) (map_twice names n (Held a) (Held b))

holds : (o : Option Slot) (t : List ℕ) → held o ≡ Some t → o ≡ Some (Held t)
holds None t e = absurd cc
holds (Some Link) t e = absurd cc
holds (Some (Held x)) t e = cc

place_same : (ss : List Scope) (n t : List ℕ) → own_value ss n ≡ Some t → with_place ss n (Held t) ≡ ss
place_same [] n t e = refl
place_same (Outermost ∷ ss) n t e = refl
place_same (Local names ∷ ss) n t e = ap (λ (m : Names Slot). Local m ∷ ss) (map_same names n (Held t) (holds (get names n) t e))

place_has : (ss : List Scope) (n t : List ℕ) → means_global_at ss n ≡ false → own_value (with_place ss n (Held t)) n ≡ Some t
place_has [] n t e = absurd cc
place_has (Outermost ∷ ss) n t e = absurd cc
place_has (Local names ∷ ss) n t e = ap held (map_has names n (Held t))

-- variables
abbrev set_by : Variables → List ℕ → List ℕ → Bool → Variables
set_by v n text x = cond x (with_global v n text) (record v { scopes = with_place v.scopes n (Held text) })

abbrev value_by : Variables → List ℕ → Bool → Option (List ℕ)
value_by v n x = cond x (get v.globals (global_name n)) (own_value v.scopes n)

module _ (v : Variables) (n a : List ℕ) where
  -- set once, it is set
  pub is_set : value_of (with_value v n a) n ≡ Some a
  is_set = by (means_global v n) refl
    where
      by : (x : Bool) → means_global v n ≡ x → value_of (with_value v n a) n ≡ Some a
      by true e = ap (λ w. value_of w n) (ap (set_by v n a) e) ∙ ap (value_by (with_global v n a) n) e ∙ map_has v.globals (global_name n) a
      by false e =
          let w : Variables = record v { scopes = with_place v.scopes n (Held a) } in
          ap (λ w. value_of w n) (ap (set_by v n a) e) ∙ ap (value_by w n) (still_own v.scopes n a e) ∙ place_has v.scopes n a e

  -- set twice, the last value counts
  pub twice : (b : List ℕ) → with_value (with_value v n a) n b ≡ with_value v n b
  twice b = by (means_global v n) refl
    where
      by : (x : Bool) → means_global v n ≡ x → with_value (with_value v n a) n b ≡ with_value v n b
      by true e =
          ap (λ w. with_value w n b) (ap (set_by v n a) e) ∙ ap (set_by (with_global v n a) n b) e
          ∙ ap (λ g. record v { globals = g }) (map_twice v.globals (global_name n) a b) ∙ sym (ap (set_by v n b) e)
      by false e =
          let w : Variables = record v { scopes = with_place v.scopes n (Held a) } in
          ap (λ w. with_value w n b) (ap (set_by v n a) e) ∙ ap (set_by w n b) (still_own v.scopes n a e)
          ∙ ap (λ s. record v { scopes = s }) (place_twice v.scopes n a b) ∙ sym (ap (set_by v n b) e)

  -- set back, nothing has changed
  pub back : (t : List ℕ) → value_of v n ≡ Some t → with_value (with_value v n a) n t ≡ v
  back t h = twice t ∙ by (means_global v n) refl
    where
      by : (x : Bool) → means_global v n ≡ x → with_value v n t ≡ v
      by true e = ap (set_by v n t) e ∙ ap (λ g. record v { globals = g }) (map_same v.globals (global_name n) t (sym (ap (value_by v n) e) ∙ h))
      by false e = ap (set_by v n t) e ∙ ap (λ s. record v { scopes = s }) (place_same v.scopes n t (sym (ap (value_by v n) e) ∙ h))
