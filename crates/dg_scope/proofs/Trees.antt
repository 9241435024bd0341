-- A tree whose keys stand for names, and the finite map that it is seen as.
use Rattle.std.proofs.Common.{◌≡◌, ℕ, Bool, true, false, cond, List, [], ◌∷◌, Option, None, Some, refl, ap, ◌∙◌, sym}
use Rattle.std.specs.Ordering.{nat_cmp, is_eq, eq_by_cmp}
use Rattle.std.specs.declared.cmp.Ordering.{Ordering}
use Rattle.std.specs.declared.cmp.Ordering.TheVariants.{Less, Equal, Greater}
use Rattle.std.specs.Cmp.{eq_by_cmp_equiv}
use Rattle.std.specs.Cmp.Lexicographic.{slice_cmp, nat_list_cmp_total}
use Rattle.std.specs.Map.{lookup, KeepsOthers}
use Rattle.std.specs.BTreeMap.{BTreeMap, is_at, UpdatesBy}
use Rattle.std.specs.FinMap.{FinMap, find, get, insert, remove, from_entries, get-from_entries, get-insert, get-remove, same_map, slice_cmp-IsAntisymmetric, nat_cmp-IsAntisymmetric}
use Rattle.dg_scope.specs.Table.{by_name}

-- the order of names
abbrev pub by_bytes : List ℕ → List ℕ → Ordering
by_bytes = slice_cmp nat_cmp

pub tied : (r : Ordering) → is_eq r ≡ true → r ≡ Equal
tied Less e = cc
tied Equal e = refl
tied Greater e = cc

-- two maps of names that answer alike are equal
pub same_names : {V : Type 0} (m n : FinMap by_bytes V) → ((q : List ℕ) → get m q ≡ get n q) → m ≡ n
same_names = same_map nat_list_cmp_total (slice_cmp-IsAntisymmetric nat_cmp-IsAntisymmetric)

-- names that tie are equal
pub same_name : (p q : List ℕ) → eq_by_cmp by_bytes p q ≡ true → p ≡ q
same_name p q e = slice_cmp-IsAntisymmetric nat_cmp-IsAntisymmetric p q (tied (by_bytes p q) e)

module _ {K V : Type 0} (name : K → List ℕ) where
  -- the map that entries are seen as
  abbrev pub seen : List (K × V) → FinMap by_bytes V
  seen es = from_entries (by_name name es)

  found_by : (test : K → Bool) (q : List ℕ) → ((x : K) → test x ≡ eq_by_cmp by_bytes q (name x)) → (es : List (K × V)) → lookup test es ≡ find by_bytes q (by_name name es)
  found_by test q alike [] = refl
  found_by test q alike (e ∷ es) = ap (λ b. cond b (Some e.1) (lookup test es)) (alike e.0) ∙ ap (cond (eq_by_cmp by_bytes q (name e.0)) (Some e.1)) (found_by test q alike es)

  -- a look-up in the tree finds what the map has
  pub found : (test : K → Bool) (q : List ℕ) → ((x : K) → test x ≡ eq_by_cmp by_bytes q (name x)) → (es : List (K × V)) → lookup test es ≡ get (seen es) q
  found test q alike es = found_by test q alike es ∙ sym (get-from_entries nat_list_cmp_total (by_name name es) q)

  module _ (R : K → K → Ordering) (alike : (x y : K) → is_eq (R x y) ≡ eq_by_cmp by_bytes (name x) (name y))
      (compare : K → Ordering) (k : List ℕ) (at : (x : K) → is_at compare x ≡ eq_by_cmp by_bytes k (name x))
      (m n : BTreeMap K V) (w : Option V) (h : UpdatesBy R compare m n w) where
    -- an update keeps the other names
    others : (q : List ℕ) → eq_by_cmp by_bytes q k ≡ false → lookup (λ x. eq_by_cmp by_bytes q (name x)) n.entries ≡ lookup (λ x. eq_by_cmp by_bytes q (name x)) m.entries
    unfolding KeepsOthers
    others q e =
        let laws = eq_by_cmp_equiv nat_list_cmp_total in
        h.3 (λ x. eq_by_cmp by_bytes q (name x))
        (λ x y is. laws.congr q (name x) (name y) is ∙ sym (alike x y))
        (λ x is. laws.symm q (name x) ∙ sym (laws.congr k (name x) q (sym (at x) ∙ is)) ∙ laws.symm k q ∙ e)

    after : (q : List ℕ) (b : Bool) → eq_by_cmp by_bytes q k ≡ b → get (seen n.entries) q ≡ cond b w (get (seen m.entries) q)
    after q true e = ap (get (seen n.entries)) (same_name q k e) ∙ sym (found (is_at compare) k at n.entries) ∙ h.1
    after q false e =
        sym (found (λ x. eq_by_cmp by_bytes q (name x)) q (λ x. refl) n.entries)
        ∙ others q e
        ∙ found (λ x. eq_by_cmp by_bytes q (name x)) q (λ x. refl) m.entries

    -- after an update the map has the new value at the name, and at the others what it had
    pub updated : (q : List ℕ) → get (seen n.entries) q ≡ cond (eq_by_cmp by_bytes q k) w (get (seen m.entries) q)
    updated q = after q (eq_by_cmp by_bytes q k) refl

  module _ (R : K → K → Ordering) (alike : (x y : K) → is_eq (R x y) ≡ eq_by_cmp by_bytes (name x) (name y))
      (compare : K → Ordering) (k : List ℕ) (at : (x : K) → is_at compare x ≡ eq_by_cmp by_bytes k (name x))
      (m n : BTreeMap K V) where
    pub written : (v : V) → UpdatesBy R compare m n (Some v) → seen n.entries ≡ insert (seen m.entries) k v
    written v h = same_names _ _ (λ q. updated R alike compare k at m n (Some v) h q ∙ sym (get-insert nat_list_cmp_total (seen m.entries) k v q))

    pub removed : UpdatesBy R compare m n None → seen n.entries ≡ remove (seen m.entries) k
    removed h = same_names _ _ (λ q. updated R alike compare k at m n None h q ∙ sym (get-remove nat_list_cmp_total (seen m.entries) k q))
