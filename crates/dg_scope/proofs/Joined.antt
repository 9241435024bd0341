-- The map of the short names and that of the others, seen as one.
use Rattle.std.proofs.Common.{◌≡◌, ℕ, Bool, true, false, cond, not, List, [], ◌∷◌, ◌++◌, Option, None, Some, true≢false, refl, ap, ◌∙◌, sym}
use Rattle.std.specs.Ordering.{eq_by_cmp}
use Rattle.std.specs.Cmp.Lexicographic.{nat_list_cmp_total}
use Rattle.std.specs.FinMap.{FinMap, empty, entries, find, get, insert, remove, retain_keys, get-empty, get-entries, get-insert, get-remove, get-retain_keys, get-from_entries, slice_cmp-IsAntisymmetric, nat_cmp-IsAntisymmetric}
use Rattle.dg_scope.specs.Table.{is_short, joined}
use Rattle.dg_scope.proofs.Trees.{by_bytes, same_name, same_names}

module _ {V : Type 0} where
  not_found : (b : Bool) (v : V) (rest : Option V) → cond b (Some v) rest ≡ None → b ≡ false
  not_found true v rest e = cc
  not_found false v rest e = refl

  find-second : (q : List ℕ) (xs ys : List (List ℕ × V)) → find by_bytes q xs ≡ None → find by_bytes q (xs ++ ys) ≡ find by_bytes q ys
  find-second q [] ys e = refl
  find-second q (x ∷ xs) ys e =
      let apart = not_found (eq_by_cmp by_bytes q x.0) x.1 (find by_bytes q xs) e in
      let none : find by_bytes q xs ≡ None = sym (ap (λ b. cond b (Some x.1) (find by_bytes q xs)) apart) ∙ e in
      ap (λ b. cond b (Some x.1) (find by_bytes q (xs ++ ys))) apart ∙ find-second q xs ys none

  find-first : (q : List ℕ) (xs ys : List (List ℕ × V)) → find by_bytes q ys ≡ None → find by_bytes q (xs ++ ys) ≡ find by_bytes q xs
  find-first q [] ys e = e
  find-first q (x ∷ xs) ys e = ap (cond (eq_by_cmp by_bytes q x.0) (Some x.1)) (find-first q xs ys e)

  kept : (m : FinMap by_bytes V) (p : List ℕ → Bool) (q : List ℕ) → find by_bytes q (entries (retain_keys m p)) ≡ cond (p q) (get m q) None
  kept m p q =
      sym (get-entries (retain_keys m p) q)
      ∙ get-retain_keys m p q (λ x t. ap p (sym (slice_cmp-IsAntisymmetric nat_cmp-IsAntisymmetric q x t)))

  module _ (short long : FinMap by_bytes V) where
    by_length : (q : List ℕ) (b : Bool) → is_short q ≡ b → get (joined short long) q ≡ cond b (get short q) (get long q)
    by_length q true e =
        get-from_entries nat_list_cmp_total (entries (retain_keys short is_short) ++ entries (retain_keys long (λ name. not (is_short name)))) q
        ∙ find-first q (entries (retain_keys short is_short)) (entries (retain_keys long (λ name. not (is_short name)))) (kept long (λ name. not (is_short name)) q ∙ ap (λ b. cond (not b) (get long q) None) e)
        ∙ kept short is_short q
        ∙ ap (λ b. cond b (get short q) None) e
    by_length q false e =
        get-from_entries nat_list_cmp_total (entries (retain_keys short is_short) ++ entries (retain_keys long (λ name. not (is_short name)))) q
        ∙ find-second q (entries (retain_keys short is_short)) (entries (retain_keys long (λ name. not (is_short name)))) (kept short is_short q ∙ ap (λ b. cond b (get short q) None) e)
        ∙ kept long (λ name. not (is_short name)) q
        ∙ ap (λ b. cond (not b) (get long q) None) e

    get-joined : (q : List ℕ) → get (joined short long) q ≡ cond (is_short q) (get short q) (get long q)
    get-joined q = by_length q (is_short q) refl

    -- what has the value of a short name
    pub get-short : (q : List ℕ) → is_short q ≡ true → get (joined short long) q ≡ get short q
    get-short q e = by_length q true e

    -- what has the value of another
    pub get-long : (q : List ℕ) → is_short q ≡ false → get (joined short long) q ≡ get long q
    get-long q e = by_length q false e

  same_branch : (b t : Bool) (x y z : Option V) → (t ≡ true → b ≡ true) → cond b (cond t x y) z ≡ cond t x (cond b y z)
  same_branch true t x y z f = refl
  same_branch false true x y z f = absurd (true≢false (sym (f refl)))
  same_branch false false x y z f = refl

  other_branch : (b t : Bool) (x y z : Option V) → (t ≡ true → b ≡ false) → cond b z (cond t x y) ≡ cond t x (cond b z y)
  other_branch false t x y z f = refl
  other_branch true true x y z f = absurd (true≢false (f refl))
  other_branch true false x y z f = refl

  module _ (short long : FinMap by_bytes V) (k : List ℕ) where
    as_at : (b : Bool) → is_short k ≡ b → (q : List ℕ) → eq_by_cmp by_bytes q k ≡ true → is_short q ≡ b
    as_at b e q t = ap is_short (same_name q k t) ∙ e

    pub insert-short : (v : V) → is_short k ≡ true → joined (insert short k v) long ≡ insert (joined short long) k v
    insert-short v e =
        same_names _ _ (λ q.
        get-joined (insert short k v) long q
        ∙ ap (λ o. cond (is_short q) o (get long q)) (get-insert nat_list_cmp_total short k v q)
        ∙ same_branch (is_short q) (eq_by_cmp by_bytes q k) (Some v) (get short q) (get long q) (as_at true e q)
        ∙ ap (cond (eq_by_cmp by_bytes q k) (Some v)) (sym (get-joined short long q))
        ∙ sym (get-insert nat_list_cmp_total (joined short long) k v q))

    pub insert-long : (v : V) → is_short k ≡ false → joined short (insert long k v) ≡ insert (joined short long) k v
    insert-long v e =
        same_names _ _ (λ q.
        get-joined short (insert long k v) q
        ∙ ap (cond (is_short q) (get short q)) (get-insert nat_list_cmp_total long k v q)
        ∙ other_branch (is_short q) (eq_by_cmp by_bytes q k) (Some v) (get long q) (get short q) (as_at false e q)
        ∙ ap (cond (eq_by_cmp by_bytes q k) (Some v)) (sym (get-joined short long q))
        ∙ sym (get-insert nat_list_cmp_total (joined short long) k v q))

    pub remove-short : is_short k ≡ true → joined (remove short k) long ≡ remove (joined short long) k
    remove-short e =
        same_names _ _ (λ q.
        get-joined (remove short k) long q
        ∙ ap (λ o. cond (is_short q) o (get long q)) (get-remove nat_list_cmp_total short k q)
        ∙ same_branch (is_short q) (eq_by_cmp by_bytes q k) None (get short q) (get long q) (as_at true e q)
        ∙ ap (cond (eq_by_cmp by_bytes q k) None) (sym (get-joined short long q))
        ∙ sym (get-remove nat_list_cmp_total (joined short long) k q))

    pub remove-long : is_short k ≡ false → joined short (remove long k) ≡ remove (joined short long) k
    remove-long e =
        same_names _ _ (λ q.
        get-joined short (remove long k) q
        ∙ ap (cond (is_short q) (get short q)) (get-remove nat_list_cmp_total long k q)
        ∙ other_branch (is_short q) (eq_by_cmp by_bytes q k) None (get long q) (get short q) (as_at false e q)
        ∙ ap (cond (eq_by_cmp by_bytes q k) None) (sym (get-joined short long q))
        ∙ sym (get-remove nat_list_cmp_total (joined short long) k q))

  either_none : (b : Bool) → cond {A = Option V} b None None ≡ None
  either_none true = refl
  either_none false = refl

  pub joined-empty : joined {V = V} empty empty ≡ empty
  joined-empty =
      let none : FinMap by_bytes V = empty in
      same_names _ _ (λ q.
      get-joined empty empty q
      ∙ ap (λ (o : Option V). cond (is_short q) o (get none q)) (get-empty by_bytes q)
      ∙ ap (cond (is_short q) None) (get-empty by_bytes q)
      ∙ either_none (is_short q)
      ∙ sym (get-empty by_bytes q))
