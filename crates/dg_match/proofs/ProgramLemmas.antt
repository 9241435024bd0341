-- Texts that were built.
use Rattle.std.proofs.Common.{◌≡◌, ℕ, Bool, true, false, cond, List, [], ◌∷◌, ◌++◌, Option, Some, None, IfSome, is_some, nat_eq, refl, ap, sym, subst, ◌∙◌, ◌||◌}
use Rattle.std.proofs.lemmas.Bool.{false≢true}
use Rattle.std.proofs.lemmas.List.Elements.{All-push, All-head, All-tail}
use Rattle.std.specs.List.{All}
use Rattle.std.specs.Map.{keys_of, lookup}
use Rattle.std.specs.Cmp.Lexicographic.{pointwise, bytes_decides}
use Rattle.indexmap.specs.IndexMap.{insert_entry}
use Rattle.dg_match.specs.Programs.{is_among}

abbrev Entry : Type 0
Entry = List ℕ × List ℕ

abbrev pub texts : List Entry → List (List ℕ)
texts es = keys_of es

-- a text that isn't there goes last
pub put_last : (es : List Entry) (k v : List ℕ) → is_among (texts es) k ≡ false → insert_entry (pointwise nat_eq) es k v ≡ es ++ (k, v) ∷ []
put_last [] k v h = refl
put_last (e ∷ es) k v h = elim (pointwise nat_eq k e.0) as (λ b. (b || is_among (texts es) k) ≡ false → cond b ((e.0, v) ∷ es) (e ∷ insert_entry (pointwise nat_eq) es k v) ≡ e ∷ (es ++ (k, v) ∷ []))
    [ true ↦ λ n. absurd (false≢true (sym n)) | false ↦ λ n. ap (λ l. e ∷ l) (put_last es k v n) ] h

pub texts_last : (es : List Entry) (k v : List ℕ) → texts (es ++ (k, v) ∷ []) ≡ texts es ++ k ∷ []
texts_last [] k v = refl
texts_last (e ∷ es) k v = ap (λ l. e.0 ∷ l) (texts_last es k v)

some_or : (b : Bool) (v : List ℕ) (o : Option (List ℕ)) (r : Bool) → is_some o ≡ r → is_some (cond b (Some v) o) ≡ (b || r)
some_or true v o r h = refl
some_or false v o r h = h

-- what is looked up is there
pub looked_up : (es : List Entry) (k : List ℕ) → is_some (lookup (pointwise nat_eq k) es) ≡ is_among (texts es) k
looked_up [] k = refl
looked_up (e ∷ es) k = some_or (pointwise nat_eq k e.0) e.1 (lookup (pointwise nat_eq k) es) (is_among (texts es) k) (looked_up es k)

own_here : (e : Entry) (k : List ℕ) (o : Option (List ℕ)) (b : Bool) → pointwise nat_eq k e.0 ≡ b → e.1 ≡ e.0 → IfSome o (λ v. v ≡ k) → IfSome (cond b (Some e.1) o) (λ v. v ≡ k)
own_here e k o true same own rest = own ∙ sym ((bytes_decides k e.0).0 same)
own_here e k o false same own rest = rest

-- and it was built of the text itself
pub own_text : (es : List Entry) (k : List ℕ) → All (λ (e : Entry). e.1 ≡ e.0) es → IfSome (lookup (pointwise nat_eq k) es) (λ v. v ≡ k)
own_text [] k all = tt
own_text (e ∷ es) k all =
    own_here e k (lookup (pointwise nat_eq k) es) (pointwise nat_eq k e.0) refl
    (All-head (λ (p : Entry). p.1 ≡ p.0) e es all)
    (own_text es k (All-tail (λ (p : Entry). p.1 ≡ p.0) e es all))

pub own_last : (es : List Entry) (k v : List ℕ) → v ≡ k → All (λ (e : Entry). e.1 ≡ e.0) es → All (λ (e : Entry). e.1 ≡ e.0) (es ++ (k, v) ∷ [])
own_last es k v own all = All-push (λ (e : Entry). e.1 ≡ e.0) es (k, v) all own

-- a text for which something is looked up is there, and it was built of the text itself
pub there : (es : List Entry) (k v : List ℕ) → Some v ≡ lookup (pointwise nat_eq k) es → true ≡ is_among (texts es) k
there es k v e = ap is_some e ∙ looked_up es k

pub absent : (es : List Entry) (k : List ℕ) → None ≡ lookup (pointwise nat_eq k) es → false ≡ is_among (texts es) k
absent es k e = ap is_some e ∙ looked_up es k

pub own : (es : List Entry) (k v : List ℕ) → All (λ (e : Entry). e.1 ≡ e.0) es → Some v ≡ lookup (pointwise nat_eq k) es → v ≡ k
own es k v all e = subst (λ (o : Option (List ℕ)). IfSome o (λ x. x ≡ k)) (sym e) (own_text es k all)

-- what is kept of a new text
module _ (es new : List Entry) (k v : List ℕ) (made : new ≡ insert_entry (pointwise nat_eq) es k v) (unknown : is_among (texts es) k ≡ false) where
  pub kept_own : v ≡ k → All (λ (e : Entry). e.1 ≡ e.0) es → All (λ (e : Entry). e.1 ≡ e.0) new
  kept_own is all = subst (All (λ (e : Entry). e.1 ≡ e.0)) (sym (made ∙ put_last es k v unknown)) (own_last es k v is all)

  pub kept_texts : texts new ≡ texts es ++ k ∷ []
  kept_texts = ap texts (made ∙ put_last es k v unknown) ∙ texts_last es k v
