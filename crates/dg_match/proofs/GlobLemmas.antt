-- What the search for a glob's parts leaves and counts.
use Rattle.std.proofs.Common.{◌≡◌, ℕ, ◌+◌, ◌-◌, ◌<◌, ◌≤◌, Bool, true, false, nat_le, List, length, sym, ap, ◌∙◌, inl, inr, arith}
use Rattle.std.proofs.lemmas.Bool.{cases_Bool, cond-true, cond-false, le-leb, leb-true}
use Rattle.dg_glob.specs.Parts.{followed, parts_of}
use Rattle.dg_match.specs.Searches.{all_found, left_by, glob_compared}

module _ (p bytes : List ℕ) (from n f m count : ℕ) (value : (f, m) ≡ followed p from bytes n) (size : count ≡ length (parts_of p)) where
  test : (b : Bool) → nat_le count f ≡ b → all_found p (followed p from bytes n) ≡ b
  test b h = ap (λ (r : ℕ × ℕ). nat_le (length (parts_of p)) r.0) (sym value) ∙ (ap (λ (c : ℕ). nat_le c f) (sym size) ∙ h)

  not_all : f < count → nat_le count f ≡ false
  not_all low = elim (cases_Bool (nat_le count f)) [ inl h ↦ let le = leb-true count f h in absurd (omega arith) | inr h ↦ h ]

  pub left_all : count ≤ f → (0, 0) ≡ left_by p (followed p from bytes n)
  left_all h = sym (cond-true _ _ _ (test true (le-leb count f h)))

  pub left_some : f < count → (f, m) ≡ left_by p (followed p from bytes n)
  left_some h = value ∙ sym (cond-false _ _ _ (test false (not_all h)))

  pub counted_all : count ≤ f → length bytes - n + length bytes ≡ glob_compared p from n bytes
  counted_all h = ap (λ (k : ℕ). length bytes - n + k) (sym (cond-true _ _ _ (test true (le-leb count f h))))

  pub counted_some : f < count → length bytes - n + 0 ≡ glob_compared p from n bytes
  counted_some h = ap (λ (k : ℕ). length bytes - n + k) (sym (cond-false _ _ _ (test false (not_all h))))
