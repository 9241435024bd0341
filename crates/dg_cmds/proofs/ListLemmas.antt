-- Steps of the loops over lists.
use Rattle.std.proofs.Common.{◌≡◌, ℕ, ◌+◌, ◌<◌, ◌≤◌, Bool, true, false, List, [], ◌∷◌, ◌++◌, length, get_or, drop, cond, refl, sym, ap, ◌∙◌}
use Rattle.std.proofs.lemmas.Bool.{cond-true, cond-false}
use Rattle.std.proofs.lemmas.List.{drop_more, drop_all, append_assoc, append-nil}
use Rattle.std.specs.List.{slice_split, onto_first}

-- the first part goes on behind what was read of it
abbrev pub onto : List ℕ → List (List ℕ) → List (List ℕ)
onto part [] = part ∷ []
onto part (x ∷ xs) = (part ++ x) ∷ xs

onto-onto_first : (part : List ℕ) (x : ℕ) (ys : List (List ℕ)) → onto (part ++ x ∷ []) ys ≡ onto part (onto_first x ys)
onto-onto_first part x [] = refl
onto-onto_first part x (y ∷ ys) = ap (λ (z : List ℕ). z ∷ ys) (append_assoc part (x ∷ []) y)

onto-nil_first : (x : ℕ) (ys : List (List ℕ)) → onto [] (onto_first x ys) ≡ onto_first x ys
onto-nil_first x [] = refl
onto-nil_first x (y ∷ ys) = refl

module _ (p : ℕ → Bool) where
  pub onto-nil : (t : List ℕ) → onto [] (slice_split p t) ≡ slice_split p t
  onto-nil [] = refl
  onto-nil (x ∷ t) = by (p x)
    where
      by : (b : Bool) → onto [] (cond b ([] ∷ slice_split p t) (onto_first x (slice_split p t))) ≡ cond b ([] ∷ slice_split p t) (onto_first x (slice_split p t))
      by true = refl
      by false = onto-nil_first x (slice_split p t)

  pub cut-yes : (parts : List (List ℕ)) (part text : List ℕ) (i : ℕ) (whole : List (List ℕ)) → i < length text → p (get_or text i 0) ≡ true
      → parts ++ onto part (slice_split p (drop i text)) ≡ whole → (parts ++ part ∷ []) ++ onto [] (slice_split p (drop (i + 1) text)) ≡ whole
  cut-yes parts part text i whole l hit h =
      append_assoc parts (part ∷ []) _
      ∙ (ap (λ (zs : List (List ℕ)). parts ++ part ∷ zs) (onto-nil (drop (i + 1) text))
      ∙ (ap (λ (q : List ℕ). parts ++ q ∷ slice_split p (drop (i + 1) text)) (sym (append-nil part))
      ∙ (ap (λ (ys : List (List ℕ)). parts ++ onto part ys) (sym (cond-true _ _ _ hit))
      ∙ (ap (λ (t : List ℕ). parts ++ onto part (slice_split p t)) (sym (drop_more text i 0 l)) ∙ h))))

  pub cut-no : (parts : List (List ℕ)) (part text : List ℕ) (i : ℕ) (whole : List (List ℕ)) → i < length text → p (get_or text i 0) ≡ false
      → parts ++ onto part (slice_split p (drop i text)) ≡ whole → parts ++ onto (part ++ get_or text i 0 ∷ []) (slice_split p (drop (i + 1) text)) ≡ whole
  cut-no parts part text i whole l miss h =
      ap (λ (zs : List (List ℕ)). parts ++ zs) (onto-onto_first part (get_or text i 0) (slice_split p (drop (i + 1) text)))
      ∙ (ap (λ (ys : List (List ℕ)). parts ++ onto part ys) (sym (cond-false _ _ _ miss))
      ∙ (ap (λ (t : List ℕ). parts ++ onto part (slice_split p t)) (sym (drop_more text i 0 l)) ∙ h))

  pub cut-end : (parts : List (List ℕ)) (part text : List ℕ) (i : ℕ) (whole : List (List ℕ)) → length text ≤ i
      → parts ++ onto part (slice_split p (drop i text)) ≡ whole → parts ++ part ∷ [] ≡ whole
  cut-end parts part text i whole l h =
      ap (λ (q : List ℕ). parts ++ q ∷ []) (sym (append-nil part))
      ∙ (ap (λ (t : List ℕ). parts ++ onto part (slice_split p t)) (sym (drop_all i text l)) ∙ h)
