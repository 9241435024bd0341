-- One more element at the end of a list.
use Rattle.std.proofs.Common.{◌≡◌, ℕ, ◌+◌, Bool, true, false, cond, ◌||◌, List, [], ◌∷◌, ◌++◌, length, Option, None, Some, is_some, refl, ap, ◌∙◌, arith, length-append}
use Rattle.std.specs.List.{list_any, filter_map}
use Rattle.std.proofs.lemmas.List.Elements.{filter_map-append}
use Rattle.std.proofs.lemmas.List.{append-nil}
use Rattle.dg_results.specs.Lines.{after_last, last_or, counted}

or-true : (b : Bool) → (b || true) ≡ true
or-true true = refl
or-true false = refl

or-false : (b : Bool) → (b || false) ≡ b
or-false true = refl
or-false false = refl

-- whether some element passes
list_any-append : {A : Type 0} (p : A → Bool) (xs : List A) (x : A) → list_any p (xs ++ x ∷ []) ≡ list_any p xs || p x
list_any-append p [] x = elim (p x) as (λ b. (b || false) ≡ b) [ true ↦ refl | false ↦ refl ]
list_any-append p (y ∷ ys) x = elim (p y) as (λ b. (b || list_any p (ys ++ x ∷ [])) ≡ ((b || list_any p ys) || p x)) [ true ↦ refl | false ↦ list_any-append p ys x ]

-- after an element that passes there is nothing
pub after_last-append_pass : {A : Type 0} (p : A → Bool) (xs : List A) (x : A) → p x ≡ true → after_last p (xs ++ x ∷ []) ≡ []
after_last-append_pass p [] x h = ap (λ b. cond b [] (x ∷ [])) h
after_last-append_pass p (y ∷ ys) x h =
    let found : list_any p (ys ++ x ∷ []) ≡ true = list_any-append p ys x ∙ ap (λ b. list_any p ys || b) h ∙ or-true (list_any p ys) in
    ap (λ b. cond b (after_last p (ys ++ x ∷ [])) (cond (p y) (ys ++ x ∷ []) (y ∷ (ys ++ x ∷ [])))) found ∙ after_last-append_pass p ys x h

-- an element that doesn't pass comes last
pub after_last-append_other : {A : Type 0} (p : A → Bool) (xs : List A) (x : A) → p x ≡ false → after_last p (xs ++ x ∷ []) ≡ after_last p xs ++ x ∷ []
after_last-append_other p [] x h = ap (λ b. cond b [] (x ∷ [])) h
after_last-append_other p (y ∷ ys) x h =
    let same : list_any p (ys ++ x ∷ []) ≡ list_any p ys = list_any-append p ys x ∙ ap (λ b. list_any p ys || b) h ∙ or-false (list_any p ys) in
    ap (λ b. cond b (after_last p (ys ++ x ∷ [])) (cond (p y) (ys ++ x ∷ []) (y ∷ (ys ++ x ∷ [])))) same
    ∙ elim (list_any p ys) as (λ b. cond b (after_last p (ys ++ x ∷ [])) (cond (p y) (ys ++ x ∷ []) (y ∷ (ys ++ x ∷ []))) ≡ cond b (after_last p ys) (cond (p y) ys (y ∷ ys)) ++ x ∷ []) [
      | true ↦ after_last-append_other p ys x h
      | false ↦ elim (p y) as (λ b. cond b (ys ++ x ∷ []) (y ∷ (ys ++ x ∷ [])) ≡ cond b ys (y ∷ ys) ++ x ∷ []) [ true ↦ refl | false ↦ refl ]
    ]

-- the last element
pub last_or-append : {A : Type 0} (d : A) (xs : List A) (x : A) → last_or d (xs ++ x ∷ []) ≡ x
last_or-append d [] x = refl
last_or-append d (y ∷ ys) x = last_or-append y ys x

-- a call without a number adds one to the count
pub counted-append_none : (given : List (Option ℕ)) → counted (given ++ None ∷ []) ≡ counted given + 1
counted-append_none given =
    let numbers = filter_map-append (λ (n : Option ℕ). n) given (None ∷ []) ∙ append-nil (filter_map (λ n. n) given) in
    let more = after_last-append_other is_some given None refl in
    let long : length (after_last is_some given ++ None ∷ []) ≡ length (after_last is_some given) + 1 = length-append (after_last is_some given) (None ∷ []) in
    ap (λ ns. last_or 0 ns + length (after_last is_some (given ++ None ∷ []))) numbers
    ∙ ap (λ ns. last_or 0 (filter_map (λ n. n) given) + length ns) more
    ∙ ap (λ n. last_or 0 (filter_map (λ n. n) given) + n) long
    ∙ omega arith

-- a call with a number sets the count
pub counted-append_some : (given : List (Option ℕ)) (n : ℕ) → counted (given ++ Some n ∷ []) ≡ n
counted-append_some given n =
    let numbers = filter_map-append (λ (n : Option ℕ). n) given (Some n ∷ []) in
    let none = after_last-append_pass is_some given (Some n) refl in
    ap (λ ns. last_or 0 ns + length (after_last is_some (given ++ Some n ∷ []))) numbers
    ∙ ap (λ ns. last_or 0 (filter_map (λ n. n) given ++ n ∷ []) + length ns) none
    ∙ ap (λ k. k + 0) (last_or-append 0 (filter_map (λ n. n) given) n)
    ∙ omega arith
