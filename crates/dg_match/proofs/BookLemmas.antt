-- What an insertion of a new text leaves.
use Rattle.std.proofs.Common.{◌≡◌, ℕ, Bool, true, false, cond, List, [], ◌∷◌, ◌++◌, Option, Some, IsNone, IfSome, nat_eq, refl, ap, rules, subst, sym}
use Rattle.std.proofs.lemmas.List.Elements.{All-push, All-head, All-tail}
use Rattle.std.specs.Cmp.Lexicographic.{pointwise, bytes_decides}
use Rattle.indexmap.specs.IndexMap.{insert_entry}
use Rattle.dg_match.specs.declared.reading.Reading.{Reading}
use Rattle.dg_match.specs.Book.{Fits, AllFit, reading_of}

-- a new text goes last
pub insert_new : (es : List (List ℕ × Reading)) (k : List ℕ) (v : Reading) → IsNone (reading_of es k) →
    insert_entry (pointwise nat_eq) es k v ≡ es ++ (k, v) ∷ []
insert_new [] k v h = refl
insert_new (e ∷ es) k v h = elim (pointwise nat_eq k e.0) as (λ b. IsNone (cond b (Some e.1) (reading_of es k)) → cond b ((e.0, v) ∷ es) (e ∷ insert_entry (pointwise nat_eq) es k v) ≡ e ∷ (es ++ (k, v) ∷ []))
    [ true ↦ λ n. absurd (search rules) | false ↦ λ n. ap (λ l. e ∷ l) (insert_new es k v n) ] h

-- and the book still fits
pub still_fit : (es new : List (List ℕ × Reading)) (k : List ℕ) (v : Reading) → AllFit es → Fits k v → new ≡ es ++ (k, v) ∷ [] → AllFit new
still_fit es new k v all fits e = subst AllFit (sym e) (All-push (λ e. Fits e.0 e.1) es (k, v) all fits)

fits_here : (e : List ℕ × Reading) (text : List ℕ) (later : Option Reading) (b : Bool) → pointwise nat_eq text e.0 ≡ b → Fits e.0 e.1 →
    IfSome later (λ r. Fits text r) → IfSome (cond b (Some e.1) later) (λ r. Fits text r)
fits_here e text later true same fits rest = let P : List ℕ → Type 0 = λ t. Fits t e.1 in subst P (sym ((bytes_decides text e.0).0 same)) fits
fits_here e text later false other fits rest = rest

-- what a book says of a text fits it
pub reading_fits : (es : List (List ℕ × Reading)) (text : List ℕ) → AllFit es → IfSome (reading_of es text) (λ r. Fits text r)
reading_fits [] text all = tt
reading_fits (e ∷ es) text all = fits_here e text (reading_of es text) (pointwise nat_eq text e.0) refl
    (All-head (λ (p : List ℕ × Reading). Fits p.0 p.1) e es all)
    (reading_fits es text (All-tail (λ (p : List ℕ × Reading). Fits p.0 p.1) e es all))
