-- What a search for a needle answers is the least or the greatest place.
use Rattle.std.proofs.Common.{◌≡◌, ℕ, ◌+◌, ◌≢◌, false, List, [], ◌∷◌, length, Option, None, Some, refl, sym, ⊎_elim, arith}
use Rattle.std.proofs.lemmas.Bool.{cases_Bool}
use Rattle.memchr.specs.Find.{OccursAt, FindsNeedle, FindsLastNeedle, occurs_at}
use Rattle.memchr.proofs.lemmas.MatchLemmas.{OccursAt-true, occurs_at-true}
use Rattle.dg_glob.proofs.LeastLemmas.{least-none, least-some, greatest-none, greatest-some}
use Rattle.dg_cmds.specs.Places.{first_place, last_place, least_below, greatest_below}

stands_not : (text needle : List ℕ) (k : ℕ) → (OccursAt text needle k → ⊥) → occurs_at text needle k ≡ false
stands_not text needle k never = ⊎_elim (λ t. absurd (never (OccursAt-true text needle k t))) (λ f. f) (cases_Bool (occurs_at text needle k))

least_found : (text needle : List ℕ) (r : Option ℕ) → FindsNeedle text needle 0 r → least_below (occurs_at text needle) (length text + 1) ≡ r
least_found text needle None h = least-none _ _ (λ k l. stands_not text needle k (h k (omega arith) l))
least_found text needle (Some k) h = least-some _ _ k h.0.high (occurs_at-true text needle k h.1) (λ j l. stands_not text needle j (h.0.before j (omega arith) l))

greatest_found : (text needle : List ℕ) (r : Option ℕ) → FindsLastNeedle text needle r → greatest_below (occurs_at text needle) (length text + 1) ≡ r
greatest_found text needle None h = greatest-none _ _ (λ k l. stands_not text needle k (h k (omega arith) l))
greatest_found text needle (Some k) h = greatest-some _ _ k h.0.high (occurs_at-true text needle k h.1) (λ j a b. stands_not text needle j (h.0.after j (omega arith) b))

pub first_found : (needle text : List ℕ) (r : Option ℕ) → length needle ≢ 0 → FindsNeedle text needle 0 r → r ≡ first_place needle text
unfolding first_place
first_found [] text r some h = absurd (some refl)
first_found (b ∷ bs) text r some h = sym (least_found text (b ∷ bs) r h)

pub last_found : (needle text : List ℕ) (r : Option ℕ) → length needle ≢ 0 → FindsLastNeedle text needle r → r ≡ last_place needle text
unfolding last_place
last_found [] text r some h = absurd (some refl)
last_found (b ∷ bs) text r some h = sym (greatest_found text (b ∷ bs) r h)

pub first_of_none : (needle text : List ℕ) → length needle ≡ 0 → None ≡ first_place needle text
unfolding first_place
first_of_none [] text e = refl
first_of_none (b ∷ bs) text e = absurd (omega arith)

pub last_of_none : (needle text : List ℕ) → length needle ≡ 0 → None ≡ last_place needle text
unfolding last_place
last_of_none [] text e = refl
last_of_none (b ∷ bs) text e = absurd (omega arith)
