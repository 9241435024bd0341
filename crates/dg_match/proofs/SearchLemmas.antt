-- The least place at which a text stands, as a function.
use Rattle.std.proofs.Common.{◌≡◌, ℕ, ◌+◌, false, List, length, None, Some, sym, ⊎_elim, arith}
use Rattle.std.proofs.lemmas.Bool.{cases_Bool}
use Rattle.memchr.specs.Find.{OccursAt, occurs_at}
use Rattle.memchr.proofs.lemmas.MatchLemmas.{OccursAt-true, occurs_at-true}
use Rattle.dg_match.specs.Literals.{IsNowhere, IsLeastPlace, least_place}
use Rattle.dg_glob.proofs.LeastLemmas.{least-none, least-some}

stands_not : (bytes text : List ℕ) (k : ℕ) → (OccursAt bytes text k → ⊥) → occurs_at bytes text k ≡ false
stands_not bytes text k never = ⊎_elim (λ t. absurd (never (OccursAt-true bytes text k t))) (λ f. f) (cases_Bool (occurs_at bytes text k))

pub no_least : (text bytes : List ℕ) → IsNowhere text bytes → None ≡ least_place text bytes
unfolding least_place
no_least text bytes none = sym (least-none (occurs_at bytes text) (length bytes + 1) (λ k l. stands_not bytes text k (none k)))

pub least_is : (text bytes : List ℕ) (k : ℕ) → IsLeastPlace text bytes k → Some k ≡ least_place text bytes
unfolding least_place
least_is text bytes k least =
    let fits = least.place.fits in
    sym (least-some (occurs_at bytes text) (length bytes + 1) k (omega arith) (occurs_at-true bytes text k least.place)
    (λ j low. stands_not bytes text j (λ o. let past = least.least j o in omega arith)))
