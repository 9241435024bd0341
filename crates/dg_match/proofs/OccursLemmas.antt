-- Places at which a text stands, in bytes that grow at the end or are cut at the front.
use Rattle.std.proofs.Common.{◌≡◌, ℕ, ◌+◌, ◌-◌, ◌<◌, ◌≤◌, ⊎_elim, List, [], ◌++◌, length, drop, get_or, sym, ap, subst, ◌∙◌, arith, append_assoc, append-nil}
use Rattle.std.proofs.lemmas.List.{length-drop, length-append, get_or-drop, get_or_append_left, drop-append-le}
use Rattle.std.proofs.lemmas.Bool.{cases_lt}
use Rattle.memchr.specs.Find.{OccursAt, Nowhere, NoneBefore}
use Rattle.dg_match.specs.Starts.{IsPassed}
use Rattle.dg_match.specs.Literals.{IsNowhere, IsLeastPlace}

-- what stands behind a cut front
pub occurs_behind : (bytes text : List ℕ) (n k : ℕ) → n ≤ length bytes → OccursAt (drop n bytes) text k → OccursAt bytes text (n + k)
occurs_behind bytes text n k h o =
    let size = length-drop n bytes in
    let fits = o.fits in
    record {
      fits = omega arith;
      reads = λ j low. let e : n + k + j ≡ n + (k + j) = omega arith in ap (λ i. get_or bytes i 0) e ∙ sym (get_or-drop n bytes (k + j) 0) ∙ o.reads j low;
    }

-- and the other way round
pub occurs_in_rest : (bytes text : List ℕ) (n k : ℕ) → n ≤ length bytes → OccursAt bytes text (n + k) → OccursAt (drop n bytes) text k
occurs_in_rest bytes text n k h o =
    let size = length-drop n bytes in
    let fits = o.fits in
    record {
      fits = omega arith;
      reads = λ j low. let e : n + (k + j) ≡ n + k + j = omega arith in get_or-drop n bytes (k + j) 0 ∙ ap (λ i. get_or bytes i 0) e ∙ o.reads j low;
    }

-- what fits into the bytes stands there, whatever comes behind
pub occurs_in_front : (bytes more text : List ℕ) (k : ℕ) → k + length text ≤ length bytes → OccursAt (bytes ++ more) text k → OccursAt bytes text k
occurs_in_front bytes more text k h o = record {
  fits = h;
  reads = λ j low. sym (get_or_append_left bytes more 0 (k + j) (omega arith)) ∙ o.reads j low;
}

-- a place below another is that of a rest
pub at_sum : (bytes text : List ℕ) (n k : ℕ) → n ≤ k → OccursAt bytes text k → OccursAt bytes text (n + (k - n))
at_sum bytes text n k h o = let e : k ≡ n + (k - n) = omega arith in subst (OccursAt bytes text) e o

-- nothing is passed yet
pub none_passed : (text bytes : List ℕ) → IsPassed text bytes 0
none_passed text bytes = λ more k low o. omega arith

-- what is passed stays so, whatever comes behind
pub passed_more : (text bytes more : List ℕ) (n : ℕ) → IsPassed text bytes n → IsPassed text (bytes ++ more) n
passed_more text bytes more n h = λ later k low o. h (more ++ later) k low (subst (λ b. OccursAt b text k) (append_assoc bytes more later) o)

-- and where the front is cut it is so of as many places fewer
pub passed_cut : (text bytes : List ℕ) (n count : ℕ) → count ≤ length bytes → IsPassed text bytes n → IsPassed text (drop count bytes) (n - count)
passed_cut text bytes n count h passed = λ more k low o.
    let both : drop count bytes ++ more ≡ drop count (bytes ++ more) = sym (drop-append-le count bytes more h) in
    let size = length-append bytes more in
    passed more (count + k) (omega arith) (occurs_behind (bytes ++ more) text count k (omega arith) (subst (λ b. OccursAt b text k) both o))

-- of fewer places it is so all the more
pub passed_fewer : (text bytes : List ℕ) (n m : ℕ) → m ≤ n → IsPassed text bytes n → IsPassed text bytes m
passed_fewer text bytes n m h passed = λ more k low o. passed more k (omega arith) o

-- a text that stands nowhere can only stand where it doesn't fit yet
pub passed_nowhere : (text bytes : List ℕ) (n : ℕ) → n ≤ length bytes + 1 - length text → IsNowhere text bytes → IsPassed text bytes n
passed_nowhere text bytes n h nowhere = λ more k low o. nowhere k (occurs_in_front bytes more text k (omega arith) o)

-- what is passed is no place now
pub passed_now : (text bytes : List ℕ) (n k : ℕ) → IsPassed text bytes n → k < n → OccursAt bytes text k → ⊥
passed_now text bytes n k h low o = h [] k low (subst (λ b. OccursAt b text k) (sym (append-nil bytes)) o)

-- the places before the least one are passed
pub passed_least : (text bytes : List ℕ) (k : ℕ) → IsLeastPlace text bytes k → IsPassed text bytes k
passed_least text bytes k h = λ more i low o.
    let fits = h.place.fits in
    let least : k ≤ i = h.least i (occurs_in_front bytes more text i (omega arith) o) in
    omega arith

module _ (text bytes : List ℕ) (from : ℕ) (within : from ≤ length bytes) (passed : IsPassed text bytes from) where
  -- where the search of the rest finds nothing, the text stands nowhere
  pub nowhere_found : Nowhere (OccursAt (drop from bytes) text) 0 (length (drop from bytes) + 1) → IsNowhere text bytes
  nowhere_found none = λ k o. ⊎_elim
      (λ low. passed_now text bytes from k passed low o)
      (λ high. let rest = occurs_in_rest bytes text from (k - from) within (at_sum bytes text from k high o) in let fits = rest.fits in none (k - from) (omega arith) (omega arith) rest)
      (cases_lt k from)

  -- where it finds a place, that is the least one
  pub least_found : (k : ℕ) → NoneBefore (OccursAt (drop from bytes) text) 0 (length (drop from bytes) + 1) k → OccursAt (drop from bytes) text k → IsLeastPlace text bytes (from + k)
  least_found k none o = record {
    place = occurs_behind bytes text from k within o;
    least = λ i other. ⊎_elim
        (λ low. absurd (passed_now text bytes from i passed low other))
        (λ high. ⊎_elim
        (λ before. absurd (none.before (i - from) (omega arith) before (occurs_in_rest bytes text from (i - from) within (at_sum bytes text from i high other))))
        (λ behind. omega arith)
        (cases_lt (i - from) k))
        (cases_lt i from);
  }

-- a text stands at no passed place
pub passed_below : (text bytes : List ℕ) (n k : ℕ) → IsPassed text bytes n → OccursAt bytes text k → n ≤ k
passed_below text bytes n k h o = ⊎_elim (λ low. absurd (passed_now text bytes n k h low o)) (λ high. high) (cases_lt k n)
