-- The search for the parts of a glob one behind the other.
use Rattle.std.proofs.Common.{◌≡◌, ℕ, zero, suc, ◌+◌, ◌-◌, ◌<◌, ◌≤◌, max, Bool, true, false, cond, ◌==◌, ◌&&◌, nat_le, List, [], ◌∷◌, ◌++◌, Option, Some, None, length, drop, get_or, refl, sym, ap, ◌∙◌, subst, inl, inr, ⊎_elim, arith, append_assoc, append-nil, drop-cons}
use Rattle.std.proofs.lemmas.Bool.{cases_Bool, cond-true, cond-false, and_from, and_parts, false≢true, cases_lt, cases_eq, le-leb, leb-true}
use Rattle.std.proofs.lemmas.List.{drop-drop, drop-append-le, drop_all, length-drop, length-append, get_or_append_left, get_or_push}
use Rattle.dg_glob.specs.Glob.{IsSpan, binds_start, body}
use Rattle.dg_glob.specs.Items.{past_close}
use Rattle.dg_glob.proofs.ItemLemmas.{past_close_shorter}
use Rattle.dg_glob.specs.Least.{least_below}
use Rattle.dg_glob.specs.Rows.{begins_with_star}
use Rattle.dg_glob.specs.Parts.{Item, begins_steadily, behind_item, with_item, parts_within, parts_of, stands, least_stand, trail, followed, Follow, IsTrail}
use Rattle.dg_glob.specs.Reading.{Steps, IsPart, AreParts}
use Rattle.dg_glob.specs.Reading.Steps.{no_step, step}
use Rattle.dg_glob.specs.declared.parts.Part.{Part}
use Rattle.dg_glob.proofs.PartLemmas.{stands_fits, stands_front, follow_sooner}
use Rattle.dg_glob.proofs.ReadingLemmas.{behind_shorter}

-- how the least number that passes a test was found
data IsLeast (test : ℕ → Bool) (n : ℕ) : Option ℕ → Type 0 where
  nowhere : ((k : ℕ) → k < n → test k ≡ false) → IsLeast test n None
  somewhere : (k : ℕ) → k < n → test k ≡ true → ((j : ℕ) → j < k → test j ≡ false) → IsLeast test n (Some k)

last_least : (test : ℕ → Bool) (n : ℕ) (b : Bool) → test n ≡ b → ((k : ℕ) → k < n → test k ≡ false) → IsLeast test (suc n) (cond b (Some n) None)
last_least test n true here none = somewhere n (omega arith) here none
last_least test n false here none =
    nowhere (λ k low. elim (cases_eq k n) [ inl same ↦ ap test same ∙ here | inr other ↦ none k (omega arith) ])

next_least : (test : ℕ → Bool) (n : ℕ) (o : Option ℕ) → IsLeast test n o → IsLeast test (suc n) (elim o as (λ _. Option ℕ) [ None ↦ cond (test n) (Some n) None | Some k ↦ Some k ])
next_least test n _ (nowhere none) = last_least test n (test n) refl none
next_least test n _ (somewhere k low here none) = somewhere k (omega arith) here none

least_of : (test : ℕ → Bool) (n : ℕ) → IsLeast test n (least_below test n)
least_of test zero = nowhere (λ k low. absurd (omega arith))
least_of test (suc n) = next_least test n (least_below test n) (least_of test n)

none_least : (test : ℕ → Bool) (n : ℕ) → IsLeast test n None → (k : ℕ) → k < n → test k ≡ false
none_least test n (nowhere none) = none

record Least (test : ℕ → Bool) (n k : ℕ) : Type 0 where
  low : k < n
  here : test k ≡ true
  before : (j : ℕ) → j < k → test j ≡ false

some_least : (test : ℕ → Bool) (n k : ℕ) → IsLeast test n (Some k) → Least test n k
some_least test n _ (somewhere k low here none) = record { low = low; here = here; before = none }

pub stands_nowhere : (part : List Item) (t : List ℕ) (n : ℕ) → least_stand part t n ≡ None → (k : ℕ) → n ≤ k → k ≤ length t → stands part (drop k t) ≡ true → ⊥
unfolding least_stand
stands_nowhere part t n e k low within there =
    let test : ℕ → Bool = λ k. nat_le n k && stands part (drop k t) in
    let none = none_least test (length t + 1) (subst (IsLeast test (length t + 1)) e (least_of test (length t + 1))) k (omega arith) in
    false≢true (sym none ∙ and_from _ _ (le-leb n k low) there)

record StandsFirst (part : List Item) (t : List ℕ) (n k : ℕ) : Type 0 where
  low : n ≤ k
  within : k ≤ length t
  there : stands part (drop k t) ≡ true
  before : (j : ℕ) → n ≤ j → j < k → stands part (drop j t) ≡ true → ⊥

stands_first : (part : List Item) (t : List ℕ) (n k : ℕ) → least_stand part t n ≡ Some k → StandsFirst part t n k
unfolding least_stand
stands_first part t n k e =
    let test : ℕ → Bool = λ k. nat_le n k && stands part (drop k t) in
    let least = some_least test (length t + 1) k (subst (IsLeast test (length t + 1)) e (least_of test (length t + 1))) in
    let both = and_parts _ _ least.here in
    let below = least.low in
    record {
      low = leb-true n k both.0;
      within = omega arith;
      there = both.1;
      before = λ j at less h. false≢true (sym (least.before j less) ∙ and_from _ _ (le-leb n j at) h);
    }

-- a part that was found ends within the text
pub stands_within : (part : List Item) (t : List ℕ) (n k : ℕ) → least_stand part t n ≡ Some k → k + length part ≤ length t
stands_within part t n k e =
    let first = stands_first part t n k e in
    let within = first.within in
    let size = length-drop k t in
    let room = stands_fits part (drop k t) first.there in
    omega arith

-- one of the parts of a pattern
pub part_at : (pattern : List ℕ) (parts : List Part) (all : List (List Item)) (k : ℕ) (part : Part) → AreParts pattern parts all → k < length parts → part ≡ get_or parts k part →
    IsPart pattern part (get_or all k [])
part_at pattern parts all k part are low at = subst (λ (x : Part). IsPart pattern x (get_or all k [])) (sym at) (are.each k part low)

pub parts_left : (all : List (List Item)) (k : ℕ) → k < length all → drop k all ≡ get_or all k [] ∷ drop (k + 1) all
parts_left all k low = let e : suc k ≡ k + 1 = omega arith in drop-cons all k [] low ∙ ap (λ (n : ℕ). get_or all k [] ∷ drop n all) e

-- a part that stands in a longer text, but within its front, stands there
in_front : (part : List Item) (t more : List ℕ) (k : ℕ) → k + length part ≤ length t → stands part (drop k (t ++ more)) ≡ true → stands part (drop k t) ≡ true
in_front part t more k fits h =
    let size = length-drop k t in
    stands_front part (drop k t) more (omega arith) (ap (stands part) (sym (drop-append-le k t more (omega arith))) ∙ h)

module _ (p t : List ℕ) (found n : ℕ) (part : List Item) (rest : List (List Item)) (left : drop found (parts_of p) ≡ part ∷ rest) where
  leads : (more : List ℕ) (m : ℕ) → Follow (drop found (parts_of p)) (t ++ more) m → Follow (part ∷ rest) (t ++ more) m
  leads more m h = subst (λ (ps : List (List Item)). Follow ps (t ++ more) m) left h

  -- where the next part isn't found
  module _ (none : least_stand part t n ≡ None) where
    pub stop_value : followed p found t n ≡ (found, max n (length t + 1 - length part))
    stop_value =
        ap (λ (ps : List (List Item)). (found + (trail ps t n).0, (trail ps t n).1)) left
        ∙ ap (λ (o : Option ℕ). (
          found + (elim o as (λ _. ℕ × ℕ) [ None ↦ (0, max n (length t + 1 - length part)) | Some k ↦ ((trail rest t (k + length part)).0 + 1, (trail rest t (k + length part)).1) ]).0,
          (elim o as (λ _. ℕ × ℕ) [ None ↦ (0, max n (length t + 1 - length part)) | Some k ↦ ((trail rest t (k + length part)).0 + 1, (trail rest t (k + length part)).1) ]).1,
        )) none
        ∙ (let e : found + 0 ≡ found = omega arith in ap (λ (f : ℕ). (f, max n (length t + 1 - length part))) e)

    pub stop_known : IsTrail p found t n → IsTrail p found t (max n (length t + 1 - length part))
    stop_known known more s e span =
        let (k, (at, (fits, (there, after)))) = leads more (max n s) (known more s e span) in
        let late : length t + 1 - length part ≤ k = ⊎_elim
        (λ (low : k + length part < length t + 1). absurd (stands_nowhere part t n none k (omega arith) (omega arith) (in_front part t more k (omega arith) there)))
        (λ high. omega arith)
        (cases_lt (k + length part) (length t + 1)) in
        subst (λ (ps : List (List Item)). Follow ps (t ++ more) (max (max n (length t + 1 - length part)) s)) (sym left) (k, (omega arith, (fits, (there, after))))

    pub stop_none : IsTrail p found t n → (s e : ℕ) → IsSpan p t s e → ⊥
    stop_none known s e span =
        let whole = append-nil t in
        let (k, (at, (fits, (there, after)))) = leads [] (max n s) (known [] s e (subst (λ u. IsSpan p u s e) (sym whole) span)) in
        let size = ap length whole in
        stands_nowhere part t n none k (omega arith) (omega arith) (in_front part t [] k (omega arith) there)

  -- where it is
  module _ (k : ℕ) (some : least_stand part t n ≡ Some k) (behind : drop (found + 1) (parts_of p) ≡ rest) where
    pub step_value : followed p found t n ≡ followed p (found + 1) t (k + length part)
    step_value =
        ap (λ (ps : List (List Item)). (found + (trail ps t n).0, (trail ps t n).1)) left
        ∙ ap (λ (o : Option ℕ). (
          found + (elim o as (λ _. ℕ × ℕ) [ None ↦ (0, max n (length t + 1 - length part)) | Some k ↦ ((trail rest t (k + length part)).0 + 1, (trail rest t (k + length part)).1) ]).0,
          (elim o as (λ _. ℕ × ℕ) [ None ↦ (0, max n (length t + 1 - length part)) | Some k ↦ ((trail rest t (k + length part)).0 + 1, (trail rest t (k + length part)).1) ]).1,
        )) some
        ∙ (let e : found + ((trail rest t (k + length part)).0 + 1) ≡ found + 1 + (trail rest t (k + length part)).0 = omega arith in ap (λ (f : ℕ). (f, (trail rest t (k + length part)).1)) e)
        ∙ ap (λ (ps : List (List Item)). (found + 1 + (trail ps t (k + length part)).0, (trail ps t (k + length part)).1)) (sym behind)

    pub step_known : IsTrail p found t n → IsTrail p (found + 1) t (k + length part)
    step_known known more s e span =
        let (j, (at, (fits, (there, after)))) = leads more (max n s) (known more s e span) in
        let first = stands_first part t n k some in
        let low = first.low in
        let within = first.within in
        let size = length-drop k t in
        let room = stands_fits part (drop k t) first.there in
        let late : k ≤ j = ⊎_elim
        (λ (early : j < k). absurd (first.before j (omega arith) early (in_front part t more j (omega arith) there)))
        (λ high. high)
        (cases_lt j k) in
        subst (λ (ps : List (List Item)). Follow ps (t ++ more) (max (k + length part) s)) (sym behind)
        (follow_sooner rest (t ++ more) (max (k + length part) s) (j + length part) (omega arith) after)

pub all_value : (p t : List ℕ) (found n : ℕ) → length (parts_of p) ≤ found → followed p found t n ≡ (found, n)
all_value p t found n all =
    let e : found + 0 ≡ found = omega arith in
    ap (λ (ps : List (List Item)). (found + (trail ps t n).0, (trail ps t n).1)) (drop_all found (parts_of p) all) ∙ ap (λ (f : ℕ). (f, n)) e

-- how many bytes a pattern has, doesn't matter for its parts as long as they are enough
enough_at : (x : ℕ) (p : List ℕ) (n m : ℕ) (a b : Bool) → ((q : List ℕ) → length q ≤ length p → parts_within n q ≡ parts_within m q) → begins_steadily (x ∷ p) ≡ b →
    cond a ([] ∷ parts_within n p) (cond b (with_item (x ∷ p) (parts_within n (behind_item (x ∷ p)))) ([] ∷ []))
    ≡ cond a ([] ∷ parts_within m p) (cond b (with_item (x ∷ p) (parts_within m (behind_item (x ∷ p)))) ([] ∷ []))
enough_at x p n m true b same steady = ap (λ (ps : List (List Item)). [] ∷ ps) (same p (omega arith))
enough_at x p n m false true same steady = let less = behind_shorter (x ∷ p) steady in ap (with_item (x ∷ p)) (same (behind_item (x ∷ p)) (omega arith))
enough_at x p n m false false same steady = refl

enough : (n m : ℕ) (p : List ℕ) → length p ≤ n → length p ≤ m → parts_within n p ≡ parts_within m p
enough zero zero [] a b = refl
enough zero (suc m) [] a b = refl
enough (suc n) zero [] a b = refl
enough (suc n) (suc m) [] a b = refl
enough zero m (x ∷ p) a b = absurd (omega arith)
enough (suc n) zero (x ∷ p) a b = absurd (omega arith)
enough (suc n) (suc m) (x ∷ p) a b = enough_at x p n m (begins_with_star (x ∷ p)) (begins_steadily (x ∷ p)) (λ q low. enough n m q (omega arith) (omega arith)) refl

-- the parts from one that was read on
abbrev parts_behind : List ℕ → List (List Item)
parts_behind q = cond (begins_with_star q) (parts_within (length (drop 1 q)) (drop 1 q)) []

first_over : (n : ℕ) (p : List ℕ) (a : Bool) → begins_with_star p ≡ a → begins_steadily p ≡ false → length p ≤ suc n →
    cond a ([] ∷ parts_within n (drop 1 p)) (cond (begins_steadily p) (with_item p (parts_within n (behind_item p))) ([] ∷ [])) ≡ [] ∷ cond a (parts_within (length (drop 1 p)) (drop 1 p)) []
first_over n p true star ends low = let size = length-drop 1 p in ap (λ (ps : List (List Item)). [] ∷ ps) (enough n (length (drop 1 p)) (drop 1 p) (omega arith) (omega arith))
first_over n p false star ends low = cond-false _ _ _ ends

no_star : (p : List ℕ) → begins_steadily p ≡ true → begins_with_star p ≡ false
no_star [] steady = refl
no_star (x ∷ p) steady = elim (cases_Bool (begins_with_star (x ∷ p))) [
  | inl star ↦ absurd (false≢true (sym (cond-true _ _ _ star) ∙ steady))
  | inr none ↦ none
]

steady_size : (p : List ℕ) → begins_steadily p ≡ true → 1 ≤ length p
steady_size [] steady = absurd (false≢true steady)
steady_size (x ∷ p) steady = omega arith

part_read : {p q : List ℕ} {items : List Item} → Steps p items q → begins_steadily q ≡ false → (n : ℕ) → length p ≤ n → parts_within n p ≡ items ∷ parts_behind q
part_read (no_step []) ends zero low = refl
part_read (no_step (x ∷ p)) ends zero low = absurd (omega arith)
part_read (no_step p) ends (suc n) low = first_over n p (begins_with_star p) refl ends low
part_read (step p q items steady rest) ends zero low = let size = steady_size p steady in absurd (omega arith)
part_read (step p q items steady rest) ends (suc n) low =
    let less = behind_shorter p steady in
    cond-false _ _ _ (no_star p steady) ∙ (cond-true _ _ _ steady ∙ ap (with_item p) (part_read rest ends n (omega arith)))

pub steps_shorter : {p q : List ℕ} {items : List Item} → Steps p items q → length q ≤ length p
steps_shorter (no_step p) = omega arith
steps_shorter (step p q items steady rest) = let less = behind_shorter p steady in let h = steps_shorter rest in omega arith

-- what is left of a pattern is its end
later_left : (x : ℕ) (p q : List ℕ) → length q ≤ length p → q ≡ drop (length p - length q) p → q ≡ drop (length (x ∷ p) - length q) (x ∷ p)
later_left x p q low e = let n : length (x ∷ p) - length q ≡ suc (length p - length q) = omega arith in e ∙ ap (λ (k : ℕ). drop k (x ∷ p)) (sym n)

whole_left : (p : List ℕ) → p ≡ drop (length p - length p) p
whole_left p = let e : length p - length p ≡ 0 = omega arith in ap (λ (n : ℕ). drop n p) (sym e)

close_at : (x : ℕ) (p : List ℕ) (b : Bool) → past_close p ≡ drop (length p - length (past_close p)) p → cond b p (past_close p) ≡ drop (length (x ∷ p) - length (cond b p (past_close p))) (x ∷ p)
close_at x p true h = later_left x p p (omega arith) (whole_left p)
close_at x p false h = later_left x p (past_close p) (past_close_shorter p) h

close_left : (p : List ℕ) → past_close p ≡ drop (length p - length (past_close p)) p
close_left [] = refl
close_left (x ∷ p) = close_at x p (x == 93) (close_left p)

escape_left : (x : ℕ) (p : List ℕ) → drop 1 p ≡ drop (length (x ∷ p) - length (drop 1 p)) (x ∷ p)
escape_left x [] = refl
escape_left x (y ∷ p) = later_left x (y ∷ p) p (omega arith) (later_left y p p (omega arith) (whole_left p))

behind_at : (x : ℕ) (p : List ℕ) (a b : Bool) → cond a (past_close p) (cond b (drop 1 p) p) ≡ drop (length (x ∷ p) - length (cond a (past_close p) (cond b (drop 1 p) p))) (x ∷ p)
behind_at x p true b = later_left x p (past_close p) (past_close_shorter p) (close_left p)
behind_at x p false true = escape_left x p
behind_at x p false false = later_left x p p (omega arith) (whole_left p)

behind_left : (p : List ℕ) → behind_item p ≡ drop (length p - length (behind_item p)) p
behind_left [] = refl
behind_left (x ∷ p) = behind_at x p (x == 91) (x == 92)

pub left_join : (p q r : List ℕ) → length q ≤ length p → length r ≤ length q → q ≡ drop (length p - length q) p → r ≡ drop (length q - length r) q → r ≡ drop (length p - length r) p
left_join p q r low less one two =
    let n : length p - length q + (length q - length r) ≡ length p - length r = omega arith in
    two ∙ (ap (drop (length q - length r)) one ∙ (drop-drop (length q - length r) (length p - length q) p ∙ ap (λ (k : ℕ). drop k p) n))

pub steps_left : {p q : List ℕ} {items : List Item} → Steps p items q → q ≡ drop (length p - length q) p
steps_left (no_step p) = whole_left p
steps_left (step p q items steady rest) =
    let less = behind_shorter p steady in
    left_join p (behind_item p) q (omega arith) (steps_shorter rest) (behind_left p) (steps_left rest)

pub star_left : (p q : List ℕ) (x : ℕ) → p ≡ x ∷ q → q ≡ drop (length p - length q) p
star_left p q x e = subst (λ (r : List ℕ). q ≡ drop (length r - length q) r) (sym e) (later_left x q q (omega arith) (whole_left q))

-- the parts of a glob that is bound to the text's start, and of one that is not
pub bound_parts : (p pattern : List ℕ) → binds_start p ≡ true → AreParts pattern [] (parts_of p)
unfolding parts_of
bound_parts p pattern bound = subst (AreParts pattern []) (sym (cond-true _ _ _ bound)) (record { count = refl; each = λ k d low. absurd (omega arith) })

pub free_parts : (p : List ℕ) → binds_start p ≡ false → parts_within (length (body p)) (body p) ≡ parts_of p
unfolding parts_of
free_parts p free = sym (cond-false _ _ _ free)

pub are_push : (pattern : List ℕ) (parts : List Part) (all : List (List Item)) (part : Part) (items : List Item) → AreParts pattern parts all → IsPart pattern part items →
    AreParts pattern (parts ++ part ∷ []) (all ++ items ∷ [])
are_push pattern parts all part items are is =
    let one = length-append parts (part ∷ []) in
    let two = length-append all (items ∷ []) in
    let count = are.count in
    record {
      count = omega arith;
      each = λ k d low. ⊎_elim
          (λ early.
          subst (λ (i : List Item). IsPart pattern (get_or (parts ++ part ∷ []) k d) i) (sym (get_or_append_left all (items ∷ []) [] k (omega arith)))
          (subst (λ (x : Part). IsPart pattern x (get_or all k [])) (sym (get_or_append_left parts (part ∷ []) d k early)) (are.each k d early)))
          (λ late.
          let here : length parts ≡ k = omega arith in
          subst (λ (i : List Item). IsPart pattern (get_or (parts ++ part ∷ []) k d) i) (sym (get_or_push all items [] k (omega arith)))
          (subst (λ (x : Part). IsPart pattern x items) (sym (get_or_push parts part d k here)) is))
          (cases_lt k (length parts));
    }

-- the parts of a pattern that were read so far
pub record AreRead (pattern : List ℕ) (parts : List Part) (rest : List ℕ) : Type 0 where
  pub done : List (List Item)
  pub are : AreParts pattern parts done
  pub all : parts_within (length pattern) pattern ≡ done ++ parts_within (length rest) rest

module _ (pattern : List ℕ) (parts : List Part) (rest : List ℕ) (part : Part) (items : List Item) (behind : List ℕ) (so_far : AreRead pattern parts rest)
    (steps : Steps rest items behind) (ends : begins_steadily behind ≡ false) (is : IsPart pattern part items) where
  joined : parts_within (length pattern) pattern ≡ (so_far.done ++ items ∷ []) ++ parts_behind behind
  joined = so_far.all ∙ (ap (λ (ps : List (List Item)). so_far.done ++ ps) (part_read steps ends (length rest) (omega arith)) ∙ sym (append_assoc so_far.done (items ∷ []) (parts_behind behind)))

  pub part_more : (next : List ℕ) → behind ≡ 42 ∷ next → AreRead pattern (parts ++ part ∷ []) next
  part_more next star = record {
    done = so_far.done ++ items ∷ [];
    are = are_push pattern parts so_far.done part items so_far.are is;
    all = joined ∙ ap (λ (q : List ℕ). (so_far.done ++ items ∷ []) ++ parts_behind q) star;
  }

  pub part_last : begins_with_star behind ≡ false → AreParts pattern (parts ++ part ∷ []) (parts_within (length pattern) pattern)
  part_last none =
      subst (AreParts pattern (parts ++ part ∷ []))
      (sym (joined ∙ (ap (λ (ps : List (List Item)). (so_far.done ++ items ∷ []) ++ ps) (cond-false _ _ _ none) ∙ append-nil (so_far.done ++ items ∷ []))))
      (are_push pattern parts so_far.done part items so_far.are is)
