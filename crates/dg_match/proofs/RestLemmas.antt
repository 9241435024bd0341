-- What the search for a glob's parts comes to, by the bytes from a place on alone.
use Rattle.std.proofs.Common.{◌≡◌, ℕ, zero, suc, ◌+◌, ◌-◌, ◌<◌, ◌≤◌, max, Bool, true, false, cond, ◌&&◌, nat_le, List, [], ◌∷◌, Option, None, Some, length, drop, get_or, refl, sym, ap, ap₂, ◌∙◌, subst, inl, inr, arith}
use Rattle.std.proofs.lemmas.Bool.{cases_Bool, cases_lt, le-leb, leb-true}
use Rattle.std.proofs.lemmas.List.{drop-drop, length-drop}
use Rattle.dg_glob.specs.Glob.{IsSpan}
use Rattle.dg_glob.specs.Least.{least_below}
use Rattle.dg_glob.specs.Parts.{Item, IsTrail, followed, least_stand, parts_of, stands, trail}
use Rattle.dg_glob.proofs.LeastLemmas.{least-none}
use Rattle.dg_glob.proofs.TrailLemmas.{all_value, parts_left, stands_within, step_known, step_value, stop_known, stop_none, stop_value}

-- a place of the bytes behind the n-th, if there is one, as one of all
abbrev behind : ℕ → Option ℕ → Option ℕ
behind n None = None
behind n (Some k) = Some (n + k)

-- a test that no number below n passes, and each from n on as another does the one n below it
module _ (f g : ℕ → Bool) (n : ℕ) (none : (k : ℕ) → k < n → f k ≡ false) (same : (k : ℕ) → f (n + k) ≡ g k) where
  chosen : (m : ℕ) (b : Bool) → cond b (Some (n + m)) None ≡ behind n (cond b (Some m) None)
  chosen m true = refl
  chosen m false = refl

  next_behind : (m : ℕ) (o : Option ℕ) → elim (behind n o) as (λ _. Option ℕ) [ None ↦ cond (f (n + m)) (Some (n + m)) None | Some k ↦ Some k ]
      ≡ behind n (elim o as (λ _. Option ℕ) [ None ↦ cond (g m) (Some m) None | Some k ↦ Some k ])
  next_behind m None = ap (λ (b : Bool). cond b (Some (n + m)) None) (same m) ∙ chosen m (g m)
  next_behind m (Some k) = refl

  least_behind : (m : ℕ) → least_below f (n + m) ≡ behind n (least_below g m)
  least_behind zero = least-none f (n + 0) (λ k l. none k (omega arith))
  least_behind (suc m) =
      (let e : n + suc m ≡ suc (n + m) = omega arith in ap (least_below f) e)
      ∙ (ap (λ (o : Option ℕ). elim o as (λ _. Option ℕ) [ None ↦ cond (f (n + m)) (Some (n + m)) None | Some k ↦ Some k ]) (least_behind m) ∙ next_behind m (least_below g m))

not_le : (n k : ℕ) → k < n → nat_le n k ≡ false
not_le n k low = elim (cases_Bool (nat_le n k)) [ inl h ↦ let le = leb-true n k h in absurd (omega arith) | inr h ↦ h ]

same_le : (n m k : ℕ) → nat_le (n + m) (n + k) ≡ nat_le m k
same_le n m k = elim (cases_Bool (nat_le m k)) [
  | inl h ↦ let le = leb-true m k h in le-leb (n + m) (n + k) (omega arith) ∙ sym h
  | inr h ↦ elim (cases_Bool (nat_le (n + m) (n + k))) [
    | inl g ↦ let le = leb-true (n + m) (n + k) g in let no = sym h ∙ le-leb m k (omega arith) in cc
    | inr g ↦ g ∙ sym h
  ]
]

module _ (t : List ℕ) (n : ℕ) (within : n ≤ length t) where
  -- where a part stands first
  stands_behind : (part : List Item) (m : ℕ) → least_stand part t (n + m) ≡ behind n (least_stand part (drop n t) m)
  unfolding least_stand
  stands_behind part m =
      let size = length-drop n t in
      let e : length t + 1 ≡ n + (length (drop n t) + 1) = omega arith in
      ap (least_below (λ k. nat_le (n + m) k && stands part (drop k t))) e
      ∙ least_behind (λ k. nat_le (n + m) k && stands part (drop k t)) (λ k. nat_le m k && stands part (drop k (drop n t))) n
      (λ k low. ap (λ (b : Bool). b && stands part (drop k t)) (not_le (n + m) k (omega arith)))
      (λ k. ap₂ (λ (b : Bool) (u : List ℕ). b && stands part u) (same_le n m k) (sym (drop-drop k n t)))
      (length (drop n t) + 1)

  abbrev moved : ℕ × ℕ → ℕ × ℕ
  moved r = (r.0, n + r.1)

  abbrev on_part : (List (List Item)) → ℕ → List ℕ → ℕ → Option ℕ → ℕ × ℕ
  on_part parts size u m o = elim o as (λ _. ℕ × ℕ) [
    | None ↦ (0, max m (length u + 1 - size))
    | Some k ↦ ((trail parts u (k + size)).0 + 1, (trail parts u (k + size)).1)
  ]

  part_behind : (part : List Item) (parts : List (List Item)) → ((m : ℕ) → trail parts t (n + m) ≡ moved (trail parts (drop n t) m)) → (m : ℕ) (o : Option ℕ) →
      on_part parts (length part) t (n + m) (behind n o) ≡ moved (on_part parts (length part) (drop n t) m o)
  part_behind part parts rec m None =
      let size = length-drop n t in
      let e : max (n + m) (length t + 1 - length part) ≡ n + max m (length (drop n t) + 1 - length part) = omega arith in
      ap (λ (k : ℕ). (0, k)) e
  part_behind part parts rec m (Some k) =
      let e : n + k + length part ≡ n + (k + length part) = omega arith in
      ap (λ (r : ℕ × ℕ). (r.0 + 1, r.1)) (ap (trail parts t) e ∙ rec (k + length part))

  trail_behind : (parts : List (List Item)) (m : ℕ) → trail parts t (n + m) ≡ moved (trail parts (drop n t) m)
  trail_behind [] m = refl
  trail_behind (part ∷ parts) m =
      ap (on_part parts (length part) t (n + m)) (stands_behind part m) ∙ part_behind part parts (λ k. trail_behind parts k) m (least_stand part (drop n t) m)

  -- how the parts of a glob but the first few follow
  pub followed_behind : (p : List ℕ) (found : ℕ) → followed p found t n ≡ ((followed p found (drop n t) 0).0, n + (followed p found (drop n t) 0).1)
  followed_behind p found =
      let e : n ≡ n + 0 = omega arith in
      ap (λ (k : ℕ). (found + (trail (drop found (parts_of p)) t k).0, (trail (drop found (parts_of p)) t k).1)) e
      ∙ ap (λ (r : ℕ × ℕ). (found + r.0, r.1)) (trail_behind (drop found (parts_of p)) 0)

-- the place that is passed stands in the text, or just behind it
part_bound : (part : List Item) (parts : List (List Item)) (t : List ℕ) → ((n : ℕ) → (trail parts t n).1 ≤ max n (length t + 1)) → (n : ℕ) (o : Option ℕ) → least_stand part t n ≡ o →
    (elim o as (λ _. ℕ × ℕ) [ None ↦ (0, max n (length t + 1 - length part)) | Some k ↦ ((trail parts t (k + length part)).0 + 1, (trail parts t (k + length part)).1) ]).1 ≤ max n (length t + 1)
part_bound part parts t rec n None e = omega arith
part_bound part parts t rec n (Some k) e =
    let within = stands_within part t n k e in
    let more = rec (k + length part) in
    omega arith

trail_bound : (parts : List (List Item)) (t : List ℕ) (n : ℕ) → (trail parts t n).1 ≤ max n (length t + 1)
trail_bound [] t n = omega arith
trail_bound (part ∷ parts) t n = part_bound part parts t (λ k. trail_bound parts t k) n (least_stand part t n) refl

pub followed_bound : (p t : List ℕ) (found n : ℕ) → (followed p found t n).1 ≤ max n (length t + 1)
followed_bound p t found n = trail_bound (drop found (parts_of p)) t n

-- behind the text no part stands
none_past : (part : List Item) (t : List ℕ) (n : ℕ) → length t < n → least_stand part t n ≡ None
unfolding least_stand
none_past part t n past =
    least-none (λ k. nat_le n k && stands part (drop k t)) (length t + 1) (λ k low. ap (λ (b : Bool). b && stands part (drop k t)) (not_le n k (omega arith)))

ended : (p t : List ℕ) (found n : ℕ) → length t < n → (parts : List (List Item)) → drop found (parts_of p) ≡ parts → followed p found t n ≡ (found, n)
ended p t found n past [] left =
    let e : found + 0 ≡ found = omega arith in
    ap (λ (ps : List (List Item)). (found + (trail ps t n).0, (trail ps t n).1)) left ∙ ap (λ (f : ℕ). (f, n)) e
ended p t found n past (part ∷ parts) left =
    let e : max n (length t + 1 - length part) ≡ n = omega arith in
    stop_value p t found n part parts left (none_past part t n past) ∙ ap (λ (m : ℕ). (found, m)) e

pub followed_past : (p t : List ℕ) (found n : ℕ) → length t < n → followed p found t n ≡ (found, n)
followed_past p t found n past = ended p t found n past (drop found (parts_of p)) refl

-- What was found keeps a trail, and where a part isn't found there is no match.
record Holds (p t : List ℕ) (r : ℕ × ℕ) : Type 0 where
  pub known : IsTrail p r.0 t r.1
  pub none : r.0 < length (parts_of p) → (s e : ℕ) → IsSpan p t s e → ⊥

module _ (p t : List ℕ) where
  abbrev Later : ℕ → Type 0
  Later left = (found n : ℕ) → length (parts_of p) ≤ found + left → IsTrail p found t n → Holds p t (followed p found t n)

  holds_at : (left found n : ℕ) → Later left → length (parts_of p) ≤ found + suc left → found < length (parts_of p) → IsTrail p found t n →
      (o : Option ℕ) → least_stand (get_or (parts_of p) found []) t n ≡ o → Holds p t (followed p found t n)
  holds_at left found n later enough low known None none =
      let part = get_or (parts_of p) found [] in
      let at = parts_left (parts_of p) found low in
      let rest = drop (found + 1) (parts_of p) in
      subst (Holds p t) (sym (stop_value p t found n part rest at none)) (record {
        known = stop_known p t found n part rest at none known;
        none = λ _. stop_none p t found n part rest at none known;
      })
  holds_at left found n later enough low known (Some k) some =
      let part = get_or (parts_of p) found [] in
      let at = parts_left (parts_of p) found low in
      let rest = drop (found + 1) (parts_of p) in
      subst (Holds p t) (sym (step_value p t found n part rest at k some refl))
      (later (found + 1) (k + length part) (omega arith) (step_known p t found n part rest at k some refl known))

  all_held : (found n : ℕ) → length (parts_of p) ≤ found → IsTrail p found t n → Holds p t (followed p found t n)
  all_held found n all known = subst (Holds p t) (sym (all_value p t found n all)) (record { known = known; none = λ low. absurd (omega arith) })

  holds : (left : ℕ) → Later left
  holds zero found n enough known = all_held found n (omega arith) known
  holds (suc left) found n enough known = elim (cases_lt found (length (parts_of p))) [
    | inl low ↦ holds_at left found n (holds left) enough low known (least_stand (get_or (parts_of p) found []) t n) refl
    | inr high ↦ all_held found n (omega arith) known
  ]

  pub followed_known : (found n : ℕ) → IsTrail p found t n → IsTrail p (followed p found t n).0 t (followed p found t n).1
  followed_known found n known = (holds (length (parts_of p)) found n (omega arith) known).known

  pub followed_none : (found n : ℕ) → IsTrail p found t n → (followed p found t n).0 < length (parts_of p) → (s e : ℕ) → IsSpan p t s e → ⊥
  followed_none found n known low = (holds (length (parts_of p)) found n (omega arith) known).none low
