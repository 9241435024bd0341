-- The parts of a pattern stand in each text that it matches, one behind the other.
use Rattle.std.proofs.Common.{◌≡◌, ℕ, zero, suc, ◌+◌, ◌-◌, ◌≤◌, max, Bool, true, false, ◌==◌, cond, List, [], ◌∷◌, ◌++◌, Some, None, length, take, drop, refl, sym, ap, ◌∙◌, subst, inl, inr, arith, append_assoc}
use Rattle.std.specs.Prelude.{⊤, slice_range}
use Rattle.std.specs.Option.{is_some}
use Rattle.std.proofs.lemmas.Bool.{cases_Bool, cond-true, and_from, and_parts, false≢true}
use Rattle.std.proofs.lemmas.Bool.Decides.{nat_tests}
use Rattle.std.proofs.lemmas.List.{drop-drop, drop-append-le, length-drop, length-take, length-append, take-append-drop, drop_all}
use Rattle.dg_glob.specs.Items.{after_item}
use Rattle.dg_glob.specs.Glob.{Matches, IsSpan, binds_start, body}
use Rattle.dg_glob.specs.Glob.Matches.{nothing, star, item}
use Rattle.dg_glob.specs.Parts.{Item, begins_steadily, behind_item, with_item, parts_within, parts_of, stands, Follow, IsTrail}
use Rattle.dg_glob.proofs.ItemLemmas.{after_item_shorter, alike}

-- a part stands in what begins with a text in which it stands, and nowhere where it doesn't fit
pub stands_more : (part : List Item) (t more : List ℕ) → stands part t ≡ true → stands part (t ++ more) ≡ true
stands_more [] t more h = refl
stands_more (i ∷ part) [] more h = absurd (false≢true h)
stands_more (i ∷ part) (c ∷ t) more h = let both = and_parts _ _ h in and_from _ _ both.0 (stands_more part t more both.1)

pub stands_fits : (part : List Item) (t : List ℕ) → stands part t ≡ true → length part ≤ length t
stands_fits [] t h = omega arith
stands_fits (i ∷ part) [] h = absurd (false≢true h)
stands_fits (i ∷ part) (c ∷ t) h = let both = and_parts _ _ h in let rest = stands_fits part t both.1 in omega arith

pub stands_front : (part : List Item) (t more : List ℕ) → length part ≤ length t → stands part (t ++ more) ≡ true → stands part t ≡ true
stands_front [] t more fits h = refl
stands_front (i ∷ part) [] more fits h = absurd (omega arith)
stands_front (i ∷ part) (c ∷ t) more fits h = let both = and_parts _ _ h in and_from _ _ both.0 (stands_front part t more (omega arith) both.1)

stands_nothing : (part : List Item) (t : List ℕ) → stands part [] ≡ true → stands part t ≡ true
stands_nothing [] t h = refl
stands_nothing (i ∷ part) t h = absurd (false≢true h)

pub stands_later : (part : List Item) (k : ℕ) (t more : List ℕ) → stands part (drop k t) ≡ true → stands part (drop k (t ++ more)) ≡ true
stands_later part zero t more h = stands_more part t more h
stands_later part (suc k) [] more h = stands_nothing part (drop (suc k) more) h
stands_later part (suc k) (c ∷ t) more h = stands_later part k t more h

pub follow_sooner : (parts : List (List Item)) (t : List ℕ) (m n : ℕ) → m ≤ n → Follow parts t n → Follow parts t m
follow_sooner [] t m n low h = tt
follow_sooner (part ∷ parts) t m n low (k, (at, rest)) = (k, (omega arith, rest))

pub follow_more : (parts : List (List Item)) (t more : List ℕ) (n : ℕ) → Follow parts t n → Follow parts (t ++ more) n
follow_more [] t more n h = tt
follow_more (part ∷ parts) t more n (k, (at, (fits, (there, rest)))) =
    let size = length-append t more in
    (k, (at, (omega arith, (stands_later part k t more there, follow_more parts t more (k + length part) rest))))

drop_behind : (x t : List ℕ) (k : ℕ) → drop (length x + k) (x ++ t) ≡ drop k t
drop_behind [] t k = let e : 0 + k ≡ k = omega arith in ap (λ n. drop n t) e
drop_behind (c ∷ x) t k = let e : suc (length x) + k ≡ suc (length x + k) = omega arith in ap (λ n. drop n (c ∷ x ++ t)) e ∙ drop_behind x t k

pub follow_behind : (parts : List (List Item)) (x t : List ℕ) (n : ℕ) → Follow parts t n → Follow parts (x ++ t) (length x + n)
follow_behind [] x t n h = tt
follow_behind (part ∷ parts) x t n (k, (at, (fits, (there, rest)))) =
    let size = length-append x t in (
      length x + k,
      (
        omega arith,
        (
          omega arith,
          (
            ap (stands part) (drop_behind x t k) ∙ there,
            subst (Follow parts (x ++ t)) (omega arith) (follow_behind parts x t (k + length part) rest),
          ),
        ),
      ),
    )

pub follow_cut : (parts : List (List Item)) (t : List ℕ) (c n : ℕ) → c ≤ n → Follow parts t n → Follow parts (drop c t) (n - c)
follow_cut [] t c n low h = tt
follow_cut (part ∷ parts) t c n low (k, (at, (fits, (there, rest)))) =
    let e : c + (k - c) ≡ k = omega arith in
    let f : k + length part - c ≡ k - c + length part = omega arith in
    let size = length-drop c t in (
      k - c,
      (
        omega arith,
        (
          omega arith,
          (
            ap (stands part) (drop-drop (k - c) c t ∙ ap (λ n. drop n t) e) ∙ there,
            subst (Follow parts (drop c t)) f (follow_cut parts t c (k + length part) (omega arith) rest),
          ),
        ),
      ),
    )

-- the first part stands at the front of a text, and the others follow
abbrev pub Spells : List (List Item) → List ℕ → Type 0
Spells [] t = ⊤
Spells (part ∷ parts) t = (stands part t ≡ true) × Follow parts t (length part)

spells_more : (parts : List (List Item)) (t more : List ℕ) → Spells parts t → Spells parts (t ++ more)
spells_more [] t more h = tt
spells_more (part ∷ parts) t more (there, rest) = (stands_more part t more there, follow_more parts t more (length part) rest)

spells_item : (i : Item) (c : ℕ) (parts : List (List Item)) (t : List ℕ) → is_some (after_item i c) ≡ true → Spells parts t → Spells (with_item i parts) (c ∷ t)
spells_item i c [] t takes h = tt
spells_item i c (part ∷ parts) t takes (there, rest) = (
  and_from _ _ takes there,
  let e : length (c ∷ []) + length part ≡ suc (length part) = omega arith in subst (Follow parts (c ∷ t)) e (follow_behind parts (c ∷ []) t (length part) rest),
)

spells_follow : (parts : List (List Item)) (x t : List ℕ) → Spells parts t → Follow parts (x ++ t) (length x)
spells_follow [] x t h = tt
spells_follow (part ∷ parts) x t (there, rest) = (
  length x,
  (
    omega arith,
    (
      let size = length-append x t in let fits = stands_fits part t there in omega arith,
      (
        (let e : length x ≡ length x + 0 = omega arith in ap (λ n. stands part (drop n (x ++ t))) e ∙ ap (stands part) (drop_behind x t 0)) ∙ there,
        follow_behind parts x t (length part) rest,
      ),
    ),
  ),
)

-- what is left behind an item that leaves the same whatever byte it takes
pub steady_behind : (x c : ℕ) (p q : List ℕ) → begins_steadily (x ∷ p) ≡ true → after_item (x ∷ p) c ≡ Some q → q ≡ behind_item (x ∷ p)
steady_behind x c [] q steady e = let h = alike c q [] in grind (arith, nat_tests)
steady_behind x c (y ∷ p) q steady e = let h = alike c q (y ∷ p) in grind (arith, nat_tests)

none_some : {q : List ℕ} → None ≡ Some q → ⊥
none_some e = cc

module _ (x c : ℕ) (p q t : List ℕ) (e : after_item (x ∷ p) c ≡ Some q) (parts : List ℕ → List (List Item)) (rest : Spells (parts q) t) where
  item_spells : (a b : Bool) → (x == 42) ≡ a → begins_steadily (x ∷ p) ≡ b → (front : List (List Item)) →
      Spells (cond a front (cond b (with_item (x ∷ p) (parts (behind_item (x ∷ p)))) ([] ∷ []))) (c ∷ t)
  item_spells true b hit steady front = absurd (none_some (sym (cond-true _ _ _ hit) ∙ e))
  item_spells false true miss steady front =
      spells_item (x ∷ p) c (parts (behind_item (x ∷ p))) t (ap is_some e)
      (subst (λ r. Spells (parts r) t) (steady_behind x c p q steady e) rest)
  item_spells false false miss steady front = (refl, tt)

-- a text that a pattern matches is spelled by the pattern's parts
pub spelled : (p t : List ℕ) → Matches p t → (n : ℕ) → length p ≤ n → Spells (parts_within n p) t
spelled _ _ nothing zero l = (refl, tt)
spelled _ _ nothing (suc n) l = (refl, tt)
spelled _ _ (star p x y m) zero l = absurd (omega arith)
spelled _ _ (star p x y m) (suc n) l =
    (refl, follow_sooner (parts_within n p) (x ++ y) 0 (length x) (omega arith) (spells_follow (parts_within n p) x y (spelled p y m n (omega arith))))
spelled _ _ (item [] q c t e m) n l = absurd (none_some e)
spelled _ _ (item (x ∷ p) q c t e m) zero l = absurd (omega arith)
spelled _ _ (item (x ∷ p) q c t e m) (suc n) l =
    item_spells x c p q t e (parts_within n) (spelled q t m n (omega (arith, after_item_shorter (x ∷ p) q c e))) (x == 42) (begins_steadily (x ∷ p)) refl refl
    ([] ∷ parts_within n p)

-- and the parts of a glob follow one another from the start of a match on
parts_follow : (p t : List ℕ) (s e : ℕ) (b : Bool) → binds_start p ≡ b → IsSpan p t s e → Follow (cond b [] (parts_within (length (body p)) (body p))) t s
parts_follow p t s e true bound span = tt
parts_follow p t s e false free span =
    let parts = parts_within (length (body p)) (body p) in
    let slice = slice_range t s e in
    let rest = drop (e - s) (drop s t) in
    let spells : Spells parts (slice ++ rest) = spells_more parts slice rest (spelled (body p) slice span.matched (length (body p)) (omega arith)) in
    let ordered = span.ordered in
    let within = span.within in
    let size : length (take s t) ≡ s = length-take s t ∙ omega arith in
    let whole : take s t ++ (slice ++ rest) ≡ t = ap (λ r. take s t ++ r) (take-append-drop (e - s) (drop s t)) ∙ take-append-drop s t in
    subst (λ u. Follow parts u s) whole (subst (Follow parts (take s t ++ (slice ++ rest))) size (spells_follow parts (take s t) (slice ++ rest) spells))

pub span_follows : (p t : List ℕ) (s e : ℕ) → IsSpan p t s e → Follow (parts_of p) t s
unfolding parts_of
span_follows p t s e span = parts_follow p t s e (binds_start p) refl span

-- what is known of the parts at first, once more comes behind, and once a front is cut off
pub trail_begins : (p t : List ℕ) → IsTrail p 0 t 0
trail_begins p t more s e span = follow_sooner (parts_of p) (t ++ more) (max 0 s) s (omega arith) (span_follows p (t ++ more) s e span)

pub trail_more : (p : List ℕ) (found : ℕ) (t after : List ℕ) (n : ℕ) → IsTrail p found t n → IsTrail p found (t ++ after) n
trail_more p found t after n known more s e span =
    let same = append_assoc t after more in
    subst (λ u. Follow (drop found (parts_of p)) u (max n s)) (sym same) (known (after ++ more) s e (subst (λ u. IsSpan p u s e) same span))

no_parts : (p : List ℕ) (found : ℕ) (t : List ℕ) (n : ℕ) → binds_start p ≡ true → Follow (drop found (parts_of p)) t n
unfolding parts_of
no_parts p found t n bound =
    let none : drop found (cond (binds_start p) [] (parts_within (length (body p)) (body p))) ≡ [] =
    ap (drop found) (cond-true _ _ _ bound) ∙ drop_all found [] (omega arith) in
    subst (λ (ps : List (List Item)). Follow ps t n) (sym none) tt

span_behind : (p t more : List ℕ) (c s e : ℕ) → c ≤ length t → binds_start p ≡ false → IsSpan p (drop c t ++ more) s e → IsSpan p (t ++ more) (c + s) (c + e)
span_behind p t more c s e low free span =
    let whole : drop c t ++ more ≡ drop c (t ++ more) = sym (drop-append-le c t more low) in
    let ordered = span.ordered in
    let within = span.within in
    let size = ap length whole ∙ length-drop c (t ++ more) in
    let both = length-append t more in
    let count : c + e - (c + s) ≡ e - s = omega arith in
    record {
      ordered = omega arith;
      within = omega arith;
      at_start = λ bound. absurd (false≢true (sym free ∙ bound));
      at_end = λ bound. let end = span.at_end bound in omega arith;
      matched = subst (Matches (body p)) (ap (λ u. take (e - s) (drop s u)) whole ∙ ap (take (e - s)) (drop-drop s c (t ++ more)) ∙ ap (λ n. take n (drop (c + s) (t ++ more))) (sym count)) span.matched;
    }

pub trail_cut : (p : List ℕ) (found : ℕ) (t : List ℕ) (n c : ℕ) → c ≤ length t → IsTrail p found t n → IsTrail p found (drop c t) (n - c)
trail_cut p found t n c low known more s e span =
    elim (cases_Bool (binds_start p)) [
      | inl bound ↦ no_parts p found (drop c t ++ more) (max (n - c) s) bound
      | inr free ↦
          let parts = drop found (parts_of p) in
          let before = known more (c + s) (c + e) (span_behind p t more c s e low free span) in
          let after = follow_cut parts (t ++ more) c (max n (c + s)) (omega arith) before in
          subst (λ u. Follow parts u (max (n - c) s)) (drop-append-le c t more low) (follow_sooner parts (drop c (t ++ more)) (max (n - c) s) (max n (c + s) - c) (omega arith) after)
    ]
