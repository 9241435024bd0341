-- One step of a match, at each kind of pattern.
use Rattle.std.proofs.Common.{◌≡◌, ℕ, true, List, [], ◌∷◌, ◌++◌, Some, None, length, drop, refl, sym, ap, ◌∙◌, subst, arith, append_assoc, ◌<◌, ◌≤◌, Option, unwrap_or, get_or, add-zero, eq-eqb}
use Rattle.std.proofs.lemmas.Bool.Decides.{nat_tests}
use Rattle.memchr.specs.Find.{IsFirstByte, is_byte}
use Rattle.std.proofs.lemmas.List.{length-drop, get_or-drop}
use Rattle.dg_glob.specs.Items.{after_item, is_plain, IsSteady}
use Rattle.dg_glob.specs.Glob.{Matches, nothing, star, item}
use Rattle.dg_glob.specs.Search.{Leaves, Passes, IsSkipped, IsAhead}

-- a pattern that begins with an item
abbrev pub IsAtItem : List ℕ → Type 0
IsAtItem [] = ⊥
IsAtItem (x ∷ p) = x ≡ 42 → ⊥

-- a match of such a pattern has taken a byte
pub record ItemTaken (p t : List ℕ) : Type 0 where
  pub byte : ℕ
  pub text : List ℕ
  pub pattern : List ℕ
  pub split : t ≡ byte ∷ text
  pub step : after_item p byte ≡ Some pattern
  pub matched : Matches pattern text

pub item_taken : {p t : List ℕ} → Matches p t → IsAtItem p → ItemTaken p t
item_taken nothing at = absurd at
item_taken (star p x y m) at = absurd (at refl)
item_taken (item p q c t e m) at = record { byte = c; text = t; pattern = q; split = refl; step = e; matched = m }

-- a match of a pattern that begins with a star leaves a part of the text to the rest of the pattern
pub record StarTaken (s t : List ℕ) : Type 0 where
  pub front : List ℕ
  pub back : List ℕ
  pub split : t ≡ front ++ back
  pub matched : Matches s back

no_star_item : (s q : List ℕ) (c : ℕ) → after_item (42 ∷ s) c ≡ Some q → ⊥
no_star_item s q c e = cc

pub star_taken : {p t : List ℕ} → Matches p t → (s : List ℕ) → p ≡ 42 ∷ s → StarTaken s t
star_taken nothing s e = absurd (cc)
star_taken (star p x y m) s e = record { front = x; back = y; split = refl; matched = subst (λ l. Matches l y) (cc) m }
star_taken (item p q c t g m) s e = absurd (no_star_item s q c (sym (ap (λ l. after_item l c) e) ∙ g))

pub empty_taken : {p t : List ℕ} → Matches p t → p ≡ [] → t ≡ []
empty_taken nothing e = refl
empty_taken (star p x y m) e = absurd (cc)
empty_taken (item p q c t g m) e = absurd (let h : after_item [] c ≡ Some q = sym (ap (λ l. after_item l c) e) ∙ g in cc)

-- the empty pattern leaves all
pub leaves_all : (r : List ℕ) → Leaves [] r r
leaves_all r = record { taken = []; split = refl; matched = nothing }

pub all_left : (t r : List ℕ) → Leaves [] t r → t ≡ r
all_left t r l = l.split ∙ ap (λ x. x ++ r) (empty_taken l.matched refl)

-- an item takes a byte, and what is left of the pattern goes on
pub leaves_item : (p q : List ℕ) (c : ℕ) (t r : List ℕ) → after_item p c ≡ Some q → Leaves q t r → Leaves p (c ∷ t) r
leaves_item p q c t r e l = record { taken = c ∷ l.taken; split = ap (λ s. c ∷ s) l.split; matched = item p q c l.taken e l.matched }

pub record ItemLeaves (p t r : List ℕ) : Type 0 where
  pub byte : ℕ
  pub text : List ℕ
  pub pattern : List ℕ
  pub split : t ≡ byte ∷ text
  pub step : after_item p byte ≡ Some pattern
  pub leaves : Leaves pattern text r

pub item_leaves : (p t r : List ℕ) → IsAtItem p → Leaves p t r → ItemLeaves p t r
item_leaves p t r at l =
    let one = item_taken l.matched at in
    record {
      byte = one.byte;
      text = one.text ++ r;
      pattern = one.pattern;
      split = l.split ∙ ap (λ x. x ++ r) one.split;
      step = one.step;
      leaves = record { taken = one.text; split = refl; matched = one.matched };
    }

-- what an item leaves, where the byte is known
pub item_goes : (p q : List ℕ) (c : ℕ) (t r : List ℕ) → IsAtItem p → after_item p c ≡ Some q → Leaves p (c ∷ t) r → Leaves q t r
item_goes p q c t r at e l =
    let one = item_leaves p (c ∷ t) r at l in
    let byte_is : c ≡ one.byte = cc in
    let text_is : one.text ≡ t = cc in
    let pattern_is : one.pattern ≡ q = cc in
    subst (λ s. Leaves s t r) pattern_is (subst (λ s. Leaves one.pattern s r) text_is one.leaves)

-- an item that takes no such byte matches no text that begins with it, and no item matches the empty text
pub item_stops : (p : List ℕ) (c : ℕ) (t r : List ℕ) → IsAtItem p → after_item p c ≡ None → Leaves p (c ∷ t) r → ⊥
item_stops p c t r at e l =
    let one = item_leaves p (c ∷ t) r at l in
    let byte_is : c ≡ one.byte = cc in
    let step : after_item p c ≡ Some one.pattern = ap (λ b. after_item p b) byte_is ∙ one.step in
    cc

pub item_wants : (p r : List ℕ) → IsAtItem p → Leaves p [] r → ⊥
item_wants p r at l = let one = item_leaves p [] r at l in let e : [] ≡ one.byte ∷ one.text = one.split in cc

-- a star takes any front of a text
pub leaves_star : (p x y r : List ℕ) → Leaves p y r → Leaves (42 ∷ p) (x ++ y) r
leaves_star p x y r l = record { taken = x ++ l.taken; split = ap (λ s. x ++ s) l.split ∙ sym (append_assoc x l.taken r); matched = star p x l.taken l.matched }

pub record StarLeaves (p t r : List ℕ) : Type 0 where
  pub front : List ℕ
  pub back : List ℕ
  pub split : t ≡ front ++ back
  pub leaves : Leaves p back r

pub star_leaves : (p t r : List ℕ) → Leaves (42 ∷ p) t r → StarLeaves p t r
star_leaves p t r l =
    let some = star_taken l.matched p refl in
    record {
      front = some.front;
      back = some.back ++ r;
      split = l.split ∙ ap (λ x. x ++ r) some.split ∙ append_assoc some.front some.back r;
      leaves = record { taken = some.back; split = refl; matched = some.matched };
    }

-- an item that leads to the same rest of the pattern whatever byte it takes
pub item_passes : (p q : List ℕ) (c : ℕ) → IsAtItem p → IsSteady p → after_item p c ≡ Some q → Passes 1 p q
item_passes p q c at steady e x r l =
    let one = item_leaves p x r at l in
    let same = steady one.byte c one.pattern q one.step e in
    let text_is : drop 1 x ≡ one.text = ap (drop 1) one.split in
    subst (λ s. Leaves q s r) (sym text_is) (subst (λ s. Leaves s one.text r) same one.leaves)

-- a byte that stands for itself takes itself alone
plain_takes : (x c : ℕ) (p q : List ℕ) → is_plain x ≡ true → after_item (x ∷ p) c ≡ Some q → x ≡ c
plain_takes x c p q plain e = grind (arith, nat_tests)

plain_at_item : (x : ℕ) → is_plain x ≡ true → x ≡ 42 → ⊥
plain_at_item x plain e = grind (arith, nat_tests)

-- where the first byte of the pattern stands for itself, a match begins with it
plain_begins : (p q t r : List ℕ) (x k : ℕ) → p ≡ x ∷ q → is_plain x ≡ true → Leaves p (drop k t) r → (k < length t) × (get_or t k 0 ≡ x)
plain_begins p q t r x k is plain l =
    let one = item_leaves p (drop k t) r (subst IsAtItem (sym is) (plain_at_item x plain)) l in
    let step : after_item (x ∷ q) one.byte ≡ Some one.pattern = ap (λ y. after_item y one.byte) (sym is) ∙ one.step in
    let same = plain_takes x one.byte q one.pattern plain step in
    let size = ap length one.split in
    let there : get_or (drop k t) 0 0 ≡ one.byte = ap (λ y. get_or y 0 0) one.split in
    (omega (arith, length-drop k t), ap (λ n. get_or t n 0) (sym (add-zero k)) ∙ sym (get_or-drop k t 0 0) ∙ there ∙ sym same)

-- so it is skipped up to the first such byte
plain_skipped : (p q t : List ℕ) (x : ℕ) (o : Option ℕ) → p ≡ x ∷ q → is_plain x ≡ true → IsFirstByte (is_byte x) t o → (unwrap_or o (length t) ≤ length t) × IsSkipped p t (unwrap_or o (length t))
plain_skipped p q t x None is plain first = (
  omega arith,
  λ k low r l.
      let at = plain_begins p q t r x k is plain l in
      first k (omega arith) low (eq-eqb _ _ at.1),
)
plain_skipped p q t x (Some n) is plain first = (
  let h = first.0.high in omega arith,
  λ k low r l.
      let at = plain_begins p q t r x k is plain l in
      first.0.before k (omega arith) low (eq-eqb _ _ at.1),
)

pub ahead_at_byte : (p q t rest : List ℕ) (x n : ℕ) (o : Option ℕ) → p ≡ x ∷ q → is_plain x ≡ true → IsFirstByte (is_byte x) t o → n ≡ unwrap_or o (length t) → rest ≡ drop n t → IsAhead p t rest
ahead_at_byte p q t rest x n o is plain first n_is rest_is =
    let at = plain_skipped p q t x o is plain first in
    record {
      skipped = n;
      within = omega (arith, at.0);
      left = rest_is;
      nowhere = subst (IsSkipped p t) (sym n_is) at.1;
    }
