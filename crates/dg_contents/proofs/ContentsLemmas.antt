-- What an update of one content leaves of a numbering.
use Rattle.std.proofs.Common.{◌≡◌, ◌∙◌, ℕ, ◌+◌, ◌-◌, ◌<◌, ◌≤◌, Bool, true, false, cond, List, [], ◌∷◌, refl, ap, sym, subst, arith}
use Rattle.std.specs.Prelude.{Option, Some, None, Result, Ok, Err, OnOk, OnErr, is_err, option_map, nat_eq, if◌then◌else◌}
use Rattle.std.specs.Option.{option_map_or}
use Rattle.std.specs.Map.{lookup, set_value}
use Rattle.std.specs.Cmp.Lexicographic.{bytes_decides, pointwise}
use Rattle.dg_contents.specs.Contents.{ContentsView, number_of, holders_of, HasOneMore, HasOneFewer, KeepsNumbers, KeepsHeldNumbers, IsNumbering}
use Rattle.dg_contents.specs.declared.contents.Holding.{Holding}

-- a content with a holder has a number
pub held-numbered : (c : ContentsView) (t : List ℕ) → 0 < holders_of c t → (n : ℕ) × (number_of c t ≡ Some n)
held-numbered c t h = step (lookup (pointwise nat_eq t) c.held) h
  where
    step : (o : Option Holding) → 0 < option_map_or (λ x. x.holders) o 0 → (n : ℕ) × (option_map (λ x. x.number) o ≡ Some n)
    step (Some x) p = (x.number, refl)
    step None p = absurd (omega arith)

-- what holds where a call went well, where it did
pub went_well : {A B : Type 0} (r : Result A B) (P : Type 0) → OnOk r P → is_err r ≡ false → P
went_well (Ok a) P h e = h
went_well (Err b) P h e = cc

-- what holds anyway holds after an error
pub on_err : {A B : Type 0} (r : Result A B) (P : Type 0) → P → OnErr r P
on_err (Ok a) P p = tt
on_err (Err b) P p = p

abbrev pub Entries : Type 0
Entries = List (List ℕ × Holding)

-- what a contract sees of entries and the next number
abbrev pub shown : Entries → ℕ → ContentsView
shown es n = record { held = es; next = n }

-- how a new content is held
abbrev pub first_holding : ℕ → Holding
first_holding n = record { number = n; holders = 1 }

abbrev pub number : Option Holding → Option ℕ
number o = option_map (λ h. h.number) o

abbrev pub count : Option Holding → ℕ
count o = option_map_or (λ h. h.holders) o 0

-- the new entries have this at one content, and at each other what the old ones have
abbrev pub Updated : Entries → Entries → List ℕ → Option Holding → Type 0
Updated old new t w = (q : List ℕ) → lookup (pointwise nat_eq q) new ≡ cond (pointwise nat_eq t q) w (lookup (pointwise nat_eq q) old)

pub updated-along : (old between new : Entries) (t : List ℕ) (w : Option Holding) → between ≡ old → Updated between new t w → Updated old new t w
updated-along old between new t w e u = subst (λ (es : Entries). Updated es new t w) e u

-- to write what stands there changes nothing
pub set-same : (test : List ℕ → Bool) (es : Entries) (h : Holding) → lookup test es ≡ Some h → set_value test es h ≡ es
set-same test [] h l = refl
set-same test (e ∷ es) h l = step (test e.0) l (set-same test es h)
  where
    step : (b : Bool) → cond b (Some e.1) (lookup test es) ≡ Some h → (lookup test es ≡ Some h → set_value test es h ≡ es) → cond b ((e.0, h) ∷ es) (e ∷ set_value test es h) ≡ e ∷ es
    step true g ih = let here : h ≡ e.1 = cc in ap (λ (x : Holding). (e.0, x) ∷ es) here
    step false g ih = ap (λ l. e ∷ l) (ih g)

same-is : (a b : List ℕ) → pointwise nat_eq a b ≡ true → a ≡ b
same-is a b h = (bytes_decides a b).0 h

module _ (old new : Entries) (t : List ℕ) (w : Option Holding) (u : Updated old new t w) where
  pub there : (q : List ℕ) → pointwise nat_eq t q ≡ true → lookup (pointwise nat_eq q) new ≡ w
  there q e = u q ∙ ap (λ b. cond b w (lookup (pointwise nat_eq q) old)) e

  pub elsewhere : (q : List ℕ) → pointwise nat_eq t q ≡ false → lookup (pointwise nat_eq q) new ≡ lookup (pointwise nat_eq q) old
  elsewhere q e = u q ∙ ap (λ b. cond b w (lookup (pointwise nat_eq q) old)) e

  pub one-more : (n m : ℕ) → count w ≡ count (lookup (pointwise nat_eq t) old) + 1 → HasOneMore t (shown old n) (shown new m)
  one-more n m k q = step (pointwise nat_eq t q) refl
    where
      step : (b : Bool) → pointwise nat_eq t q ≡ b → count (lookup (pointwise nat_eq q) new) ≡ count (lookup (pointwise nat_eq q) old) + (if b then 1 else 0)
      step true e = ap count (there q e) ∙ k ∙ ap (λ x. count (lookup (pointwise nat_eq x) old) + 1) (same-is t q e)
      step false e = let p = ap count (elsewhere q e) in omega (arith, p)

  pub one-fewer : (n m : ℕ) → count w ≡ count (lookup (pointwise nat_eq t) old) - 1 → HasOneFewer t (shown old n) (shown new m)
  one-fewer n m k q = step (pointwise nat_eq t q) refl
    where
      step : (b : Bool) → pointwise nat_eq t q ≡ b → count (lookup (pointwise nat_eq q) new) ≡ count (lookup (pointwise nat_eq q) old) - (if b then 1 else 0)
      step true e = ap count (there q e) ∙ k ∙ ap (λ x. count (lookup (pointwise nat_eq x) old) - 1) (same-is t q e)
      step false e = let p = ap count (elsewhere q e) in omega (arith, p)

-- a content that nobody holds any more leaves a numbering
pub numbering-without : (old new : Entries) (t : List ℕ) (n : ℕ) → Updated old new t None → IsNumbering (shown old n) → IsNumbering (shown new n)
numbering-without old new t n u is = record {
  held = λ q k e. subst (λ o. 0 < count o) (sym (had q k e)) (is.held q k (ap number (sym (had q k e)) ∙ e));
  below = λ q k e. is.below q k (ap number (sym (had q k e)) ∙ e);
  single = λ a b k p q. is.single a b k (ap number (sym (had a k p)) ∙ p) (ap number (sym (had b k q)) ∙ q);
}
  where
    had : (q : List ℕ) (k : ℕ) → number (lookup (pointwise nat_eq q) new) ≡ Some k → lookup (pointwise nat_eq q) new ≡ lookup (pointwise nat_eq q) old
    had q k e = step (pointwise nat_eq t q) refl
      where
        step : (b : Bool) → pointwise nat_eq t q ≡ b → lookup (pointwise nat_eq q) new ≡ lookup (pointwise nat_eq q) old
        step true h = let none = ap number (there old new t None u q h) in cc
        step false h = elsewhere old new t None u q h

pub keeps-held : (old new : Entries) (t : List ℕ) (n m : ℕ) → Updated old new t None → KeepsHeldNumbers (shown old n) (shown new m)
keeps-held old new t n m u q k e h = step (pointwise nat_eq t q) refl
  where
    step : (b : Bool) → pointwise nat_eq t q ≡ b → number (lookup (pointwise nat_eq q) new) ≡ Some k
    step true p = let none : count (lookup (pointwise nat_eq q) new) ≡ 0 = ap count (there old new t None u q p) in absurd (omega (arith, none, h))
    step false p = ap number (elsewhere old new t None u q p) ∙ e

module _ (old new : Entries) (t : List ℕ) (h : Holding) (u : Updated old new t (Some h)) where
  -- what a content with a number has: it is the updated one, or had the number before
  either-way : (P : Type 0) (q : List ℕ) (k : ℕ) → number (lookup (pointwise nat_eq q) new) ≡ Some k
      → (t ≡ q → h.number ≡ k → P) → (number (lookup (pointwise nat_eq q) old) ≡ Some k → lookup (pointwise nat_eq q) new ≡ lookup (pointwise nat_eq q) old → P) → P
  either-way P q k e here before = step (pointwise nat_eq t q) refl
    where
      step : (b : Bool) → pointwise nat_eq t q ≡ b → P
      step true p = here (same-is t q p) (let is = sym (ap number (there old new t (Some h) u q p)) ∙ e in cc)
      step false p = let alike = elsewhere old new t (Some h) u q p in before (ap number (sym alike) ∙ e) alike

  -- a content that is held by some under a number of its own leaves a numbering
  pub numbering-with : (n m : ℕ) → 0 < h.holders → h.number < m → n ≤ m → ((q : List ℕ) → number_of (shown old n) q ≡ Some h.number → t ≡ q)
      → IsNumbering (shown old n) → IsNumbering (shown new m)
  numbering-with n m some low more own is = record {
    held = λ q k e. either-way (0 < count (lookup (pointwise nat_eq q) new)) q k e
        (λ x _. let here : lookup (pointwise nat_eq q) new ≡ Some h = there old new t (Some h) u q ((bytes_decides t q).1 x) in subst (λ o. 0 < count o) (sym here) some)
        (λ had alike. subst (λ o. 0 < count o) (sym alike) (is.held q k had));
    below = λ q k e. either-way (k < m) q k e (λ _ x. omega (arith, x, low)) (λ had _. let b = is.below q k had in omega (arith, b, more));
    single = λ a b k p q. either-way (a ≡ b) a k p
        (λ ta na. either-way (a ≡ b) b k q (λ tb _. sym ta ∙ tb) (λ had _. sym ta ∙ own b (had ∙ ap Some (sym na))))
        (λ had-a _. either-way (a ≡ b) b k q (λ tb nb. sym (own a (had-a ∙ ap Some (sym nb))) ∙ tb) (λ had-b _. is.single a b k had-a had-b));
  }

  -- and so does one that keeps its number
  pub numbering-again : (n : ℕ) (before : Holding) → lookup (pointwise nat_eq t) old ≡ Some before → h.number ≡ before.number → 0 < h.holders → IsNumbering (shown old n) → IsNumbering (shown new n)
  numbering-again n before found e some is =
      let had : number_of (shown old n) t ≡ Some h.number = ap number found ∙ ap Some (sym e) in
      numbering-with n n some (is.below t h.number had) (omega arith) (λ q f. is.single t q h.number had f) is

  -- and one with the next number
  pub numbering-next : (n m : ℕ) → h.number ≡ n → 0 < h.holders → m ≡ n + 1 → IsNumbering (shown old n) → IsNumbering (shown new m)
  numbering-next n m e some next is =
      numbering-with n m some (omega (arith, e, next)) (omega (arith, next)) (λ q f. let low = is.below q h.number f in absurd (omega (arith, low, e))) is

  pub keeps : (n m : ℕ) → ((k : ℕ) → number_of (shown old n) t ≡ Some k → h.number ≡ k) → KeepsNumbers (shown old n) (shown new m)
  keeps n m own q k e = step (pointwise nat_eq t q) refl
    where
      step : (b : Bool) → pointwise nat_eq t q ≡ b → number (lookup (pointwise nat_eq q) new) ≡ Some k
      step true p = ap number (there old new t (Some h) u q p) ∙ ap Some (own k (ap (λ x. number (lookup (pointwise nat_eq x) old)) (same-is t q p) ∙ e))
      step false p = ap number (elsewhere old new t (Some h) u q p) ∙ e

  pub keeps-again : (n m : ℕ) (before : Holding) → lookup (pointwise nat_eq t) old ≡ Some before → h.number ≡ before.number → KeepsNumbers (shown old n) (shown new m)
  keeps-again n m before found e = keeps n m (λ k f. let same_number : Some before.number ≡ Some k = sym (ap number found) ∙ f in let is : before.number ≡ k = cc in e ∙ is)

  pub keeps-next : (n m : ℕ) → lookup (pointwise nat_eq t) old ≡ None → KeepsNumbers (shown old n) (shown new m)
  keeps-next n m none = keeps n m (λ k f. let no : None ≡ Some k = sym (ap number none) ∙ f in cc)

-- what has no number isn't there
pub unnumbered : (o : Option Holding) → number o ≡ None → o ≡ None
unnumbered None h = refl
unnumbered (Some x) h = cc
