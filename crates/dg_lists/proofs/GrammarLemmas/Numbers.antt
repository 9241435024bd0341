-- What the byte behind a backslash makes of what is open, and the digits of a number.
use Rattle.std.specs.Prelude.{◌≡◌, ◌≢◌, ℕ, zero, suc, ◌+◌, ◌-◌, ◌*◌, ◌≤◌, ◌<◌, List, [], ◌∷◌, ◌++◌, length, refl, Bool, true, false, ◌&&◌, Option, None, Some, ◌==◌, cond, nat_lt, nat_le}
use Rattle.std.proofs.Common.{◌∙◌, ap, sym, arith, subst}
use Rattle.std.proofs.lemmas.Bool.{eqb-true, leb-true, le-leb, lt-ltb, ltb-true, ne_eqb}
use Rattle.std.specs.Char.{digit_value, encode_utf8}
use lib.Utf8.{scalar}
use Rattle.dg_lists.specs.declared.kinds.Escape.{Escape}
use Rattle.dg_lists.specs.declared.kinds.Escape.TheVariants.{Octal, Byte, Short, Long}
use Rattle.dg_lists.specs.declared.kinds.Effect.{Effect}
use Rattle.dg_lists.specs.declared.kinds.Effect.TheVariants as effect
use Rattle.dg_lists.specs.declared.kinds.Digits as kinds
use Rattle.dg_lists.specs.declared.kinds.Context.{Context}
use Rattle.dg_lists.specs.declared.kinds.Mode.TheVariants.{In, Number}
use Rattle.dg_lists.specs.declared.kinds.Transition.{Transition}
use Rattle.dg_lists.specs.Transitions.{base_of, digits_of, most_of, letter_of, with_digit, written, whole, escaped, puts, goes}
use Rattle.dg_lists.specs.Transitions as transitions
use Rattle.dg_lists.specs.Grammar.Escapes.{each, value_from, Digits, Writes, is_octal, begins_number, stands_for}

-- a byte is this one, or it is not
pub test : {A : Type 0} (P : A → Type 0) (b n : ℕ) (c d : A) → (b ≡ n → P c) → ((b == n) ≡ false → P d) → P (cond (b == n) c d)
test P b n c d f g = tested (b == n) refl
  where
    tested : (x : Bool) → (b == n) ≡ x → P (cond x c d)
    tested true e = f (eqb-true b n e)
    tested false e = g e

pub test_both : {A B : Type 0} (P : A → B → Type 0) (b n : ℕ) (c d : A) (u v : B) → (b ≡ n → P c u) → ((b == n) ≡ false → P d v) → P (cond (b == n) c d) (cond (b == n) u v)
test_both P b n c d u v f g = tested (b == n) refl
  where
    tested : (x : Bool) → (b == n) ≡ x → P (cond x c d) (cond x u v)
    tested true e = f (eqb-true b n e)
    tested false e = g e

-- the number that follows
abbrev pub number : Escape → ℕ → ℕ → kinds.Digits
number e k v = record { escape = e; left = k; value = v }

-- what the second byte of a pair makes
pub data Paired (s : Context) (b : ℕ) : Transition → ℕ → Type 0 where
  one : {v : ℕ} → begins_number b ≡ false → Paired s b (puts v (In s)) v
  letter : {v : ℕ} (e : Escape) → e ≢ Octal → b ≡ letter_of e → Paired s b (transitions.begins_number s e) v
  eight : {v : ℕ} → is_octal b ≡ true → Paired s b (goes (Number s (number Octal 2 (b - 48)))) v

is_one : (s : Context) (b n v : ℕ) → begins_number n ≡ false → b ≡ n → Paired s b (puts v (In s)) v
is_one s b n v h e = one (subst (λ x. begins_number x ≡ false) (sym e) h)

is_letter : (s : Context) (b v : ℕ) (e : Escape) → e ≢ Octal → b ≡ letter_of e → Paired s b (transitions.begins_number s e) v
is_letter s b v e n h = letter e n h

last_pair : (s : Context) (b : ℕ) → (b == 120) ≡ false → (b == 117) ≡ false → (b == 85) ≡ false → (x y : Bool) → nat_lt b 48 ≡ x → nat_lt b 56 ≡ y →
    Paired s b (cond x (puts b (In s)) (cond y (goes (Number s (number Octal 2 (b - 48)))) (puts b (In s)))) b
last_pair s b p q r true y e f = one (rw (p, q, r, e) refl)
last_pair s b p q r false true e f = eight (rw (e, f) refl)
last_pair s b p q r false false e f = one (rw (p, q, r, e, f) refl)

letters : (s : Context) (b : ℕ) →
    Paired s b (cond (b == 120) (transitions.begins_number s Byte) (cond (b == 117) (transitions.begins_number s Short) (cond (b == 85) (transitions.begins_number s Long)
    (cond (nat_lt b 48) (puts b (In s)) (cond (nat_lt b 56) (goes (Number s (number Octal 2 (b - 48)))) (puts b (In s))))))) b
letters s b =
    test (λ t. Paired s b t b) b 120 _ _ (λ e. is_letter s b b Byte (λ x. absurd cc) e) (λ p.
    test (λ t. Paired s b t b) b 117 _ _ (λ e. is_letter s b b Short (λ x. absurd cc) e) (λ q.
    test (λ t. Paired s b t b) b 85 _ _ (λ e. is_letter s b b Long (λ x. absurd cc) e) (λ r.
    last_pair s b p q r (nat_lt b 48) (nat_lt b 56) refl refl)))

pub paired : (s : Context) (b : ℕ) → Paired s b (escaped s b) (stands_for b)
paired s b =
    test_both (λ t v. Paired s b t v) b 97 _ _ _ _ (λ e. is_one s b 97 7 refl e) (λ n1.
    test_both (λ t v. Paired s b t v) b 98 _ _ _ _ (λ e. is_one s b 98 8 refl e) (λ n2.
    test_both (λ t v. Paired s b t v) b 102 _ _ _ _ (λ e. is_one s b 102 12 refl e) (λ n3.
    test_both (λ t v. Paired s b t v) b 110 _ _ _ _ (λ e. is_one s b 110 10 refl e) (λ n4.
    test_both (λ t v. Paired s b t v) b 114 _ _ _ _ (λ e. is_one s b 114 13 refl e) (λ n5.
    test_both (λ t v. Paired s b t v) b 116 _ _ _ _ (λ e. is_one s b 116 9 refl e) (λ n6.
    test_both (λ t v. Paired s b t v) b 118 _ _ _ _ (λ e. is_one s b 118 11 refl e) (λ n7. letters s b)))))))

pub and_left : (x y : Bool) → (x && y) ≡ true → x ≡ true
and_left true y e = refl
and_left false y e = absurd cc

pub and_right : (x y : Bool) → (x && y) ≡ true → y ≡ true
and_right true y e = e
and_right false y e = absurd cc

pub and_both : (x y : Bool) → x ≡ true → y ≡ true → (x && y) ≡ true
and_both true y e f = f
and_both false y e f = absurd cc

-- one digit

abbrev pub next_value : Escape → ℕ → ℕ → ℕ
next_value e v b = base_of e * v + digit_value b

abbrev pub is_digit : Escape → ℕ → Bool
is_digit e b = nat_lt (digit_value b) (base_of e)

some_of : Option ℕ → ℕ
some_of (Some x) = x
some_of None = 0

some_same : {x y : ℕ} → ◌≡◌ {A = Option ℕ} (Some x) (Some y) → x ≡ y
unfolding some_of
some_same {x} {y} e = ap some_of e

pub digit_fits : (e : Escape) (k v b : ℕ) → is_digit e b ≡ true → next_value e v b ≤ most_of e → with_digit (number e k v) b ≡ Some (next_value e v b)
digit_fits e k v b d h = rw (d, le-leb (next_value e v b) (most_of e) h) refl

pub digit_some : (e : Escape) (k v b w : ℕ) → with_digit (number e k v) b ≡ Some w → (is_digit e b ≡ true) × (w ≡ next_value e v b) × (w ≤ most_of e)
digit_some e k v b w = tested (is_digit e b) (nat_le (next_value e v b) (most_of e)) refl refl
  where
    tested : (x y : Bool) → is_digit e b ≡ x → nat_le (next_value e v b) (most_of e) ≡ y →
        cond x (cond y (Some (next_value e v b)) None) None ≡ Some w → (is_digit e b ≡ true) × (w ≡ next_value e v b) × (w ≤ most_of e)
    tested true true d f h =
        let same : next_value e v b ≡ w = some_same h in
        (d, sym same, subst (λ x. x ≤ most_of e) same (leb-true (next_value e v b) (most_of e) f))
    tested true false d f h = absurd cc
    tested false y d f h = absurd cc

grows : (e : Escape) (v b : ℕ) → v ≤ next_value e v b
grows Octal v b = omega arith
grows Byte v b = omega arith
grows Short v b = omega arith
grows Long v b = omega arith

pub value_grows : (e : Escape) (v : ℕ) (ds : List ℕ) → v ≤ value_from (base_of e) v ds
value_grows e v [] = omega arith
value_grows e v (d ∷ ds) = omega (arith, grows e v d, value_grows e (next_value e v d) ds)

-- the digits of a number, from its first one on
pub with_more : (e : Escape) (k v d : ℕ) (ds after : List ℕ) → Digits e k v (d ∷ ds) after →
    (n : ℕ) × (k ≡ suc n) × (with_digit (number e k v) d ≡ Some (next_value e v d)) × Digits e n (next_value e v d) ds after
with_more e zero v d ds after h = let short : suc (length ds) ≤ 0 = h.fit.1 in absurd (omega arith)
with_more e (suc n) v d ds after h =
    let here = and_left (is_digit e d) (each (is_digit e) ds) h.fit.0 in
    let in_range : next_value e v d ≤ most_of e = omega (arith, value_grows e (next_value e v d) ds, h.fit.2) in
    let fewer : length ds ≤ n = omega (arith, h.fit.1) in (
      n,
      refl,
      digit_fits e (suc n) v d here in_range,
      record {
        fit = (and_right (is_digit e d) (each (is_digit e) ds) h.fit.0, fewer, h.fit.2);
        longest = λ b rest s f. h.longest b rest s (and_both _ _ here f.0, omega (arith, f.1), f.2);
      },
    )

pub more_digits : (e : Escape) (n v d w : ℕ) (ds after : List ℕ) → with_digit (number e (suc n) v) d ≡ Some w → Digits e n w ds after → Digits e (suc n) v (d ∷ ds) after
more_digits e n v d w ds after s h =
    let told = digit_some e (suc n) v d w s in
    record {
      fit = (and_both _ _ told.0 h.fit.0, omega (arith, h.fit.1), subst (λ x. value_from (base_of e) x ds ≤ most_of e) told.1 h.fit.2);
      longest = λ b rest s f. h.longest b rest s (and_right _ _ f.0, omega (arith, f.1), subst (λ x. value_from (base_of e) x (ds ++ b ∷ []) ≤ most_of e) (sym told.1) f.2);
    }

pub no_digits : (e : Escape) (k v : ℕ) (after : List ℕ) → v ≤ most_of e → ((b : ℕ) (rest : List ℕ) → after ≡ b ∷ rest → with_digit (number e k v) b ≡ None) → Digits e k v [] after
no_digits e k v after m h = record {
  fit = (refl, omega arith, m);
  longest = λ b rest s f. let x = sym (h b rest s) ∙ digit_fits e k v b (and_left _ true f.0) f.2 in absurd cc;
}

pub no_room : (e : Escape) (v : ℕ) (after : List ℕ) → v ≤ most_of e → Digits e zero v [] after
no_room e v after m = record { fit = (refl, omega arith, m); longest = λ b rest s f. let long : 1 ≤ 0 = f.1 in omega arith }

none_or : (x : Option ℕ) → ((w : ℕ) → x ≡ Some w → ⊥) → x ≡ None
none_or None h = refl
none_or (Some w) h = absurd (h w refl)

-- where no digits follow, though there is room, the next byte is none
pub is_none : (e : Escape) (n v : ℕ) (after : List ℕ) → Digits e (suc n) v [] after → (b : ℕ) (rest : List ℕ) → after ≡ b ∷ rest → with_digit (number e (suc n) v) b ≡ None
is_none e n v after h b rest s =
    none_or (with_digit (number e (suc n) v) b) (λ w x.
    let told = digit_some e (suc n) v b w x in
    h.longest b rest s (and_both _ true told.0 refl, omega arith, subst (λ y. y ≤ most_of e) told.1 told.2))

-- what a effect writes
abbrev pub bytes_of : Effect → List ℕ
bytes_of (effect.Byte b) = b ∷ []
bytes_of (effect.Code c) = encode_utf8 c
bytes_of d = []

abbrev pub IsWriting : Effect → Type 0
IsWriting (effect.Byte b) = Unit {0}
IsWriting (effect.Code c) = Unit {0}
IsWriting d = ⊥

-- a number's effect, and its bytes
pub record Written (r : Option Effect) (w : List ℕ) : Type 0 where
  pub does : Effect
  pub is : r ≡ Some does
  pub writing : IsWriting does
  pub bytes : bytes_of does ≡ w

pub writes_byte : (v : ℕ) → v ≤ 255 → Written (cond (nat_lt v 256) (Some (effect.Byte v)) None) (v ∷ [])
writes_byte v h = record { does = effect.Byte v; is = rw (lt-ltb v 256 (omega arith)) refl; writing = tt; bytes = refl }

writes_code : (v : ℕ) → scalar v ≡ true → Written (cond (scalar v) (Some (effect.Code v)) None) (encode_utf8 v)
writes_code v h = record { does = effect.Code v; is = rw h refl; writing = tt; bytes = refl }

pub writes : (e : Escape) (v : ℕ) (w : List ℕ) → v ≤ most_of e → Writes e v w → Written (written e v) w
writes Octal v w m h = subst (λ x. Written (written Octal v) x) (sym h) (writes_byte v m)
writes Byte v w m h = subst (λ x. Written (written Byte v) x) (sym h) (writes_byte v m)
writes Short v w m h = subst (λ x. Written (written Short v) x) (sym h.1) (writes_code v h.0)
writes Long v w m h = subst (λ x. Written (written Long v) x) (sym h.1) (writes_code v h.0)

pub effect_of : Option Effect → Effect
effect_of (Some d) = d
effect_of None = effect.Nothing

pub some_effect : {x y : Effect} → ◌≡◌ {A = Option Effect} (Some x) (Some y) → x ≡ y
unfolding effect_of
some_effect {x} {y} e = ap effect_of e

byte_written : (x : Bool) (v : ℕ) (d : Effect) → cond x (Some (effect.Byte v)) None ≡ Some d → IsWriting d × (bytes_of d ≡ v ∷ [])
byte_written true v d e = subst (λ y. IsWriting y × (bytes_of y ≡ v ∷ [])) (some_effect e) (tt, refl)
byte_written false v d e = absurd cc

code_written : (x : Bool) (v : ℕ) (d : Effect) → cond x (Some (effect.Code v)) None ≡ Some d → IsWriting d × (x ≡ true) × (bytes_of d ≡ encode_utf8 v)
code_written true v d e = subst (λ y. IsWriting y × (true ≡ true) × (bytes_of y ≡ encode_utf8 v)) (some_effect e) (tt, refl, refl)
code_written false v d e = absurd cc

pub was_written : (e : Escape) (v : ℕ) (d : Effect) → written e v ≡ Some d → IsWriting d × Writes e v (bytes_of d)
was_written Octal v d h = byte_written (nat_lt v 256) v d h
was_written Byte v d h = byte_written (nat_lt v 256) v d h
was_written Short v d h = let x = code_written (scalar v) v d h in (x.0, (x.1, x.2))
was_written Long v d h = let x = code_written (scalar v) v d h in (x.0, (x.1, x.2))

-- with a digit less to come than there may be, the number is written by its value
pub whole_behind : (e : Escape) (k v : ℕ) → k < digits_of e → whole (number e k v) ≡ written e v
whole_behind e k v h = rw (ne_eqb k (digits_of e) (λ s. omega arith)) refl

pub octal_begins : (b : ℕ) (x y z : Bool) (w : Bool) → w ≡ true → (b == 120) ≡ x → (b == 117) ≡ y → (b == 85) ≡ z → is_octal b ≡ w → begins_number b ≡ true
octal_begins b true y z w h e f g i = rw e refl
octal_begins b false true z w h e f g i = rw (e, f) refl
octal_begins b false false true w h e f g i = rw (e, f, g) refl
octal_begins b false false false w h e f g i = rw (e, f, g) (i ∙ h)

pub letter_begins : (e : Escape) → e ≢ Octal → begins_number (letter_of e) ≡ true
letter_begins Octal n = absurd (n refl)
letter_begins Byte n = refl
letter_begins Short n = refl
letter_begins Long n = refl

pub one_transition : (s : Context) (b v : ℕ) (t : Transition) → Paired s b t v → begins_number b ≡ false → t ≡ puts v (In s)
one_transition s b v t (one h) e = refl
one_transition s b v t (letter k n h) e = let x = sym (letter_begins k n) ∙ ap begins_number (sym h) ∙ e in absurd cc
one_transition s b v t (eight h) e = let x = sym (octal_begins b (b == 120) (b == 117) (b == 85) true refl refl refl refl h) ∙ e in absurd cc

pub not_letter : (e : Escape) → e ≢ Octal → is_octal (letter_of e) ≡ true → ⊥
not_letter Octal n h = n refl
not_letter Byte n h = absurd cc
not_letter Short n h = absurd cc
not_letter Long n h = absurd cc

pub octal_transition : (s : Context) (b v : ℕ) (t : Transition) → Paired s b t v → is_octal b ≡ true → t ≡ goes (Number s (number Octal 2 (b - 48)))
octal_transition s b v t (one h) e = let x = sym (octal_begins b (b == 120) (b == 117) (b == 85) true refl refl refl refl e) ∙ h in absurd cc
octal_transition s b v t (letter k n h) e = absurd (not_letter k n (subst (λ x. is_octal x ≡ true) h e))
octal_transition s b v t (eight h) e = refl

pub letter_transition : (s : Context) (e : Escape) → e ≢ Octal → escaped s (letter_of e) ≡ transitions.begins_number s e
letter_transition s Octal n = absurd (n refl)
letter_transition s Byte n = refl
letter_transition s Short n = refl
letter_transition s Long n = refl

pub some_digits : (e : Escape) → 0 < digits_of e
some_digits Octal = omega arith
some_digits Byte = omega arith
some_digits Short = omega arith
some_digits Long = omega arith

pub octal_small : (b : ℕ) → is_octal b ≡ true → b - 48 ≤ 255
octal_small b h = small (nat_lt b 48) (nat_lt b 56) refl refl h
  where
    small : (x y : Bool) → nat_lt b 48 ≡ x → nat_lt b 56 ≡ y → cond x false y ≡ true → b - 48 ≤ 255
    small true y e f g = absurd cc
    small false true e f g = let l : b < 56 = ltb-true b 56 f in omega arith
    small false false e f g = absurd cc
