-- A number that digits or another byte can end, and what is so of the next mode.
use Rattle.std.specs.Prelude.{◌≡◌, ℕ, zero, suc, ◌+◌, ◌*◌, ◌≤◌, ◌<◌, refl, Bool, true, false, Option, None, Some, cond, nat_lt, nat_le, ◌==◌, ◌⊎◌}
use Rattle.std.proofs.Common.{inl, inr, arith}
use Rattle.std.proofs.lemmas.Bool.{lt-ltb, ltb-true, le-leb}
use Rattle.std.proofs.lemmas.Bool.Decides.{leb_tells}
use Rattle.std.proofs.Math.Utf8.{low_scalar}
use Rattle.std.specs.Char.{digit_value}
use Rattle.dg_lists.specs.declared.kinds.Class.TheVariants as class
use Rattle.dg_lists.specs.declared.kinds.Effect.{Effect}
use Rattle.dg_lists.specs.declared.kinds.Effect.TheVariants as effect
use Rattle.dg_lists.specs.declared.kinds.Digits as kinds
use Rattle.dg_lists.specs.declared.kinds.Escape.{Escape}
use Rattle.dg_lists.specs.declared.kinds.Escape.TheVariants.{Octal, Byte, Short, Long}
use Rattle.dg_lists.specs.declared.kinds.Mode.{Mode}
use Rattle.dg_lists.specs.declared.kinds.Mode.TheVariants as mode
use Rattle.dg_lists.specs.declared.kinds.Target.{Target}
use Rattle.dg_lists.specs.declared.kinds.Target.TheVariants as target
use Rattle.dg_lists.specs.declared.kinds.Context.{Context}
use Rattle.dg_lists.specs.declared.kinds.Transition.{Transition}
use Rattle.dg_lists.specs.Classes.{class_of}
use Rattle.dg_lists.specs.Transitions.{behind_number, counted, digits_of, escaped, goes, letter_of, most_of, whole, with_digit, written}
use Rattle.dg_lists.specs.Grammar.Escapes.{stands_for}
use Rattle.dg_lists.proofs.GrammarLemmas.Numbers.{Paired, paired, number, digit_some, octal_small}

abbrev short_limit : ℕ → ℕ
short_limit zero = 65536
short_limit (suc zero) = 4096
short_limit (suc (suc zero)) = 256
short_limit (suc (suc (suc zero))) = 16
short_limit (suc (suc (suc (suc zero)))) = 1
short_limit (suc (suc (suc (suc (suc n))))) = 0

abbrev Limited : Escape → ℕ → ℕ → Type 0
Limited Short left v = v < short_limit left
Limited e left v = Unit {0}

abbrev pub Good : kinds.Digits → Type 0
Good n = (1 ≤ n.left) × (n.value ≤ most_of n.escape) × Limited n.escape n.left n.value

abbrev pub Fine : Mode → Type 0
Fine (mode.Number s n) = Good n
Fine m = Unit {0}

abbrev pub FineTarget : Target → Type 0
FineTarget (target.To m) = Fine m
FineTarget n = Unit {0}

fine_paired : (s : Context) (b v : ℕ) (t : Transition) → Paired s b t v → FineTarget t.next
fine_paired s b v t (Paired.one h) = tt
fine_paired s b v t (Paired.letter Octal n h) = (omega arith, omega arith, tt)
fine_paired s b v t (Paired.letter Byte n h) = (omega arith, omega arith, tt)
fine_paired s b v t (Paired.letter Short n h) = (omega arith, omega arith, omega arith)
fine_paired s b v t (Paired.letter Long n h) = (omega arith, omega arith, tt)
fine_paired s b v t (Paired.eight h) = (omega arith, octal_small b h, tt)

pub fine_escaped : (s : Context) (b : ℕ) → FineTarget (escaped s b).next
fine_escaped s b = fine_paired s b (stands_for b) (escaped s b) (paired s b)

pub fine_if : (x : Bool) (t u : Transition) → FineTarget t.next → FineTarget u.next → FineTarget (cond x t u).next
fine_if true t u h k = h
fine_if false t u h k = k

pub fine_behind_number : (r : Option Effect) (t : Transition) → FineTarget t.next → FineTarget (behind_number r t).next
fine_behind_number (Some d) t h = h
fine_behind_number None t h = tt

limited : (e : Escape) (left v b w : ℕ) → with_digit (number e (suc (suc left)) v) b ≡ Some w → Limited e (suc (suc left)) v → Limited e (suc left) w
limited Octal left v b w h k = tt
limited Byte left v b w h k = tt
limited Long left v b w h k = tt
limited Short left v b w h k = short left k
  where
    told : w ≡ 16 * v + digit_value b
    told = (digit_some Short (suc (suc left)) v b w h).1

    digit : digit_value b < 16
    digit = ltb-true (digit_value b) 16 (digit_some Short (suc (suc left)) v b w h).0

    short : (n : ℕ) → v < short_limit (suc (suc n)) → w < short_limit (suc n)
    short zero k = omega (arith, told, digit)
    short (suc zero) k = omega (arith, told, digit)
    short (suc (suc zero)) k = omega (arith, told, digit)
    short (suc (suc (suc n))) k = absurd (omega arith)

pub fine_counted : (s : Context) (e : Escape) (left v b w : ℕ) → with_digit (number e left v) b ≡ Some w → Good (number e left v) → FineTarget (counted s e left w).next
fine_counted s e zero v b w h g = tt
fine_counted s e (suc zero) v b w h g = fine_behind_number (written e w) (goes (mode.In s)) tt
fine_counted s e (suc (suc left)) v b w h g = (omega arith, (digit_some e (suc (suc left)) v b w h).2, limited e left v b w h g.2)

pub dot_is : class_of 46 ≡ class.Plain
unfolding class_of
dot_is = refl

long_written : (v : ℕ) → v ≤ 1114111 → ((w : Effect) × (written Long v ≡ Some w)) ⊎ ((55296 ≤ v) × (v < 57344))
long_written v h = low (leb_tells (suc v) 55296)
  where
    high : ((nat_le (suc v) 57344 ≡ true) × (suc v ≤ 57344)) ⊎ ((nat_le (suc v) 57344 ≡ false) × (57344 < suc v)) → 55296 < suc v → nat_le (suc v) 55296 ≡ false → ((w : Effect) × (written Long v ≡ Some w)) ⊎ ((55296 ≤ v) × (v < 57344))
    high (inl x) l e = let y : v < 57344 = omega (arith, x.1) in let z : 55296 ≤ v = omega (arith, l) in inr (z, y)
    high (inr x) l e = let y : 57344 ≤ v = omega (arith, x.1) in inl (effect.Code v, rw (e, le-leb 57344 v y, lt-ltb v 1114112 (omega (arith, h))) refl)

    low : ((nat_le (suc v) 55296 ≡ true) × (suc v ≤ 55296)) ⊎ ((nat_le (suc v) 55296 ≡ false) × (55296 < suc v)) → ((w : Effect) × (written Long v ≡ Some w)) ⊎ ((55296 ≤ v) × (v < 57344))
    low (inl x) = inl (effect.Code v, rw (low_scalar v (omega (arith, x.1))) refl)
    low (inr x) = high (leb_tells (suc v) 57344) x.1 x.0

short_small : (left v : ℕ) → 1 ≤ left → v < short_limit left → v < 55296
short_small zero v h k = absurd (omega arith)
short_small (suc zero) v h k = omega arith
short_small (suc (suc zero)) v h k = omega arith
short_small (suc (suc (suc zero))) v h k = omega arith
short_small (suc (suc (suc (suc zero)))) v h k = omega arith
short_small (suc (suc (suc (suc (suc n))))) v h k = absurd (omega arith)

number_written : (e : Escape) (left v : ℕ) → Good (number e left v) → ((w : Effect) × (written e v ≡ Some w)) ⊎ ((e ≡ Long) × (55296 ≤ v) × (v < 57344))
number_written Octal left v g = inl (effect.Byte v, rw (lt-ltb v 256 (omega (arith, g.1))) refl)
number_written Byte left v g = inl (effect.Byte v, rw (lt-ltb v 256 (omega (arith, g.1))) refl)
number_written Short left v g = inl (effect.Code v, rw (low_scalar v (short_small left v g.0 g.2)) refl)
number_written Long left v g = elim (long_written v g.1) [ inl x ↦ inl x | inr x ↦ inr (refl, x.0, x.1) ]

pub number_whole : (e : Escape) (left v : ℕ) → Good (number e left v) → ((w : Effect) × (whole (number e left v) ≡ Some w)) ⊎ ((e ≡ Long) × (55296 ≤ v) × (v < 57344))
number_whole e left v g = tested (left == digits_of e) refl
  where
    tested : (x : Bool) → (left == digits_of e) ≡ x → ((w : Effect) × (cond x (Some (effect.Byte (letter_of e))) (written e v) ≡ Some w)) ⊎ ((e ≡ Long) × (55296 ≤ v) × (v < 57344))
    tested true h = inl (effect.Byte (letter_of e), refl)
    tested false h = number_written e left v g

pub no_dot : (e : Escape) (left v : ℕ) → with_digit (number e left v) 46 ≡ None
no_dot Octal left v = refl
no_dot Byte left v = refl
no_dot Short left v = refl
no_dot Long left v = refl

pub zero_is : class_of 48 ≡ class.Name
unfolding class_of
zero_is = refl

pub sixteenfold : (v : ℕ) → 55296 ≤ v → v < 57344 → written Long (16 * v + 0) ≡ Some (effect.Code (16 * v + 0))
sixteenfold v h k =
    let high : 57344 ≤ 16 * v + 0 = omega arith in
    let low : 55296 < suc (16 * v + 0) = omega arith in
    rw (below (16 * v + 0) low, le-leb 57344 (16 * v + 0) high, lt-ltb (16 * v + 0) 1114112 (omega arith)) refl
  where
    below : (x : ℕ) → 55296 < suc x → nat_lt x 55296 ≡ false
    below x h = elim (leb_tells (suc x) 55296) [ inl y ↦ absurd (omega (arith, y.1)) | inr y ↦ y.0 ]

pub letter_is : class_of 97 ≡ class.Name
unfolding class_of
letter_is = refl
