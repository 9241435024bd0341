-- The elements of a list are no longer than its text: an escape is no shorter than what it stands for.
use Rattle.std.proofs.Common.{◌≡◌, ◌⊎◌, inl, inr, ⊎_elim, ℕ, zero, suc, ◌+◌, ◌-◌, ◌*◌, ◌<◌, ◌≤◌, Bool, true, false, cond, List, [], ◌∷◌, length, refl, subst, arith, length-append}
use Rattle.std.specs.Prelude.{Option, Some, None, Result, Ok, Err, if◌then◌else◌, ◌==◌, nat_lt}
use Rattle.std.specs.Char.{digit_value, encode_utf8}
use Rattle.std.specs.List.{AllByRecursion}
use Rattle.std.proofs.lemmas.Bool.{lt-ltb}
use Rattle.std.proofs.lemmas.Bool.Decides.{nat_tests}
use Rattle.dg_transcript.proofs.Lists.{All-push}
use Rattle.dg_lists.specs.declared.fault.WordFault.{WordFault}
use Rattle.dg_lists.specs.declared.kinds.Class.{Class}
use Rattle.dg_lists.specs.declared.kinds.Class.TheVariants as class
use Rattle.dg_lists.specs.declared.kinds.Context.{Context}
use Rattle.dg_lists.specs.declared.kinds.Context.TheVariants.{Bare, Quoted}
use Rattle.dg_lists.specs.declared.kinds.Escape.{Escape}
use Rattle.dg_lists.specs.declared.kinds.Escape.TheVariants as escape
use Rattle.dg_lists.specs.declared.kinds.Digits.{Digits}
use Rattle.dg_lists.specs.declared.kinds.Mode.{Mode}
use Rattle.dg_lists.specs.declared.kinds.Mode.TheVariants.{Gap, In, Pair, Join, Number, Braced, BracedPair}
use Rattle.dg_lists.specs.declared.kinds.Effect.{Effect}
use Rattle.dg_lists.specs.declared.kinds.Effect.TheVariants as effect
use Rattle.dg_lists.specs.declared.kinds.Target.{Target}
use Rattle.dg_lists.specs.declared.kinds.Target.TheVariants as target
use Rattle.dg_lists.specs.declared.kinds.Transition.{Transition}
use Rattle.dg_lists.specs.declared.kinds.Ending.{Ending}
use Rattle.dg_lists.specs.declared.kinds.Ending.TheVariants as ending
use Rattle.dg_lists.specs.Classes.{class_of}
use Rattle.dg_lists.specs.Transitions.{does, puts, goes, behind_effect, behind_number, digits_of, letter_of, with_digit, written, whole, counted, begins_number, escaped, is_space}
use Rattle.dg_lists.specs.Elements.{Listing, Elements, list_gap, list_bare, list_quoted, list_context, list_pair, list_numbered, list_braced, list_behind, list_transition, list_context_ends, list_number_ends, list_ends, list_effect, list_follow, list_step, list_ended, list_stop, list_stopped, list_onward, list_read, unread, without_place, elements_of}
use Rattle.dg_language.specs.Evaluation.{or_message, list_in}

-- no longer than a value may be
abbrev pub IsShort : List ℕ → Type 0
IsShort text = length text ≤ 1048576

abbrev pub AreShort : List (List ℕ) → Type 0
AreShort texts = AllByRecursion IsShort texts

-- ---- what a transition writes

abbrev effect_size : Effect → ℕ
effect_size (effect.Byte b) = 1
effect_size (effect.Code c) = length (encode_utf8 c)
effect_size d = 0

-- so many bytes of an escape by number were read that its character is no longer
abbrev Pays : Escape → ℕ → ℕ → Type 0
Pays escape.Octal v k = 1 ≤ k
Pays escape.Byte v k = 1 ≤ k
Pays escape.Short v k = ((v < 128) × (3 ≤ k)) ⊎ (4 ≤ k)
Pays escape.Long v k = ((v < 128) × (3 ≤ k)) ⊎ (4 ≤ k)

abbrev Spares : Escape → ℕ → ℕ → ℕ → Type 0
Spares escape.Octal left v k = 1 ≤ k
Spares escape.Byte left v k = 1 ≤ k
Spares escape.Short left v k = ((left ≡ 4) × (v ≡ 0) × (2 ≤ k)) ⊎ Pays escape.Short v k
Spares escape.Long left v k = ((left ≡ 8) × (v ≡ 0) × (2 ≤ k)) ⊎ Pays escape.Long v k

-- so many bytes were read and not yet written, of what is open
abbrev Owes : Mode → ℕ → Type 0
Owes (Pair s) k = 1 ≤ k
Owes (Number s n) k = Spares n.escape n.left n.value k
Owes m k = Unit {0}

abbrev OwesNext : Target → ℕ → Type 0
OwesNext (target.To m) k = Owes m k
OwesNext x k = Unit {0}

-- with one more byte read, a transition writes no more than was read
record Fine (k : ℕ) (t : Transition) : Type 0 where
  spare : ℕ
  fits : effect_size t.first + effect_size t.second + spare ≤ k + 1
  owes : OwesNext t.next spare

goes-fine : (k : ℕ) (m : Mode) → Owes m (k + 1) → Fine k (goes m)
goes-fine k m owes = record { spare = k + 1; fits = omega arith; owes = owes }

puts-fine : (k b : ℕ) (m : Mode) → Owes m k → Fine k (puts b m)
puts-fine k b m owes = record { spare = k; fits = omega arith; owes = owes }

nothing-fine : (k : ℕ) (x : Target) → OwesNext x 0 → Fine k (does effect.Nothing x)
nothing-fine k x owes = record { spare = 0; fits = omega arith; owes = owes }

byte-fine : (k b : ℕ) (x : Target) → OwesNext x 0 → Fine k (does (effect.Byte b) x)
byte-fine k b x owes = record { spare = 0; fits = omega arith; owes = owes }

word-fine : (k : ℕ) (x : Target) → OwesNext x 0 → Fine k (does effect.Word x)
word-fine k x owes = record { spare = 0; fits = omega arith; owes = owes }

behind-fine : (k : ℕ) (d : Effect) (t : Transition) → effect_size d ≤ k → Fine 0 t → Fine k (behind_effect d t)
behind-fine k d t le f = record { spare = f.spare; fits = omega (arith, f.fits, le); owes = f.owes }

if-fine : (k : ℕ) (b : Bool) {t u : Transition} → Fine k t → Fine k u → Fine k (if b then t else u)
if-fine k true f g = f
if-fine k false f g = g

bare-fine : (k : ℕ) (c : Class) (b : ℕ) → Fine k (list_bare c b)
bare-fine k class.Blank b = word-fine k (target.To Gap) tt
bare-fine k class.Newline b = word-fine k (target.To Gap) tt
bare-fine k class.Backslash b = goes-fine k (Pair Bare) (omega arith)
bare-fine k c b = puts-fine k b (In Bare) tt

quoted-fine : (k : ℕ) (c : Class) (b : ℕ) → Fine k (list_quoted c b)
quoted-fine k class.Quote b = word-fine k _ tt
quoted-fine k class.Backslash b = goes-fine k (Pair Quoted) (omega arith)
quoted-fine k c b = puts-fine k b (In Quoted) tt

context-fine : (k : ℕ) (s : Context) (c : Class) (b : ℕ) → Fine k (list_context s c b)
context-fine k Quoted c b = quoted-fine k c b
context-fine k s c b = bare-fine k c b

gap-fine : (k : ℕ) (c : Class) (b : ℕ) → Fine k (list_gap c b)
gap-fine k class.Blank b = goes-fine k Gap tt
gap-fine k class.Newline b = goes-fine k Gap tt
gap-fine k class.Quote b = goes-fine k (In Quoted) tt
gap-fine k class.Open b = goes-fine k Braced tt
gap-fine k class.Backslash b = goes-fine k (Pair Bare) (omega arith)
gap-fine k c b = puts-fine k b (In Bare) tt

-- ---- escapes by number

code-size : (a b d : Bool) (v : ℕ) (one two three four : List ℕ) → length one ≡ 1 → length two ≡ 2 → length three ≡ 3 → length four ≡ 4
    → length (cond a one (cond b two (cond d three four))) ≤ 4
code-size true b d v one two three four e f g h = omega (arith, e)
code-size false true d v one two three four e f g h = omega (arith, f)
code-size false false true v one two three four e f g h = omega (arith, g)
code-size false false false v one two three four e f g h = omega (arith, h)

utf8-size : (v : ℕ) → length (encode_utf8 v) ≤ 4
unfolding encode_utf8
utf8-size v = code-size (nat_lt v 128) (nat_lt v 2048) (nat_lt v 65536) v _ _ _ _ refl refl refl refl

small-code : (b : Bool) (v : ℕ) (more : List ℕ) → b ≡ true → length (cond b (v ∷ []) more) ≡ 1
small-code true v more e = refl
small-code false v more e = absurd cc

utf8-small : (v : ℕ) → v < 128 → length (encode_utf8 v) ≡ 1
unfolding encode_utf8
utf8-small v lt = small-code (nat_lt v 128) v _ (lt-ltb v 128 lt)

code-pays : (v k : ℕ) → ((v < 128) × (3 ≤ k)) ⊎ (4 ≤ k) → length (encode_utf8 v) ≤ k
code-pays v k pays = ⊎_elim (λ small. omega (arith, utf8-small v small.0, small.1)) (λ big. omega (arith, utf8-size v, big)) pays

byte-size : (b : Bool) (v k : ℕ) (d : Effect) → 1 ≤ k → (if b then Some (effect.Byte v) else None) ≡ Some d → effect_size d ≤ k
byte-size true v k d le is = let same : effect.Byte v ≡ d = cc in subst (λ x. effect_size x ≤ k) same le
byte-size false v k d le is = absurd cc

some-code : (b : Bool) (v k : ℕ) (d : Effect) → length (encode_utf8 v) ≤ k → (if b then Some (effect.Code v) else None) ≡ Some d → effect_size d ≤ k
some-code true v k d le is = let same : effect.Code v ≡ d = cc in subst (λ x. effect_size x ≤ k) same le
some-code false v k d le is = absurd cc

written-size : (e : Escape) (v k : ℕ) (d : Effect) → Pays e v k → written e v ≡ Some d → effect_size d ≤ k
written-size escape.Octal v k d pays is = byte-size _ v k d pays is
written-size escape.Byte v k d pays is = byte-size _ v k d pays is
written-size escape.Short v k d pays is = some-code _ v k d (code-pays v k pays) is
written-size escape.Long v k d pays is = some-code _ v k d (code-pays v k pays) is

spares-one : (e : Escape) (left v k : ℕ) → Spares e left v k → 1 ≤ k
spares-one escape.Octal left v k spares = spares
spares-one escape.Byte left v k spares = spares
spares-one escape.Short left v k spares = ⊎_elim (λ x. omega (arith, x.2)) (λ p. ⊎_elim (λ x. omega (arith, x.1)) (λ x. omega (arith, x)) p) spares
spares-one escape.Long left v k spares = ⊎_elim (λ x. omega (arith, x.2)) (λ p. ⊎_elim (λ x. omega (arith, x.1)) (λ x. omega (arith, x)) p) spares

-- where digits were read, they pay
spares-pays : (e : Escape) (left v k : ℕ) → (left == digits_of e) ≡ false → Spares e left v k → Pays e v k
spares-pays escape.Octal left v k begun spares = spares
spares-pays escape.Byte left v k begun spares = spares
spares-pays escape.Short left v k begun spares = ⊎_elim (λ x. absurd (grind (arith, nat_tests, x.0, begun))) (λ p. p) spares
spares-pays escape.Long left v k begun spares = ⊎_elim (λ x. absurd (grind (arith, nat_tests, x.0, begun))) (λ p. p) spares

whole-by : (e : Escape) (left v k : ℕ) (b : Bool) (d : Effect) → (left == digits_of e) ≡ b → Spares e left v k
    → (if b then Some (effect.Byte (letter_of e)) else written e v) ≡ Some d → effect_size d ≤ k
whole-by e left v k true d begun spares is =
    let same : effect.Byte (letter_of e) ≡ d = cc in subst (λ x. effect_size x ≤ k) same (spares-one e left v k spares)
whole-by e left v k false d begun spares is = written-size e v k d (spares-pays e left v k begun spares) is

whole-size : (n : Digits) (k : ℕ) (d : Effect) → Spares n.escape n.left n.value k → whole n ≡ Some d → effect_size d ≤ k
whole-size n k d spares is = whole-by n.escape n.left n.value k (n.left == digits_of n.escape) d refl spares is

-- the first digit of a character is small
first_digit : (v b w : ℕ) (x y : Bool) → nat_lt (digit_value b) 16 ≡ x → (if x then (if y then Some (16 * v + digit_value b) else None) else None) ≡ Some w
    → v ≡ 0 → w < 128
first_digit v b w true true small is none =
    let same : 16 * v + digit_value b ≡ w = cc in
    let lt : digit_value b < 16 = grind (arith, nat_tests, small) in omega (arith, same, lt, none)
first_digit v b w true false small is none = absurd cc
first_digit v b w false y small is none = absurd cc

digit-pays : (e : Escape) (left v b w k : ℕ) → with_digit (record { escape = e; left = left; value = v }) b ≡ Some w → Spares e left v k → Pays e w (k + 1)
digit-pays escape.Octal left v b w k is spares = omega (arith, spares)
digit-pays escape.Byte left v b w k is spares = omega (arith, spares)
digit-pays escape.Short left v b w k is spares =
    ⊎_elim (λ x. inl (first_digit v b w _ _ refl is x.1, omega (arith, x.2)))
    (λ p. inr (⊎_elim (λ x. omega (arith, x.1)) (λ x. omega (arith, x)) p)) spares
digit-pays escape.Long left v b w k is spares =
    ⊎_elim (λ x. inl (first_digit v b w _ _ refl is x.1, omega (arith, x.2)))
    (λ p. inr (⊎_elim (λ x. omega (arith, x.1)) (λ x. omega (arith, x)) p)) spares

pays-spares : (e : Escape) (left v k : ℕ) → Pays e v k → Spares e left v k
pays-spares escape.Octal left v k pays = pays
pays-spares escape.Byte left v k pays = pays
pays-spares escape.Short left v k pays = inr pays
pays-spares escape.Long left v k pays = inr pays

last-fine : (k : ℕ) (s : Context) (o : Option Effect) → ((d : Effect) → o ≡ Some d → effect_size d ≤ k + 1) → Fine k (behind_number o (goes (In s)))
last-fine k s (Some d) size = record { spare = 0; fits = omega (arith, size d refl); owes = tt }
last-fine k s None size = nothing-fine k _ tt

counted-fine : (k : ℕ) (s : Context) (e : Escape) (left v : ℕ) → Pays e v (k + 1) → Fine k (counted s e left v)
counted-fine k s e zero v pays = nothing-fine k _ tt
counted-fine k s e (suc zero) v pays = last-fine k s (written e v) (λ d is. written-size e v (k + 1) d pays is)
counted-fine k s e (suc (suc left)) v pays = goes-fine k (Number s (record { escape = e; left = suc left; value = v })) (pays-spares e (suc left) v (k + 1) pays)

closed-fine : (k : ℕ) (o : Option Effect) (t : Transition) → ((d : Effect) → o ≡ Some d → effect_size d ≤ k) → Fine 0 t → Fine k (behind_number o t)
closed-fine k (Some d) t size f = behind-fine k d t (size d refl) f
closed-fine k None t size f = nothing-fine k _ tt

numbered-fine : (k : ℕ) (s : Context) (n : Digits) (c : Class) (b : ℕ) (o : Option ℕ) → with_digit n b ≡ o → Spares n.escape n.left n.value k
    → Fine k (list_numbered s n c b o)
numbered-fine k s n c b (Some v) is spares = counted-fine k s n.escape n.left v (digit-pays n.escape n.left n.value b v k is spares)
numbered-fine k s n c b None is spares = closed-fine k (whole n) (list_context s c b) (λ d so. whole-size n k d spares so) (context-fine 0 s c b)

number-fine : (k : ℕ) (s : Context) (e : Escape) → 1 ≤ k → Fine k (begins_number s e)
number-fine k s escape.Octal le = goes-fine k _ (omega arith)
number-fine k s escape.Byte le = goes-fine k _ (omega arith)
number-fine k s escape.Short le = goes-fine k _ (inl (refl, refl, omega (arith, le)))
number-fine k s escape.Long le = goes-fine k _ (inl (refl, refl, omega (arith, le)))

escaped-fine : (k : ℕ) (s : Context) (b : ℕ) → 1 ≤ k → Fine k (escaped s b)
escaped-fine k s b le =
    if-fine k (b == 97) (puts-fine k 7 (In s) tt) (if-fine k (b == 98) (puts-fine k 8 (In s) tt) (if-fine k (b == 102) (puts-fine k 12 (In s) tt)
    (if-fine k (b == 110) (puts-fine k 10 (In s) tt) (if-fine k (b == 114) (puts-fine k 13 (In s) tt) (if-fine k (b == 116) (puts-fine k 9 (In s) tt)
    (if-fine k (b == 118) (puts-fine k 11 (In s) tt) (if-fine k (b == 120) (number-fine k s escape.Byte le)
    (if-fine k (b == 117) (number-fine k s escape.Short le) (if-fine k (b == 85) (number-fine k s escape.Long le)
    (if-fine k (nat_lt b 48) (puts-fine k b (In s) tt)
    (if-fine k (nat_lt b 56) (goes-fine k (Number s (record { escape = escape.Octal; left = 2; value = b - 48 })) (omega arith)) (puts-fine k b (In s) tt))))))))))))

pair-fine : (k : ℕ) (s : Context) (c : Class) (b : ℕ) → 1 ≤ k → Fine k (list_pair s c b)
pair-fine k s class.Newline b le = puts-fine k 32 (Join s) tt
pair-fine k s c b le = escaped-fine k s b le

braced-fine : (k : ℕ) (deep : Bool) (c : Class) (b : ℕ) → Fine k (list_braced deep c b)
braced-fine k deep class.Open b = byte-fine k b target.Deeper tt
braced-fine k true class.Close b = byte-fine k b target.Shallower tt
braced-fine k false class.Close b = word-fine k _ tt
braced-fine k deep class.Backslash b = puts-fine k b BracedPair tt
braced-fine k deep c b = puts-fine k b Braced tt

between-fine : (k : ℕ) (c : Class) → Fine k (list_behind c)
between-fine k class.Blank = goes-fine k Gap tt
between-fine k class.Newline = goes-fine k Gap tt
between-fine k c = nothing-fine k _ tt

transition-fine : (k : ℕ) (deep : Bool) (m : Mode) (c : Class) (b : ℕ) → Owes m k → Fine k (list_transition deep m c b)
unfolding list_transition
transition-fine k deep Gap c b owes = gap-fine k c b
transition-fine k deep (In s) c b owes = context-fine k s c b
transition-fine k deep (Pair s) c b owes = pair-fine k s c b owes
transition-fine k deep (Join s) c b owes = if-fine k (is_space b) (goes-fine k (Join s) tt) (context-fine k s c b)
transition-fine k deep (Number s n) c b owes = numbered-fine k s n c b (with_digit n b) refl owes
transition-fine k deep Braced c b owes = braced-fine k deep c b
transition-fine k deep BracedPair c b owes = puts-fine k b Braced tt
transition-fine k deep m c b owes = between-fine k c

-- ---- a whole list

abbrev AllWithin : ℕ → List (List ℕ) → Type 0
AllWithin p es = AllByRecursion (λ e. length e ≤ p) es

all-later : (p q : ℕ) (es : List (List ℕ)) → p ≤ q → AllWithin p es → AllWithin q es
all-later p q [] le all = tt
all-later p q (e ∷ es) le all = (omega (arith, le, all.0), all-later p q es le all.1)

-- what was written of the first p bytes
record Written (s : Listing) (p : ℕ) : Type 0 where
  spare : ℕ
  fits : length s.text + spare ≤ p
  owes : Owes s.mode spare
  all : AllWithin p s.elements

effect-text : (d : Effect) (s : Listing) → length (list_effect d s).text ≤ length s.text + effect_size d
effect-text (effect.Byte b) s = omega (arith, length-append s.text (b ∷ []))
effect-text (effect.Code c) s = omega (arith, length-append s.text (encode_utf8 c))
effect-text effect.Word s = omega arith
effect-text d s = omega arith

effect-all : (d : Effect) (s : Listing) (p : ℕ) → AllWithin p s.elements → length s.text ≤ p → AllWithin p (list_effect d s).elements
effect-all effect.Word s p all le = All-push (λ e. length e ≤ p) s.elements s.text all le
effect-all (effect.Byte b) s p all le = all
effect-all (effect.Code c) s p all le = all
effect-all d s p all le = all

follow-written : (x : Target) (s n : Listing) (k p : ℕ) → OwesNext x k → length s.text + k ≤ p → AllWithin p s.elements → list_follow x s ≡ Ok n
    → Written n p
follow-written (target.To m) s n k p owes le all is =
    let same : record s { mode = m } ≡ n = cc in
    subst (λ l. Written l p) same (record { spare = k; fits = le; owes = owes; all = all })
follow-written target.Deeper s n k p owes le all is =
    let same : record s { mode = Braced; depth = s.depth + 1 } ≡ n = cc in
    subst (λ l. Written l p) same (record { spare = k; fits = le; owes = tt; all = all })
follow-written target.Shallower s n k p owes le all is =
    let same : record s { mode = Braced; depth = s.depth - 1 } ≡ n = cc in
    subst (λ l. Written l p) same (record { spare = k; fits = le; owes = tt; all = all })
follow-written x s n k p owes le all is = absurd cc

step-written : (s n : Listing) (b p : ℕ) → Written s p → list_step s b ≡ Ok n → Written n (p + 1)
unfolding list_step
step-written s n b p w is =
    let t : Transition = list_transition (nat_lt 0 s.depth) s.mode (class_of b) b in
    let f : Fine w.spare t = transition-fine w.spare (nat_lt 0 s.depth) s.mode (class_of b) b w.owes in
    let one : Listing = list_effect t.first s in
    follow-written t.next (list_effect t.second one) n f.spare (p + 1) f.owes
    (omega (arith, effect-text t.second one, effect-text t.first s, f.fits, w.fits))
    (effect-all t.second one (p + 1) (effect-all t.first s (p + 1) (all-later p (p + 1) s.elements (omega arith) w.all) (omega (arith, w.fits)))
    (omega (arith, effect-text t.first s, f.fits, w.fits)))
    is

-- what the end of the text writes
abbrev EndsWithin : ℕ → Ending → Type 0
EndsWithin k (ending.Word d e) = effect_size d + effect_size e ≤ k
EndsWithin k x = Unit {0}

context-ends : (k : ℕ) (s : Context) (d : Effect) → effect_size d ≤ k → EndsWithin k (list_context_ends s d)
context-ends k Quoted d le = tt
context-ends k s d le = omega (arith, le)

number-ends : (k : ℕ) (s : Context) (o : Option Effect) → ((d : Effect) → o ≡ Some d → effect_size d ≤ k) → EndsWithin k (list_number_ends s o)
number-ends k s (Some d) size = context-ends k s d (size d refl)
number-ends k Quoted None size = tt
number-ends k s None size = tt

ends-within : (k : ℕ) (m : Mode) → Owes m k → EndsWithin k (list_ends m)
unfolding list_ends
ends-within k (In s) owes = context-ends k s effect.Nothing (omega arith)
ends-within k (Pair s) owes = context-ends k s (effect.Byte 92) owes
ends-within k (Join s) owes = context-ends k s effect.Nothing (omega arith)
ends-within k (Number s n) owes = number-ends k s (whole n) (λ d is. whole-size n k d owes is)
ends-within k Braced owes = tt
ends-within k BracedPair owes = tt
ends-within k m owes = tt

ended-within : (x : Ending) (s : Listing) (p : ℕ) (es : List (List ℕ)) (w : Written s p) → EndsWithin w.spare x → list_ended x s ≡ Ok es → AllWithin p es
ended-within (ending.Word d e) s p es w size is =
    let one : Listing = list_effect d s in
    let two : Listing = list_effect e one in
    let same : (list_effect effect.Word two).elements ≡ es = cc in
    subst (AllWithin p) same
    (effect-all effect.Word two p
    (effect-all e one p (effect-all d s p w.all (omega (arith, w.fits))) (omega (arith, effect-text d s, size, w.fits)))
    (omega (arith, effect-text e one, effect-text d s, size, w.fits)))
ended-within ending.Done s p es w size is = let same : s.elements ≡ es = cc in subst (AllWithin p) same w.all
ended-within (ending.Bad f) s p es w size is = absurd cc

stop-within : (s : Listing) (p : ℕ) (es : List (List ℕ)) → Written s p → list_stop s ≡ Ok es → AllWithin p es
unfolding list_stop
stop-within s p es w is = ended-within (list_ends s.mode) s p es w (ends-within w.spare s.mode w.owes) is

stopped-ok : (r : Result (List (List ℕ)) WordFault) (at : ℕ) (es : List (List ℕ)) → list_stopped r at ≡ Ok es → r ≡ Ok es
stopped-ok (Ok xs) at es is = cc
stopped-ok (Err f) at es is = absurd cc

read-within : (bs : List ℕ) (s : Listing) (p at : ℕ) (es : List (List ℕ)) → Written s p → list_read bs s at ≡ Ok es → AllWithin (p + length bs) es
unfolding list_read
read-within [] s p at es w is = all-later p (p + 0) es (omega arith) (stop-within s p es w (stopped-ok (list_stop s) at es is))
read-within (b ∷ bs) s p at es w is = go (list_step s b) refl (λ n here so. read-within bs n (p + 1) (at + 1) es here so) is
  where
    go : (r : Result Listing WordFault) → list_step s b ≡ r
        → ((n : Listing) → Written n (p + 1) → list_read bs n (at + 1) ≡ Ok es → AllWithin (p + 1 + length bs) es)
        → list_onward r at (λ n. list_read bs n (at + 1)) ≡ Ok es → AllWithin (p + length (b ∷ bs)) es
    go (Ok n) steps more so =
        all-later (p + 1 + length bs) (p + length (b ∷ bs)) es (omega arith) (more n (step-written s n b p w steps) so)
    go (Err f) steps more so = absurd cc

placed-ok : (r : Elements) (es : List (List ℕ)) → or_message (without_place r) ≡ Ok es → r ≡ Ok es
placed-ok (Ok xs) es is = cc
placed-ok (Err f) es is = absurd cc

within-short : (es : List (List ℕ)) (n : ℕ) → n ≤ 1048576 → AllWithin n es → AreShort es
within-short es n le all = all-later n 1048576 es le all

pub elements-short : (text : List ℕ) (es : List (List ℕ)) → list_in text ≡ Ok es → IsShort text → AreShort es
unfolding list_in elements_of
elements-short text es is fits =
    within-short es (0 + length text) (omega (arith, fits))
    (read-within text unread 0 0 es (record { spare = 0; fits = omega arith; owes = tt; all = tt }) (placed-ok (list_read text unread 0) es is))
