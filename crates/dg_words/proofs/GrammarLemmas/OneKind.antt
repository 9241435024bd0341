-- Of what may be wrong at a place of words, one is.
use Rattle.std.specs.Prelude.{◌≡◌, ◌≢◌, ℕ, suc, ◌+◌, ◌≤◌, List, [], ◌∷◌, ◌++◌, length, refl, true, false, ◌⊎◌}
use Rattle.std.proofs.Common.{inl, inr, ◌∙◌, ap, sym, arith, subst, append_assoc, length-append}
use lib.Utf8.{scalar}
use Rattle.dg_lists.specs.declared.fault.WordFault.{WordFault}
use Rattle.dg_lists.specs.declared.fault.WordFault.TheVariants as fault
use Rattle.dg_lists.specs.declared.kinds.Delimiter.{Delimiter}
use Rattle.dg_lists.specs.declared.kinds.Delimiter.TheVariants as delimiter
use Rattle.dg_lists.specs.declared.kinds.Escape.{Escape}
use Rattle.dg_lists.specs.declared.kinds.Escape.TheVariants.{Octal, Byte, Short, Long}
use Rattle.dg_words.specs.declared.kinds.Level.TheVariants as level
use Rattle.dg_lists.specs.Classes.{class_of}
use Rattle.dg_lists.specs.Transitions.{digits_of, letter_of}
use Rattle.dg_words.specs.Transitions.{after}
use Rattle.dg_words.specs.Grammar.Ends.{Open, missing}
use Rattle.dg_lists.specs.Grammar.Escapes.{each, value_from}
use Rattle.dg_words.specs.Grammar.Saying.{EndsWord, IsWrong, OpensNothing, TooMany, Unwritten, is_hex}
use Rattle.dg_words.specs.Grammar.Words.{Parted, ends_word}
use Rattle.dg_lists.proofs.GrammarLemmas.Endable.{dot_is}
use Rattle.dg_words.proofs.GrammarLemmas.Inmost.{IsMissing}
use Rattle.dg_words.proofs.GrammarLemmas.InOrder.{same_open}
use Rattle.dg_lists.proofs.GrammarLemmas.ListRead.{backslash_is}
use Rattle.dg_lists.proofs.GrammarLemmas.Places.{same_front, same_head, same_tail}
use Rattle.dg_lists.proofs.GrammarLemmas.Numbers.{and_left, and_right}
use Rattle.dg_words.proofs.GrammarLemmas.Trails.{mark}

-- the byte before a place
record Last (x : ℕ) (text : List ℕ) (place : ℕ) : Type 0 where
  front : List ℕ
  rest : List ℕ
  split : text ≡ front ++ x ∷ rest
  place_is : place ≡ length front + 1

same_last : (x y : ℕ) (text : List ℕ) (place : ℕ) (v : Last x text place) (w : Last y text place) → (v.front ≡ w.front) × (x ≡ y)
same_last x y text place v w =
    let z = same_front v.front w.front (x ∷ v.rest) (y ∷ w.rest) (sym v.split ∙ w.split) (omega (arith, v.place_is, w.place_is)) in
    (z.0, same_head z.1)

-- a word's end is the byte before the place, or the one before a backslash there
data WordLast (k : ℕ) (text : List ℕ) (place : ℕ) : Type 0 where
  end : Last k text place → WordLast k text place
  slash : (before : List ℕ) (v : Last 92 text place) → v.front ≡ before ++ k ∷ [] → WordLast k text place

word_last : (Is : List ℕ → Type 0) (k : ℕ) (text : List ℕ) (place : ℕ) → EndsWord Is k text place → WordLast k text place
word_last Is k text place x = elim x.place_is [
  | inl p ↦ WordLast.end (record { front = x.before; rest = x.rest; split = x.split; place_is = p })
  | inr (p, more, e) ↦
      WordLast.slash x.before
      (record {
        front = x.before ++ k ∷ [];
        rest = more;
        split = x.split ∙ ap (λ r. x.before ++ k ∷ r) e ∙ sym (append_assoc x.before (k ∷ []) (92 ∷ more));
        place_is = omega (arith, p, length-append x.before (k ∷ []));
      }) refl
]

mark_slash : (d : Delimiter) → mark d ≡ 92 → ⊥
mark_slash delimiter.Brace e = omega (arith, e)
mark_slash delimiter.Quote e = omega (arith, e)

after_same : (d k : Delimiter) → mark d ≡ mark k → after d ≡ after k
after_same delimiter.Brace delimiter.Brace e = refl
after_same delimiter.Quote delimiter.Quote e = refl
after_same delimiter.Brace delimiter.Quote e = absurd (omega (arith, e))
after_same delimiter.Quote delimiter.Brace e = absurd (omega (arith, e))

marks : (d k : Delimiter) (text : List ℕ) (place : ℕ) → WordLast (mark d) text place → WordLast (mark k) text place → mark d ≡ mark k
marks d k text place (WordLast.end v) (WordLast.end w) = (same_last (mark d) (mark k) text place v w).1
marks d k text place (WordLast.end v) (WordLast.slash b w i) = absurd (mark_slash d (same_last (mark d) 92 text place v w).1)
marks d k text place (WordLast.slash b v i) (WordLast.end w) = absurd (mark_slash k (sym (same_last 92 (mark k) text place v w).1))
marks d k text place (WordLast.slash b v i) (WordLast.slash c w j) =
    let x : b ++ mark d ∷ [] ≡ c ++ mark k ∷ [] = sym i ∙ (same_last 92 92 text place v w).0 ∙ j in
    let l : length b ≡ length c = omega (arith, ap length x, length-append b (mark d ∷ []), length-append c (mark k ∷ [])) in
    same_head (same_front b c (mark d ∷ []) (mark k ∷ []) x l).1

-- the last of digits
last_of : (d : ℕ) (ds : List ℕ) → (es : List ℕ) × (y : ℕ) × (d ∷ ds ≡ es ++ y ∷ [])
last_of d [] = ([], d, refl)
last_of d (c ∷ ds) = let x = last_of c ds in (d ∷ x.0, x.1, ap (λ t. d ∷ t) x.2)

hex_last : (es : List ℕ) (y : ℕ) (r : List ℕ) → each is_hex (es ++ y ∷ r) ≡ true → is_hex y ≡ true
hex_last [] y r h = and_left (is_hex y) (each is_hex r) h
hex_last (e ∷ es) y r h = hex_last es y r (and_right (is_hex e) (each is_hex (es ++ y ∷ r)) h)

record NumberLast (text : List ℕ) (place : ℕ) : Type 0 where
  byte : ℕ
  is_digit : is_hex byte ≡ true
  last : Last byte text place

two_digits : (e : Escape) → e ≢ Octal → 2 ≤ digits_of e
two_digits Octal n = absurd (n refl)
two_digits Byte n = omega arith
two_digits Short n = omega arith
two_digits Long n = omega arith

zero_scalar : scalar 0 ≡ false → ⊥
zero_scalar e = absurd cc

number_split : (before : List ℕ) (l : ℕ) (es ys digits rest text : List ℕ) → text ≡ before ++ 92 ∷ l ∷ digits ++ rest → digits ≡ es ++ ys → text ≡ (before ++ 92 ∷ l ∷ es) ++ (ys ++ rest)
number_split before l es ys digits rest text t e =
    t ∙ ap (λ d. before ++ 92 ∷ l ∷ d ++ rest) e ∙ append_assoc before (92 ∷ l ∷ (es ++ ys)) rest ∙ ap (λ u. before ++ (92 ∷ l ∷ u)) (append_assoc es ys rest) ∙ sym (append_assoc before (92 ∷ l ∷ es) (ys ++ rest))

open_last : (Is : List ℕ → Type 0) (text : List ℕ) (place : ℕ) (x : Unwritten Is text place) (digits : List ℕ) → x.digits ≡ digits → place ≡ length x.before + 2 + length digits → NumberLast text place
open_last Is text place x [] e p = absurd (zero_scalar (ap (λ d. scalar (value_from 16 0 d)) (sym e) ∙ x.no_character))
open_last Is text place x (d ∷ ds) e p =
    let y = last_of d ds in
    let z = e ∙ y.2 in
    record {
      byte = y.1;
      is_digit = hex_last y.0 y.1 [] (ap (each is_hex) (sym z) ∙ x.are_digits);
      last = record {
        front = x.before ++ 92 ∷ letter_of x.escape ∷ y.0;
        rest = x.rest;
        split = number_split x.before (letter_of x.escape) y.0 (y.1 ∷ []) x.digits x.rest text x.split z;
        place_is = omega (arith, p, ap length y.2, length-append y.0 (y.1 ∷ []), length-append x.before (92 ∷ letter_of x.escape ∷ y.0));
      };
    }

-- where no more digits may follow, the last one stands at the place
record FullNumber (text : List ℕ) (place : ℕ) : Type 0 where
  front : List ℕ
  digit : ℕ
  behind : List ℕ
  is_digit : is_hex digit ≡ true
  split : text ≡ front ++ (digit ∷ behind)
  place_is : place ≡ length front
  last : NumberLast text place

full_from : (Is : List ℕ → Type 0) (text : List ℕ) (place : ℕ) (x : Unwritten Is text place) (es : List ℕ) (y z : ℕ) → x.digits ≡ es ++ y ∷ z ∷ [] → suc place ≡ length x.before + 2 + length x.digits → FullNumber text place
full_from Is text place x es y z e p =
    let l = ap length e in
    let k = length-append es (y ∷ z ∷ []) in
    let shift : es ++ y ∷ z ∷ [] ≡ (es ++ y ∷ []) ++ z ∷ [] = sym (append_assoc es (y ∷ []) (z ∷ [])) in
    record {
      front = x.before ++ 92 ∷ letter_of x.escape ∷ (es ++ y ∷ []);
      digit = z;
      behind = x.rest;
      is_digit = hex_last (es ++ y ∷ []) z [] (ap (each is_hex) (sym (e ∙ shift)) ∙ x.are_digits);
      split = number_split x.before (letter_of x.escape) (es ++ y ∷ []) (z ∷ []) x.digits x.rest text x.split (e ∙ shift);
      place_is = omega (arith, p, l, k, length-append es (y ∷ []), length-append x.before (92 ∷ letter_of x.escape ∷ (es ++ y ∷ [])));
      last = record {
        byte = y;
        is_digit = hex_last es y (z ∷ []) (ap (each is_hex) (sym e) ∙ x.are_digits);
        last = record {
          front = x.before ++ 92 ∷ letter_of x.escape ∷ es;
          rest = z ∷ x.rest;
          split = number_split x.before (letter_of x.escape) es (y ∷ z ∷ []) x.digits x.rest text x.split e;
          place_is = omega (arith, p, l, k, length-append x.before (92 ∷ letter_of x.escape ∷ es));
        };
      };
    }

full_last : (Is : List ℕ → Type 0) (text : List ℕ) (place : ℕ) (x : Unwritten Is text place) (digits : List ℕ) → x.digits ≡ digits → 2 ≤ length digits → suc place ≡ length x.before + 2 + length x.digits → FullNumber text place
full_last Is text place x [] e h p = absurd (omega (arith, h))
full_last Is text place x (d ∷ []) e h p = absurd (omega (arith, h))
full_last Is text place x (d ∷ c ∷ ds) e h p = from (last_of d (c ∷ ds))
  where
    from : ((es : List ℕ) × (y : ℕ) × (d ∷ c ∷ ds ≡ es ++ y ∷ [])) → FullNumber text place
    from ([], z, i) = let j = same_tail i in absurd cc
    from (b ∷ es, z, i) =
        let w = last_of b es in
        full_from Is text place x w.0 w.1 z (e ∙ i ∙ ap (λ t. t ++ z ∷ []) w.2 ∙ append_assoc w.0 (w.1 ∷ []) (z ∷ [])) p

full_number : (Is : List ℕ → Type 0) (text : List ℕ) (place : ℕ) (x : Unwritten Is text place) → length x.digits ≡ digits_of x.escape → suc place ≡ length x.before + 2 + length x.digits → FullNumber text place
full_number Is text place x f p = full_last Is text place x x.digits refl (omega (arith, f, two_digits x.escape x.by_letter)) p

number_last : (Is : List ℕ → Type 0) (text : List ℕ) (place : ℕ) → Unwritten Is text place → NumberLast text place
number_last Is text place x = elim x.place_is [ inl (h, p) ↦ open_last Is text place x x.digits refl p | inr (f, p) ↦ (full_number Is text place x f p).last ]

no_hex_mark : (d : Delimiter) → is_hex (mark d) ≡ true → ⊥
no_hex_mark delimiter.Brace e = absurd cc
no_hex_mark delimiter.Quote e = absurd cc

no_hex_slash : is_hex 92 ≡ true → ⊥
no_hex_slash e = absurd cc

word_number : (d : Delimiter) (text : List ℕ) (place : ℕ) → WordLast (mark d) text place → NumberLast text place → ⊥
word_number d text place (WordLast.end v) n = no_hex_mark d (subst (λ b. is_hex b ≡ true) (sym (same_last (mark d) n.byte text place v n.last).1) n.is_digit)
word_number d text place (WordLast.slash b v i) n = no_hex_slash (subst (λ b. is_hex b ≡ true) (sym (same_last 92 n.byte text place v n.last).1) n.is_digit)

-- what parts words, by its first byte
parts_by : (t : List ℕ) → Parted level.Inside t → (b : ℕ) (bs : List ℕ) → t ≡ b ∷ bs → (ends_word level.Inside (class_of b) ≡ true) ⊎ ((b ≡ 92) × (r : List ℕ) × (bs ≡ 10 ∷ r))
parts_by t Parted.at_end b bs e = absurd cc
parts_by t (Parted.at_byte c h) b bs e = inl (subst (λ x. ends_word level.Inside (class_of x) ≡ true) (same_head e) h)
parts_by t (Parted.at_joined_line {t = r}) b bs e = inr (sym (same_head e), r, sym (same_tail e))

dot_parts : (more : List ℕ) → Parted level.Inside (46 ∷ more) → ⊥
dot_parts more h = elim (parts_by (46 ∷ more) h 46 more refl) [
  | inl e ↦ let x = ap (ends_word level.Inside) (sym dot_is) ∙ e in absurd cc
  | inr (e, r, i) ↦ omega (arith, e)
]

slash_parts : (more : List ℕ) → Parted level.Inside (92 ∷ 46 ∷ more) → ⊥
slash_parts more h = elim (parts_by (92 ∷ 46 ∷ more) h 92 (46 ∷ more) refl) [
  | inl e ↦ let x = ap (ends_word level.Inside) (sym backslash_is) ∙ e in absurd cc
  | inr (e, r, i) ↦ let x : 46 ≡ 10 = same_head i in omega (arith, x)
]

many_word : (Is : List ℕ → Type 0) (k b : ℕ) (text : List ℕ) (place : ℕ) → EndsWord Is k text place → TooMany Is b text place → ⊥
many_word Is k b text place x y = elim x.place_is [
  | inl p ↦
      let z = same_front (x.before ++ k ∷ []) y.front x.rest (b ∷ y.rest) (append_assoc x.before (k ∷ []) x.rest ∙ sym x.split ∙ y.split) (omega (arith, p, y.place_is, length-append x.before (k ∷ []))) in
      dot_parts y.more (x.is_parted (46 ∷ y.more) (subst Is (ap (λ t. t ++ 46 ∷ y.more) (sym z.0) ∙ append_assoc x.before (k ∷ []) (46 ∷ y.more)) y.is_such))
  | inr (p, more, e) ↦
      let z = same_front (x.before ++ k ∷ 92 ∷ []) y.front more (b ∷ y.rest) (append_assoc x.before (k ∷ 92 ∷ []) more ∙ ap (λ r. x.before ++ k ∷ r) (sym e) ∙ sym x.split ∙ y.split)
      (omega (arith, p, y.place_is, length-append x.before (k ∷ 92 ∷ []))) in
      slash_parts y.more (x.is_parted (92 ∷ 46 ∷ y.more) (subst Is (ap (λ t. t ++ 46 ∷ y.more) (sym z.0) ∙ append_assoc x.before (k ∷ 92 ∷ []) (46 ∷ y.more)) y.is_such))
]

-- a byte that opens is no digit
many_number : (Is : List ℕ → Type 0) (b : ℕ) (text : List ℕ) (place : ℕ) → (is_hex b ≡ true → ⊥) → Unwritten Is text place → TooMany Is b text place → ⊥
many_number Is b text place n x y = elim x.place_is [
  | inl (h, p) ↦
      let past = x.before ++ 92 ∷ letter_of x.escape ∷ x.digits in
      let z = same_front past y.front x.rest (b ∷ y.rest) (sym x.split ∙ y.split) (omega (arith, p, y.place_is, length-append x.before (92 ∷ letter_of x.escape ∷ x.digits))) in
      let w = x.unfinished (46 ∷ y.more) (subst Is (ap (λ t. t ++ 46 ∷ y.more) (sym z.0)) y.is_such) in
      dot_hex w.1
  | inr (f, p) ↦
      let v = full_number Is text place x f p in
      let z = same_front v.front y.front (v.digit ∷ v.behind) (b ∷ y.rest) (sym v.split ∙ y.split) (omega (arith, v.place_is, y.place_is)) in
      n (subst (λ c. is_hex c ≡ true) (same_head z.1) v.is_digit)
]
  where
    dot_hex : is_hex 46 ≡ true → ⊥
    dot_hex e = absurd cc

-- what is wrong, by what shows it
abbrev Opens : WordFault → ℕ → Type 0
Opens fault.MissingBracket k = k ≡ 91
Opens fault.MissingParen k = k ≡ 40
Opens f k = ⊥

data Kind (Is : List ℕ → Type 0) (text : List ℕ) (place : ℕ) (f : WordFault) : Type 0 where
  lacks : (k : ℕ) (ks : List ℕ) → IsMissing f k → place ≡ length text → Open Is text (k ∷ ks) → Kind Is text place f
  many : (k : ℕ) → Opens f k → TooMany Is k text place → Kind Is text place f
  word : (d : Delimiter) → f ≡ after d → EndsWord Is (mark d) text place → OpensNothing Is text place → Kind Is text place f
  number : f ≡ fault.BadCodePoint → Unwritten Is text place → OpensNothing Is text place → Kind Is text place f

kind : (Is : List ℕ → Type 0) (text : List ℕ) (place : ℕ) (f : WordFault) → IsWrong Is f text place → Kind Is text place f
kind Is text place fault.MissingBrace h = Kind.lacks 125 h.1 refl h.0 h.2
kind Is text place fault.MissingQuote h = Kind.lacks 34 h.1 refl h.0 h.2
kind Is text place fault.MissingBracket (inl h) = Kind.lacks 93 h.1 refl h.0 h.2
kind Is text place fault.MissingBracket (inr h) = Kind.many 91 refl h
kind Is text place fault.MissingParen (inl h) = Kind.lacks 41 h.1 refl h.0 h.2
kind Is text place fault.MissingParen (inr h) = Kind.many 40 refl h
kind Is text place fault.AfterBrace h = Kind.word delimiter.Brace refl h.0 h.1
kind Is text place fault.AfterQuote h = Kind.word delimiter.Quote refl h.0 h.1
kind Is text place fault.BadCodePoint h = Kind.number refl h.0 h.1
kind Is text place f h = absurd h

pub is_missing : (f : WordFault) (k : ℕ) → IsMissing f k → missing k ≡ f
is_missing fault.MissingBrace k e = ap missing e
is_missing fault.MissingQuote k e = ap missing e
is_missing fault.MissingBracket k e = ap missing e
is_missing fault.MissingParen k e = ap missing e
is_missing f k e = absurd e

opens_same : (f g : WordFault) (k j : ℕ) → Opens f k → Opens g j → k ≡ j → f ≡ g
opens_same fault.MissingBracket fault.MissingBracket k j x y e = refl
opens_same fault.MissingParen fault.MissingParen k j x y e = refl
opens_same fault.MissingBracket fault.MissingParen k j x y e = absurd (omega (arith, x, y, e))
opens_same fault.MissingParen fault.MissingBracket k j x y e = absurd (omega (arith, x, y, e))
opens_same fault.MissingBracket g k j x y e = absurd y
opens_same fault.MissingParen g k j x y e = absurd y
opens_same f g k j x y e = absurd x

no_hex : (f : WordFault) (k : ℕ) → Opens f k → is_hex k ≡ true → ⊥
no_hex fault.MissingBracket k x h = let y = ap is_hex (sym x) ∙ h in absurd cc
no_hex fault.MissingParen k x h = let y = ap is_hex (sym x) ∙ h in absurd cc
no_hex f k x h = x

lacks_many : (Is : List ℕ → Type 0) (text : List ℕ) (place k : ℕ) → place ≡ length text → TooMany Is k text place → ⊥
lacks_many Is text place k e x = omega (arith, e, x.place_is, ap length x.split, length-append x.front (k ∷ x.rest))

lacks_nothing : (Is : List ℕ → Type 0) (text : List ℕ) (place k : ℕ) (ks : List ℕ) → place ≡ length text → Open Is text (k ∷ ks) → OpensNothing Is text place → ⊥
lacks_nothing Is text place k ks e x o = let y = same_open Is text (k ∷ ks) [] x (o e) in absurd cc

one : (Is : List ℕ → Type 0) (text : List ℕ) (place : ℕ) (f g : WordFault) → Kind Is text place f → Kind Is text place g → f ≡ g
one Is text place f g (Kind.lacks k ks i e x) (Kind.lacks j js h d y) = sym (is_missing f k i) ∙ ap missing (same_head (same_open Is text (k ∷ ks) (j ∷ js) x y)) ∙ is_missing g j h
one Is text place f g (Kind.lacks k ks i e x) (Kind.many j h y) = absurd (lacks_many Is text place j e y)
one Is text place f g (Kind.lacks k ks i e x) (Kind.word d h y o) = absurd (lacks_nothing Is text place k ks e x o)
one Is text place f g (Kind.lacks k ks i e x) (Kind.number h y o) = absurd (lacks_nothing Is text place k ks e x o)
one Is text place f g (Kind.many k i x) (Kind.lacks j js h d y) = absurd (lacks_many Is text place k d x)
one Is text place f g (Kind.many k i x) (Kind.many j h y) =
    let z = same_front x.front y.front (k ∷ x.rest) (j ∷ y.rest) (sym x.split ∙ y.split) (omega (arith, x.place_is, y.place_is)) in
    opens_same f g k j i h (same_head z.1)
one Is text place f g (Kind.many k i x) (Kind.word d h y o) = absurd (many_word Is (mark d) k text place y x)
one Is text place f g (Kind.many k i x) (Kind.number h y o) = absurd (many_number Is k text place (no_hex f k i) y x)
one Is text place f g (Kind.word d i x p) (Kind.lacks j js h e y) = absurd (lacks_nothing Is text place j js e y p)
one Is text place f g (Kind.word d i x p) (Kind.many j h y) = absurd (many_word Is (mark d) j text place x y)
one Is text place f g (Kind.word d i x p) (Kind.word k h y o) = i ∙ after_same d k (marks d k text place (word_last Is (mark d) text place x) (word_last Is (mark k) text place y)) ∙ sym h
one Is text place f g (Kind.word d i x p) (Kind.number h y o) = absurd (word_number d text place (word_last Is (mark d) text place x) (number_last Is text place y))
one Is text place f g (Kind.number i x p) (Kind.lacks j js h e y) = absurd (lacks_nothing Is text place j js e y p)
one Is text place f g (Kind.number i x p) (Kind.many j h y) = absurd (many_number Is j text place (no_hex g j h) x y)
one Is text place f g (Kind.number i x p) (Kind.word k h y o) = absurd (word_number k text place (word_last Is (mark k) text place y) (number_last Is text place x))
one Is text place f g (Kind.number i x p) (Kind.number h y o) = i ∙ sym h

pub one_kind : (Is : List ℕ → Type 0) (text : List ℕ) (place : ℕ) (f g : WordFault) → IsWrong Is f text place → IsWrong Is g text place → f ≡ g
one_kind Is text place f g x y = one Is text place f g (kind Is text place f x) (kind Is text place g y)
