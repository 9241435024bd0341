-- A text that is read as a list spells it.
use Rattle.std.specs.Prelude.{◌≡◌, ◌≢◌, ℕ, zero, suc, ◌+◌, ◌-◌, ◌≤◌, List, [], ◌∷◌, ◌++◌, refl, Ok, Err, Result, Bool, true, false, Option, None, Some, cond, nat_lt, ◌==◌}
use Rattle.std.proofs.Common.{◌∙◌, ap, sym, arith, subst, append_assoc}
use Rattle.std.proofs.lemmas.List.{append-nil}
use Rattle.std.proofs.lemmas.Bool.{eqb-true, eqb-false}
use Rattle.dg_lists.specs.declared.fault.WordFault.{WordFault}
use Rattle.dg_lists.specs.declared.fault.WordFault.TheVariants.{BadCodePoint, ListAfter}
use Rattle.dg_lists.specs.declared.kinds.Class.{Class}
use Rattle.dg_lists.specs.declared.kinds.Class.TheVariants as class
use Rattle.dg_lists.specs.declared.kinds.Digits as kinds
use Rattle.dg_lists.specs.declared.kinds.Effect.{Effect}
use Rattle.dg_lists.specs.declared.kinds.Effect.TheVariants as effect
use Rattle.dg_lists.specs.declared.kinds.Delimiter.TheVariants as delimiter
use Rattle.dg_lists.specs.declared.kinds.Escape.{Escape}
use Rattle.dg_lists.specs.declared.kinds.Escape.TheVariants.{Octal}
use Rattle.dg_lists.specs.declared.kinds.Mode.{Mode}
use Rattle.dg_lists.specs.declared.kinds.Mode.TheVariants.{Gap, In, Pair, Join, Number, Braced, BracedPair, Behind}
use Rattle.dg_lists.specs.declared.kinds.Target.TheVariants as target
use Rattle.dg_lists.specs.declared.kinds.Context.TheVariants.{Bare, Quoted}
use Rattle.dg_lists.specs.declared.kinds.Transition.{Transition}
use Rattle.dg_lists.specs.Classes.{class_of}
use Rattle.dg_lists.specs.Transitions.{base_of, behind_number, digits_of, does, escaped, goes, is_space, letter_of, most_of, puts, whole, with_digit, written}
use Rattle.dg_lists.specs.Elements.{Listing, Elements, elements_of, list_ended, list_ends, list_number_ends, list_numbered, list_onward, list_read, list_context, list_step, list_stop, list_stopped, list_transition, unread, without_place}
use Rattle.dg_lists.specs.Grammar.Escapes as spec
use Rattle.dg_lists.specs.Grammar.Escapes.{Digits, Escaped, NumberWrites, Spaces, stands_for, value_from}
use Rattle.dg_lists.specs.Grammar.Lists as lists
use Rattle.dg_lists.specs.Grammar.Lists.{parts, is_blank, plain_bare, plain_quoted, plain_braced, begins, BeginsElement, Parted, Inside, Element, ListOf}
use Rattle.dg_lists.proofs.GrammarLemmas.Numbers.{and_both, Paired, paired, no_digits, no_room, more_digits, digit_some, was_written, octal_small, some_effect, number, bytes_of, IsWriting, whole_behind, some_digits, next_value}
use Rattle.dg_lists.proofs.GrammarLemmas.Bytes.{is_class}
use Rattle.dg_lists.proofs.GrammarLemmas.ListRead.{at, backslash_is, bare_blank, begin_pair, begin_plain, behind_blank, blank_step, braced_pair_transition, close_is, closes, deeper_transition, digit_transition, ends_behind, escaped_step, gap_stop, join_step, join_stop, joined_step, last_step, left, left_less, left_most, letter_whole, more_step, number_step, number_stop, open_is, pair_step, paired_transition, plain_braced_transition, plain_in, plain_step, read_end, read_step, space_step, context, step_by, unparted}

value_of : Elements → List (List ℕ)
value_of (Ok xs) = xs
value_of (Err e) = []

ok_same : {xs ys : List (List ℕ)} → ◌≡◌ {A = Elements} (Ok xs) (Ok ys) → xs ≡ ys
unfolding value_of
ok_same {xs} {ys} e = ap value_of e

-- what was read goes on from the next state
read_next : (s n : Listing) (b : ℕ) (bs : List ℕ) (p : ℕ) (xs : List (List ℕ)) → list_step s b ≡ Ok n → list_read (b ∷ bs) s p ≡ Ok xs → list_read bs n (p + 1) ≡ Ok xs
unfolding list_read
read_next s n b bs p xs e h = sym (ap (λ r. list_onward r p (λ m. list_read bs m (p + 1))) e) ∙ h

read_fails : (s : Listing) (b : ℕ) (bs : List ℕ) (p : ℕ) (xs : List (List ℕ)) (f : WordFault) → list_step s b ≡ Err f → list_read (b ∷ bs) s p ≡ Ok xs → ⊥
unfolding list_read
read_fails s b bs p xs f e h = let x = sym (ap (λ r. list_onward r p (λ m. list_read bs m (p + 1))) e) ∙ h in absurd cc

-- what comes behind the inside of an element
abbrev Follows : Bool → List ℕ → List (List ℕ) → Type 0
Follows false after vs = Parted after × ListOf after vs
Follows true after vs = (rest : List ℕ) × (after ≡ 34 ∷ rest) × Parted rest × ListOf rest vs

-- The rest of an element whose value so far is w, and the elements behind it.
record Rests (q : Bool) (ys : List (List ℕ)) (w t : List ℕ) (xs : List (List ℕ)) : Type 0 where
  inner : List ℕ
  value : List ℕ
  after : List ℕ
  further : List (List ℕ)
  split : t ≡ inner ++ after
  inside : Inside (plain_in q) after inner value
  follows : Follows q after further
  whole : xs ≡ ys ++ (w ++ value) ∷ further

-- the rest of a list
abbrev Behinds : List (List ℕ) → List ℕ → List (List ℕ) → Type 0
Behinds ys t xs = (vs : List (List ℕ)) × ListOf t vs × (xs ≡ ys ++ vs)

-- the rest of a braced element in which so many braces are open
abbrev Closes : ℕ → List (List ℕ) → List ℕ → List ℕ → List (List ℕ) → Type 0
Closes zero ys w t xs = (u : List ℕ) × (rest : List ℕ) × (t ≡ u ++ 125 ∷ rest) × lists.Braced u × Parted rest × Behinds (ys ++ (w ++ u) ∷ []) rest xs
Closes (suc d) ys w t xs = (u : List ℕ) × (rest : List ℕ) × (t ≡ u ++ 125 ∷ rest) × lists.Braced u × Closes d ys (w ++ u ++ 125 ∷ []) rest xs

abbrev Joins : Bool → List (List ℕ) → List ℕ → List ℕ → List (List ℕ) → Type 0
Joins q ys w t xs = (g : List ℕ) × (u : List ℕ) × (t ≡ g ++ u) × Spaces g u × Rests q ys w u xs

-- the rest of a number
record Numbers (q : Bool) (n : kinds.Digits) (ys : List (List ℕ)) (w t : List ℕ) (xs : List (List ℕ)) : Type 0 where
  digits : List ℕ
  rest : List ℕ
  effect : Effect
  split : t ≡ digits ++ rest
  they : Digits n.escape n.left n.value digits rest
  is : whole (number n.escape (left n.left digits) (value_from (base_of n.escape) n.value digits)) ≡ Some effect
  writing : IsWriting effect
  rests : Rests q ys (w ++ bytes_of effect) rest xs

abbrev Claim : Mode → ℕ → List (List ℕ) → List ℕ → List ℕ → List (List ℕ) → Type 0
Claim Gap d ys w t xs = d ≡ 0 → w ≡ [] → Behinds ys t xs
Claim (In Bare) d ys w t xs = d ≡ 0 → Rests false ys w t xs
Claim (In Quoted) d ys w t xs = d ≡ 0 → Rests true ys w t xs
Claim (Pair Bare) d ys w t xs = d ≡ 0 → Rests false ys w (92 ∷ t) xs
Claim (Pair Quoted) d ys w t xs = d ≡ 0 → Rests true ys w (92 ∷ t) xs
Claim (Join Bare) d ys w t xs = d ≡ 0 → Joins false ys w t xs
Claim (Join Quoted) d ys w t xs = d ≡ 0 → Joins true ys w t xs
Claim (Number Bare n) d ys w t xs = d ≡ 0 → n.value ≤ most_of n.escape → Numbers false n ys w t xs
Claim (Number Quoted n) d ys w t xs = d ≡ 0 → n.value ≤ most_of n.escape → Numbers true n ys w t xs
Claim Braced d ys w t xs = Closes d ys w t xs
Claim BracedPair d ys w t xs = (b : ℕ) × (u : List ℕ) × (t ≡ b ∷ u) × Closes d ys (w ++ b ∷ []) u xs
Claim (Behind l) d ys w t xs = d ≡ 0 → w ≡ [] → Parted t × Behinds ys t xs
Claim m d ys w t xs = Unit {0}

-- what holds of the text behind a byte
abbrev Rec : List ℕ → List (List ℕ) → Type 0
Rec t xs = (m : Mode) (d : ℕ) (ys : List (List ℕ)) (w : List ℕ) (p : ℕ) → list_read t (at ys m d w) p ≡ Ok xs → Claim m d ys w t xs

rec_in : (q : Bool) (t : List ℕ) (xs ys : List (List ℕ)) (w : List ℕ) (p : ℕ) → Rec t xs → list_read t (at ys (In (context q)) 0 w) p ≡ Ok xs → Rests q ys w t xs
rec_in true t xs ys w p rec h = rec (In Quoted) 0 ys w p h refl
rec_in false t xs ys w p rec h = rec (In Bare) 0 ys w p h refl

rec_pair : (q : Bool) (t : List ℕ) (xs ys : List (List ℕ)) (w : List ℕ) (p : ℕ) → Rec t xs → list_read t (at ys (Pair (context q)) 0 w) p ≡ Ok xs → Rests q ys w (92 ∷ t) xs
rec_pair true t xs ys w p rec h = rec (Pair Quoted) 0 ys w p h refl
rec_pair false t xs ys w p rec h = rec (Pair Bare) 0 ys w p h refl

rec_join : (q : Bool) (t : List ℕ) (xs ys : List (List ℕ)) (w : List ℕ) (p : ℕ) → Rec t xs → list_read t (at ys (Join (context q)) 0 w) p ≡ Ok xs → Joins q ys w t xs
rec_join true t xs ys w p rec h = rec (Join Quoted) 0 ys w p h refl
rec_join false t xs ys w p rec h = rec (Join Bare) 0 ys w p h refl

rec_number : (q : Bool) (n : kinds.Digits) (t : List ℕ) (xs ys : List (List ℕ)) (w : List ℕ) (p : ℕ) → Rec t xs → n.value ≤ most_of n.escape →
    list_read t (at ys (Number (context q) n) 0 w) p ≡ Ok xs → Numbers q n ys w t xs
rec_number true n t xs ys w p rec m h = rec (Number Quoted n) 0 ys w p h refl m
rec_number false n t xs ys w p rec m h = rec (Number Bare n) 0 ys w p h refl m

-- a blank before a list
list_blank : (b : ℕ) (t : List ℕ) (vs : List (List ℕ)) → is_blank b ≡ true → ListOf t vs → ListOf (b ∷ t) vs
list_blank b t vs e (lists.ListOf.no_elements g h) = lists.ListOf.no_elements (b ∷ g) (and_both _ _ e h)
list_blank b t vs e (lists.ListOf.element g h i d l) = lists.ListOf.element (b ∷ g) (and_both _ _ e h) i d l

-- one byte more
rests_byte : (q : Bool) (ys : List (List ℕ)) (w : List ℕ) (b : ℕ) (bs : List ℕ) (xs : List (List ℕ)) → plain_in q (class_of b) ≡ true → Rests q ys (w ++ b ∷ []) bs xs → Rests q ys w (b ∷ bs) xs
rests_byte q ys w b bs xs h r = record {
  inner = b ∷ r.inner;
  value = b ∷ r.value;
  after = r.after;
  further = r.further;
  split = ap (λ x. b ∷ x) r.split;
  inside = lists.Inside.byte b h r.inside;
  follows = r.follows;
  whole = r.whole ∙ ap (λ x. ys ++ x ∷ r.further) (append_assoc w (b ∷ []) r.value);
}

rests_escape : (q : Bool) (ys : List (List ℕ)) (w e out u : List ℕ) (xs : List (List ℕ)) → Escaped u e out → Rests q ys (w ++ out) u xs → Rests q ys w (92 ∷ e ++ u) xs
rests_escape q ys w e out u xs h r = record {
  inner = 92 ∷ e ++ r.inner;
  value = out ++ r.value;
  after = r.after;
  further = r.further;
  split = ap (λ x. 92 ∷ x) (ap (λ x. e ++ x) r.split ∙ sym (append_assoc e r.inner r.after));
  inside = lists.Inside.escape e out (subst (λ x. Escaped x e out) r.split h) r.inside;
  follows = r.follows;
  whole = r.whole ∙ ap (λ x. ys ++ x ∷ r.further) (append_assoc w out r.value);
}

rests_joined : (q : Bool) (ys : List (List ℕ)) (w t : List ℕ) (xs : List (List ℕ)) → Joins q ys (w ++ 32 ∷ []) t xs → Rests q ys w (92 ∷ 10 ∷ t) xs
rests_joined q ys w t xs (g, u, e, s, r) = record {
  inner = 92 ∷ 10 ∷ g ++ r.inner;
  value = 32 ∷ r.value;
  after = r.after;
  further = r.further;
  split = ap (λ x. 92 ∷ 10 ∷ x) (e ∙ ap (λ x. g ++ x) r.split ∙ sym (append_assoc g r.inner r.after));
  inside = lists.Inside.joined_line g (subst (λ x. Spaces g x) r.split s) r.inside;
  follows = r.follows;
  whole = r.whole ∙ ap (λ x. ys ++ x ∷ r.further) (append_assoc w (32 ∷ []) r.value);
}

rests_none : (q : Bool) (ys : List (List ℕ)) (w after : List ℕ) (vs xs : List (List ℕ)) → Follows q after vs → xs ≡ ys ++ w ∷ vs → Rests q ys w after xs
rests_none q ys w after vs xs f e = record {
  inner = [];
  value = [];
  after = after;
  further = vs;
  split = refl;
  inside = lists.Inside.nothing;
  follows = f;
  whole = e ∙ ap (λ x. ys ++ x ∷ vs) (sym (append-nil w));
}

-- in an element
quote_ends : (b : ℕ) → list_transition false (In Quoted) class.Quote b ≡ does effect.Word (target.To (Behind delimiter.Quote))
unfolding list_transition
quote_ends b = refl

plain_case : (q : Bool) (b : ℕ) (bs : List ℕ) (xs ys : List (List ℕ)) (w : List ℕ) (p : ℕ) → plain_in q (class_of b) ≡ true → Rec bs xs → list_read (b ∷ bs) (at ys (In (context q)) 0 w) p ≡ Ok xs → Rests q ys w (b ∷ bs) xs
plain_case q b bs xs ys w p e rec h = rests_byte q ys w b bs xs e (rec_in q bs xs ys (w ++ b ∷ []) (p + 1) rec (read_next _ _ b bs p xs (plain_step ys q w b e) h))

pair_case : (q : Bool) (b : ℕ) (bs : List ℕ) (xs ys : List (List ℕ)) (w : List ℕ) (p : ℕ) → b ≡ 92 → Rec bs xs → list_read (b ∷ bs) (at ys (In (context q)) 0 w) p ≡ Ok xs → Rests q ys w (b ∷ bs) xs
pair_case q b bs xs ys w p e rec h =
    subst (λ x. Rests q ys w (x ∷ bs) xs) (sym e)
    (rec_pair q bs xs ys w (p + 1) rec (read_next _ _ 92 bs p xs (pair_step ys q w) (subst (λ x. list_read (x ∷ bs) (at ys (In (context q)) 0 w) p ≡ Ok xs) e h)))

blank_case : (b : ℕ) (bs : List ℕ) (xs ys : List (List ℕ)) (w : List ℕ) (p : ℕ) → is_blank b ≡ true → Rec bs xs → list_read (b ∷ bs) (at ys (In Bare) 0 w) p ≡ Ok xs → Rests false ys w (b ∷ bs) xs
blank_case b bs xs ys w p e rec h =
    let r : Behinds (ys ++ w ∷ []) bs xs = rec Gap 0 (ys ++ w ∷ []) [] (p + 1) (read_next _ _ b bs p xs (step_by (at ys (In Bare) 0 w) b (class_of b) _ refl (bare_blank (class_of b) b e)) h) refl refl in
    rests_none false ys w (b ∷ bs) r.0 xs (e, list_blank b bs r.0 e r.1) (r.2 ∙ append_assoc ys (w ∷ []) r.0)

quote_case : (b : ℕ) (bs : List ℕ) (xs ys : List (List ℕ)) (w : List ℕ) (p : ℕ) → class_of b ≡ class.Quote → Rec bs xs → list_read (b ∷ bs) (at ys (In Quoted) 0 w) p ≡ Ok xs → Rests true ys w (b ∷ bs) xs
quote_case b bs xs ys w p e rec h =
    let r : Parted bs × Behinds (ys ++ w ∷ []) bs xs =
    rec (Behind delimiter.Quote) 0 (ys ++ w ∷ []) [] (p + 1) (read_next _ _ b bs p xs (step_by (at ys (In Quoted) 0 w) b class.Quote _ e (quote_ends b)) h) refl refl in
    let l = r.1 in
    rests_none true ys w (b ∷ bs) l.0 xs (bs, ap (λ x. x ∷ bs) (is_class b class.Quote e), r.0, l.1) (l.2 ∙ append_assoc ys (w ∷ []) l.0)

in_case : (q : Bool) (c : Class) (b : ℕ) (bs : List ℕ) (xs ys : List (List ℕ)) (w : List ℕ) (p : ℕ) → class_of b ≡ c → Rec bs xs → list_read (b ∷ bs) (at ys (In (context q)) 0 w) p ≡ Ok xs → Rests q ys w (b ∷ bs) xs
in_case true class.Quote b bs xs ys w p e rec h = quote_case b bs xs ys w p e rec h
in_case true class.Backslash b bs xs ys w p e rec h = pair_case true b bs xs ys w p (is_class b class.Backslash e) rec h
in_case true c b bs xs ys w p e rec h = plain_case true b bs xs ys w p (ap plain_quoted e) rec h
in_case false class.Blank b bs xs ys w p e rec h = blank_case b bs xs ys w p (ap parts e) rec h
in_case false class.Newline b bs xs ys w p e rec h = blank_case b bs xs ys w p (ap parts e) rec h
in_case false class.Backslash b bs xs ys w p e rec h = pair_case false b bs xs ys w p (is_class b class.Backslash e) rec h
in_case false c b bs xs ys w p e rec h = plain_case false b bs xs ys w p (ap plain_bare e) rec h

in_end : (q : Bool) (xs ys : List (List ℕ)) (w : List ℕ) (p : ℕ) → list_read [] (at ys (In (context q)) 0 w) p ≡ Ok xs → Rests q ys w [] xs
unfolding list_read list_stop list_ends
in_end true xs ys w p h = absurd cc
in_end false xs ys w p h = rests_none false ys w [] [] xs (tt, lists.ListOf.no_elements [] refl) (sym (ok_same h))

-- behind a backslash
newline_case : (q : Bool) (b : ℕ) (bs : List ℕ) (xs ys : List (List ℕ)) (w : List ℕ) (p : ℕ) → b ≡ 10 → Rec bs xs → list_read (b ∷ bs) (at ys (Pair (context q)) 0 w) p ≡ Ok xs → Rests q ys w (92 ∷ b ∷ bs) xs
newline_case q b bs xs ys w p e rec h =
    subst (λ x. Rests q ys w (92 ∷ x ∷ bs) xs) (sym e)
    (rests_joined q ys w bs xs (rec_join q bs xs ys (w ++ 32 ∷ []) (p + 1) rec
    (read_next _ _ 10 bs p xs (joined_step ys q w) (subst (λ x. list_read (x ∷ bs) (at ys (Pair (context q)) 0 w) p ≡ Ok xs) e h))))

pub letter_writes : (e : Escape) (ds : List ℕ) (d : Effect) → whole (number e (left (digits_of e) ds) (value_from (base_of e) 0 ds)) ≡ Some d → NumberWrites e ds (bytes_of d)
letter_writes e [] d h = ap bytes_of (some_effect (sym h ∙ letter_whole e))
letter_writes e (b ∷ ds) d h = (was_written e _ d (sym (whole_behind e (left (digits_of e) (b ∷ ds)) _ (left_less (digits_of e) b ds (some_digits e))) ∙ h)).1

letter_case : (q : Bool) (e : Escape) (b : ℕ) (bs : List ℕ) (xs ys : List (List ℕ)) (w : List ℕ) (p : ℕ) → e ≢ Octal → b ≡ letter_of e → Rec bs xs →
    list_read bs (at ys (Number (context q) (number e (digits_of e) 0)) 0 w) p ≡ Ok xs → Rests q ys w (92 ∷ b ∷ bs) xs
letter_case q e b bs xs ys w p n i rec h =
    let r = rec_number q (number e (digits_of e) 0) bs xs ys w p rec (omega arith) h in
    subst (λ x. Rests q ys w (92 ∷ x) xs) (sym (ap (λ x. x ∷ bs) i ∙ ap (λ x. letter_of e ∷ x) r.split))
    (rests_escape q ys w (letter_of e ∷ r.digits) (bytes_of r.effect) r.rest xs (spec.Escaped.number e n r.they (letter_writes e r.digits r.effect r.is)) r.rests)

octal_case : (q : Bool) (b : ℕ) (bs : List ℕ) (xs ys : List (List ℕ)) (w : List ℕ) (p : ℕ) → spec.is_octal b ≡ true → Rec bs xs →
    list_read bs (at ys (Number (context q) (number Octal 2 (b - 48))) 0 w) p ≡ Ok xs → Rests q ys w (92 ∷ b ∷ bs) xs
octal_case q b bs xs ys w p o rec h =
    let r = rec_number q (number Octal 2 (b - 48)) bs xs ys w p rec (octal_small b o) h in
    let v : bytes_of r.effect ≡ value_from 8 (b - 48) r.digits ∷ [] =
    (was_written Octal _ r.effect (sym (whole_behind Octal (left 2 r.digits) _ (omega (arith, left_most 2 r.digits))) ∙ r.is)).1 in
    subst (λ x. Rests q ys w (92 ∷ b ∷ x) xs) (sym r.split)
    (rests_escape q ys w (b ∷ r.digits) (bytes_of r.effect) r.rest xs (subst (λ x. Escaped r.rest (b ∷ r.digits) x) (sym v) (spec.Escaped.octal b o r.they)) r.rests)

escaped_case : (q : Bool) (b v : ℕ) (t : Transition) (bs : List ℕ) (xs ys : List (List ℕ)) (w : List ℕ) (p : ℕ) → b ≢ 10 → Paired (context q) b t v → escaped (context q) b ≡ t → stands_for b ≡ v → Rec bs xs →
    list_read (b ∷ bs) (at ys (Pair (context q)) 0 w) p ≡ Ok xs → Rests q ys w (92 ∷ b ∷ bs) xs
escaped_case q b v t bs xs ys w p n (Paired.one i) e f rec h =
    rests_escape q ys w (b ∷ []) (v ∷ []) bs xs (subst (λ x. Escaped bs (b ∷ []) (x ∷ [])) f (spec.Escaped.byte b n i))
    (rec_in q bs xs ys (w ++ v ∷ []) (p + 1) rec (read_next _ _ b bs p xs (escaped_step ys q w b _ n e) h))
escaped_case q b v t bs xs ys w p n (Paired.letter k m i) e f rec h =
    letter_case q k b bs xs ys w (p + 1) m i rec (read_next _ _ b bs p xs (escaped_step ys q w b _ n e) h)
escaped_case q b v t bs xs ys w p n (Paired.eight o) e f rec h =
    octal_case q b bs xs ys w (p + 1) o rec (read_next _ _ b bs p xs (escaped_step ys q w b _ n e) h)

pair_next : (q : Bool) (x : Bool) (b : ℕ) (bs : List ℕ) (xs ys : List (List ℕ)) (w : List ℕ) (p : ℕ) → (b == 10) ≡ x → Rec bs xs → list_read (b ∷ bs) (at ys (Pair (context q)) 0 w) p ≡ Ok xs → Rests q ys w (92 ∷ b ∷ bs) xs
pair_next q true b bs xs ys w p e rec h = newline_case q b bs xs ys w p (eqb-true b 10 e) rec h
pair_next q false b bs xs ys w p e rec h = escaped_case q b (stands_for b) (escaped (context q) b) bs xs ys w p (eqb-false b 10 e) (paired (context q) b) refl refl rec h

pair_end : (q : Bool) (xs ys : List (List ℕ)) (w : List ℕ) (p : ℕ) → list_read [] (at ys (Pair (context q)) 0 w) p ≡ Ok xs → Rests q ys w (92 ∷ []) xs
unfolding list_read list_stop list_ends
pair_end true xs ys w p h = absurd cc
pair_end false xs ys w p h = record {
  inner = 92 ∷ [];
  value = 92 ∷ [];
  after = [];
  further = [];
  split = refl;
  inside = lists.Inside.last_backslash refl;
  follows = (tt, lists.ListOf.no_elements [] refl);
  whole = sym (ok_same h);
}

-- behind a joined line
join_next : (q x : Bool) (b : ℕ) (bs : List ℕ) (xs ys : List (List ℕ)) (w : List ℕ) (p : ℕ) → is_space b ≡ x → Rec bs xs → list_read (b ∷ bs) (at ys (Join (context q)) 0 w) p ≡ Ok xs → Joins q ys w (b ∷ bs) xs
join_next q true b bs xs ys w p e rec h =
    let r = rec_join q bs xs ys w (p + 1) rec (read_next _ _ b bs p xs (space_step ys q w b e) h) in
    let s = r.3 in
    (b ∷ r.0, r.1, ap (λ x. b ∷ x) r.2, (and_both _ _ e s.0, s.1), r.4)
join_next q false b bs xs ys w p e rec h =
    ([], b ∷ bs, refl, (refl, e), in_case q (class_of b) b bs xs ys w p refl rec (sym (read_step _ _ b bs p (join_step ys q w b e)) ∙ h))

join_end : (q : Bool) (xs ys : List (List ℕ)) (w : List ℕ) (p : ℕ) → list_read [] (at ys (Join (context q)) 0 w) p ≡ Ok xs → Joins q ys w [] xs
join_end q xs ys w p h = ([], [], refl, (refl, refl), in_end q xs ys w p (sym (read_end _ _ p (join_stop ys q w)) ∙ h))

-- behind digits
whole_writes : (n : kinds.Digits) (d : Effect) → whole n ≡ Some d → IsWriting d
whole_writes n d h = tested (n.left == digits_of n.escape) h
  where
    tested : (x : Bool) → cond x (Some (effect.Byte (letter_of n.escape))) (written n.escape n.value) ≡ Some d → IsWriting d
    tested true e = subst IsWriting (some_effect e) tt
    tested false e = (was_written n.escape n.value d e).0

numbers_none : (q : Bool) (e : Escape) (k v : ℕ) (d : Effect) (t : List ℕ) (xs ys : List (List ℕ)) (w : List ℕ) → v ≤ most_of e → whole (number e k v) ≡ Some d →
    ((b : ℕ) (rest : List ℕ) → t ≡ b ∷ rest → with_digit (number e k v) b ≡ None) → Rests q ys (w ++ bytes_of d) t xs → Numbers q (number e k v) ys w t xs
numbers_none q e k v d t xs ys w m i none r = record {
  digits = [];
  rest = t;
  effect = d;
  split = refl;
  they = no_digits e k v t m none;
  is = i;
  writing = whole_writes (number e k v) d i;
  rests = r;
}

head_of : List ℕ → ℕ
head_of [] = 0
head_of (b ∷ bs) = b

pub first_same : {b c : ℕ} {bs cs : List ℕ} → b ∷ bs ≡ c ∷ cs → b ≡ c
unfolding head_of
first_same e = ap head_of e

no_digit_next : (q : Bool) (e : Escape) (k v : ℕ) (r : Option Effect) (b : ℕ) (bs : List ℕ) (xs ys : List (List ℕ)) (w : List ℕ) (p : ℕ) → v ≤ most_of e → with_digit (number e k v) b ≡ None →
    whole (number e k v) ≡ r → Rec bs xs → list_read (b ∷ bs) (at ys (Number (context q) (number e k v)) 0 w) p ≡ Ok xs → Numbers q (number e k v) ys w (b ∷ bs) xs
unfolding list_transition
no_digit_next q e k v (Some d) b bs xs ys w p m none i rec h =
    let writes = whole_writes (number e k v) d i in
    numbers_none q e k v d (b ∷ bs) xs ys w m i (λ c rest s. subst (λ x. with_digit (number e k v) x ≡ None) (first_same s) none)
    (in_case q (class_of b) b bs xs ys (w ++ bytes_of d) p refl rec (sym (read_step _ _ b bs p (number_step ys q w (number e k v) d b i writes none)) ∙ h))
no_digit_next q e k v None b bs xs ys w p m none i rec h =
    absurd (read_fails _ b bs p xs BadCodePoint
    (step_by (at ys (Number (context q) (number e k v)) 0 w) b (class_of b) (does effect.Nothing (target.Bad BadCodePoint)) refl
    (ap (λ x. list_numbered (context q) (number e k v) (class_of b) b x) none ∙ ap (λ x. behind_number x (list_context (context q) (class_of b) b)) i)) h)

last_digit_next : (q : Bool) (e : Escape) (v x : ℕ) (r : Option Effect) (b : ℕ) (bs : List ℕ) (xs ys : List (List ℕ)) (w : List ℕ) (p : ℕ) → with_digit (number e (suc zero) v) b ≡ Some x → written e x ≡ r → Rec bs xs →
    list_read (b ∷ bs) (at ys (Number (context q) (number e (suc zero) v)) 0 w) p ≡ Ok xs → Numbers q (number e (suc zero) v) ys w (b ∷ bs) xs
last_digit_next q e v x (Some d) b bs xs ys w p s i rec h =
    let told = digit_some e (suc zero) v b x s in
    let writes = (was_written e x d i).0 in
    record {
      digits = b ∷ [];
      rest = bs;
      effect = d;
      split = refl;
      they = more_digits e zero v b x [] bs s (no_room e x bs told.2);
      is = whole_behind e 0 (next_value e v b) (some_digits e) ∙ ap (λ y. written e y) (sym told.1) ∙ i;
      writing = writes;
      rests = rec_in q bs xs ys (w ++ bytes_of d) (p + 1) rec (read_next _ _ b bs p xs (last_step ys q w e v b x d s i writes) h);
    }
last_digit_next q e v x None b bs xs ys w p s i rec h =
    absurd (read_fails _ b bs p xs BadCodePoint
    (step_by (at ys (Number (context q) (number e (suc zero) v)) 0 w) b (class_of b) (does effect.Nothing (target.Bad BadCodePoint)) refl
    (digit_transition (context q) (number e (suc zero) v) (class_of b) b x s ∙ ap (λ y. behind_number y (goes (In (context q)))) i)) h)

digit_next : (q : Bool) (e : Escape) (k v x : ℕ) (b : ℕ) (bs : List ℕ) (xs ys : List (List ℕ)) (w : List ℕ) (p : ℕ) → with_digit (number e k v) b ≡ Some x → Rec bs xs →
    list_read (b ∷ bs) (at ys (Number (context q) (number e k v)) 0 w) p ≡ Ok xs → Numbers q (number e k v) ys w (b ∷ bs) xs
digit_next q e zero v x b bs xs ys w p s rec h =
    absurd (read_fails _ b bs p xs BadCodePoint (step_by _ b (class_of b) (does effect.Nothing (target.Bad BadCodePoint)) refl (digit_transition (context q) (number e zero v) (class_of b) b x s)) h)
digit_next q e (suc zero) v x b bs xs ys w p s rec h = last_digit_next q e v x (written e x) b bs xs ys w p s refl rec h
digit_next q e (suc (suc k)) v x b bs xs ys w p s rec h =
    let told = digit_some e (suc (suc k)) v b x s in
    let r = rec_number q (number e (suc k) x) bs xs ys w (p + 1) rec told.2 (read_next _ _ b bs p xs (more_step ys q w e k v b x s) h) in
    record {
      digits = b ∷ r.digits;
      rest = r.rest;
      effect = r.effect;
      split = ap (λ y. b ∷ y) r.split;
      they = more_digits e (suc k) v b x r.digits r.rest s r.they;
      is = subst (λ y. whole (number e (left (suc k) r.digits) (value_from (base_of e) y r.digits)) ≡ Some r.effect) told.1 r.is;
      writing = r.writing;
      rests = r.rests;
    }

number_next : (q : Bool) (e : Escape) (k v : ℕ) (r : Option ℕ) (b : ℕ) (bs : List ℕ) (xs ys : List (List ℕ)) (w : List ℕ) (p : ℕ) → v ≤ most_of e → with_digit (number e k v) b ≡ r → Rec bs xs →
    list_read (b ∷ bs) (at ys (Number (context q) (number e k v)) 0 w) p ≡ Ok xs → Numbers q (number e k v) ys w (b ∷ bs) xs
number_next q e k v None b bs xs ys w p m i rec h = no_digit_next q e k v (whole (number e k v)) b bs xs ys w p m i refl rec h
number_next q e k v (Some x) b bs xs ys w p m i rec h = digit_next q e k v x b bs xs ys w p i rec h

number_stops : (q : Bool) (n : kinds.Digits) (xs ys : List (List ℕ)) (w : List ℕ) (p : ℕ) → whole n ≡ None → list_read [] (at ys (Number (context q) n) 0 w) p ≡ Ok xs → ⊥
unfolding list_read list_stop list_ends
number_stops true n xs ys w p i h =
    let x = sym (ap (λ r. list_stopped (list_ended (list_number_ends Quoted r) (at ys (Number Quoted n) 0 w)) p) i) ∙ h in absurd cc
number_stops false n xs ys w p i h =
    let x = sym (ap (λ r. list_stopped (list_ended (list_number_ends Bare r) (at ys (Number Bare n) 0 w)) p) i) ∙ h in absurd cc

number_end : (q : Bool) (e : Escape) (k v : ℕ) (r : Option Effect) (xs ys : List (List ℕ)) (w : List ℕ) (p : ℕ) → v ≤ most_of e → whole (number e k v) ≡ r →
    list_read [] (at ys (Number (context q) (number e k v)) 0 w) p ≡ Ok xs → Numbers q (number e k v) ys w [] xs
number_end q e k v None xs ys w p m i h = absurd (number_stops q (number e k v) xs ys w p i h)
number_end q e k v (Some d) xs ys w p m i h =
    numbers_none q e k v d [] xs ys w m i (λ b rest s. absurd cc)
    (in_end q xs ys (w ++ bytes_of d) p (sym (read_end _ _ p (number_stop ys q w (number e k v) d i (whole_writes (number e k v) d i))) ∙ h))

-- in a braced element
closes_front : (d : ℕ) (front : List ℕ) (ys : List (List ℕ)) (w t : List ℕ) (xs : List (List ℕ)) → ((u : List ℕ) → lists.Braced u → lists.Braced (front ++ u)) →
    Closes d ys (w ++ front) t xs → Closes d ys w (front ++ t) xs
closes_front zero front ys w t xs f (u, rest, e, i, l, c) =
    (front ++ u, rest, ap (λ x. front ++ x) e ∙ sym (append_assoc front u (125 ∷ rest)), f u i, l, (c.0, c.1, c.2 ∙ ap (λ x. ys ++ x ∷ [] ++ c.0) (append_assoc w front u)))
closes_front (suc d) front ys w t xs f (u, rest, e, i, c) =
    (front ++ u, rest, ap (λ x. front ++ x) e ∙ sym (append_assoc front u (125 ∷ rest)), f u i, subst (λ x. Closes d ys (x ++ 125 ∷ []) rest xs) (append_assoc w front u) c)

closes_nested : (d : ℕ) (ys : List (List ℕ)) (w t : List ℕ) (xs : List (List ℕ)) → Closes (suc d) ys (w ++ 123 ∷ []) t xs → Closes d ys w (123 ∷ t) xs
closes_nested d ys w t xs (u, rest, e, i, c) =
    subst (λ x. Closes d ys w (123 ∷ x) xs) (append_assoc u (125 ∷ []) rest ∙ sym e)
    (closes_front d (123 ∷ u ++ 125 ∷ []) ys w rest xs
    (λ v j. subst (λ x. lists.Braced (123 ∷ x)) (sym (append_assoc u (125 ∷ []) v)) (lists.Braced.braces i j))
    (subst (λ x. Closes d ys x rest xs) (ap (λ x. x ++ 125 ∷ []) (append_assoc w (123 ∷ []) u) ∙ append_assoc w (123 ∷ u) (125 ∷ [])) c))

brace_ends : (b : ℕ) → list_transition false Braced class.Close b ≡ does effect.Word (target.To (Behind delimiter.Brace))
unfolding list_transition
brace_ends b = refl

close_case : (d : ℕ) (bs : List ℕ) (xs ys : List (List ℕ)) (w : List ℕ) (p : ℕ) → Rec bs xs → list_read (125 ∷ bs) (at ys Braced d w) p ≡ Ok xs → Closes d ys w (125 ∷ bs) xs
close_case zero bs xs ys w p rec h =
    let r : Parted bs × Behinds (ys ++ w ∷ []) bs xs =
    rec (Behind delimiter.Brace) 0 (ys ++ w ∷ []) [] (p + 1) (read_next _ _ 125 bs p xs (step_by (at ys Braced 0 w) 125 class.Close _ close_is (brace_ends 125)) h) refl refl in
    ([], bs, refl, lists.Braced.nothing, r.0, subst (λ x. Behinds (ys ++ x ∷ []) bs xs) (sym (append-nil w)) r.1)
close_case (suc d) bs xs ys w p rec h =
    let same : suc d ≡ d + 1 = omega arith in
    let r : Closes d ys (w ++ 125 ∷ []) bs xs =
    rec Braced d ys (w ++ 125 ∷ []) (p + 1) (read_next _ _ 125 bs p xs (closes ys d w) (subst (λ x. list_read (125 ∷ bs) (at ys Braced x w) p ≡ Ok xs) same h)) in
    ([], bs, refl, lists.Braced.nothing, subst (λ x. Closes d ys (x ++ 125 ∷ []) bs xs) (sym (append-nil w)) r)

open_case : (d : ℕ) (bs : List ℕ) (xs ys : List (List ℕ)) (w : List ℕ) (p : ℕ) → Rec bs xs → list_read (123 ∷ bs) (at ys Braced d w) p ≡ Ok xs → Closes d ys w (123 ∷ bs) xs
open_case d bs xs ys w p rec h =
    let same : d + 1 ≡ suc d = omega arith in
    closes_nested d ys w bs xs (subst (λ x. Closes x ys (w ++ 123 ∷ []) bs xs) same
    (rec Braced (d + 1) ys (w ++ 123 ∷ []) (p + 1) (read_next _ _ 123 bs p xs (step_by (at ys Braced d w) 123 class.Open (does (effect.Byte 123) target.Deeper) open_is (deeper_transition (nat_lt 0 d))) h)))

braced_pair_case : (d : ℕ) (bs : List ℕ) (xs ys : List (List ℕ)) (w : List ℕ) (p : ℕ) → Rec bs xs → list_read (92 ∷ bs) (at ys Braced d w) p ≡ Ok xs → Closes d ys w (92 ∷ bs) xs
braced_pair_case d bs xs ys w p rec h =
    let r = rec BracedPair d ys (w ++ 92 ∷ []) (p + 1) (read_next _ _ 92 bs p xs (step_by (at ys Braced d w) 92 class.Backslash (puts 92 BracedPair) backslash_is (braced_pair_transition (nat_lt 0 d))) h) in
    subst (λ x. Closes d ys w (92 ∷ x) xs) (sym r.2)
    (closes_front d (92 ∷ r.0 ∷ []) ys w r.1 xs (λ u i. lists.Braced.pair r.0 i) (subst (λ x. Closes d ys x r.1 xs) (append_assoc w (92 ∷ []) (r.0 ∷ [])) r.3))

braced_plain_case : (d b : ℕ) (bs : List ℕ) (xs ys : List (List ℕ)) (w : List ℕ) (p : ℕ) → plain_braced (class_of b) ≡ true → Rec bs xs → list_read (b ∷ bs) (at ys Braced d w) p ≡ Ok xs → Closes d ys w (b ∷ bs) xs
braced_plain_case d b bs xs ys w p e rec h =
    closes_front d (b ∷ []) ys w bs xs (λ u i. lists.Braced.byte b e i)
    (rec Braced d ys (w ++ b ∷ []) (p + 1) (read_next _ _ b bs p xs (step_by (at ys Braced d w) b (class_of b) (puts b Braced) refl (plain_braced_transition (nat_lt 0 d) (class_of b) b e)) h))

braced_case : (c : Class) (d b : ℕ) (bs : List ℕ) (xs ys : List (List ℕ)) (w : List ℕ) (p : ℕ) → class_of b ≡ c → Rec bs xs → list_read (b ∷ bs) (at ys Braced d w) p ≡ Ok xs → Closes d ys w (b ∷ bs) xs
braced_case class.Open d b bs xs ys w p e rec h =
    let is = is_class b class.Open e in
    subst (λ x. Closes d ys w (x ∷ bs) xs) (sym is) (open_case d bs xs ys w p rec (subst (λ x. list_read (x ∷ bs) (at ys Braced d w) p ≡ Ok xs) is h))
braced_case class.Close d b bs xs ys w p e rec h =
    let is = is_class b class.Close e in
    subst (λ x. Closes d ys w (x ∷ bs) xs) (sym is) (close_case d bs xs ys w p rec (subst (λ x. list_read (x ∷ bs) (at ys Braced d w) p ≡ Ok xs) is h))
braced_case class.Backslash d b bs xs ys w p e rec h =
    let is = is_class b class.Backslash e in
    subst (λ x. Closes d ys w (x ∷ bs) xs) (sym is) (braced_pair_case d bs xs ys w p rec (subst (λ x. list_read (x ∷ bs) (at ys Braced d w) p ≡ Ok xs) is h))
braced_case c d b bs xs ys w p e rec h = braced_plain_case d b bs xs ys w p (ap plain_braced e) rec h

braced_stops : (d : ℕ) (xs ys : List (List ℕ)) (w : List ℕ) (p : ℕ) → list_read [] (at ys Braced d w) p ≡ Ok xs → ⊥
unfolding list_read list_stop list_ends
braced_stops d xs ys w p h = absurd cc

paired_stops : (d : ℕ) (xs ys : List (List ℕ)) (w : List ℕ) (p : ℕ) → list_read [] (at ys BracedPair d w) p ≡ Ok xs → ⊥
unfolding list_read list_stop list_ends
paired_stops d xs ys w p h = absurd cc

-- between elements
cons_of : List ℕ → Type 0
cons_of [] = ⊥
cons_of (b ∷ bs) = Unit {0}

begins_inner : (b : ℕ) (bs inner after : List ℕ) → b ∷ bs ≡ inner ++ after → begins (class_of b) ≡ true → parts (class_of b) ≡ false → Parted after → BeginsElement inner
unfolding cons_of
begins_inner b bs [] [] e g h l = absurd (subst cons_of e tt)
begins_inner b bs [] (c ∷ cs) e g h l = let x = sym h ∙ ap (λ y. parts (class_of y)) (first_same e) ∙ l in absurd cc
begins_inner b bs (c ∷ cs) after e g h l = subst (λ y. begins (class_of y) ≡ true) (first_same e) g

bare_element : (b : ℕ) (bs : List ℕ) (xs ys : List (List ℕ)) → begins (class_of b) ≡ true → parts (class_of b) ≡ false → Rests false ys [] (b ∷ bs) xs → Behinds ys (b ∷ bs) xs
bare_element b bs xs ys g h r =
    let l = r.follows in (
      r.value ∷ r.further,
      subst (λ x. ListOf x (r.value ∷ r.further)) (sym r.split)
          (lists.ListOf.element [] refl (lists.Element.bare (begins_inner b bs r.inner r.after r.split g h l.0) r.inside) l.0 l.1),
      r.whole,
    )

bare_case : (b : ℕ) (bs : List ℕ) (xs ys : List (List ℕ)) (p : ℕ) → begins (class_of b) ≡ true → plain_bare (class_of b) ≡ true → Rec bs xs → list_read (b ∷ bs) (at ys Gap 0 []) p ≡ Ok xs → Behinds ys (b ∷ bs) xs
bare_case b bs xs ys p g i rec h =
    bare_element b bs xs ys g (unparted (class_of b) i) (in_case false (class_of b) b bs xs ys [] p refl rec (sym (read_step _ _ b bs p (begin_plain ys b g i)) ∙ h))

gap_pair_case : (b : ℕ) (bs : List ℕ) (xs ys : List (List ℕ)) (p : ℕ) → class_of b ≡ class.Backslash → Rec bs xs → list_read (b ∷ bs) (at ys Gap 0 []) p ≡ Ok xs → Behinds ys (b ∷ bs) xs
gap_pair_case b bs xs ys p e rec h =
    let same : list_step (at ys Gap 0 []) b ≡ list_step (at ys (In Bare) 0 []) b =
    subst (λ x. list_step (at ys Gap 0 []) x ≡ list_step (at ys (In Bare) 0 []) x) (sym (is_class b class.Backslash e)) (begin_pair ys) in
    bare_element b bs xs ys (ap begins e) (ap parts e) (in_case false (class_of b) b bs xs ys [] p refl rec (sym (read_step _ _ b bs p same) ∙ h))

gap_quotes : (b : ℕ) → list_transition false Gap class.Quote b ≡ goes (In Quoted)
unfolding list_transition
gap_quotes b = refl

gap_braces : (b : ℕ) → list_transition false Gap class.Open b ≡ goes Braced
unfolding list_transition
gap_braces b = refl

gap_quote_case : (b : ℕ) (bs : List ℕ) (xs ys : List (List ℕ)) (p : ℕ) → class_of b ≡ class.Quote → Rec bs xs → list_read (b ∷ bs) (at ys Gap 0 []) p ≡ Ok xs → Behinds ys (b ∷ bs) xs
gap_quote_case b bs xs ys p e rec h =
    let r = rec_in true bs xs ys [] (p + 1) rec (read_next _ _ b bs p xs (step_by (at ys Gap 0 []) b class.Quote (goes (In Quoted)) e (gap_quotes b)) h) in
    let f = r.follows in
    let text : b ∷ bs ≡ (34 ∷ r.inner ++ 34 ∷ []) ++ f.0 =
    ap (λ x. x ∷ bs) (is_class b class.Quote e) ∙ ap (λ x. 34 ∷ x) (r.split ∙ ap (λ x. r.inner ++ x) f.1 ∙ sym (append_assoc r.inner (34 ∷ []) f.0)) in (
      r.value ∷ r.further,
      subst (λ x. ListOf x (r.value ∷ r.further)) (sym text)
          (lists.ListOf.element [] refl (lists.Element.quoted (subst (λ x. Inside plain_quoted x r.inner r.value) f.1 r.inside)) f.2 f.3),
      r.whole,
    )

gap_open_case : (b : ℕ) (bs : List ℕ) (xs ys : List (List ℕ)) (p : ℕ) → class_of b ≡ class.Open → Rec bs xs → list_read (b ∷ bs) (at ys Gap 0 []) p ≡ Ok xs → Behinds ys (b ∷ bs) xs
gap_open_case b bs xs ys p e rec h =
    let r : Closes 0 ys [] bs xs = rec Braced 0 ys [] (p + 1) (read_next _ _ b bs p xs (step_by (at ys Gap 0 []) b class.Open (goes Braced) e (gap_braces b)) h) in
    let l = r.5 in
    let text : b ∷ bs ≡ (123 ∷ r.0 ++ 125 ∷ []) ++ r.1 =
    ap (λ x. x ∷ bs) (is_class b class.Open e) ∙ ap (λ x. 123 ∷ x) (r.2 ∙ sym (append_assoc r.0 (125 ∷ []) r.1)) in
    (r.0 ∷ l.0, subst (λ x. ListOf x (r.0 ∷ l.0)) (sym text) (lists.ListOf.element [] refl (lists.Element.braced r.3) r.4 l.1), l.2 ∙ append_assoc ys (r.0 ∷ []) l.0)

gap_blank_case : (b : ℕ) (bs : List ℕ) (xs ys : List (List ℕ)) (p : ℕ) → is_blank b ≡ true → Rec bs xs → list_read (b ∷ bs) (at ys Gap 0 []) p ≡ Ok xs → Behinds ys (b ∷ bs) xs
gap_blank_case b bs xs ys p e rec h =
    let r : Behinds ys bs xs = rec Gap 0 ys [] (p + 1) (read_next _ _ b bs p xs (blank_step ys b e) h) refl refl in
    (r.0, list_blank b bs r.0 e r.1, r.2)

gap_case : (c : Class) (b : ℕ) (bs : List ℕ) (xs ys : List (List ℕ)) (p : ℕ) → class_of b ≡ c → Rec bs xs → list_read (b ∷ bs) (at ys Gap 0 []) p ≡ Ok xs → Behinds ys (b ∷ bs) xs
gap_case class.Blank b bs xs ys p e rec h = gap_blank_case b bs xs ys p (ap parts e) rec h
gap_case class.Newline b bs xs ys p e rec h = gap_blank_case b bs xs ys p (ap parts e) rec h
gap_case class.Quote b bs xs ys p e rec h = gap_quote_case b bs xs ys p e rec h
gap_case class.Open b bs xs ys p e rec h = gap_open_case b bs xs ys p e rec h
gap_case class.Backslash b bs xs ys p e rec h = gap_pair_case b bs xs ys p e rec h
gap_case c b bs xs ys p e rec h = bare_case b bs xs ys p (ap begins e) (ap plain_bare e) rec h

gap_end : (xs ys : List (List ℕ)) (p : ℕ) → list_read [] (at ys Gap 0 []) p ≡ Ok xs → Behinds ys [] xs
gap_end xs ys p h = ([], lists.ListOf.no_elements [] refl, sym (ok_same (sym (gap_stop ys p) ∙ h)) ∙ sym (append-nil ys))

-- behind a quoted or a braced element
behind_fails : (l : _) (c : Class) (b : ℕ) → parts c ≡ false → list_transition false (Behind l) c b ≡ does effect.Nothing (target.Bad ListAfter)
unfolding list_transition
behind_fails l class.Blank b e = absurd cc
behind_fails l class.Newline b e = absurd cc
behind_fails l c b e = refl

behind_case : (x : Bool) (l : _) (b : ℕ) (bs : List ℕ) (xs ys : List (List ℕ)) (p : ℕ) → is_blank b ≡ x → Rec bs xs → list_read (b ∷ bs) (at ys (Behind l) 0 []) p ≡ Ok xs → Parted (b ∷ bs) × Behinds ys (b ∷ bs) xs
behind_case true l b bs xs ys p e rec h =
    let r : Behinds ys bs xs = rec Gap 0 ys [] (p + 1) (read_next _ _ b bs p xs (step_by (at ys (Behind l) 0 []) b (class_of b) (goes Gap) refl (behind_blank l (class_of b) b e)) h) refl refl in
    (e, (r.0, list_blank b bs r.0 e r.1, r.2))
behind_case false l b bs xs ys p e rec h =
    absurd (read_fails _ b bs p xs ListAfter (step_by (at ys (Behind l) 0 []) b (class_of b) (does effect.Nothing (target.Bad ListAfter)) refl (behind_fails l (class_of b) b e)) h)

zeroed : (m : Mode) (d : ℕ) (ys xs : List (List ℕ)) (w t : List ℕ) (p : ℕ) → d ≡ 0 → list_read t (at ys m d w) p ≡ Ok xs → list_read t (at ys m 0 w) p ≡ Ok xs
zeroed m d ys xs w t p e h = subst (λ x. list_read t (at ys m x w) p ≡ Ok xs) e h

emptied : (m : Mode) (d : ℕ) (ys xs : List (List ℕ)) (w t : List ℕ) (p : ℕ) → d ≡ 0 → w ≡ [] → list_read t (at ys m d w) p ≡ Ok xs → list_read t (at ys m 0 []) p ≡ Ok xs
emptied m d ys xs w t p e f h = subst (λ x. list_read t (at ys m 0 x) p ≡ Ok xs) f (zeroed m d ys xs w t p e h)

claim_next : (b : ℕ) (bs : List ℕ) (xs : List (List ℕ)) → Rec bs xs → Rec (b ∷ bs) xs
claim_next b bs xs rec Gap d ys w p h = λ e f. gap_case (class_of b) b bs xs ys p refl rec (emptied Gap d ys xs w (b ∷ bs) p e f h)
claim_next b bs xs rec (In Bare) d ys w p h = λ e. in_case false (class_of b) b bs xs ys w p refl rec (zeroed (In Bare) d ys xs w (b ∷ bs) p e h)
claim_next b bs xs rec (In Quoted) d ys w p h = λ e. in_case true (class_of b) b bs xs ys w p refl rec (zeroed (In Quoted) d ys xs w (b ∷ bs) p e h)
claim_next b bs xs rec (Pair Bare) d ys w p h = λ e. pair_next false (b == 10) b bs xs ys w p refl rec (zeroed (Pair Bare) d ys xs w (b ∷ bs) p e h)
claim_next b bs xs rec (Pair Quoted) d ys w p h = λ e. pair_next true (b == 10) b bs xs ys w p refl rec (zeroed (Pair Quoted) d ys xs w (b ∷ bs) p e h)
claim_next b bs xs rec (Join Bare) d ys w p h = λ e. join_next false (is_space b) b bs xs ys w p refl rec (zeroed (Join Bare) d ys xs w (b ∷ bs) p e h)
claim_next b bs xs rec (Join Quoted) d ys w p h = λ e. join_next true (is_space b) b bs xs ys w p refl rec (zeroed (Join Quoted) d ys xs w (b ∷ bs) p e h)
claim_next b bs xs rec (Number Bare n) d ys w p h = λ e m. number_next false n.escape n.left n.value (with_digit n b) b bs xs ys w p m refl rec (zeroed (Number Bare n) d ys xs w (b ∷ bs) p e h)
claim_next b bs xs rec (Number Quoted n) d ys w p h = λ e m. number_next true n.escape n.left n.value (with_digit n b) b bs xs ys w p m refl rec (zeroed (Number Quoted n) d ys xs w (b ∷ bs) p e h)
claim_next b bs xs rec Braced d ys w p h = braced_case (class_of b) d b bs xs ys w p refl rec h
claim_next b bs xs rec BracedPair d ys w p h =
    (b, bs, refl, rec Braced d ys (w ++ b ∷ []) (p + 1) (read_next _ _ b bs p xs (step_by (at ys BracedPair d w) b (class_of b) (puts b Braced) refl (paired_transition (nat_lt 0 d) (class_of b) b)) h))
claim_next b bs xs rec (Behind l) d ys w p h = λ e f. behind_case (is_blank b) l b bs xs ys p refl rec (emptied (Behind l) d ys xs w (b ∷ bs) p e f h)
claim_next b bs xs rec m d ys w p h = tt

claim_end : (xs : List (List ℕ)) → Rec [] xs
claim_end xs Gap d ys w p h = λ e f. gap_end xs ys p (emptied Gap d ys xs w [] p e f h)
claim_end xs (In Bare) d ys w p h = λ e. in_end false xs ys w p (zeroed (In Bare) d ys xs w [] p e h)
claim_end xs (In Quoted) d ys w p h = λ e. in_end true xs ys w p (zeroed (In Quoted) d ys xs w [] p e h)
claim_end xs (Pair Bare) d ys w p h = λ e. pair_end false xs ys w p (zeroed (Pair Bare) d ys xs w [] p e h)
claim_end xs (Pair Quoted) d ys w p h = λ e. pair_end true xs ys w p (zeroed (Pair Quoted) d ys xs w [] p e h)
claim_end xs (Join Bare) d ys w p h = λ e. join_end false xs ys w p (zeroed (Join Bare) d ys xs w [] p e h)
claim_end xs (Join Quoted) d ys w p h = λ e. join_end true xs ys w p (zeroed (Join Quoted) d ys xs w [] p e h)
claim_end xs (Number Bare n) d ys w p h = λ e m. number_end false n.escape n.left n.value (whole n) xs ys w p m refl (zeroed (Number Bare n) d ys xs w [] p e h)
claim_end xs (Number Quoted n) d ys w p h = λ e m. number_end true n.escape n.left n.value (whole n) xs ys w p m refl (zeroed (Number Quoted n) d ys xs w [] p e h)
claim_end xs Braced d ys w p h = absurd (braced_stops d xs ys w p h)
claim_end xs BracedPair d ys w p h = absurd (paired_stops d xs ys w p h)
claim_end xs (Behind l) d ys w p h = λ e f. (tt, gap_end xs ys p (sym (read_end _ _ p (ends_behind ys l)) ∙ emptied (Behind l) d ys xs w [] p e f h))
claim_end xs m d ys w p h = tt

claims : (t : List ℕ) (xs : List (List ℕ)) → Rec t xs
claims [] xs = claim_end xs
claims (b ∷ bs) xs = claim_next b bs xs (claims bs xs)

list_of : Result (List (List ℕ)) WordFault → List (List ℕ)
list_of (Ok xs) = xs
list_of (Err f) = []

placed : (a : Elements) (xs : List (List ℕ)) → without_place a ≡ Ok xs → a ≡ Ok xs
unfolding list_of
placed (Ok ys) xs e = ap Ok (ap list_of e)
placed (Err f) xs e = absurd cc

pub read_list_is_spelled : (text : List ℕ) (xs : List (List ℕ)) → elements_of text ≡ Ok xs → ListOf text xs
unfolding elements_of
read_list_is_spelled text xs h =
    let r : Behinds [] text xs = claims text xs Gap 0 [] [] 0 (placed (list_read text unread 0) xs h) refl refl in
    subst (λ x. ListOf text x) (sym r.2) r.1
