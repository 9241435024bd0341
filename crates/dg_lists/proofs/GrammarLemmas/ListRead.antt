-- A text that spells a list is read as that list.
use Rattle.std.specs.Prelude.{◌≡◌, ◌≢◌, ℕ, zero, suc, ◌+◌, ◌-◌, ◌≤◌, ◌<◌, List, [], ◌∷◌, ◌++◌, length, refl, Ok, Bool, true, false, None, Some, cond, nat_lt}
use Rattle.std.proofs.Common.{◌∙◌, ap, sym, arith, subst, append_assoc}
use Rattle.std.proofs.lemmas.List.{append-nil}
use Rattle.std.proofs.lemmas.Bool.{lt-ltb}
use Rattle.dg_lists.specs.declared.kinds.Class.{Class}
use Rattle.dg_lists.specs.declared.kinds.Class.TheVariants as class
use Rattle.dg_lists.specs.declared.kinds.Digits as kinds
use Rattle.dg_lists.specs.declared.kinds.Effect.{Effect}
use Rattle.dg_lists.specs.declared.kinds.Effect.TheVariants as effect
use Rattle.dg_lists.specs.declared.kinds.Delimiter.TheVariants as delimiter
use Rattle.dg_lists.specs.declared.kinds.Escape.{Escape}
use Rattle.dg_lists.specs.declared.kinds.Escape.TheVariants.{Octal, Byte, Short, Long}
use Rattle.dg_lists.specs.declared.kinds.Mode.{Mode}
use Rattle.dg_lists.specs.declared.kinds.Mode.TheVariants.{Gap, In, Pair, Join, Number, Braced, BracedPair, Behind}
use Rattle.dg_lists.specs.declared.kinds.Target.TheVariants as target
use Rattle.dg_lists.specs.declared.kinds.Context.{Context}
use Rattle.dg_lists.specs.declared.kinds.Context.TheVariants.{Bare, Quoted}
use Rattle.dg_lists.specs.declared.kinds.Transition.{Transition}
use Rattle.dg_lists.specs.Classes.{class_of}
use Rattle.dg_lists.specs.Transitions.{base_of, behind_number, counted, digits_of, does, escaped, goes, is_space, letter_of, most_of, puts, whole, with_digit, written}
use Rattle.dg_lists.specs.Transitions as transitions
use Rattle.dg_lists.specs.Elements.{Listing, elements_of, list_effect, list_ended, list_ends, list_number_ends, list_context_ends, list_follow, list_numbered, list_onward, list_read, list_context, list_step, list_stop, list_stopped, list_transition, without_place}
use Rattle.dg_lists.specs.Grammar.Escapes as spec
use Rattle.dg_lists.specs.Grammar.Escapes.{each, begins_with_space, begins_number, Digits, Escaped, NumberWrites, stands_for, value_from}
use Rattle.dg_lists.specs.Grammar.Lists as lists
use Rattle.dg_lists.specs.Grammar.Lists.{parts, is_blank, plain_bare, plain_quoted, plain_braced, begins, BeginsElement, Parted, Inside, Element, ListOf}
use Rattle.dg_lists.proofs.GrammarLemmas.Numbers.{and_left, and_right, paired, one_transition, octal_transition, letter_transition, number, with_more, is_none, bytes_of, IsWriting, Written, writes, writes_byte, whole_behind, some_digits, next_value}
use Rattle.dg_lists.proofs.GrammarLemmas.Bytes.{is_class}

-- before the text after, reading t from s on leaves n
pub record Leads (after : List ℕ) (s : Listing) (t : List ℕ) (n : Listing) : Type 0 where
  pub on : (p : ℕ) → (q : ℕ) × (list_read (t ++ after) s p ≡ list_read after n q)

pub lead_none : (after : List ℕ) (s : Listing) → Leads after s [] s
lead_none after s = record { on = λ p. (p, refl) }

pub lead_one : (after : List ℕ) (s n : Listing) (b : ℕ) → list_step s b ≡ Ok n → Leads after s (b ∷ []) n
unfolding list_read
lead_one after s n b e = record { on = λ p. (p + 1, ap (λ r. list_onward r p (λ m. list_read after m (p + 1))) e) }

pub lead_both : (after : List ℕ) (s n m : Listing) (t u : List ℕ) → Leads (u ++ after) s t n → Leads after n u m → Leads after s (t ++ u) m
lead_both after s n m t u f g = record {
  on = λ p.
      let a = f.on p in
      let b = g.on a.0 in
      (b.0, ap (λ x. list_read x s p) (append_assoc t u after) ∙ a.1 ∙ b.1);
}

lead_on : (after : List ℕ) (s n m : Listing) (b : ℕ) (u : List ℕ) → list_step s b ≡ Ok n → Leads after n u m → Leads after s (b ∷ u) m
lead_on after s n m b u e g = lead_both after s n m (b ∷ []) u (lead_one (u ++ after) s n b e) g

abbrev pub at : List (List ℕ) → Mode → ℕ → List ℕ → Listing
at xs m d t = record { mode = m; depth = d; elements = xs; text = t }

pub step_by : (s : Listing) (b : ℕ) (c : Class) (t : Transition) → class_of b ≡ c → list_transition (nat_lt 0 s.depth) s.mode c b ≡ t → list_step s b ≡ list_follow t.next (list_effect t.second (list_effect t.first s))
unfolding list_step
step_by s b c t h e =
    ap (λ (x : Transition). list_follow x.next (list_effect x.second (list_effect x.first s))) (ap (λ k. list_transition (nat_lt 0 s.depth) s.mode k b) h ∙ e)

-- a bare element, or a quoted one
abbrev pub context : Bool → Context
context true = Quoted
context false = Bare

abbrev pub plain_in : Bool → Class → Bool
plain_in true = plain_quoted
plain_in false = plain_bare

plain_transition : (q : Bool) (c : Class) (b : ℕ) → plain_in q c ≡ true → list_transition false (In (context q)) c b ≡ puts b (In (context q))
unfolding list_transition
plain_transition true class.Quote b e = absurd cc
plain_transition true class.Backslash b e = absurd cc
plain_transition true c b e = refl
plain_transition false class.Blank b e = absurd cc
plain_transition false class.Newline b e = absurd cc
plain_transition false class.Backslash b e = absurd cc
plain_transition false c b e = refl

pub plain_step : (xs : List (List ℕ)) (q : Bool) (w : List ℕ) (b : ℕ) → plain_in q (class_of b) ≡ true → list_step (at xs (In (context q)) 0 w) b ≡ Ok (at xs (In (context q)) 0 (w ++ b ∷ []))
plain_step xs q w b e = step_by (at xs (In (context q)) 0 w) b (class_of b) (puts b (In (context q))) refl (plain_transition q (class_of b) b e)

pair_transition : (q : Bool) → list_transition false (In (context q)) class.Backslash 92 ≡ goes (Pair (context q))
unfolding list_transition
pair_transition true = refl
pair_transition false = refl

pub backslash_is : class_of 92 ≡ class.Backslash
unfolding class_of
backslash_is = refl

pub newline_is : class_of 10 ≡ class.Newline
unfolding class_of
newline_is = refl

pub pair_step : (xs : List (List ℕ)) (q : Bool) (w : List ℕ) → list_step (at xs (In (context q)) 0 w) 92 ≡ Ok (at xs (Pair (context q)) 0 w)
pair_step xs q w = step_by (at xs (In (context q)) 0 w) 92 class.Backslash (goes (Pair (context q))) backslash_is (pair_transition q)

-- the second byte of a pair
pub escaped_transition : (s : Context) (c : Class) (b : ℕ) → c ≢ class.Newline → list_transition false (Pair s) c b ≡ escaped s b
unfolding list_transition
escaped_transition s class.Newline b n = absurd (n refl)
escaped_transition s c b n = refl

-- the second byte of a pair, and what the number that it begins goes on with
pub escaped_step : (xs : List (List ℕ)) (q : Bool) (w : List ℕ) (b : ℕ) (t : Transition) → b ≢ 10 → escaped (context q) b ≡ t →
    list_step (at xs (Pair (context q)) 0 w) b ≡ list_follow t.next (list_effect t.second (list_effect t.first (at xs (Pair (context q)) 0 w)))
escaped_step xs q w b t n e = step_by (at xs (Pair (context q)) 0 w) b (class_of b) t refl (escaped_transition (context q) (class_of b) b (λ x. n (is_class b class.Newline x)) ∙ e)

context_first : (q : Bool) (c : Class) (b : ℕ) → (list_context (context q) c b).first ≡ effect.Nothing
context_first true class.Quote b = refl
context_first true class.Backslash b = refl
context_first true c b = refl
context_first false class.Blank b = refl
context_first false class.Newline b = refl
context_first false class.Backslash b = refl
context_first false c b = refl

-- behind a joined line or a number a byte does what it does in the element
same_mode : (q : Bool) (c : Class) (b : ℕ) (xs : List (List ℕ)) (m : Mode) (w : List ℕ) →
    let t : Transition = list_context (context q) c b in list_follow t.next (list_effect t.second (at xs m 0 w)) ≡ list_follow t.next (list_effect t.second (at xs (In (context q)) 0 w))
same_mode true class.Quote b xs m w = refl
same_mode true class.Backslash b xs m w = refl
same_mode true c b xs m w = refl
same_mode false class.Blank b xs m w = refl
same_mode false class.Newline b xs m w = refl
same_mode false class.Backslash b xs m w = refl
same_mode false c b xs m w = refl

in_context_step : (xs : List (List ℕ)) (q : Bool) (w : List ℕ) (b : ℕ) →
    let t : Transition = list_context (context q) (class_of b) b in list_step (at xs (In (context q)) 0 w) b ≡ list_follow t.next (list_effect t.second (at xs (In (context q)) 0 w))
unfolding list_transition
in_context_step xs q w b =
    let t : Transition = list_context (context q) (class_of b) b in
    step_by (at xs (In (context q)) 0 w) b (class_of b) t refl refl ∙ ap (λ d. list_follow t.next (list_effect t.second (list_effect d (at xs (In (context q)) 0 w)))) (context_first q (class_of b) b)

-- a step that does as another is read as it
pub read_step : (s n : Listing) (b : ℕ) (bs : List ℕ) (p : ℕ) → list_step s b ≡ list_step n b → list_read (b ∷ bs) s p ≡ list_read (b ∷ bs) n p
unfolding list_read
read_step s n b bs p e = ap (λ r. list_onward r p (λ m. list_read bs m (p + 1))) e

pub read_end : (s n : Listing) (p : ℕ) → list_stop s ≡ list_stop n → list_read [] s p ≡ list_read [] n p
unfolding list_read
read_end s n p e = ap (λ r. list_stopped r p) e

effect_is : (d : Effect) (xs : List (List ℕ)) (m : Mode) (w : List ℕ) → IsWriting d → list_effect d (at xs m 0 w) ≡ at xs m 0 (w ++ bytes_of d)
effect_is (effect.Byte b) xs m w h = refl
effect_is (effect.Code c) xs m w h = refl
effect_is d xs m w h = absurd h

stop_writing : (d : Effect) (q : Bool) (xs : List (List ℕ)) (m : Mode) (w : List ℕ) → IsWriting d →
    list_ended (list_context_ends (context q) d) (at xs m 0 w) ≡ list_ended (list_context_ends (context q) effect.Nothing) (at xs (In (context q)) 0 (w ++ bytes_of d))
stop_writing d true xs m w h = refl
stop_writing (effect.Byte b) false xs m w h = refl
stop_writing (effect.Code c) false xs m w h = refl
stop_writing d false xs m w h = absurd h

pub number_stop : (xs : List (List ℕ)) (q : Bool) (w : List ℕ) (n : kinds.Digits) (d : Effect) → whole n ≡ Some d → IsWriting d →
    list_stop (at xs (Number (context q) n) 0 w) ≡ list_stop (at xs (In (context q)) 0 (w ++ bytes_of d))
unfolding list_stop list_ends
number_stop xs q w n d e h = ap (λ r. list_ended (list_number_ends (context q) r) (at xs (Number (context q) n) 0 w)) e ∙ stop_writing d q xs (Number (context q) n) w h

pub join_stop : (xs : List (List ℕ)) (q : Bool) (w : List ℕ) → list_stop (at xs (Join (context q)) 0 w) ≡ list_stop (at xs (In (context q)) 0 w)
unfolding list_stop list_ends
join_stop xs true w = refl
join_stop xs false w = refl

pub last_stop : (xs : List (List ℕ)) (q : Bool) (w : List ℕ) → list_stop (at xs (Pair (context q)) 0 w) ≡ list_stop (at xs (In (context q)) 0 (w ++ 92 ∷ []))
unfolding list_stop list_ends
last_stop xs true w = refl
last_stop xs false w = refl

pub number_step : (xs : List (List ℕ)) (q : Bool) (w : List ℕ) (n : kinds.Digits) (d : Effect) (b : ℕ) → whole n ≡ Some d → IsWriting d → with_digit n b ≡ None →
    list_step (at xs (Number (context q) n) 0 w) b ≡ list_step (at xs (In (context q)) 0 (w ++ bytes_of d)) b
unfolding list_transition
number_step xs q w n d b e h none =
    let t : Transition = list_context (context q) (class_of b) b in
    step_by (at xs (Number (context q) n) 0 w) b (class_of b) (transitions.behind_effect d t) refl
    (ap (λ v. list_numbered (context q) n (class_of b) b v) none ∙ ap (λ r. behind_number r t) e)
    ∙ ap (λ s. list_follow t.next (list_effect t.second s)) (effect_is d xs (Number (context q) n) w h)
    ∙ same_mode q (class_of b) b xs (Number (context q) n) (w ++ bytes_of d)
    ∙ sym (in_context_step xs q (w ++ bytes_of d) b)

pub join_step : (xs : List (List ℕ)) (q : Bool) (w : List ℕ) (b : ℕ) → is_space b ≡ false → list_step (at xs (Join (context q)) 0 w) b ≡ list_step (at xs (In (context q)) 0 w) b
unfolding list_transition
join_step xs q w b h =
    let t : Transition = list_context (context q) (class_of b) b in
    step_by (at xs (Join (context q)) 0 w) b (class_of b) t refl (ap (λ x. cond x (goes (Join (context q))) t) h)
    ∙ ap (λ d. list_follow t.next (list_effect t.second (list_effect d (at xs (Join (context q)) 0 w)))) (context_first q (class_of b) b)
    ∙ same_mode q (class_of b) b xs (Join (context q)) w
    ∙ sym (in_context_step xs q w b)

pub space_step : (xs : List (List ℕ)) (q : Bool) (w : List ℕ) (b : ℕ) → is_space b ≡ true → list_step (at xs (Join (context q)) 0 w) b ≡ Ok (at xs (Join (context q)) 0 w)
unfolding list_transition
space_step xs q w b h =
    step_by (at xs (Join (context q)) 0 w) b (class_of b) (goes (Join (context q))) refl (ap (λ x. cond x (goes (Join (context q))) (list_context (context q) (class_of b) b)) h)

-- behind the last digit
number_ends : (after : List ℕ) (xs : List (List ℕ)) (q : Bool) (w : List ℕ) (n : kinds.Digits) (d : Effect) → whole n ≡ Some d → IsWriting d →
    ((b : ℕ) (rest : List ℕ) → after ≡ b ∷ rest → with_digit n b ≡ None) → Leads after (at xs (Number (context q) n) 0 w) [] (at xs (In (context q)) 0 (w ++ bytes_of d))
number_ends [] xs q w n d e h none = record { on = λ p. (p, read_end _ _ p (number_stop xs q w n d e h)) }
number_ends (b ∷ bs) xs q w n d e h none = record { on = λ p. (p, read_step _ _ b bs p (number_step xs q w n d b e h (none b bs refl))) }

join_ends : (after : List ℕ) (xs : List (List ℕ)) (q : Bool) (w : List ℕ) → begins_with_space after ≡ false → Leads after (at xs (Join (context q)) 0 w) [] (at xs (In (context q)) 0 w)
join_ends [] xs q w h = record { on = λ p. (p, read_end _ _ p (join_stop xs q w)) }
join_ends (b ∷ bs) xs q w h = record { on = λ p. (p, read_step _ _ b bs p (join_step xs q w b h)) }

spaces_lead : (after g : List ℕ) (xs : List (List ℕ)) (q : Bool) (w : List ℕ) → each is_space g ≡ true → begins_with_space after ≡ false →
    Leads after (at xs (Join (context q)) 0 w) g (at xs (In (context q)) 0 w)
spaces_lead after [] xs q w h e = join_ends after xs q w e
spaces_lead after (b ∷ bs) xs q w h e = lead_on after _ _ _ b bs (space_step xs q w b (and_left _ _ h)) (spaces_lead after bs xs q w (and_right _ _ h) e)

joined_transition : (s : Context) → list_transition false (Pair s) class.Newline 10 ≡ puts 32 (Join s)
unfolding list_transition
joined_transition s = refl

pub joined_step : (xs : List (List ℕ)) (q : Bool) (w : List ℕ) → list_step (at xs (Pair (context q)) 0 w) 10 ≡ Ok (at xs (Join (context q)) 0 (w ++ 32 ∷ []))
joined_step xs q w = step_by (at xs (Pair (context q)) 0 w) 10 class.Newline (puts 32 (Join (context q))) newline_is (joined_transition (context q))

-- the digits that are left to come behind some
abbrev pub left : ℕ → List ℕ → ℕ
left k [] = k
left zero (d ∷ ds) = zero
left (suc n) (d ∷ ds) = left n ds

pub digit_transition : (s : Context) (n : kinds.Digits) (c : Class) (b v : ℕ) → with_digit n b ≡ Some v → list_transition false (Number s n) c b ≡ counted s n.escape n.left v
unfolding list_transition
digit_transition s n c b v e = ap (λ x. list_numbered s n c b x) e

pub more_step : (xs : List (List ℕ)) (q : Bool) (w : List ℕ) (e : Escape) (k v b x : ℕ) → with_digit (number e (suc (suc k)) v) b ≡ Some x →
    list_step (at xs (Number (context q) (number e (suc (suc k)) v)) 0 w) b ≡ Ok (at xs (Number (context q) (number e (suc k) x)) 0 w)
more_step xs q w e k v b x h = step_by _ b (class_of b) (goes (Number (context q) (number e (suc k) x))) refl (digit_transition (context q) (number e (suc (suc k)) v) (class_of b) b x h)

pub last_step : (xs : List (List ℕ)) (q : Bool) (w : List ℕ) (e : Escape) (v b x : ℕ) (d : Effect) → with_digit (number e 1 v) b ≡ Some x → written e x ≡ Some d → IsWriting d →
    list_step (at xs (Number (context q) (number e (suc zero) v)) 0 w) b ≡ Ok (at xs (In (context q)) 0 (w ++ bytes_of d))
last_step xs q w e v b x d h g i =
    step_by _ b (class_of b) (transitions.behind_effect d (goes (In (context q)))) refl
    (digit_transition (context q) (number e (suc zero) v) (class_of b) b x h ∙ ap (λ r. behind_number r (goes (In (context q)))) g)
    ∙ ap (λ s. list_follow (target.To (In (context q))) s) (effect_is d xs (Number (context q) (number e (suc zero) v)) w i)

-- the digits of a number
digits_lead : (xs : List (List ℕ)) (q : Bool) (w : List ℕ) (e : Escape) (n v : ℕ) (ds after : List ℕ) (d : Effect) → Digits e (suc n) v ds after →
    whole (number e (left (suc n) ds) (value_from (base_of e) v ds)) ≡ Some d → IsWriting d →
    Leads after (at xs (Number (context q) (number e (suc n) v)) 0 w) ds (at xs (In (context q)) 0 (w ++ bytes_of d))
digits_lead xs q w e n v [] after d h f i = number_ends after xs q w (number e (suc n) v) d f i (λ b rest s. is_none e n v after h b rest s)
digits_lead xs q w e zero v (b ∷ []) after d h f i =
    let m = with_more e (suc zero) v b [] after h in
    lead_one after _ _ b (last_step xs q w e v b (next_value e v b) d m.2 (sym (whole_behind e 0 (next_value e v b) (some_digits e)) ∙ f) i)
digits_lead xs q w e zero v (b ∷ c ∷ ds) after d h f i = let long : suc (suc (length ds)) ≤ 1 = h.fit.1 in absurd (omega arith)
digits_lead xs q w e (suc n) v (b ∷ ds) after d h f i =
    let m = with_more e (suc (suc n)) v b ds after h in
    let less : m.0 ≡ suc n = omega (arith, m.1) in
    lead_on after _ (at xs (Number (context q) (number e (suc n) (next_value e v b))) 0 w) _ b ds (more_step xs q w e n v b (next_value e v b) m.2)
    (digits_lead xs q w e n (next_value e v b) ds after d (subst (λ k. Digits e k (next_value e v b) ds after) less m.3) f i)

pub left_most : (k : ℕ) (ds : List ℕ) → left k ds ≤ k
left_most k [] = omega arith
left_most zero (d ∷ ds) = omega arith
left_most (suc n) (d ∷ ds) = omega (arith, left_most n ds)

pub left_less : (k d : ℕ) (ds : List ℕ) → 0 < k → left k (d ∷ ds) < k
left_less zero d ds h = omega arith
left_less (suc n) d ds h = omega (arith, left_most n ds)

pub letter_whole : (e : Escape) → whole (number e (digits_of e) 0) ≡ Some (effect.Byte (letter_of e))
letter_whole Octal = refl
letter_whole Byte = refl
letter_whole Short = refl
letter_whole Long = refl

pub number_writes : (e : Escape) (ds out : List ℕ) → value_from (base_of e) 0 ds ≤ most_of e → NumberWrites e ds out →
    Written (whole (number e (left (digits_of e) ds) (value_from (base_of e) 0 ds))) out
number_writes e [] out m h = record { does = effect.Byte (letter_of e); is = letter_whole e; writing = tt; bytes = sym h }
number_writes e (d ∷ ds) out m h =
    subst (λ r. Written r out) (sym (whole_behind e (left (digits_of e) (d ∷ ds)) _ (left_less (digits_of e) d ds (some_digits e)))) (writes e _ out m h)

pub octal_writes : (v : ℕ) (ds : List ℕ) → value_from 8 v ds ≤ 255 → Written (whole (number Octal (left 2 ds) (value_from 8 v ds))) (value_from 8 v ds ∷ [])
octal_writes v ds m =
    subst (λ r. Written r (value_from 8 v ds ∷ [])) (sym (whole_behind Octal (left 2 ds) (value_from 8 v ds) (omega (arith, left_most 2 ds)))) (writes_byte (value_from 8 v ds) m)

-- a number from its letter on
number_lead : (e : Escape) (xs : List (List ℕ)) (q : Bool) (w ds after : List ℕ) (d : Effect) → Digits e (digits_of e) 0 ds after →
    whole (number e (left (digits_of e) ds) (value_from (base_of e) 0 ds)) ≡ Some d → IsWriting d →
    Leads after (at xs (Number (context q) (number e (digits_of e) 0)) 0 w) ds (at xs (In (context q)) 0 (w ++ bytes_of d))
number_lead Octal xs q w ds after d h f i = digits_lead xs q w Octal 2 0 ds after d h f i
number_lead Byte xs q w ds after d h f i = digits_lead xs q w Byte 1 0 ds after d h f i
number_lead Short xs q w ds after d h f i = digits_lead xs q w Short 3 0 ds after d h f i
number_lead Long xs q w ds after d h f i = digits_lead xs q w Long 7 0 ds after d h f i

letter_line : (e : Escape) → e ≢ Octal → letter_of e ≢ 10
letter_line Octal n h = n refl
letter_line Byte n h = omega arith
letter_line Short n h = omega arith
letter_line Long n h = omega arith

octal_line : (b : ℕ) → spec.is_octal b ≡ true → b ≢ 10
octal_line b h e = let x : spec.is_octal 10 ≡ true = subst (λ y. spec.is_octal y ≡ true) e h in absurd cc

escaped_lead : (after : List ℕ) (xs : List (List ℕ)) (q : Bool) (w e out : List ℕ) → Escaped after e out → Leads after (at xs (Pair (context q)) 0 w) e (at xs (In (context q)) 0 (w ++ out))
escaped_lead after xs q w e out (spec.Escaped.byte b n h) =
    lead_one after _ _ b (escaped_step xs q w b (puts (stands_for b) (In (context q))) n (one_transition (context q) b (stands_for b) (escaped (context q) b) (paired (context q) b) h))
escaped_lead after xs q w e out (spec.Escaped.number {ds = ds} {w = u} k n dg nw) =
    let r = number_writes k ds u dg.fit.2 nw in
    lead_on after _ (at xs (Number (context q) (number k (digits_of k) 0)) 0 w) _ (letter_of k) ds
    (escaped_step xs q w (letter_of k) (transitions.begins_number (context q) k) (letter_line k n) (letter_transition (context q) k n))
    (subst (λ x. Leads after (at xs (Number (context q) (number k (digits_of k) 0)) 0 w) ds (at xs (In (context q)) 0 (w ++ x))) r.bytes (number_lead k xs q w ds after r.does dg r.is r.writing))
escaped_lead after xs q w e out (spec.Escaped.octal {ds = ds} b o dg) =
    let r = octal_writes (b - 48) ds dg.fit.2 in
    lead_on after _ (at xs (Number (context q) (number Octal 2 (b - 48))) 0 w) _ b ds
    (escaped_step xs q w b (goes (Number (context q) (number Octal 2 (b - 48)))) (octal_line b o) (octal_transition (context q) b (stands_for b) (escaped (context q) b) (paired (context q) b) o))
    (subst (λ x. Leads after (at xs (Number (context q) (number Octal 2 (b - 48))) 0 w) ds (at xs (In (context q)) 0 (w ++ x))) r.bytes (digits_lead xs q w Octal 1 (b - 48) ds after r.does dg r.is r.writing))

-- the inside of a bare or a quoted element
inside_lead : (q : Bool) (after : List ℕ) (xs : List (List ℕ)) (w t v : List ℕ) → Inside (plain_in q) after t v → Leads after (at xs (In (context q)) 0 w) t (at xs (In (context q)) 0 (w ++ v))
inside_lead q after xs w t v lists.Inside.nothing = subst (λ x. Leads after (at xs (In (context q)) 0 w) [] (at xs (In (context q)) 0 x)) (sym (append-nil w)) (lead_none after _)
inside_lead q after xs w t v (lists.Inside.byte {t = u} {v = x} b h i) =
    lead_on after _ _ _ b u (plain_step xs q w b h)
    (subst (λ y. Leads after (at xs (In (context q)) 0 (w ++ b ∷ [])) u (at xs (In (context q)) 0 y)) (append_assoc w (b ∷ []) x) (inside_lead q after xs (w ++ b ∷ []) u x i))
inside_lead q after xs w t v (lists.Inside.escape {t = u} {v = x} e out h i) =
    lead_on after _ _ _ 92 (e ++ u) (pair_step xs q w)
    (lead_both after _ (at xs (In (context q)) 0 (w ++ out)) _ e u (escaped_lead (u ++ after) xs q w e out h)
    (subst (λ y. Leads after (at xs (In (context q)) 0 (w ++ out)) u (at xs (In (context q)) 0 y)) (append_assoc w out x) (inside_lead q after xs (w ++ out) u x i)))
inside_lead q after xs w t v (lists.Inside.joined_line {t = u} {v = x} g h i) =
    lead_on after _ _ _ 92 (10 ∷ g ++ u) (pair_step xs q w)
    (lead_on after _ _ _ 10 (g ++ u) (joined_step xs q w)
    (lead_both after _ (at xs (In (context q)) 0 (w ++ 32 ∷ [])) _ g u (spaces_lead (u ++ after) g xs q (w ++ 32 ∷ []) h.0 h.1)
    (subst (λ y. Leads after (at xs (In (context q)) 0 (w ++ 32 ∷ [])) u (at xs (In (context q)) 0 y)) (append_assoc w (32 ∷ []) x) (inside_lead q after xs (w ++ 32 ∷ []) u x i))))
inside_lead q after xs w t v (lists.Inside.last_backslash e) =
    subst (λ y. Leads y (at xs (In (context q)) 0 w) (92 ∷ []) (at xs (In (context q)) 0 (w ++ 92 ∷ []))) (sym e)
    (lead_on [] _ _ _ 92 [] (pair_step xs q w) (record { on = λ p. (p, read_end _ _ p (last_stop xs q w)) }))

-- the inside of a braced element
pub plain_braced_transition : (deep : Bool) (c : Class) (b : ℕ) → plain_braced c ≡ true → list_transition deep Braced c b ≡ puts b Braced
unfolding list_transition
plain_braced_transition deep class.Open b e = absurd cc
plain_braced_transition deep class.Close b e = absurd cc
plain_braced_transition deep class.Backslash b e = absurd cc
plain_braced_transition true c b e = refl
plain_braced_transition false c b e = refl

pub braced_pair_transition : (deep : Bool) → list_transition deep Braced class.Backslash 92 ≡ puts 92 BracedPair
unfolding list_transition
braced_pair_transition true = refl
braced_pair_transition false = refl

pub paired_transition : (deep : Bool) (c : Class) (b : ℕ) → list_transition deep BracedPair c b ≡ puts b Braced
unfolding list_transition
paired_transition deep c b = refl

pub deeper_transition : (deep : Bool) → list_transition deep Braced class.Open 123 ≡ does (effect.Byte 123) target.Deeper
unfolding list_transition
deeper_transition deep = refl

pub shallower_transition : (deep : Bool) → deep ≡ true → list_transition deep Braced class.Close 125 ≡ does (effect.Byte 125) target.Shallower
unfolding list_transition
shallower_transition true e = refl
shallower_transition false e = absurd cc

pub last_brace_transition : list_transition false Braced class.Close 125 ≡ does effect.Word (target.To (Behind delimiter.Brace))
unfolding list_transition
last_brace_transition = refl

pub open_is : class_of 123 ≡ class.Open
unfolding class_of
open_is = refl

pub close_is : class_of 125 ≡ class.Close
unfolding class_of
close_is = refl

pub quote_is : class_of 34 ≡ class.Quote
unfolding class_of
quote_is = refl

pub closes : (xs : List (List ℕ)) (d : ℕ) (w : List ℕ) → list_step (at xs Braced (d + 1) w) 125 ≡ Ok (at xs Braced d (w ++ 125 ∷ []))
closes xs d w =
    let less : d + 1 - 1 ≡ d = omega arith in
    step_by (at xs Braced (d + 1) w) 125 class.Close _ close_is (shallower_transition (nat_lt 0 (d + 1)) (lt-ltb 0 (d + 1) (omega arith)))
    ∙ ap (λ k. Ok (at xs Braced k (w ++ 125 ∷ []))) less

braced_lead : (after : List ℕ) (xs : List (List ℕ)) (d : ℕ) (w t : List ℕ) → lists.Braced t → Leads after (at xs Braced d w) t (at xs Braced d (w ++ t))
braced_lead after xs d w t lists.Braced.nothing = subst (λ x. Leads after (at xs Braced d w) [] (at xs Braced d x)) (sym (append-nil w)) (lead_none after _)
braced_lead after xs d w t (lists.Braced.byte {t = u} b h i) =
    lead_on after _ _ _ b u (step_by (at xs Braced d w) b (class_of b) (puts b Braced) refl (plain_braced_transition (nat_lt 0 d) (class_of b) b h))
    (subst (λ y. Leads after (at xs Braced d (w ++ b ∷ [])) u (at xs Braced d y)) (append_assoc w (b ∷ []) u) (braced_lead after xs d (w ++ b ∷ []) u i))
braced_lead after xs d w t (lists.Braced.pair {t = u} b i) =
    lead_on after _ (at xs BracedPair d (w ++ 92 ∷ [])) _ 92 (b ∷ u) (step_by (at xs Braced d w) 92 class.Backslash (puts 92 BracedPair) backslash_is (braced_pair_transition (nat_lt 0 d)))
    (lead_on after _ (at xs Braced d (w ++ 92 ∷ [] ++ b ∷ [])) _ b u
    (step_by (at xs BracedPair d (w ++ 92 ∷ [])) b (class_of b) (puts b Braced) refl (paired_transition (nat_lt 0 d) (class_of b) b))
    (subst (λ y. Leads after (at xs Braced d (w ++ 92 ∷ [] ++ b ∷ [])) u (at xs Braced d y)) (append_assoc (w ++ 92 ∷ []) (b ∷ []) u ∙ append_assoc w (92 ∷ []) (b ∷ u))
    (braced_lead after xs d (w ++ 92 ∷ [] ++ b ∷ []) u i)))
braced_lead after xs d w t (lists.Braced.braces {t = u} {u = v} i j) =
    let inner = w ++ 123 ∷ [] ++ u in
    lead_on after _ (at xs Braced (d + 1) (w ++ 123 ∷ [])) _ 123 (u ++ 125 ∷ v) (step_by (at xs Braced d w) 123 class.Open (does (effect.Byte 123) target.Deeper) open_is (deeper_transition (nat_lt 0 d)))
    (lead_both after _ (at xs Braced (d + 1) inner) _ u (125 ∷ v) (braced_lead (125 ∷ v ++ after) xs (d + 1) (w ++ 123 ∷ []) u i)
    (lead_on after _ (at xs Braced d (inner ++ 125 ∷ [])) _ 125 v (closes xs d inner)
    (subst (λ y. Leads after (at xs Braced d (inner ++ 125 ∷ [])) v (at xs Braced d y))
    (append_assoc inner (125 ∷ []) v ∙ append_assoc (w ++ 123 ∷ []) u (125 ∷ v) ∙ append_assoc w (123 ∷ []) (u ++ 125 ∷ v))
    (braced_lead after xs d (inner ++ 125 ∷ []) v j))))

-- between elements
gap_bare : (c : Class) (b : ℕ) → begins c ≡ true → parts c ≡ false → (t : Transition) → list_transition false (In Bare) c b ≡ t → list_transition false Gap c b ≡ t
unfolding list_transition
gap_bare class.Quote b h e t f = absurd cc
gap_bare class.Open b h e t f = absurd cc
gap_bare class.Blank b h e t f = absurd cc
gap_bare class.Newline b h e t f = absurd cc
gap_bare class.Backslash b h e t f = f
gap_bare c b h e t f = f

pub unparted : (c : Class) → plain_bare c ≡ true → parts c ≡ false
unparted class.Blank e = absurd cc
unparted class.Newline e = absurd cc
unparted c e = refl

-- a bare element begins
begin_step : (xs : List (List ℕ)) (b : ℕ) (t : Transition) (m : Mode) (k : List ℕ) → begins (class_of b) ≡ true → parts (class_of b) ≡ false → list_transition false (In Bare) (class_of b) b ≡ t →
    list_step (at xs Gap 0 []) b ≡ list_follow t.next (list_effect t.second (list_effect t.first (at xs Gap 0 [])))
begin_step xs b t m k h e f = step_by (at xs Gap 0 []) b (class_of b) t refl (gap_bare (class_of b) b h e t f)

pub begin_plain : (xs : List (List ℕ)) (b : ℕ) → begins (class_of b) ≡ true → plain_bare (class_of b) ≡ true → list_step (at xs Gap 0 []) b ≡ list_step (at xs (In Bare) 0 []) b
begin_plain xs b h e = begin_step xs b (puts b (In Bare)) Gap [] h (unparted (class_of b) e) (plain_transition false (class_of b) b e) ∙ sym (plain_step xs false [] b e)

pub begin_pair : (xs : List (List ℕ)) → list_step (at xs Gap 0 []) 92 ≡ list_step (at xs (In Bare) 0 []) 92
unfolding list_transition
begin_pair xs = step_by (at xs Gap 0 []) 92 class.Backslash (goes (Pair Bare)) backslash_is refl ∙ sym (pair_step xs false [])

begin_lead : (after : List ℕ) (xs : List (List ℕ)) (t v : List ℕ) → BeginsElement t → Inside plain_bare after t v → (p : ℕ) → list_read (t ++ after) (at xs Gap 0 []) p ≡ list_read (t ++ after) (at xs (In Bare) 0 []) p
begin_lead after xs t v h lists.Inside.nothing p = absurd h
begin_lead after xs t v h (lists.Inside.byte {t = u} b e i) p = read_step _ _ b (u ++ after) p (begin_plain xs b h e)
begin_lead after xs t v h (lists.Inside.escape {t = u} e out f i) p = read_step _ _ 92 (e ++ u ++ after) p (begin_pair xs)
begin_lead after xs t v h (lists.Inside.joined_line {t = u} g f i) p = read_step _ _ 92 (10 ∷ g ++ u ++ after) p (begin_pair xs)
begin_lead after xs t v h (lists.Inside.last_backslash e) p = read_step _ _ 92 after p (begin_pair xs)

-- a blank
blank_transition : (c : Class) (b : ℕ) → parts c ≡ true → list_transition false Gap c b ≡ goes Gap
unfolding list_transition
blank_transition class.Blank b e = refl
blank_transition class.Newline b e = refl
blank_transition c b e = absurd cc

pub blank_step : (xs : List (List ℕ)) (b : ℕ) → is_blank b ≡ true → list_step (at xs Gap 0 []) b ≡ Ok (at xs Gap 0 [])
blank_step xs b e = step_by (at xs Gap 0 []) b (class_of b) (goes Gap) refl (blank_transition (class_of b) b e)

blanks_lead : (after : List ℕ) (xs : List (List ℕ)) (g : List ℕ) → each is_blank g ≡ true → Leads after (at xs Gap 0 []) g (at xs Gap 0 [])
blanks_lead after xs [] h = lead_none after _
blanks_lead after xs (b ∷ bs) h = lead_on after _ _ _ b bs (blank_step xs b (and_left _ _ h)) (blanks_lead after xs bs (and_right _ _ h))

-- an element ends
pub bare_blank : (c : Class) (b : ℕ) → parts c ≡ true → list_transition false (In Bare) c b ≡ does effect.Word (target.To Gap)
unfolding list_transition
bare_blank class.Blank b e = refl
bare_blank class.Newline b e = refl
bare_blank c b e = absurd cc

pub behind_blank : (l : _) (c : Class) (b : ℕ) → parts c ≡ true → list_transition false (Behind l) c b ≡ goes Gap
unfolding list_transition
behind_blank l class.Blank b e = refl
behind_blank l class.Newline b e = refl
behind_blank l c b e = absurd cc

pub ends_bare : (xs : List (List ℕ)) (w : List ℕ) → list_stop (at xs (In Bare) 0 w) ≡ list_stop (at (xs ++ w ∷ []) Gap 0 [])
unfolding list_stop list_ends
ends_bare xs w = refl

pub ends_behind : (xs : List (List ℕ)) (l : _) → list_stop (at xs (Behind l) 0 []) ≡ list_stop (at xs Gap 0 [])
unfolding list_stop list_ends
ends_behind xs l = refl

part_bare : (after : List ℕ) (xs : List (List ℕ)) (w : List ℕ) → Parted after → Leads after (at xs (In Bare) 0 w) [] (at (xs ++ w ∷ []) Gap 0 [])
part_bare [] xs w h = record { on = λ p. (p, read_end _ _ p (ends_bare xs w)) }
part_bare (b ∷ bs) xs w h = record { on = λ p. (p, read_step _ _ b bs p (step_by (at xs (In Bare) 0 w) b (class_of b) _ refl (bare_blank (class_of b) b h) ∙ sym (blank_step (xs ++ w ∷ []) b h))) }

part_behind : (after : List ℕ) (xs : List (List ℕ)) (l : _) → Parted after → Leads after (at xs (Behind l) 0 []) [] (at xs Gap 0 [])
part_behind [] xs l h = record { on = λ p. (p, read_end _ _ p (ends_behind xs l)) }
part_behind (b ∷ bs) xs l h = record { on = λ p. (p, read_step _ _ b bs p (step_by (at xs (Behind l) 0 []) b (class_of b) _ refl (behind_blank l (class_of b) b h) ∙ sym (blank_step xs b h))) }

pub quote_transition : list_transition false (In Quoted) class.Quote 34 ≡ does effect.Word (target.To (Behind delimiter.Quote))
unfolding list_transition
quote_transition = refl

pub gap_quote : list_transition false Gap class.Quote 34 ≡ goes (In Quoted)
unfolding list_transition
gap_quote = refl

pub gap_brace : list_transition false Gap class.Open 123 ≡ goes Braced
unfolding list_transition
gap_brace = refl

element_lead : (after : List ℕ) (xs : List (List ℕ)) (t v : List ℕ) → Element after t v → Parted after → Leads after (at xs Gap 0 []) t (at (xs ++ v ∷ []) Gap 0 [])
element_lead after xs t v (lists.Element.bare h i) p =
    let inner = inside_lead false after xs [] t v i in
    let ends = part_bare after xs v p in
    record { on = λ n. let a = inner.on n in let b = ends.on a.0 in (b.0, begin_lead after xs t v h i n ∙ a.1 ∙ b.1) }
element_lead after xs t v (lists.Element.quoted {t = u} i) p =
    lead_on after _ (at xs (In Quoted) 0 []) _ 34 (u ++ 34 ∷ []) (step_by (at xs Gap 0 []) 34 class.Quote (goes (In Quoted)) quote_is gap_quote)
    (lead_both after _ (at xs (In Quoted) 0 v) _ u (34 ∷ []) (inside_lead true (34 ∷ after) xs [] u v i)
    (lead_on after _ (at (xs ++ v ∷ []) (Behind delimiter.Quote) 0 []) _ 34 [] (step_by (at xs (In Quoted) 0 v) 34 class.Quote _ quote_is quote_transition) (part_behind after (xs ++ v ∷ []) delimiter.Quote p)))
element_lead after xs t v (lists.Element.braced {t = u} i) p =
    lead_on after _ (at xs Braced 0 []) _ 123 (u ++ 125 ∷ []) (step_by (at xs Gap 0 []) 123 class.Open (goes Braced) open_is gap_brace)
    (lead_both after _ (at xs Braced 0 v) _ u (125 ∷ []) (braced_lead (125 ∷ after) xs 0 [] u i)
    (lead_on after _ (at (xs ++ v ∷ []) (Behind delimiter.Brace) 0 []) _ 125 [] (step_by (at xs Braced 0 v) 125 class.Close _ close_is last_brace_transition) (part_behind after (xs ++ v ∷ []) delimiter.Brace p)))

pub gap_stop : (xs : List (List ℕ)) (p : ℕ) → list_read [] (at xs Gap 0 []) p ≡ Ok xs
unfolding list_read list_stop list_ends
gap_stop xs p = refl

list_lead : (text : List ℕ) (vs xs : List (List ℕ)) (p : ℕ) → ListOf text vs → list_read text (at xs Gap 0 []) p ≡ Ok (xs ++ vs)
list_lead text vs xs p (lists.ListOf.no_elements g h) =
    let a = (blanks_lead [] xs g h).on p in
    ap (λ x. list_read x (at xs Gap 0 []) p) (sym (append-nil g)) ∙ a.1 ∙ gap_stop xs a.0 ∙ ap Ok (sym (append-nil xs))
list_lead text vs xs p (lists.ListOf.element {t = t} {v = v} {after = after} {vs = ws} g h e d l) =
    let a = (blanks_lead (t ++ after) xs g h).on p in
    let b = (element_lead after xs t v e d).on a.0 in
    ap (λ x. list_read x (at xs Gap 0 []) p) (append_assoc g t after) ∙ a.1 ∙ b.1 ∙ list_lead after ws (xs ++ v ∷ []) b.0 l ∙ ap Ok (append_assoc xs (v ∷ []) ws)

pub spelled_list_is_read : (text : List ℕ) (xs : List (List ℕ)) → ListOf text xs → elements_of text ≡ Ok xs
unfolding elements_of
spelled_list_is_read text xs h = ap without_place (list_lead text xs [] 0 h)
