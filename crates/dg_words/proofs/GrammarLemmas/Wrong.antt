-- What is wrong where words have a fault: a word has ended, or an escape writes no character.
use Rattle.std.specs.Prelude.{◌≡◌, ◌≢◌, ℕ, suc, ◌+◌, ◌<◌, List, [], ◌∷◌, ◌++◌, length, refl, Ok, Err, Result, Bool, true, false, Option, None, Some, nat_lt, ◌⊎◌}
use Rattle.std.proofs.Common.{inl, inr, ◌∙◌, ap, sym, arith, subst, append_assoc, length-append}
use Rattle.std.specs.Char.{digit_value}
use lib.Utf8.{scalar}
use Rattle.dg_lists.specs.declared.fault.WordFault.{WordFault}
use Rattle.dg_lists.specs.declared.fault.WordFault.TheVariants as fault
use Rattle.dg_lists.specs.declared.kinds.Class.{Class}
use Rattle.dg_lists.specs.declared.kinds.Class.TheVariants as class
use Rattle.dg_lists.specs.declared.kinds.Effect.{Effect}
use Rattle.dg_lists.specs.declared.kinds.Effect.TheVariants as effect
use Rattle.dg_lists.specs.declared.kinds.Delimiter.{Delimiter}
use Rattle.dg_lists.specs.declared.kinds.Delimiter.TheVariants as delimiter
use Rattle.dg_lists.specs.declared.kinds.Digits as kinds
use Rattle.dg_lists.specs.declared.kinds.Escape.{Escape}
use Rattle.dg_lists.specs.declared.kinds.Escape.TheVariants.{Octal}
use Rattle.dg_words.specs.declared.kinds.Level.{Level}
use Rattle.dg_words.specs.declared.kinds.Level.TheVariants as level
use Rattle.dg_lists.specs.declared.kinds.Mode.{Mode}
use Rattle.dg_lists.specs.declared.kinds.Mode.TheVariants as mode
use Rattle.dg_lists.specs.declared.kinds.Target.TheVariants as target
use Rattle.dg_words.specs.declared.kinds.Opener.{Opener}
use Rattle.dg_lists.specs.declared.kinds.Context.{Context}
use Rattle.dg_lists.specs.declared.kinds.Context.TheVariants as context
use Rattle.dg_words.specs.declared.word.Word.{Word}
use Rattle.dg_lists.specs.Classes.{class_of}
use Rattle.dg_words.specs.Transitions.{heard}
use Rattle.dg_lists.specs.Transitions.{behind_number, digits_of, does, goes, letter_of, whole, with_digit, written}
use Rattle.dg_words.specs.Transitions.{after, behind, behind_pair, ends, in_context, number_ends, numbered, context_ends, transition}
use Rattle.dg_words.specs.Machine.{Draft, Go, Fails, State, ended, fresh, is_none, level_in, onward, read, step, stop, stopped, take_transition}
use Rattle.dg_words.proofs.GrammarLemmas.Reads.{IsRead}
use Rattle.dg_lists.specs.Grammar.Escapes.{each, value_from}
use Rattle.dg_words.specs.Grammar.Saying.{BeginsWithHex, EndsWord, Unwritten, is_hex}
use Rattle.dg_words.specs.Grammar.Words.{Parted, ends_word}
use Rattle.dg_words.proofs.GrammarLemmas.Openings.{IsOther}
use Rattle.dg_lists.proofs.GrammarLemmas.Bytes.{is_class}
use Rattle.dg_lists.proofs.GrammarLemmas.Endable.{Fine}
use Rattle.dg_lists.proofs.GrammarLemmas.ListKinds.{sixteen, whole_none, written_none}
use Rattle.dg_lists.proofs.GrammarLemmas.Numbers.{digit_some, number}
use Rattle.dg_words.proofs.GrammarLemmas.Segments.{Leads, at, step_by, taken_to}
use Rattle.dg_words.proofs.GrammarLemmas.Trails.{Cause, Ended, Numbered, Reached, Trail, mark, numbered_more}

-- a reading that a byte ends in a fault succeeds with no text
pub bad_take : (n : ℕ) (os : List Opener) (d : Draft) (b : ℕ) (f : WordFault) → take_transition (does effect.Nothing (target.Bad f)) n os d b ≡ Fails f
bad_take n [] d b f = refl
bad_take n (o ∷ os) d b f = refl

fails_not : (l : Level) (s : State) (b : ℕ) (bs : List ℕ) (p : ℕ) (f : WordFault) (x : List Word × ℕ) → step l s b ≡ Fails f → read l (b ∷ bs) s p ≡ Ok x → ⊥
unfolding read
fails_not l s b bs p f x e r = let y = sym (ap (λ m. onward m p (λ n. read l bs n (p + 1))) e) ∙ r in absurd cc

goes_on : (l : Level) (s n : State) (b : ℕ) (bs : List ℕ) (p : ℕ) (x : List Word × ℕ) → step l s b ≡ Go n → read l (b ∷ bs) s p ≡ Ok x → read l bs n (p + 1) ≡ Ok x
unfolding read
goes_on l s n b bs p x e r = sym (ap (λ m. onward m p (λ k. read l bs k (p + 1))) e) ∙ r

-- behind a word
abbrev IsEnder : Class → Type 0
IsEnder class.Blank = Unit {0}
IsEnder class.Newline = Unit {0}
IsEnder class.Semicolon = Unit {0}
IsEnder class.RightBracket = Unit {0}
IsEnder c = ⊥

heard_ends : (l : Level) (c : Class) → IsEnder (heard l c) → ends_word level.Inside c ≡ true
heard_ends l class.Blank h = refl
heard_ends l class.Newline h = refl
heard_ends l class.Semicolon h = refl
heard_ends l class.RightBracket h = refl
heard_ends level.Top c h = absurd h
heard_ends level.List c h = absurd h
heard_ends level.Inside c h = absurd h
heard_ends level.Alone c h = absurd h

heard_slash : (l : Level) (c : Class) → heard l c ≡ class.Backslash → c ≡ class.Backslash
heard_slash l class.Backslash e = refl
heard_slash level.Top class.RightBracket e = absurd cc
heard_slash level.Top c e = e
heard_slash level.List class.Newline e = absurd cc
heard_slash level.List class.Semicolon e = absurd cc
heard_slash level.List class.Hash e = absurd cc
heard_slash level.List class.RightBracket e = absurd cc
heard_slash level.List c e = e
heard_slash level.Inside c e = e
heard_slash level.Alone class.RightBracket e = absurd cc
heard_slash level.Alone c e = e

data Behind (l : Level) (d : Delimiter) (c : Class) : Type 0 where
  parts : IsEnder c → Behind l d c
  slash : c ≡ class.Backslash → behind l d c ≡ goes (mode.BehindPair d) → Behind l d c
  bad : behind l d c ≡ does effect.Nothing (target.Bad (after d)) → Behind l d c

behind_is : (l : Level) (d : Delimiter) (c : Class) → l ≢ level.Alone → Behind l d c
behind_is level.Alone d c n = absurd (n refl)
behind_is l d class.Blank n = Behind.parts tt
behind_is l d class.Newline n = Behind.parts tt
behind_is l d class.Semicolon n = Behind.parts tt
behind_is l d class.RightBracket n = Behind.parts tt
behind_is level.Top d class.Backslash n = Behind.slash refl refl
behind_is level.List d class.Backslash n = Behind.slash refl refl
behind_is level.Inside d class.Backslash n = Behind.slash refl refl
behind_is level.Top d c n = Behind.bad refl
behind_is level.List d c n = Behind.bad refl
behind_is level.Inside d c n = Behind.bad refl

pair_is : (d : Delimiter) (c : Class) → (c ≡ class.Newline) ⊎ (behind_pair d c ≡ does effect.Nothing (target.Bad (after d)))
pair_is d class.Newline = inl refl
pair_is d c = inr refl

pair_stop : (os : List Opener) (d : Delimiter) (k : Draft) (p : ℕ) (x : List Word × ℕ) → stopped (ended (ends (is_none os) (mode.BehindPair d)) k) p ≡ Ok x → ⊥
unfolding ends
pair_stop [] d k p x e = absurd cc
pair_stop (o ∷ os) d k p x e = absurd cc

pair_parted : (l : Level) (os : List Opener) (d : Delimiter) (n : ℕ) (k : Draft) (bs : List ℕ) (p : ℕ) (x : List Word × ℕ) → read l bs (at os (mode.BehindPair d) n k) p ≡ Ok x → (rest : List ℕ) × (bs ≡ 10 ∷ rest)
unfolding read stop transition
pair_parted l os d n k [] p x r = absurd (pair_stop os d k p x r)
pair_parted l os d n k (b ∷ bs) p x r = elim (pair_is d (class_of b)) [
  | inl e ↦ (bs, ap (λ y. y ∷ bs) (is_class b class.Newline e))
  | inr e ↦ absurd (fails_not l (at os (mode.BehindPair d) n k) b bs p (after d) x (step_by l (at os (mode.BehindPair d) n k) b (class_of b) _ refl e ∙ bad_take n os k b (after d)) r)
]

behind_parted : (l : Level) (os : List Opener) (d : Delimiter) (n : ℕ) (k : Draft) (more : List ℕ) (p : ℕ) (x : List Word × ℕ) → level_in l os ≢ level.Alone → read l more (at os (mode.Behind d) n k) p ≡ Ok x → Parted level.Inside more
unfolding transition
behind_parted l os d n k [] p x h r = Parted.at_end
behind_parted l os d n k (b ∷ bs) p x h r = elim (behind_is (level_in l os) d (heard (level_in l os) (class_of b)) h) [
  | parts e ↦ Parted.at_byte b (heard_ends (level_in l os) (class_of b) e)
  | slash e t ↦
      let y = goes_on l (at os (mode.Behind d) n k) _ b bs p x (step_by l (at os (mode.Behind d) n k) b (class_of b) _ refl t ∙ taken_to effect.Nothing effect.Nothing (mode.BehindPair d) os n k b) r in
      let z = pair_parted l os d n _ bs (p + 1) x y in
      let i : b ≡ 92 = is_class b class.Backslash (heard_slash (level_in l os) (class_of b) e) in
      subst (λ t. Parted level.Inside t) (ap (λ u. 92 ∷ u) (sym z.1) ∙ ap (λ c. c ∷ bs) (sym i)) Parted.at_joined_line
  | bad t ↦ absurd (fails_not l (at os (mode.Behind d) n k) b bs p (after d) x (step_by l (at os (mode.Behind d) n k) b (class_of b) _ refl t ∙ bad_take n os k b (after d)) r)
]

parted : (l : Level) (s : State) (d : Delimiter) (more : List ℕ) (p : ℕ) (x : List Word × ℕ) → s.mode ≡ mode.Behind d → level_in l s.inner ≢ level.Alone → read l more s p ≡ Ok x → Parted level.Inside more
parted l s d more p x e h r = behind_parted l s.inner d s.depth s.draft more p x h (subst (λ k. read l more (at s.inner k s.depth s.draft) p ≡ Ok x) e r)

-- what is read behind bytes that lead to a state
behind_state : (l : Level) (m : Mode) (front more : List ℕ) (s : State) → ((after : List ℕ) → Leads l after (fresh m) front s) → IsRead l m (front ++ more) → (p : ℕ) × (x : List Word × ℕ) × (read l more s p ≡ Ok x)
behind_state l m front more s x r = (0 + length front, (r.0, r.1), sym ((x more).on 0) ∙ r.2)

ends_word_here : (l : Level) (m : Mode) (text front rest : List ℕ) (s : State) (d : Delimiter) → text ≡ front ++ rest → Reached l m front s → s.mode ≡ mode.Behind d → level_in l s.inner ≢ level.Alone → EndsWord (IsRead l m) (mark d) text (length front)
ends_word_here l m text front rest s d t r e h =
    let x = subst (λ k. Trail l m front k) e r.trail in
    record {
      before = x.0;
      rest = rest;
      split = t ∙ ap (λ y. y ++ rest) x.1 ∙ append_assoc x.0 (mark d ∷ []) rest;
      is_parted = λ more i.
          let y = behind_state l m front more s r.leads (subst (IsRead l m) (sym (ap (λ y. y ++ more) x.1 ∙ append_assoc x.0 (mark d ∷ []) more)) i) in
          parted l s d more y.0 y.1 e h y.2;
      place_is = inl (ap length x.1 ∙ length-append x.0 (mark d ∷ []));
    }

ends_word_before : (l : Level) (m : Mode) (text front rest : List ℕ) (d : Delimiter) → text ≡ front ++ rest → Ended l m front d → EndsWord (IsRead l m) (mark d) text (length front)
ends_word_before l m text front rest d t x =
    let whole : front ≡ x.before ++ mark d ∷ 92 ∷ [] = x.split ∙ append_assoc x.before (mark d ∷ []) (92 ∷ []) in
    record {
      before = x.before;
      rest = 92 ∷ rest;
      split = t ∙ ap (λ y. y ++ rest) whole ∙ append_assoc x.before (mark d ∷ 92 ∷ []) rest;
      is_parted = λ more i.
          let y = behind_state l m (x.before ++ mark d ∷ []) more x.state x.leads (subst (IsRead l m) (sym (append_assoc x.before (mark d ∷ []) more)) i) in
          parted l x.state d more y.0 y.1 x.is_behind x.is_word y.2;
      place_is = inr (ap length whole ∙ length-append x.before (mark d ∷ 92 ∷ []), rest, refl);
    }

-- a number that writes no character needs a digit more
no_stop : (top : Bool) (s : Context) (k : Draft) (p : ℕ) (x : List Word × ℕ) → stopped (ended (number_ends top s None) k) p ≡ Ok x → ⊥
no_stop true context.Bare k p x e = absurd cc
no_stop true context.Alone k p x e = absurd cc
no_stop true context.Quoted k p x e = absurd cc
no_stop true context.Index k p x e = absurd cc
no_stop false context.Bare k p x e = absurd cc
no_stop false context.Alone k p x e = absurd cc
no_stop false context.Quoted k p x e = absurd cc
no_stop false context.Index k p x e = absurd cc

needs_digit : (l : Level) (os : List Opener) (s : Context) (e : Escape) (left v n : ℕ) (k : Draft) (more : List ℕ) (p : ℕ) (x : List Word × ℕ) → e ≢ Octal → whole (number e left v) ≡ None →
    read l more (at os (mode.Number s (number e left v)) n k) p ≡ Ok x → BeginsWithHex more
unfolding read stop ends transition
needs_digit l os s e left v n k [] p x o w r = absurd (no_stop (is_none os) s k p x (sym (ap (λ d. stopped (ended (number_ends (is_none os) s d) k) p) w) ∙ r))
needs_digit l os s e left v n k (b ∷ bs) p x o w r = tested (with_digit (number e left v) b) refl
  where
    tested : (d : Option ℕ) → with_digit (number e left v) b ≡ d → is_hex b ≡ true
    tested (Some y) i = subst (λ c. nat_lt (digit_value b) c ≡ true) (sixteen e o) (digit_some e left v b y i).0
    tested None i =
        absurd (fails_not l (at os (mode.Number s (number e left v)) n k) b bs p fault.BadCodePoint x
        (step_by l (at os (mode.Number s (number e left v)) n k) b (class_of b) (does effect.Nothing (target.Bad fault.BadCodePoint)) refl
        (ap (λ y. numbered (level_in l os) s (number e left v) (class_of b) b y) i ∙ ap (λ y. behind_number y (in_context (level_in l os) s (class_of b) b)) w) ∙ bad_take n os k b fault.BadCodePoint) r)

needs : (l : Level) (s : State) (t : Context) (n : kinds.Digits) (more : List ℕ) (p : ℕ) (x : List Word × ℕ) → s.mode ≡ mode.Number t n → n.escape ≢ Octal → whole n ≡ None → read l more s p ≡ Ok x → BeginsWithHex more
needs l s t n more p x e o w r = needs_digit l s.inner t n.escape n.left n.value s.depth s.draft more p x o w (subst (λ k. read l more (at s.inner k s.depth s.draft) p ≡ Ok x) e r)

abbrev Place : List ℕ → List ℕ → ℕ → ℕ → Type 0
Place before digits most place = ((length digits < most) × (place ≡ length before + 2 + length digits)) ⊎ ((length digits ≡ most) × (suc place ≡ length before + 2 + length digits))

unwritten : (l : Level) (m : Mode) (text past rest : List ℕ) (place : ℕ) (n : kinds.Digits) (x : Numbered past n) → text ≡ past ++ rest → scalar n.value ≡ false →
    ((more : List ℕ) → IsRead l m (past ++ more) → (length x.digits < digits_of n.escape) × BeginsWithHex more) → Place x.before x.digits (digits_of n.escape) place → Unwritten (IsRead l m) text place
unwritten l m text past rest place n x t c u p =
    let base = sixteen n.escape x.by_letter in
    record {
      before = x.before;
      escape = n.escape;
      digits = x.digits;
      rest = rest;
      split = t ∙ ap (λ y. y ++ rest) x.split;
      by_letter = x.by_letter;
      are_digits = subst (λ b. each (λ d. nat_lt (digit_value d) b) x.digits ≡ true) base x.are_digits;
      no_character = ap scalar (sym (x.value_is ∙ ap (λ b. value_from b 0 x.digits) base)) ∙ c;
      unfinished = λ more i. u more (subst (IsRead l m) (sym (ap (λ y. y ++ more) x.split)) i);
      place_is = p;
    }

long : (past : List ℕ) (n : kinds.Digits) (x : Numbered past n) → length past ≡ length x.before + 2 + length x.digits
long past n x = omega (arith, ap length x.split, length-append x.before (92 ∷ letter_of n.escape ∷ x.digits))

unwritten_here : (l : Level) (m : Mode) (text front rest : List ℕ) (s : State) (t : Context) (n : kinds.Digits) → text ≡ front ++ rest → Reached l m front s → s.mode ≡ mode.Number t n → whole n ≡ None → Unwritten (IsRead l m) text (length front)
unwritten_here l m text front rest s t n i r e w =
    let g = subst Fine e r.fine in
    let k = written_none n.escape n.value g.1 (whole_none n w) in
    elim (subst (λ y. Trail l m front y) e r.trail) [
      | inl o ↦ absurd (k.0 o)
      | inr x ↦
          let shorter : length x.digits < digits_of n.escape = omega (arith, x.left_is, g.0) in
          unwritten l m text front rest (length front) n x i k.1
          (λ more h. let y = behind_state l m front more s r.leads h in (shorter, needs l s t n more y.0 y.1 e k.0 w y.2))
          (inl (shorter, long front n x))
    ]

unwritten_at : (l : Level) (m : Mode) (text front bs : List ℕ) (s : State) (b : ℕ) (t : Context) (n : kinds.Digits) (v : ℕ) → text ≡ front ++ b ∷ bs → Reached l m front s → s.mode ≡ mode.Number t n → step l s b ≡ Fails fault.BadCodePoint →
    n.left ≡ 1 → with_digit n b ≡ Some v → written n.escape v ≡ None → Unwritten (IsRead l m) text (length front)
unwritten_at l m text front bs s b t n v i r e f one h w =
    let k = written_none n.escape v (digit_some n.escape n.left n.value b v h).2 w in
    elim (subst (λ y. Trail l m front y) e r.trail) [
      | inl o ↦ absurd (k.0 o)
      | inr y ↦
          let x = numbered_more front n.escape 0 n.value b v h (subst (λ c. Numbered front (number n.escape c n.value)) one y) in
          unwritten l m text (front ++ b ∷ []) bs (length front) (number n.escape 0 v) x (i ∙ sym (append_assoc front (b ∷ []) bs)) k.1
          (λ more j.
          let z = behind_state l m front (b ∷ more) s r.leads (subst (IsRead l m) (append_assoc front (b ∷ []) more) j) in
          absurd (fails_not l s b more z.0 fault.BadCodePoint z.1 f z.2))
          (inr (omega (arith, x.left_is), omega (arith, long (front ++ b ∷ []) (number n.escape 0 v) x, length-append front (b ∷ []))))
    ]

-- what is wrong, without what is open
abbrev pub IsWrongAt : (List ℕ → Type 0) → WordFault → List ℕ → ℕ → Type 0
IsWrongAt Is fault.AfterBrace text place = EndsWord Is 125 text place
IsWrongAt Is fault.AfterQuote text place = EndsWord Is 34 text place
IsWrongAt Is fault.BadCodePoint text place = Unwritten Is text place
IsWrongAt Is f text place = ⊥

after_word : (Is : List ℕ → Type 0) (text : List ℕ) (place : ℕ) (f : WordFault) (d : Delimiter) → f ≡ after d → EndsWord Is (mark d) text place → IsWrongAt Is f text place
after_word Is text place f delimiter.Brace e h = subst (λ g. IsWrongAt Is g text place) (sym e) h
after_word Is text place f delimiter.Quote e h = subst (λ g. IsWrongAt Is g text place) (sym e) h

wrong_by : (l : Level) (m : Mode) (text front bs : List ℕ) (s : State) (b : ℕ) (f : WordFault) (k : Mode) → text ≡ front ++ b ∷ bs → Reached l m front s → step l s b ≡ Fails f → s.mode ≡ k → Cause (level_in l s.inner) b k f → IsWrongAt (IsRead l m) f text (length front)
wrong_by l m text front bs s b f k i r e j (Cause.behind_word d n h) = after_word (IsRead l m) text (length front) f d h (ends_word_here l m text front (b ∷ bs) s d i r j n)
wrong_by l m text front bs s b f k i r e j (Cause.behind_backslash d h) = after_word (IsRead l m) text (length front) f d h (ends_word_before l m text front (b ∷ bs) d i (subst (λ y. Trail l m front y) j r.trail))
wrong_by l m text front bs s b f k i r e j (Cause.last_digit t n v o h w) = unwritten_at l m text front bs s b t n v i r j e o h w
wrong_by l m text front bs s b f k i r e j (Cause.no_digit t n w) = unwritten_here l m text front (b ∷ bs) s t n i r j w

pub wrong_at : (l : Level) (m : Mode) (text front bs : List ℕ) (s : State) (b : ℕ) (f : WordFault) → text ≡ front ++ b ∷ bs → Reached l m front s → step l s b ≡ Fails f → Cause (level_in l s.inner) b s.mode f → IsWrongAt (IsRead l m) f text (length front)
wrong_at l m text front bs s b f i r e c = wrong_by l m text front bs s b f s.mode i r e refl c

-- where the text ends
data Ending (f : WordFault) : Mode → Type 0 where
  behind_backslash : (d : Delimiter) → f ≡ after d → Ending f (mode.BehindPair d)
  in_number : (s : Context) (n : kinds.Digits) → whole n ≡ None → f ≡ fault.BadCodePoint → Ending f (mode.Number s n)

fault_in : WordFault → Result (List Word) WordFault → WordFault
fault_in f (Ok x) = f
fault_in f (Err g) = g

err_same : {f g : WordFault} → ◌≡◌ {A = Result (List Word) WordFault} (Err f) (Err g) → f ≡ g
unfolding fault_in
err_same {f = f} e = ap (fault_in f) e

context_other : (top : Bool) (s : Context) (x y : Effect) (d : Draft) (f : WordFault) → IsOther f → ended (context_ends top s x y) d ≡ Err f → ⊥
context_other top context.Quoted x y d f h e = subst IsOther (sym (err_same e)) h
context_other top context.Index x y d f h e = subst IsOther (sym (err_same e)) h
context_other true context.Bare x y d f h e = absurd cc
context_other true context.Alone x y d f h e = absurd cc
context_other false context.Bare x y d f h e = subst IsOther (sym (err_same e)) h
context_other false context.Alone x y d f h e = subst IsOther (sym (err_same e)) h

number_other : (top : Bool) (s : Context) (n : kinds.Digits) (r : Option Effect) → whole n ≡ r → (d : Draft) (f : WordFault) → IsOther f → ended (number_ends top s r) d ≡ Err f → Ending f (mode.Number s n)
number_other top s n (Some x) i d f h e = absurd (context_other top s effect.Nothing x d f h e)
number_other true context.Bare n None i d f h e = Ending.in_number context.Bare n i (sym (err_same e))
number_other true context.Alone n None i d f h e = Ending.in_number context.Alone n i (sym (err_same e))
number_other true context.Quoted n None i d f h e = absurd (context_other true context.Quoted effect.Nothing effect.Nothing d f h e)
number_other true context.Index n None i d f h e = absurd (context_other true context.Index effect.Nothing effect.Nothing d f h e)
number_other false s n None i d f h e = absurd (context_other false s effect.Nothing effect.Nothing d f h e)

ending : (top : Bool) (k : Mode) (d : Draft) (f : WordFault) → IsOther f → ended (ends top k) d ≡ Err f → Ending f k
unfolding ends
ending top (mode.In s) d f h e = absurd (context_other top s effect.Nothing effect.Nothing d f h e)
ending top (mode.Pair s) d f h e = absurd (context_other top s effect.Nothing (effect.Byte 92) d f h e)
ending top (mode.Join s) d f h e = absurd (context_other top s effect.Nothing effect.Nothing d f h e)
ending top (mode.Dollar s) d f h e = absurd (context_other top s effect.Nothing effect.Dollar d f h e)
ending top (mode.Colon s) d f h e = absurd (context_other top s effect.Nothing effect.DollarColon d f h e)
ending top (mode.Name s) d f h e = absurd (context_other top s effect.Nothing effect.Value d f h e)
ending top (mode.Number s n) d f h e = number_other top s n (whole n) refl d f h e
ending top (mode.NameBrace s) d f h e = absurd (subst IsOther (sym (err_same e)) h)
ending top mode.BraceFirst d f h e = absurd (subst IsOther (sym (err_same e)) h)
ending top mode.BraceStar d f h e = absurd (subst IsOther (sym (err_same e)) h)
ending top mode.Braced d f h e = absurd (subst IsOther (sym (err_same e)) h)
ending top mode.BracedPair d f h e = absurd (subst IsOther (sym (err_same e)) h)
ending top mode.BracedJoin d f h e = absurd (subst IsOther (sym (err_same e)) h)
ending true (mode.BehindPair k) d f h e = Ending.behind_backslash k (sym (err_same e))
ending true k d f h e = absurd cc
ending false k d f h e = absurd (subst IsOther (sym (err_same e)) h)

wrong_ending : (l : Level) (m : Mode) (text front : List ℕ) (s : State) (f : WordFault) (k : Mode) → text ≡ front ++ [] → Reached l m front s → s.mode ≡ k → Ending f k → IsWrongAt (IsRead l m) f text (length front)
wrong_ending l m text front s f k i r j (Ending.behind_backslash d h) = after_word (IsRead l m) text (length front) f d h (ends_word_before l m text front [] d i (subst (λ y. Trail l m front y) j r.trail))
wrong_ending l m text front s f k i r j (Ending.in_number t n w h) = subst (λ g. IsWrongAt (IsRead l m) g text (length front)) (sym h) (unwritten_here l m text front [] s t n i r j w)

pub wrong_end : (l : Level) (m : Mode) (text front : List ℕ) (s : State) (f : WordFault) → text ≡ front ++ [] → Reached l m front s → IsOther f → stop s ≡ Err f → IsWrongAt (IsRead l m) f text (length front)
unfolding stop
wrong_end l m text front s f i r h e = wrong_ending l m text front s f s.mode i r refl (ending (is_none s.inner) s.mode s.draft f h e)
