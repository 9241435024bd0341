-- The kind of a list's fault says what is wrong.
use Rattle.std.specs.Prelude.{◌≡◌, ◌≢◌, ℕ, zero, suc, ◌+◌, ◌≤◌, ◌<◌, List, [], ◌∷◌, ◌++◌, length, refl, Ok, Err, Result, Bool, true, false, Option, None, Some, cond, nat_lt, ◌==◌, ◌⊎◌}
use Rattle.std.proofs.Common.{inl, inr, ◌∙◌, ap, sym, arith, subst, append_assoc, length-append}
use Rattle.std.proofs.lemmas.List.{append-nil}
use Rattle.std.proofs.lemmas.Bool.{lt-ltb}
use Rattle.std.specs.Char.{digit_value}
use lib.Utf8.{scalar}
use Rattle.dg_lists.specs.declared.fault.WordFault.{WordFault}
use Rattle.dg_lists.specs.declared.fault.WordFault.TheVariants.{ListBrace, ListQuote, ListAfter, BadCodePoint}
use Rattle.dg_lists.specs.declared.kinds.Class.{Class}
use Rattle.dg_lists.specs.declared.kinds.Class.TheVariants as class
use Rattle.dg_lists.specs.declared.kinds.Effect.{Effect}
use Rattle.dg_lists.specs.declared.kinds.Effect.TheVariants as effect
use Rattle.dg_lists.specs.declared.kinds.Delimiter.TheVariants as delimiter
use Rattle.dg_lists.specs.declared.kinds.Digits as kinds
use Rattle.dg_lists.specs.declared.kinds.Ending.TheVariants as ending
use Rattle.dg_lists.specs.declared.kinds.Escape.{Escape}
use Rattle.dg_lists.specs.declared.kinds.Escape.TheVariants.{Octal, Byte, Short, Long}
use Rattle.dg_lists.specs.declared.kinds.Mode.{Mode}
use Rattle.dg_lists.specs.declared.kinds.Mode.TheVariants as mode
use Rattle.dg_lists.specs.declared.kinds.Target.{Target}
use Rattle.dg_lists.specs.declared.kinds.Target.TheVariants as target
use Rattle.dg_lists.specs.declared.kinds.Context.{Context}
use Rattle.dg_lists.specs.declared.kinds.Context.TheVariants as context
use Rattle.dg_lists.specs.declared.kinds.Transition.{Transition}
use Rattle.dg_lists.specs.Classes.{class_of}
use Rattle.dg_lists.specs.Transitions.{base_of, behind_number, counted, digits_of, does, escaped, goes, is_space, letter_of, most_of, puts, whole, with_digit, written}
use Rattle.dg_lists.specs.Elements.{Elements, Listing, elements_of, list_behind, list_braced, list_effect, list_ended, list_ends, list_follow, list_gap, list_number_ends, list_numbered, list_onward, list_pair, list_quoted, list_read, list_context, list_step, list_stop, list_stopped, list_transition, unread, without_place}
use Rattle.dg_lists.specs.Grammar.Escapes.{each, stands_for, value_from}
use Rattle.dg_lists.specs.Grammar.Lists.{ListOf, Parted, is_blank, parts}
use Rattle.dg_lists.specs.Grammar.Continuing.{GoesOn, IsList, IsNoList, StopsAt}
use Rattle.dg_lists.specs.Grammar.Saying.{EndsElement, MayEscape, Misses, Says, WritesNone}
use Rattle.dg_lists.proofs.GrammarLemmas.Bytes.{Without, has_or, is_class}
use Rattle.dg_lists.proofs.GrammarLemmas.Numbers.{Paired, digit_some, number, paired}
use Rattle.dg_lists.proofs.GrammarLemmas.ListRead.{at, quote_is, spelled_list_is_read, step_by}
use Rattle.dg_lists.proofs.GrammarLemmas.ListSpelled.{read_list_is_spelled}
use Rattle.dg_lists.proofs.GrammarLemmas.ListFaults.{list_fault_can_go_on, list_fault_is_first}
use Rattle.dg_lists.proofs.GrammarLemmas.ListSteps.{Digited, Escaping, Reached, Trace, before, digited, ok_state}
use Rattle.dg_lists.proofs.GrammarLemmas.Endable.{Fine, Good, letter_is}

fault_in : {X : Type 0} → WordFault → Result X WordFault → WordFault
fault_in f (Ok x) = f
fault_in f (Err g) = g

pub err_same : {X : Type 0} {f g : WordFault} → ◌≡◌ {A = Result X WordFault} (Err f) (Err g) → f ≡ g
unfolding fault_in
err_same {f = f} e = ap (fault_in f) e

-- modes inside of braces, inside of quotes, and behind either
abbrev pub OpenBrace : Mode → Type 0
OpenBrace mode.Braced = Unit {0}
OpenBrace mode.BracedPair = Unit {0}
OpenBrace m = ⊥

abbrev pub OpenQuote : Mode → Type 0
OpenQuote (mode.In context.Quoted) = Unit {0}
OpenQuote (mode.Pair context.Quoted) = Unit {0}
OpenQuote (mode.Join context.Quoted) = Unit {0}
OpenQuote (mode.Number context.Quoted n) = Unit {0}
OpenQuote m = ⊥

abbrev pub IsBehind : Mode → Type 0
IsBehind mode.Gap = ⊥
IsBehind (mode.In s) = ⊥
IsBehind (mode.Pair s) = ⊥
IsBehind (mode.Join s) = ⊥
IsBehind (mode.Number s n) = ⊥
IsBehind mode.Braced = ⊥
IsBehind mode.BracedPair = ⊥
IsBehind m = Unit {0}

-- why a text cannot end in a mode
pub data Stopping : Mode → WordFault → Type 0 where
  in_braces : {m : Mode} → OpenBrace m → Stopping m ListBrace
  in_quotes : {m : Mode} → OpenQuote m → Stopping m ListQuote
  in_number : (s : Context) (n : kinds.Digits) → s ≢ context.Quoted → whole n ≡ None → Stopping (mode.Number s n) BadCodePoint

number_stopping : (s : Context) (x : kinds.Digits) (xs : List (List ℕ)) (n : ℕ) (w : List ℕ) (r : Option Effect) → whole x ≡ r → (f : WordFault) → list_ended (list_number_ends s r) (at xs (mode.Number s x) n w) ≡ Err f → Stopping (mode.Number s x) f
number_stopping context.Quoted x xs n w (Some d) h f e = subst (λ g. Stopping (mode.Number context.Quoted x) g) (err_same e) (Stopping.in_quotes tt)
number_stopping context.Quoted x xs n w None h f e = subst (λ g. Stopping (mode.Number context.Quoted x) g) (err_same e) (Stopping.in_quotes tt)
number_stopping s x xs n w (Some d) h f e = absurd cc
number_stopping context.Bare x xs n w None h f e = subst (λ g. Stopping (mode.Number context.Bare x) g) (err_same e) (Stopping.in_number context.Bare x (λ i. absurd cc) h)
number_stopping context.Index x xs n w None h f e = subst (λ g. Stopping (mode.Number context.Index x) g) (err_same e) (Stopping.in_number context.Index x (λ i. absurd cc) h)
number_stopping context.Alone x xs n w None h f e = subst (λ g. Stopping (mode.Number context.Alone x) g) (err_same e) (Stopping.in_number context.Alone x (λ i. absurd cc) h)

pub stopping : (m : Mode) (xs : List (List ℕ)) (n : ℕ) (w : List ℕ) (f : WordFault) → list_stop (at xs m n w) ≡ Err f → Stopping m f
unfolding list_stop list_ends
stopping (mode.In context.Quoted) xs n w f e = subst (λ g. Stopping (mode.In context.Quoted) g) (err_same e) (Stopping.in_quotes tt)
stopping (mode.Pair context.Quoted) xs n w f e = subst (λ g. Stopping (mode.Pair context.Quoted) g) (err_same e) (Stopping.in_quotes tt)
stopping (mode.Join context.Quoted) xs n w f e = subst (λ g. Stopping (mode.Join context.Quoted) g) (err_same e) (Stopping.in_quotes tt)
stopping (mode.Number s x) xs n w f e = number_stopping s x xs n w (whole x) refl f e
stopping mode.Braced xs n w f e = subst (λ g. Stopping mode.Braced g) (err_same e) (Stopping.in_braces tt)
stopping mode.BracedPair xs n w f e = subst (λ g. Stopping mode.BracedPair g) (err_same e) (Stopping.in_braces tt)
stopping m xs n w f e = absurd cc

-- why a byte cannot stand in a mode
abbrev Failing : Target → WordFault → Type 0
Failing (target.Bad g) f = g ≡ f
Failing (target.To m) f = ⊥
Failing target.Deeper f = ⊥
Failing target.Shallower f = ⊥
Failing x f = ListAfter ≡ f

failing : (x : Target) (s : Listing) (f : WordFault) → list_follow x s ≡ Err f → Failing x f
failing (target.Bad g) s f e = err_same e
failing (target.To m) s f e = absurd cc
failing target.Deeper s f e = absurd cc
failing target.Shallower s f e = absurd cc
failing x s f e = err_same e

pub data Failed : Mode → ℕ → WordFault → Type 0 where
  behind : {m : Mode} {b : ℕ} → IsBehind m → Failed m b ListAfter
  last_digit : {b : ℕ} (s : Context) (n : kinds.Digits) (v : ℕ) → n.left ≡ 1 → with_digit n b ≡ Some v → written n.escape v ≡ None → Failed (mode.Number s n) b BadCodePoint
  no_digit : {b : ℕ} (s : Context) (n : kinds.Digits) → whole n ≡ None → Failed (mode.Number s n) b BadCodePoint

no_gap : (c : Class) (b : ℕ) (f : WordFault) → Failing (list_gap c b).next f → ⊥
no_gap class.Blank b f = λ h. h
no_gap class.Newline b f = λ h. h
no_gap class.Quote b f = λ h. h
no_gap class.Open b f = λ h. h
no_gap class.Backslash b f = λ h. h
no_gap c b f = λ h. h

no_context : (s : Context) (c : Class) (b : ℕ) (f : WordFault) → Failing (list_context s c b).next f → ⊥
no_context context.Quoted class.Quote b f = λ h. h
no_context context.Quoted class.Backslash b f = λ h. h
no_context context.Quoted c b f = λ h. h
no_context s class.Blank b f = λ h. h
no_context s class.Newline b f = λ h. h
no_context s class.Backslash b f = λ h. h
no_context s c b f = λ h. h

no_paired : (s : Context) (b v : ℕ) (t : Transition) (f : WordFault) → Paired s b t v → Failing t.next f → ⊥
no_paired s b v t f (Paired.one h) = λ x. x
no_paired s b v t f (Paired.letter e n h) = λ x. x
no_paired s b v t f (Paired.eight h) = λ x. x

no_pair : (s : Context) (c : Class) (b : ℕ) (f : WordFault) → Failing (list_pair s c b).next f → ⊥
no_pair s class.Newline b f = λ h. h
no_pair s c b f = no_paired s b (stands_for b) (escaped s b) f (paired s b)

no_if : (x : Bool) (t u : Transition) (f : WordFault) → (Failing t.next f → ⊥) → (Failing u.next f → ⊥) → Failing (cond x t u).next f → ⊥
no_if true t u f h k = h
no_if false t u f h k = k

no_braced : (deep : Bool) (c : Class) (b : ℕ) (f : WordFault) → Failing (list_braced deep c b).next f → ⊥
no_braced true class.Open b f = λ h. h
no_braced true class.Close b f = λ h. h
no_braced true class.Backslash b f = λ h. h
no_braced true c b f = λ h. h
no_braced false class.Open b f = λ h. h
no_braced false class.Close b f = λ h. h
no_braced false class.Backslash b f = λ h. h
no_braced false c b f = λ h. h

behind_failed : (c : Class) (f : WordFault) → Failing (list_behind c).next f → ListAfter ≡ f
behind_failed class.Blank f = λ h. absurd h
behind_failed class.Newline f = λ h. absurd h
behind_failed c f = λ h. h

number_failed : (r : Option Effect) (t : Transition) (f : WordFault) → (Failing t.next f → ⊥) → Failing (behind_number r t).next f → (r ≡ None) × (BadCodePoint ≡ f)
number_failed (Some d) t f n h = absurd (n h)
number_failed None t f n h = (refl, h)

counted_failed : (s : Context) (e : Escape) (left v : ℕ) (f : WordFault) → 1 ≤ left → Failing (counted s e left v).next f → (left ≡ 1) × (written e v ≡ None) × (BadCodePoint ≡ f)
counted_failed s e zero v f g h = absurd (omega (arith, g))
counted_failed s e (suc zero) v f g h = let x = number_failed (written e v) (goes (mode.In s)) f (λ y. y) h in (refl, x.0, x.1)
counted_failed s e (suc (suc left)) v f g h = absurd h

digits_failed : (s : Context) (n : kinds.Digits) (b : ℕ) (f : WordFault) (r : Option ℕ) → with_digit n b ≡ r → Good n → Failing (list_numbered s n (class_of b) b r).next f → Failed (mode.Number s n) b f
digits_failed s n b f (Some v) i g h =
    let x = counted_failed s n.escape n.left v f g.0 h in
    subst (λ y. Failed (mode.Number s n) b y) x.2 (Failed.last_digit s n v x.0 i x.1)
digits_failed s n b f None i g h =
    let x = number_failed (whole n) (list_context s (class_of b) b) f (no_context s (class_of b) b f) h in
    subst (λ y. Failed (mode.Number s n) b y) x.1 (Failed.no_digit s n x.0)

failed : (deep : Bool) (m : Mode) (b : ℕ) (f : WordFault) → Fine m → Failing (list_transition deep m (class_of b) b).next f → Failed m b f
unfolding list_transition
failed deep mode.Gap b f g h = absurd (no_gap (class_of b) b f h)
failed deep (mode.In s) b f g h = absurd (no_context s (class_of b) b f h)
failed deep (mode.Pair s) b f g h = absurd (no_pair s (class_of b) b f h)
failed deep (mode.Join s) b f g h = absurd (no_if (is_space b) (goes (mode.Join s)) (list_context s (class_of b) b) f (λ x. x) (no_context s (class_of b) b f) h)
failed deep (mode.Number s n) b f g h = digits_failed s n b f (with_digit n b) refl g h
failed deep mode.Braced b f g h = absurd (no_braced deep (class_of b) b f h)
failed deep mode.BracedPair b f g h = absurd h
failed deep m b f g h = subst (λ y. Failed m b y) (behind_failed (class_of b) f h) (Failed.behind tt)

pub step_failed : (s : Listing) (b : ℕ) (f : WordFault) → Fine s.mode → list_step s b ≡ Err f → Failed s.mode b f
unfolding list_step
step_failed s b f g e =
    let t : Transition = list_transition (nat_lt 0 s.depth) s.mode (class_of b) b in
    failed (nat_lt 0 s.depth) s.mode b f g (failing t.next (list_effect t.second (list_effect t.first s)) f e)

-- modes that only one byte leaves, and in which no text ends
abbrev pub Stays : (Mode → Type 0) → Target → Type 0
Stays P (target.To m) = P m
Stays P target.Deeper = P mode.Braced
Stays P target.Shallower = P mode.Braced
Stays P x = Unit {0}

pub record Held (P : Mode → Type 0) (k : ℕ) : Type 0 where
  pub transitions : (deep : Bool) (m : Mode) (b : ℕ) → P m → b ≢ k → Stays P (list_transition deep m (class_of b) b).next
  pub ends : (m : Mode) (s : Listing) (ys : List (List ℕ)) → P m → list_ended (list_ends m) s ≡ Ok ys → ⊥

pub stays_follow : (P : Mode → Type 0) (x : Target) (s n : Listing) → Stays P x → list_follow x s ≡ Ok n → P n.mode
stays_follow P (target.To m) s n h e = subst (λ (y : Listing). P y.mode) (ok_state e) h
stays_follow P target.Deeper s n h e = subst (λ (y : Listing). P y.mode) (ok_state e) h
stays_follow P target.Shallower s n h e = subst (λ (y : Listing). P y.mode) (ok_state e) h
stays_follow P x s n h e = absurd cc

pub stays_step : (P : Mode → Type 0) (k : ℕ) → Held P k → (s n : Listing) (b : ℕ) → P s.mode → b ≢ k → list_step s b ≡ Ok n → P n.mode
unfolding list_step
stays_step P k c s n b h d e =
    let t : Transition = list_transition (nat_lt 0 s.depth) s.mode (class_of b) b in
    stays_follow P t.next (list_effect t.second (list_effect t.first s)) n (c.transitions (nat_lt 0 s.depth) s.mode b h d) e

held_end : (r : Result (List (List ℕ)) WordFault) (p : ℕ) (ys : List (List ℕ)) → list_stopped r p ≡ Ok ys → r ≡ Ok ys
held_end (Ok xs) p ys e = e_same e
  where
    elements_in : Elements → List (List ℕ)
    elements_in (Ok x) = x
    elements_in (Err f) = []

    e_same : ◌≡◌ {A = Elements} (Ok xs) (Ok ys) → ◌≡◌ {A = Result (List (List ℕ)) WordFault} (Ok xs) (Ok ys)
    e_same i = ap (λ x. Ok (elements_in x)) i
held_end (Err f) p ys e = absurd cc

held_transition : (r : Result Listing WordFault) (bs : List ℕ) (p : ℕ) (ys : List (List ℕ)) → ((n : Listing) → r ≡ Ok n → list_read bs n (p + 1) ≡ Ok ys → ⊥) → list_onward r p (λ n. list_read bs n (p + 1)) ≡ Ok ys → ⊥
held_transition (Ok n) bs p ys f e = f n refl e
held_transition (Err g) bs p ys f e = absurd cc

pub held : (P : Mode → Type 0) (k : ℕ) → Held P k → (more : List ℕ) → Without k more → (s : Listing) → P s.mode → (p : ℕ) (ys : List (List ℕ)) → list_read more s p ≡ Ok ys → ⊥
unfolding list_read list_stop
held P k c [] w s h p ys e = c.ends s.mode s ys h (held_end (list_ended (list_ends s.mode) s) p ys e)
held P k c (b ∷ bs) w s h p ys e = held_transition (list_step s b) bs p ys (λ n i j. held P k c bs w.1 n (stays_step P k c s n b h w.0 i) (p + 1) ys j) e

-- inside of braces
brace_transitions : (deep : Bool) (m : Mode) (c : Class) (b : ℕ) → OpenBrace m → c ≢ class.Close → Stays OpenBrace (list_transition deep m c b).next
unfolding list_transition
brace_transitions true mode.Braced class.Open b h n = tt
brace_transitions true mode.Braced class.Close b h n = absurd (n refl)
brace_transitions true mode.Braced class.Backslash b h n = tt
brace_transitions true mode.Braced c b h n = tt
brace_transitions false mode.Braced class.Open b h n = tt
brace_transitions false mode.Braced class.Close b h n = absurd (n refl)
brace_transitions false mode.Braced class.Backslash b h n = tt
brace_transitions false mode.Braced c b h n = tt
brace_transitions deep mode.BracedPair c b h n = tt
brace_transitions deep m c b h n = absurd h

brace_ends : (m : Mode) (s : Listing) (ys : List (List ℕ)) → OpenBrace m → list_ended (list_ends m) s ≡ Ok ys → ⊥
unfolding list_ends
brace_ends mode.Braced s ys h e = absurd cc
brace_ends mode.BracedPair s ys h e = absurd cc
brace_ends m s ys h e = h

pub held_brace : Held OpenBrace 125
held_brace = record { transitions = λ deep m b h d. brace_transitions deep m (class_of b) b h (λ e. d (is_class b class.Close e)); ends = brace_ends }

-- inside of quotes
pub quote_context : (c : Class) (b : ℕ) → c ≢ class.Quote → Stays OpenQuote (list_quoted c b).next
quote_context class.Quote b n = absurd (n refl)
quote_context class.Backslash b n = tt
quote_context c b n = tt

quote_paired : (b v : ℕ) (t : Transition) → Paired context.Quoted b t v → Stays OpenQuote t.next
quote_paired b v t (Paired.one h) = tt
quote_paired b v t (Paired.letter e n h) = tt
quote_paired b v t (Paired.eight h) = tt

pub quote_pair : (c : Class) (b : ℕ) → Stays OpenQuote (list_pair context.Quoted c b).next
quote_pair class.Newline b = tt
quote_pair c b = quote_paired b (stands_for b) (escaped context.Quoted b) (paired context.Quoted b)

quote_if : (x : Bool) (t u : Transition) → Stays OpenQuote t.next → Stays OpenQuote u.next → Stays OpenQuote (cond x t u).next
quote_if true t u h k = h
quote_if false t u h k = k

quote_behind : (r : Option Effect) (t : Transition) → Stays OpenQuote t.next → Stays OpenQuote (behind_number r t).next
quote_behind (Some d) t h = h
quote_behind None t h = tt

quote_counted : (e : Escape) (left v : ℕ) → Stays OpenQuote (counted context.Quoted e left v).next
quote_counted e zero v = tt
quote_counted e (suc zero) v = quote_behind (written e v) (goes (mode.In context.Quoted)) tt
quote_counted e (suc (suc left)) v = tt

pub quote_numbered : (n : kinds.Digits) (c : Class) (b : ℕ) (r : Option ℕ) → c ≢ class.Quote → Stays OpenQuote (list_numbered context.Quoted n c b r).next
quote_numbered n c b (Some v) d = quote_counted n.escape n.left v
quote_numbered n c b None d = quote_behind (whole n) (list_quoted c b) (quote_context c b d)

pub quote_transitions : (deep : Bool) (m : Mode) (c : Class) (b : ℕ) → OpenQuote m → c ≢ class.Quote → Stays OpenQuote (list_transition deep m c b).next
unfolding list_transition
quote_transitions deep (mode.In context.Quoted) c b h n = quote_context c b n
quote_transitions deep (mode.Pair context.Quoted) c b h n = quote_pair c b
quote_transitions deep (mode.Join context.Quoted) c b h n = quote_if (is_space b) (goes (mode.Join context.Quoted)) (list_quoted c b) tt (quote_context c b n)
quote_transitions deep (mode.Number context.Quoted x) c b h n = quote_numbered x c b (with_digit x b) n
quote_transitions deep m c b h n = absurd h

quote_number_ends : (r : Option Effect) (s : Listing) (ys : List (List ℕ)) → list_ended (list_number_ends context.Quoted r) s ≡ Ok ys → ⊥
quote_number_ends (Some d) s ys e = absurd cc
quote_number_ends None s ys e = absurd cc

quote_ends : (m : Mode) (s : Listing) (ys : List (List ℕ)) → OpenQuote m → list_ended (list_ends m) s ≡ Ok ys → ⊥
unfolding list_ends
quote_ends (mode.In context.Quoted) s ys h e = absurd cc
quote_ends (mode.Pair context.Quoted) s ys h e = absurd cc
quote_ends (mode.Join context.Quoted) s ys h e = absurd cc
quote_ends (mode.Number context.Quoted x) s ys h e = quote_number_ends (whole x) s ys e
quote_ends m s ys h e = h

pub held_quote : Held OpenQuote 34
held_quote = record { transitions = λ deep m b h d. quote_transitions deep m (class_of b) b h (λ e. d (is_class b class.Quote e)); ends = quote_ends }

-- a list that is read from its beginning on
pub read_whole : (a : Elements) (xs : List (List ℕ)) → without_place a ≡ Ok xs → a ≡ Ok xs
read_whole (Ok ys) xs e = ap (λ r. Ok (elements_in r)) e
  where
    elements_in : Result (List (List ℕ)) WordFault → List (List ℕ)
    elements_in (Ok x) = x
    elements_in (Err f) = []
read_whole (Err f) xs e = absurd cc

pub read_behind : (front more : List ℕ) (s : Listing) → Reached front s → (xs : List (List ℕ)) → ListOf (front ++ more) xs → (p : ℕ) × (list_read more s p ≡ Ok xs)
unfolding elements_of
read_behind front more s r xs h =
    let l = (r.leads more).on 0 in
    (l.0, sym l.1 ∙ read_whole (list_read (front ++ more) unread 0) xs (spelled_list_is_read (front ++ more) xs h))

misses : (P : Mode → Type 0) (k : ℕ) → Held P k → (text : List ℕ) (place : ℕ) (s : Listing) → Reached text s → place ≡ length text → P s.mode → Misses IsList k text place
misses P k c text place s r e h = (
  e,
  λ more l.
      elim (has_or k more) [
        | inl x ↦ x
        | inr w ↦ let x = read_behind text more s r l.0 l.1 in absurd (held P k c more w s h x.0 l.0 x.1)
      ],
)

-- behind an element
behind_transition : (deep : Bool) (m : Mode) (c : Class) (b : ℕ) → IsBehind m → list_transition deep m c b ≡ list_behind c
unfolding list_transition
behind_transition deep mode.Gap c b h = absurd h
behind_transition deep (mode.In s) c b h = absurd h
behind_transition deep (mode.Pair s) c b h = absurd h
behind_transition deep (mode.Join s) c b h = absurd h
behind_transition deep (mode.Number s n) c b h = absurd h
behind_transition deep mode.Braced c b h = absurd h
behind_transition deep mode.BracedPair c b h = absurd h
behind_transition deep m c b h = refl

behind_ends : (m : Mode) → IsBehind m → list_ends m ≡ ending.Done
unfolding list_ends
behind_ends mode.Gap h = absurd h
behind_ends (mode.In s) h = absurd h
behind_ends (mode.Pair s) h = absurd h
behind_ends (mode.Join s) h = absurd h
behind_ends (mode.Number s n) h = absurd h
behind_ends mode.Braced h = absurd h
behind_ends mode.BracedPair h = absurd h
behind_ends m h = refl

behind_more : (c : Class) → parts c ≡ false → list_behind c ≡ does effect.Nothing (target.Bad ListAfter)
behind_more class.Blank h = absurd cc
behind_more class.Newline h = absurd cc
behind_more c h = refl

behind_fails : (s : Listing) (b : ℕ) → IsBehind s.mode → is_blank b ≡ false → list_step s b ≡ Err ListAfter
unfolding list_step
behind_fails s b h e =
    ap (λ (t : Transition). list_follow t.next (list_effect t.second (list_effect t.first s))) (behind_transition (nat_lt 0 s.depth) s.mode (class_of b) b h ∙ behind_more (class_of b) e)

pub behind_parted : (more : List ℕ) (s : Listing) → IsBehind s.mode → (p : ℕ) (ys : List (List ℕ)) → list_read more s p ≡ Ok ys → Parted more
unfolding list_read
behind_parted [] s h p ys e = tt
behind_parted (b ∷ bs) s h p ys e = tested (is_blank b) refl
  where
    tested : (x : Bool) → is_blank b ≡ x → is_blank b ≡ true
    tested true i = i
    tested false i = let y = sym (ap (λ r. list_onward r p (λ n. list_read bs n (p + 1))) (behind_fails s b h i)) ∙ e in absurd cc

pub behind_stops : (s : Listing) (p : ℕ) → IsBehind s.mode → list_read [] s p ≡ Ok s.elements
unfolding list_read list_stop
behind_stops s p h = ap (λ x. list_stopped (list_ended x s) p) (behind_ends s.mode h)

ends_element : (text front rest : List ℕ) (place : ℕ) (s : Listing) → text ≡ front ++ rest → place ≡ length front → Reached front s → IsBehind s.mode → EndsElement text place
unfolding elements_of
ends_element text front rest place s e i r h =
    let l = (r.leads []).on 0 in
    record {
      front = front;
      rest = rest;
      split = e;
      place_is = i;
      is_list = (s.elements, read_list_is_spelled front s.elements (ap without_place (ap (λ t. list_read t unread 0) (sym (append-nil front)) ∙ l.1 ∙ behind_stops s l.0 h)));
      is_parted = λ more x. let y = read_behind front more s r x.0 x.1 in behind_parted more s h y.0 x.0 y.1;
    }

-- an escape
pair_step : (s : Context) (xs : List (List ℕ)) (n : ℕ) (w : List ℕ) → list_step (at xs (mode.Pair s) n w) 97 ≡ Ok (at xs (mode.In s) n (w ++ 7 ∷ []))
unfolding list_transition
pair_step s xs n w = step_by (at xs (mode.Pair s) n w) 97 class.Name (puts 7 (mode.In s)) letter_is refl

bare_reads : (s : Context) (xs : List (List ℕ)) (n : ℕ) (w : List ℕ) (p : ℕ) → s ≢ context.Quoted → (ys : List (List ℕ)) × (list_read (97 ∷ []) (at xs (mode.Pair s) n w) p ≡ Ok ys)
unfolding list_read list_stop list_ends
bare_reads context.Quoted xs n w p d = absurd (d refl)
bare_reads context.Bare xs n w p d = (xs ++ (w ++ 7 ∷ []) ∷ [], ap (λ r. list_onward r p (λ k. list_read [] k (p + 1))) (pair_step context.Bare xs n w))
bare_reads context.Index xs n w p d = (xs ++ (w ++ 7 ∷ []) ∷ [], ap (λ r. list_onward r p (λ k. list_read [] k (p + 1))) (pair_step context.Index xs n w))
bare_reads context.Alone xs n w p d = (xs ++ (w ++ 7 ∷ []) ∷ [], ap (λ r. list_onward r p (λ k. list_read [] k (p + 1))) (pair_step context.Alone xs n w))

quote_step : (xs : List (List ℕ)) (n : ℕ) (w : List ℕ) → list_step (at xs (mode.In context.Quoted) n w) 34 ≡ Ok (at (xs ++ w ∷ []) (mode.Behind delimiter.Quote) n [])
unfolding list_transition
quote_step xs n w = step_by (at xs (mode.In context.Quoted) n w) 34 class.Quote (does effect.Word (target.To (mode.Behind delimiter.Quote))) quote_is refl

quoted_reads : (xs : List (List ℕ)) (n : ℕ) (w : List ℕ) (p : ℕ) → (ys : List (List ℕ)) × (list_read (97 ∷ 34 ∷ []) (at xs (mode.Pair context.Quoted) n w) p ≡ Ok ys)
unfolding list_read list_stop list_ends
quoted_reads xs n w p = (
  xs ++ (w ++ 7 ∷ []) ∷ [],
  ap (λ r. list_onward r p (λ k. list_read (34 ∷ []) k (p + 1))) (pair_step context.Quoted xs n w)
      ∙ ap (λ r. list_onward r (p + 1) (λ k. list_read [] k (p + 1 + 1))) (quote_step xs n (w ++ 7 ∷ [])),
)

pair_list : (before more : List ℕ) (s : Context) → Escaping before s → ((xs : List (List ℕ)) (n : ℕ) (w : List ℕ) (p : ℕ) → (ys : List (List ℕ)) × (list_read more (at xs (mode.Pair s) n w) p ≡ Ok ys)) → IsList ((before ++ 92 ∷ []) ++ more)
unfolding elements_of
pair_list before more s x f =
    let l = (x.leads more).on 0 in
    let y = f x.state.elements x.state.depth x.state.text l.0 in (
      y.0,
      read_list_is_spelled ((before ++ 92 ∷ []) ++ more) y.0
          (ap without_place (l.1 ∙ ap (λ m. list_read more (at x.state.elements m x.state.depth x.state.text) l.0) x.is_pair ∙ y.1)),
    )

context_case : (s : Context) → (s ≢ context.Quoted) ⊎ (s ≡ context.Quoted)
context_case context.Quoted = inr refl
context_case context.Bare = inl (λ e. absurd cc)
context_case context.Index = inl (λ e. absurd cc)
context_case context.Alone = inl (λ e. absurd cc)

may_escape : (quoted : Type 0) (before : List ℕ) (s : Context) → Escaping before s → (s ≡ context.Quoted → quoted) → MayEscape quoted before
may_escape quoted before s x q =
    elim (context_case s) [
      | inl d ↦ inl (subst IsList (append_assoc before (92 ∷ []) (97 ∷ [])) (pair_list before (97 ∷ []) s x (λ xs n w p. bare_reads s xs n w p d)))
      | inr e ↦ inr (
        q e,
        subst IsList (append_assoc before (92 ∷ []) (97 ∷ 34 ∷ []))
            (pair_list before (97 ∷ 34 ∷ []) context.Quoted (subst (λ k. Escaping before k) e x) quoted_reads),
      )
    ]

-- no character
code_none : (v : ℕ) (x : Bool) → cond x (Some (effect.Code v)) None ≡ None → x ≡ false
code_none v true h = absurd cc
code_none v false h = refl

byte_some : (v : ℕ) (x : Bool) → x ≡ true → cond x (Some (effect.Byte v)) None ≡ None → ⊥
byte_some v true e h = absurd cc
byte_some v false e h = absurd cc

pub written_none : (e : Escape) (v : ℕ) → v ≤ most_of e → written e v ≡ None → (e ≢ Octal) × (scalar v ≡ false)
written_none Octal v m h = absurd (byte_some v (nat_lt v 256) (lt-ltb v 256 (omega arith)) h)
written_none Byte v m h = absurd (byte_some v (nat_lt v 256) (lt-ltb v 256 (omega arith)) h)
written_none Short v m h = (λ i. absurd cc, code_none v (scalar v) h)
written_none Long v m h = (λ i. absurd cc, code_none v (scalar v) h)

pub whole_none : (n : kinds.Digits) → whole n ≡ None → written n.escape n.value ≡ None
whole_none n h = tested (n.left == digits_of n.escape) h
  where
    tested : (x : Bool) → cond x (Some (effect.Byte (letter_of n.escape))) (written n.escape n.value) ≡ None → written n.escape n.value ≡ None
    tested true e = absurd cc
    tested false e = e

pub sixteen : (e : Escape) → e ≢ Octal → base_of e ≡ 16
sixteen Octal n = absurd (n refl)
sixteen Byte n = refl
sixteen Short n = refl
sixteen Long n = refl

abbrev Stands : List ℕ → List ℕ → ℕ → ℕ → Type 0
Stands before digits most place = ((length digits < most) × (place ≡ length before + 2 + length digits)) ⊎ ((length digits ≡ most) × (suc place ≡ length before + 2 + length digits))

writes_none : (text past rest : List ℕ) (place : ℕ) (s : Context) (e : Escape) (left v : ℕ) (d : Digited past s (number e left v)) → text ≡ past ++ rest → scalar v ≡ false → (s ≡ context.Quoted → place < length text) →
    Stands d.before d.digits (digits_of e) place → WritesNone text place
writes_none text past rest place s e left v d t n q p = record {
  before = d.before;
  escape = e;
  digits = d.digits;
  rest = rest;
  split = t ∙ ap (λ x. x ++ rest) d.split;
  may_escape = may_escape (place < length text) d.before s d.escaping q;
  by_letter = d.by_letter;
  are_digits = subst (λ b. each (λ x. nat_lt (digit_value x) b) d.digits ≡ true) (sixteen e d.by_letter) d.are_digits;
  no_character = ap scalar (sym (d.value_is ∙ ap (λ b. value_from b 0 d.digits) (sixteen e d.by_letter))) ∙ n;
  place_is = p;
}

digits_long : (past : List ℕ) (s : Context) (e : Escape) (left v : ℕ) (d : Digited past s (number e left v)) → length past ≡ length d.before + 2 + length d.digits
digits_long past s e left v d = omega (arith, ap length d.split, length-append d.before (92 ∷ letter_of e ∷ d.digits))

past_digits : (text past rest : List ℕ) (place : ℕ) (s : Context) (n : kinds.Digits) → text ≡ past ++ rest → place ≡ length past → Good n → whole n ≡ None → (n.escape ≡ Octal) ⊎ Digited past s n → (s ≡ context.Quoted → place < length text) → WritesNone text place
past_digits text past rest place s n t p g w (inl o) q = absurd ((written_none n.escape n.value g.1 (whole_none n w)).0 o)
past_digits text past rest place s n t p g w (inr d) q =
    writes_none text past rest place s n.escape n.left n.value d t (written_none n.escape n.value g.1 (whole_none n w)).1 q
    (inl (omega (arith, d.left_is, g.0), omega (arith, p, digits_long past s n.escape n.left n.value d)))

at_digit : (text past bs : List ℕ) (b place : ℕ) (s : Context) (n : kinds.Digits) (v : ℕ) → text ≡ past ++ b ∷ bs → place ≡ length past → n.left ≡ 1 → with_digit n b ≡ Some v → written n.escape v ≡ None → (n.escape ≡ Octal) ⊎ Digited past s n →
    (s ≡ context.Quoted → place < length text) → WritesNone text place
at_digit text past bs b place s n v t p l i w (inl o) q = absurd ((written_none n.escape v (digit_some n.escape n.left n.value b v i).2 w).0 o)
at_digit text past bs b place s n v t p l i w (inr d) q =
    let x = digited past s n.escape 0 n.value b v i (subst (λ k. Digited past s (number n.escape k n.value)) l d) in
    writes_none text (past ++ b ∷ []) bs place s n.escape 0 v x (t ∙ sym (append_assoc past (b ∷ []) bs)) (written_none n.escape v (digit_some n.escape n.left n.value b v i).2 w).1 q
    (inr (omega (arith, x.left_is), omega (arith, p, digits_long (past ++ b ∷ []) s n.escape 0 v x, length-append past (b ∷ []))))

-- the whole
says_end : (text front rest : List ℕ) (place : ℕ) (s : Listing) (f : WordFault) (m : Mode) → text ≡ front ++ rest → place ≡ length front → rest ≡ [] → Reached front s → s.mode ≡ m → Fine m → Trace front m → Stopping m f → Says f text place
says_end text front rest place s f m e p i r j g tr (Stopping.in_braces h) =
    let same : front ≡ text = sym (e ∙ ap (λ x. front ++ x) i ∙ append-nil front) in
    misses OpenBrace 125 held_brace text place s (subst (λ t. Reached t s) same r) (p ∙ ap length same) (subst OpenBrace (sym j) h)
says_end text front rest place s f m e p i r j g tr (Stopping.in_quotes h) =
    let same : front ≡ text = sym (e ∙ ap (λ x. front ++ x) i ∙ append-nil front) in
    misses OpenQuote 34 held_quote text place s (subst (λ t. Reached t s) same r) (p ∙ ap length same) (subst OpenQuote (sym j) h)
says_end text front rest place s f m e p i r j g tr (Stopping.in_number k n d w) = past_digits text front rest place k n e p g w tr (λ x. absurd (d x))

says_at : (text front rest bs : List ℕ) (b place : ℕ) (s : Listing) (f : WordFault) (m : Mode) → text ≡ front ++ rest → place ≡ length front → rest ≡ b ∷ bs → Reached front s → s.mode ≡ m → Fine m → Trace front m → Failed m b f → Says f text place
says_at text front rest bs b place s f m e p i r j g tr (Failed.behind h) = ends_element text front rest place s e p r (subst IsBehind (sym j) h)
says_at text front rest bs b place s f m e p i r j g tr (Failed.last_digit k n v l h w) =
    let whole : text ≡ front ++ b ∷ bs = e ∙ ap (λ x. front ++ x) i in
    at_digit text front bs b place k n v whole p l h w tr (λ x. omega (arith, p, ap length whole, length-append front (b ∷ bs)))
says_at text front rest bs b place s f m e p i r j g tr (Failed.no_digit k n w) =
    let whole : text ≡ front ++ b ∷ bs = e ∙ ap (λ x. front ++ x) i in
    past_digits text front rest place k n e p g w tr (λ x. omega (arith, p, ap length whole, length-append front (b ∷ bs)))

pub list_fault_says_what_is_wrong : (text : List ℕ) (fault : WordFault) (place : ℕ) → list_read text unread 0 ≡ Err (fault, place) → Says fault text place
list_fault_says_what_is_wrong text fault place e =
    let x = before text fault place e in
    let s = x.state in
    elim x.why as (λ _. Says fault text place) [
      | inl (r, w) ↦ says_end text x.front x.rest place s fault s.mode x.split x.place_is r x.reached refl x.reached.fine x.reached.trace (stopping s.mode s.elements s.depth s.text fault w)
      | inr (b, bs, r, w) ↦ says_at text x.front x.rest bs b place s fault s.mode x.split x.place_is r x.reached refl x.reached.fine x.reached.trace (step_failed s b fault x.reached.fine w)
    ]

pub placed : (a : Elements) (fault : WordFault) → without_place a ≡ Err fault → (place : ℕ) × (a ≡ Err (fault, place))
placed (Ok xs) fault e = absurd cc
placed (Err (f, p)) fault e = (p, ap (λ r. Err (kind_in r, p)) e)
  where
    kind_in : Result (List (List ℕ)) WordFault → WordFault
    kind_in (Ok xs) = f
    kind_in (Err g) = g

pub list_fault_has_its_place : (text : List ℕ) (fault : WordFault) → elements_of text ≡ Err fault → (place : ℕ) × GoesOn IsList text place × StopsAt (IsNoList fault) text place × Says fault text place
unfolding elements_of
list_fault_has_its_place text fault e = let (p, h) = placed (list_read text unread 0) fault e in (p, list_fault_can_go_on text fault p h, list_fault_is_first text fault p h, list_fault_says_what_is_wrong text fault p h)
