-- What is known of a list behind each byte that was read of it.
use Rattle.std.specs.Prelude.{◌≡◌, ◌≢◌, ℕ, zero, suc, ◌+◌, ◌*◌, List, [], ◌∷◌, ◌++◌, length, refl, Ok, Err, Result, Bool, true, false, Option, None, Some, cond, nat_lt, ◌⊎◌}
use Rattle.std.proofs.Common.{inl, inr, ◌∙◌, ap, sym, arith, subst, append_assoc, length-append}
use Rattle.std.specs.Char.{digit_value}
use Rattle.dg_lists.specs.declared.fault.WordFault.{WordFault}
use Rattle.dg_lists.specs.declared.kinds.Class.{Class}
use Rattle.dg_lists.specs.declared.kinds.Class.TheVariants as class
use Rattle.dg_lists.specs.declared.kinds.Effect.{Effect}
use Rattle.dg_lists.specs.declared.kinds.Digits as kinds
use Rattle.dg_lists.specs.declared.kinds.Escape.{Escape}
use Rattle.dg_lists.specs.declared.kinds.Escape.TheVariants.{Octal}
use Rattle.dg_lists.specs.declared.kinds.Mode.{Mode}
use Rattle.dg_lists.specs.declared.kinds.Mode.TheVariants as mode
use Rattle.dg_lists.specs.declared.kinds.Target.{Target}
use Rattle.dg_lists.specs.declared.kinds.Target.TheVariants as target
use Rattle.dg_lists.specs.declared.kinds.Context.{Context}
use Rattle.dg_lists.specs.declared.kinds.Context.TheVariants as context
use Rattle.dg_lists.specs.declared.kinds.Transition.{Transition}
use Rattle.dg_lists.specs.Classes.{class_of}
use Rattle.dg_lists.specs.Transitions.{base_of, behind_number, counted, digits_of, escaped, goes, is_space, letter_of, whole, with_digit, written}
use Rattle.dg_lists.specs.Elements.{Elements, Listing, list_behind, list_braced, list_effect, list_follow, list_gap, list_numbered, list_onward, list_pair, list_read, list_context, list_step, list_stop, list_stopped, list_transition, unread}
use Rattle.dg_lists.specs.Grammar.Escapes.{each, stands_for, value_from}
use Rattle.dg_lists.proofs.GrammarLemmas.Bytes.{is_class}
use Rattle.dg_lists.proofs.GrammarLemmas.Numbers.{Paired, and_both, and_left, and_right, digit_some, is_digit, number, paired}
use Rattle.dg_lists.proofs.GrammarLemmas.ListRead.{Leads, lead_both, lead_none, lead_one}
use Rattle.dg_lists.proofs.GrammarLemmas.Endable.{Fine, FineTarget, Good, fine_behind_number, fine_counted, fine_escaped, fine_if}

-- a number that is begun can end
fine_context : (s : Context) (c : Class) (b : ℕ) → FineTarget (list_context s c b).next
fine_context context.Quoted class.Quote b = tt
fine_context context.Quoted class.Backslash b = tt
fine_context context.Quoted c b = tt
fine_context s class.Blank b = tt
fine_context s class.Newline b = tt
fine_context s class.Backslash b = tt
fine_context s c b = tt

fine_gap : (c : Class) (b : ℕ) → FineTarget (list_gap c b).next
fine_gap class.Blank b = tt
fine_gap class.Newline b = tt
fine_gap class.Quote b = tt
fine_gap class.Open b = tt
fine_gap class.Backslash b = tt
fine_gap c b = tt

fine_pair : (s : Context) (c : Class) (b : ℕ) → FineTarget (list_pair s c b).next
fine_pair s class.Newline b = tt
fine_pair s c b = fine_escaped s b

fine_numbered : (s : Context) (n : kinds.Digits) (c : Class) (b : ℕ) (r : Option ℕ) → with_digit n b ≡ r → Good n → FineTarget (list_numbered s n c b r).next
fine_numbered s n c b (Some w) h g = fine_counted s n.escape n.left n.value b w h g
fine_numbered s n c b None h g = fine_behind_number (whole n) (list_context s c b) (fine_context s c b)

fine_braced : (deep : Bool) (c : Class) (b : ℕ) → FineTarget (list_braced deep c b).next
fine_braced true class.Open b = tt
fine_braced true class.Close b = tt
fine_braced true class.Backslash b = tt
fine_braced true c b = tt
fine_braced false class.Open b = tt
fine_braced false class.Close b = tt
fine_braced false class.Backslash b = tt
fine_braced false c b = tt

fine_behind : (c : Class) → FineTarget (list_behind c).next
fine_behind class.Blank = tt
fine_behind class.Newline = tt
fine_behind c = tt

fine_transition : (deep : Bool) (m : Mode) (c : Class) (b : ℕ) → Fine m → FineTarget (list_transition deep m c b).next
unfolding list_transition
fine_transition deep mode.Gap c b h = fine_gap c b
fine_transition deep (mode.In s) c b h = fine_context s c b
fine_transition deep (mode.Pair s) c b h = fine_pair s c b
fine_transition deep (mode.Join s) c b h = fine_if (is_space b) (goes (mode.Join s)) (list_context s c b) tt (fine_context s c b)
fine_transition deep (mode.Number s n) c b h = fine_numbered s n c b (with_digit n b) refl h
fine_transition deep mode.Braced c b h = fine_braced deep c b
fine_transition deep mode.BracedPair c b h = tt
fine_transition deep m c b h = fine_behind c

abbrev pub FineListing : Result Listing WordFault → Type 0
FineListing (Ok s) = Fine s.mode
FineListing (Err f) = Unit {0}

fine_follow : (x : Target) (s : Listing) → FineTarget x → FineListing (list_follow x s)
fine_follow (target.To m) s h = h
fine_follow target.Deeper s h = tt
fine_follow target.Shallower s h = tt
fine_follow (target.Bad f) s h = tt
fine_follow n s h = tt

pub fine_step : (s : Listing) (b : ℕ) → Fine s.mode → FineListing (list_step s b)
unfolding list_step
fine_step s b h =
    let t : Transition = list_transition (nat_lt 0 s.depth) s.mode (class_of b) b in
    fine_follow t.next (list_effect t.second (list_effect t.first s)) (fine_transition (nat_lt 0 s.depth) s.mode (class_of b) b h)

-- An escape in an element may stand behind these bytes.
pub record Escaping (before : List ℕ) (s : Context) : Type 0 where
  pub state : Listing
  pub leads : (after : List ℕ) → Leads after unread (before ++ 92 ∷ []) state
  pub is_pair : state.mode ≡ mode.Pair s

-- the digits so far of an escape by number
pub record Digited (past : List ℕ) (s : Context) (n : kinds.Digits) : Type 0 where
  pub before : List ℕ
  pub digits : List ℕ
  pub split : past ≡ before ++ 92 ∷ letter_of n.escape ∷ digits
  pub escaping : Escaping before s
  pub by_letter : n.escape ≢ Octal
  pub are_digits : each (is_digit n.escape) digits ≡ true
  pub value_is : n.value ≡ value_from (base_of n.escape) 0 digits
  pub left_is : n.left + length digits ≡ digits_of n.escape

-- what the bytes that were read are to a mode
abbrev pub Trace : List ℕ → Mode → Type 0
Trace past (mode.Pair s) = (before : List ℕ) × (past ≡ before ++ 92 ∷ [])
Trace past (mode.Number s n) = (n.escape ≡ Octal) ⊎ Digited past s n
Trace past m = Unit {0}

abbrev TraceNext : List ℕ → Target → Type 0
TraceNext past (target.To m) = Trace past m
TraceNext past x = Unit {0}

-- A list that was read up to here.
pub record Reached (past : List ℕ) (s : Listing) : Type 0 where
  pub leads : (after : List ℕ) → Leads after unread past s
  pub fine : Fine s.mode
  pub trace : Trace past s.mode

backslash : (past : List ℕ) (b : ℕ) → class_of b ≡ class.Backslash → (before : List ℕ) × (past ++ b ∷ [] ≡ before ++ 92 ∷ [])
backslash past b h = (past, ap (λ x. past ++ x ∷ []) (is_class b class.Backslash h))

trace_context : (past : List ℕ) (s : Context) (c : Class) (b : ℕ) → class_of b ≡ c → TraceNext (past ++ b ∷ []) (list_context s c b).next
trace_context past context.Quoted class.Quote b h = tt
trace_context past context.Quoted class.Backslash b h = backslash past b h
trace_context past context.Quoted c b h = tt
trace_context past s class.Blank b h = tt
trace_context past s class.Newline b h = tt
trace_context past s class.Backslash b h = backslash past b h
trace_context past s c b h = tt

trace_gap : (past : List ℕ) (c : Class) (b : ℕ) → class_of b ≡ c → TraceNext (past ++ b ∷ []) (list_gap c b).next
trace_gap past class.Blank b h = tt
trace_gap past class.Newline b h = tt
trace_gap past class.Quote b h = tt
trace_gap past class.Open b h = tt
trace_gap past class.Backslash b h = backslash past b h
trace_gap past c b h = tt

trace_escaped : (past before : List ℕ) (s : Context) (b v : ℕ) (t : Transition) → Paired s b t v → past ≡ before ++ 92 ∷ [] → Escaping before s → TraceNext (past ++ b ∷ []) t.next
trace_escaped past before s b v t (Paired.one h) e x = tt
trace_escaped past before s b v t (Paired.letter k n h) e x = inr (record {
  before = before;
  digits = [];
  split = ap (λ y. y ++ b ∷ []) e ∙ append_assoc before (92 ∷ []) (b ∷ []) ∙ ap (λ y. before ++ 92 ∷ y ∷ []) h;
  escaping = x;
  by_letter = n;
  are_digits = refl;
  value_is = refl;
  left_is = omega arith;
})
trace_escaped past before s b v t (Paired.eight h) e x = inl refl

trace_pair : (past before : List ℕ) (s : Context) (c : Class) (b : ℕ) → past ≡ before ++ 92 ∷ [] → Escaping before s → TraceNext (past ++ b ∷ []) (list_pair s c b).next
trace_pair past before s class.Newline b e x = tt
trace_pair past before s c b e x = trace_escaped past before s b (stands_for b) (escaped s b) (paired s b) e x

trace_if : (past : List ℕ) (x : Bool) (t u : Transition) → TraceNext past t.next → TraceNext past u.next → TraceNext past (cond x t u).next
trace_if past true t u h k = h
trace_if past false t u h k = k

pub value_more : (base v : ℕ) (ds : List ℕ) (d : ℕ) → value_from base v (ds ++ d ∷ []) ≡ base * value_from base v ds + digit_value d
value_more base v [] d = refl
value_more base v (c ∷ ds) d = value_more base (base * v + digit_value c) ds d

pub each_more : (so : ℕ → Bool) (ds : List ℕ) (d : ℕ) → each so ds ≡ true → so d ≡ true → each so (ds ++ d ∷ []) ≡ true
each_more so [] d h k = and_both _ true k refl
each_more so (c ∷ ds) d h k = and_both _ _ (and_left _ _ h) (each_more so ds d (and_right _ _ h) k)

-- one more digit
pub digited : (past : List ℕ) (s : Context) (e : Escape) (left v b w : ℕ) → with_digit (number e (suc left) v) b ≡ Some w → Digited past s (number e (suc left) v) → Digited (past ++ b ∷ []) s (number e left w)
digited past s e left v b w h x =
    let told = digit_some e (suc left) v b w h in
    let more = length-append x.digits (b ∷ []) in
    record {
      before = x.before;
      digits = x.digits ++ b ∷ [];
      split = ap (λ y. y ++ b ∷ []) x.split ∙ append_assoc x.before (92 ∷ letter_of e ∷ x.digits) (b ∷ []);
      escaping = x.escaping;
      by_letter = x.by_letter;
      are_digits = each_more (is_digit e) x.digits b x.are_digits told.0;
      value_is = told.1 ∙ ap (λ y. base_of e * y + digit_value b) x.value_is ∙ sym (value_more (base_of e) 0 x.digits b);
      left_is = omega (arith, more, x.left_is);
    }

trace_behind_number : (past : List ℕ) (r : Option Effect) (t : Transition) → TraceNext past t.next → TraceNext past (behind_number r t).next
trace_behind_number past (Some d) t h = h
trace_behind_number past None t h = tt

trace_counted : (past : List ℕ) (s : Context) (e : Escape) (left v b w : ℕ) → with_digit (number e left v) b ≡ Some w → (e ≡ Octal) ⊎ Digited past s (number e left v) → TraceNext (past ++ b ∷ []) (counted s e left w).next
trace_counted past s e zero v b w h x = tt
trace_counted past s e (suc zero) v b w h x = trace_behind_number (past ++ b ∷ []) (written e w) (goes (mode.In s)) tt
trace_counted past s e (suc (suc left)) v b w h (inl o) = inl o
trace_counted past s e (suc (suc left)) v b w h (inr x) = inr (digited past s e (suc left) v b w h x)

trace_numbered : (past : List ℕ) (s : Context) (n : kinds.Digits) (b : ℕ) (r : Option ℕ) → with_digit n b ≡ r → (n.escape ≡ Octal) ⊎ Digited past s n → TraceNext (past ++ b ∷ []) (list_numbered s n (class_of b) b r).next
trace_numbered past s n b (Some w) h x = trace_counted past s n.escape n.left n.value b w h x
trace_numbered past s n b None h x = trace_behind_number (past ++ b ∷ []) (whole n) (list_context s (class_of b) b) (trace_context past s (class_of b) b refl)

trace_braced : (past : List ℕ) (deep : Bool) (c : Class) (b : ℕ) → TraceNext past (list_braced deep c b).next
trace_braced past true class.Open b = tt
trace_braced past true class.Close b = tt
trace_braced past true class.Backslash b = tt
trace_braced past true c b = tt
trace_braced past false class.Open b = tt
trace_braced past false class.Close b = tt
trace_braced past false class.Backslash b = tt
trace_braced past false c b = tt

trace_behind : (past : List ℕ) (c : Class) → TraceNext past (list_behind c).next
trace_behind past class.Blank = tt
trace_behind past class.Newline = tt
trace_behind past c = tt

trace_transition : (past : List ℕ) (deep : Bool) (m : Mode) (b : ℕ) → ((s : Context) (before : List ℕ) → m ≡ mode.Pair s → past ≡ before ++ 92 ∷ [] → Escaping before s) → Trace past m → TraceNext (past ++ b ∷ []) (list_transition deep m (class_of b) b).next
unfolding list_transition
trace_transition past deep mode.Gap b f h = trace_gap past (class_of b) b refl
trace_transition past deep (mode.In s) b f h = trace_context past s (class_of b) b refl
trace_transition past deep (mode.Pair s) b f h = trace_pair past h.0 s (class_of b) b h.1 (f s h.0 refl h.1)
trace_transition past deep (mode.Join s) b f h = trace_if (past ++ b ∷ []) (is_space b) (goes (mode.Join s)) (list_context s (class_of b) b) tt (trace_context past s (class_of b) b refl)
trace_transition past deep (mode.Number s n) b f h = trace_numbered past s n b (with_digit n b) refl h
trace_transition past deep mode.Braced b f h = trace_braced (past ++ b ∷ []) deep (class_of b) b
trace_transition past deep mode.BracedPair b f h = tt
trace_transition past deep m b f h = trace_behind (past ++ b ∷ []) (class_of b)

state_of : Listing → Result Listing WordFault → Listing
state_of s (Ok n) = n
state_of s (Err f) = s

pub ok_state : {s n : Listing} → ◌≡◌ {A = Result Listing WordFault} (Ok s) (Ok n) → s ≡ n
unfolding state_of
ok_state {s = s} e = ap (state_of s) e

trace_follow : (past : List ℕ) (x : Target) (s n : Listing) → TraceNext past x → list_follow x s ≡ Ok n → Trace past n.mode
trace_follow past (target.To m) s n h e = subst (λ (y : Listing). Trace past y.mode) (ok_state e) h
trace_follow past target.Deeper s n h e = subst (λ (y : Listing). Trace past y.mode) (ok_state e) tt
trace_follow past target.Shallower s n h e = subst (λ (y : Listing). Trace past y.mode) (ok_state e) tt
trace_follow past x s n h e = absurd cc

pub reached_step : (past : List ℕ) (s n : Listing) (b : ℕ) → Reached past s → list_step s b ≡ Ok n → Reached (past ++ b ∷ []) n
unfolding list_step
reached_step past s n b r e =
    let t : Transition = list_transition (nat_lt 0 s.depth) s.mode (class_of b) b in
    record {
      leads = λ after. lead_both after _ _ _ past (b ∷ []) (r.leads (b ∷ after)) (lead_one after s n b e);
      fine = subst FineListing e (fine_step s b r.fine);
      trace = trace_follow (past ++ b ∷ []) t.next (list_effect t.second (list_effect t.first s)) n
          (trace_transition past (nat_lt 0 s.depth) s.mode b (λ k before i j. record { state = s; leads = λ after. subst (λ y. Leads after unread y s) j (r.leads after); is_pair = i }) r.trace) e;
    }

pub reached_none : Reached [] unread
reached_none = record { leads = λ after. lead_none after unread; fine = tt; trace = tt }

-- why a reading stops at a place, where this is left of the text
abbrev pub Why : Listing → List ℕ → WordFault → Type 0
Why s rest f = ((rest ≡ []) × (list_stop s ≡ Err f)) ⊎ ((b : ℕ) × (bs : List ℕ) × (rest ≡ b ∷ bs) × (list_step s b ≡ Err f))

-- what was read before a fault, from the text's beginning
pub record Before (text : List ℕ) (f : WordFault) (place : ℕ) : Type 0 where
  pub front : List ℕ
  pub rest : List ℕ
  pub state : Listing
  pub split : text ≡ front ++ rest
  pub place_is : place ≡ length front
  pub reached : Reached front state
  pub why : Why state rest f

place_of : ℕ → Elements → ℕ
place_of n (Ok x) = n
place_of n (Err e) = e.1

same_place : {f g : WordFault} {p q : ℕ} → ◌≡◌ {A = Elements} (Err (f, p)) (Err (g, q)) → p ≡ q
unfolding place_of
same_place {p = p} e = ap (place_of p) e

fault_of : WordFault → Elements → WordFault
fault_of f (Ok x) = f
fault_of f (Err e) = e.0

same_fault : {f g : WordFault} {p q : ℕ} → ◌≡◌ {A = Elements} (Err (f, p)) (Err (g, q)) → f ≡ g
unfolding fault_of
same_fault {f = f} e = ap (fault_of f) e

before_transition : (past : List ℕ) (s : Listing) (b : ℕ) (bs : List ℕ) (f : WordFault) (q : ℕ) (r : Result Listing WordFault) → list_step s b ≡ r → Reached past s →
    ((n : Listing) → Reached (past ++ b ∷ []) n → list_read bs n (length past + 1) ≡ Err (f, q) → Before ((past ++ b ∷ []) ++ bs) f q) →
    list_onward r (length past) (λ n. list_read bs n (length past + 1)) ≡ Err (f, q) → Before (past ++ b ∷ bs) f q
before_transition past s b bs f q (Ok n) e h rec r = subst (λ t. Before t f q) (append_assoc past (b ∷ []) bs) (rec n (reached_step past s n b h e) r)
before_transition past s b bs f q (Err g) e h rec r = record { front = past; rest = b ∷ bs; state = s; split = refl; place_is = sym (same_place r); reached = h; why = inr (b, bs, refl, e ∙ ap Err (same_fault r)) }

before_end : (past : List ℕ) (s : Listing) (f : WordFault) (q : ℕ) (r : Result (List (List ℕ)) WordFault) → list_stop s ≡ r → Reached past s → list_stopped r (length past) ≡ Err (f, q) → Before (past ++ []) f q
before_end past s f q (Ok xs) i h e = absurd cc
before_end past s f q (Err g) i h e = record { front = past; rest = []; state = s; split = refl; place_is = sym (same_place e); reached = h; why = inl (refl, i ∙ ap Err (same_fault e)) }

before_from : (text past : List ℕ) (s : Listing) (f : WordFault) (q : ℕ) → Reached past s → list_read text s (length past) ≡ Err (f, q) → Before (past ++ text) f q
unfolding list_read
before_from [] past s f q h e = before_end past s f q (list_stop s) refl h e
before_from (b ∷ bs) past s f q h e =
    let longer : length past + 1 ≡ length (past ++ b ∷ []) = sym (length-append past (b ∷ [])) in
    before_transition past s b bs f q (list_step s b) refl h (λ n k r. before_from bs (past ++ b ∷ []) n f q k (ap (λ p. list_read bs n p) (sym longer) ∙ r)) e

pub before : (text : List ℕ) (f : WordFault) (place : ℕ) → list_read text unread 0 ≡ Err (f, place) → Before text f place
before text f place e = before_from text [] unread f place reached_none e
