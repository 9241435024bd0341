-- What stands before a list's fault can go on, and what stands up to it cannot.
use Rattle.std.specs.Prelude.{◌≡◌, ◌≢◌, ℕ, zero, suc, ◌+◌, ◌-◌, ◌*◌, ◌≤◌, ◌<◌, List, [], ◌∷◌, ◌++◌, refl, Ok, Err, Bool, true, false, Some, nat_lt, ◌==◌, ◌⊎◌}
use Rattle.std.proofs.Common.{inl, inr, ◌∙◌, ap, sym, arith, subst}
use Rattle.std.proofs.lemmas.List.{append-nil}
use Rattle.std.proofs.lemmas.Bool.{lt-ltb}
use Rattle.dg_lists.specs.declared.fault.WordFault.{WordFault}
use Rattle.dg_lists.specs.declared.kinds.Class.{Class}
use Rattle.dg_lists.specs.declared.kinds.Class.TheVariants as class
use Rattle.dg_lists.specs.declared.kinds.Effect.{Effect}
use Rattle.dg_lists.specs.declared.kinds.Effect.TheVariants as effect
use Rattle.dg_lists.specs.declared.kinds.Delimiter.{Delimiter}
use Rattle.dg_lists.specs.declared.kinds.Delimiter.TheVariants as delimiter
use Rattle.dg_lists.specs.declared.kinds.Escape.{Escape}
use Rattle.dg_lists.specs.declared.kinds.Escape.TheVariants.{Long}
use Rattle.dg_lists.specs.declared.kinds.Mode.{Mode}
use Rattle.dg_lists.specs.declared.kinds.Mode.TheVariants as mode
use Rattle.dg_lists.specs.declared.kinds.Target.TheVariants as target
use Rattle.dg_lists.specs.declared.kinds.Context.{Context}
use Rattle.dg_lists.specs.declared.kinds.Context.TheVariants as context
use Rattle.dg_lists.specs.Classes.{class_of}
use Rattle.dg_lists.specs.Transitions.{behind_effect, behind_number, does, goes, whole}
use Rattle.dg_lists.specs.Elements.{Listing, elements_of, list_braced, list_ends, list_numbered, list_onward, list_read, list_context, list_step, list_stop, list_stopped, list_transition, unread, without_place}
use Rattle.dg_lists.specs.Grammar.Continuing.{GoesOn, IsList, IsNoList, StopsAt}
use Rattle.dg_lists.proofs.GrammarLemmas.Bytes.{Without}
use Rattle.dg_lists.proofs.GrammarLemmas.Numbers.{number, digit_fits}
use Rattle.dg_lists.proofs.GrammarLemmas.ListRead.{at, close_is, quote_is, spelled_list_is_read, step_by}
use Rattle.dg_lists.proofs.GrammarLemmas.ListSpelled.{read_list_is_spelled}
use Rattle.dg_lists.proofs.GrammarLemmas.ListSteps.{before}
use Rattle.dg_lists.proofs.GrammarLemmas.Endable.{Fine, Good, dot_is, letter_is, no_dot, number_whole, sixteenfold, zero_is}

-- Bytes that end a list, of which none is this one.
pub record Closing (q : ℕ) (s : Listing) : Type 0 where
  pub bytes : List ℕ
  pub elements : List (List ℕ)
  pub closes : (p : ℕ) → list_read bytes s p ≡ Ok elements
  pub lacks : Without q bytes

-- a byte that neither an element nor an escape ends with
abbrev pub Other : ℕ → Type 0
Other q = (46 ≢ q) × (48 ≢ q) × (97 ≢ q)

-- a quote ends a quoted element, and a brace a braced one
abbrev pub Leaves : ℕ → Context → Type 0
Leaves q context.Quoted = 34 ≢ q
Leaves q s = Unit {0}

abbrev pub Closes : ℕ → Mode → Type 0
Closes q (mode.In s) = Leaves q s
Closes q (mode.Pair s) = Leaves q s
Closes q (mode.Join s) = Leaves q s
Closes q (mode.Number s n) = Leaves q s
Closes q mode.Braced = 125 ≢ q
Closes q mode.BracedPair = 125 ≢ q
Closes q m = Unit {0}

by_step : (q : ℕ) (s n : Listing) (b : ℕ) → b ≢ q → list_step s b ≡ Ok n → Closing q n → Closing q s
unfolding list_read
by_step q s n b d e c = record {
  bytes = b ∷ c.bytes;
  elements = c.elements;
  closes = λ p. ap (λ r. list_onward r p (λ k. list_read c.bytes k (p + 1))) e ∙ c.closes (p + 1);
  lacks = (d, c.lacks);
}

by_stop : (q : ℕ) (s : Listing) (xs : List (List ℕ)) → list_stop s ≡ Ok xs → Closing q s
unfolding list_read
by_stop q s xs e = record { bytes = []; elements = xs; closes = λ p. ap (λ r. list_stopped r p) e; lacks = tt }

-- a mode from which bytes end the list, whatever was read
abbrev pub Ready : ℕ → Mode → Type 0
Ready q m = (xs : List (List ℕ)) (n : ℕ) (w : List ℕ) → Closing q (at xs m n w)

-- a byte that goes to another mode
to_closing : (q : ℕ) (xs : List (List ℕ)) (m k : Mode) (n b : ℕ) (w : List ℕ) (c : Class) (f g : Effect) → b ≢ q → class_of b ≡ c → list_transition (nat_lt 0 n) m c b ≡ record { first = f; second = g; next = target.To k } → Ready q k → Closing q (at xs m n w)
to_closing q xs m k n b w c f g d e h r = by_step q _ _ b d (step_by (at xs m n w) b c _ e h) (r _ _ _)

gap_closing : (q : ℕ) → Ready q mode.Gap
unfolding list_stop list_ends
gap_closing q xs n w = by_stop q (at xs mode.Gap n w) xs refl

behind_closing : (q : ℕ) (k : Delimiter) → Ready q (mode.Behind k)
unfolding list_stop list_ends
behind_closing q k xs n w = by_stop q (at xs (mode.Behind k) n w) xs refl

in_closing : (q : ℕ) (s : Context) → Leaves q s → Ready q (mode.In s)
unfolding list_stop list_ends list_transition
in_closing q context.Quoted d xs n w = to_closing q xs (mode.In context.Quoted) (mode.Behind delimiter.Quote) n 34 w class.Quote effect.Nothing effect.Word d quote_is refl (behind_closing q delimiter.Quote)
in_closing q context.Bare d xs n w = by_stop q (at xs (mode.In context.Bare) n w) _ refl
in_closing q context.Index d xs n w = by_stop q (at xs (mode.In context.Index) n w) _ refl
in_closing q context.Alone d xs n w = by_stop q (at xs (mode.In context.Alone) n w) _ refl

-- a dot goes on an element, behind any effect
dot_closing : (q : ℕ) (s : Context) (m : Mode) (f : Effect) → Other q → Leaves q s → ((deep : Bool) → list_transition deep m class.Plain 46 ≡ behind_effect f (list_context s class.Plain 46)) → Ready q m
dot_closing q context.Quoted m f o d h xs n w = to_closing q xs m (mode.In context.Quoted) n 46 w class.Plain f (effect.Byte 46) o.0 dot_is (h (nat_lt 0 n)) (in_closing q context.Quoted d)
dot_closing q context.Bare m f o d h xs n w = to_closing q xs m (mode.In context.Bare) n 46 w class.Plain f (effect.Byte 46) o.0 dot_is (h (nat_lt 0 n)) (in_closing q context.Bare tt)
dot_closing q context.Index m f o d h xs n w = to_closing q xs m (mode.In context.Bare) n 46 w class.Plain f (effect.Byte 46) o.0 dot_is (h (nat_lt 0 n)) (in_closing q context.Bare tt)
dot_closing q context.Alone m f o d h xs n w = to_closing q xs m (mode.In context.Bare) n 46 w class.Plain f (effect.Byte 46) o.0 dot_is (h (nat_lt 0 n)) (in_closing q context.Bare tt)

join_dot : (s : Context) (deep : Bool) → list_transition deep (mode.Join s) class.Plain 46 ≡ behind_effect effect.Nothing (list_context s class.Plain 46)
unfolding list_transition
join_dot context.Quoted deep = refl
join_dot context.Bare deep = refl
join_dot context.Index deep = refl
join_dot context.Alone deep = refl

-- a number: a dot ends it, or a digit 0 and a dot where its value is no character yet
number_dot : (q : ℕ) (s : Context) (e : Escape) (left v : ℕ) (w : Effect) → Other q → Leaves q s → whole (number e left v) ≡ Some w → Ready q (mode.Number s (number e left v))
unfolding list_transition
number_dot q s e left v w o d h =
    dot_closing q s (mode.Number s (number e left v)) w o d
    (λ deep. ap (λ x. list_numbered s (number e left v) class.Plain 46 x) (no_dot e left v) ∙ ap (λ r. behind_number r (list_context s class.Plain 46)) h)

long_closing : (q : ℕ) (s : Context) (left v : ℕ) → Other q → Leaves q s → 1 ≤ left → 55296 ≤ v → v < 57344 → Ready q (mode.Number s (number Long left v))
unfolding list_transition
long_closing q s zero v o d g h k xs n w = absurd (omega arith)
long_closing q s (suc zero) v o d g h k xs n w =
    to_closing q xs (mode.Number s (number Long 1 v)) (mode.In s) n 48 w class.Name (effect.Code (16 * v + 0)) effect.Nothing o.1 zero_is
    (ap (λ x. list_numbered s (number Long 1 v) class.Name 48 x) (digit_fits Long 1 v 48 refl (omega arith)) ∙ ap (λ r. behind_number r (goes (mode.In s))) (sixteenfold v h k))
    (in_closing q s d)
long_closing q s (suc (suc left)) v o d g h k xs n w =
    to_closing q xs (mode.Number s (number Long (suc (suc left)) v)) (mode.Number s (number Long (suc left) (16 * v + 0))) n 48 w class.Name effect.Nothing effect.Nothing o.1 zero_is
    (ap (λ x. list_numbered s (number Long (suc (suc left)) v) class.Name 48 x) (digit_fits Long (suc (suc left)) v 48 refl (omega arith)))
    (tested (suc left == 8) refl)
  where
    tested : (x : Bool) → (suc left == 8) ≡ x → Ready q (mode.Number s (number Long (suc left) (16 * v + 0)))
    tested true y = number_dot q s Long (suc left) (16 * v + 0) (effect.Byte 85) o d (rw y refl)
    tested false y = number_dot q s Long (suc left) (16 * v + 0) (effect.Code (16 * v + 0)) o d (rw y (sixteenfold v h k))

number_closing : (q : ℕ) (s : Context) (e : Escape) (left v : ℕ) → Other q → Leaves q s → Good (number e left v) → Ready q (mode.Number s (number e left v))
number_closing q s e left v o d g =
    elim (number_whole e left v g) [
      | inl x ↦ number_dot q s e left v x.0 o d x.1
      | inr x ↦ subst (λ y. Ready q (mode.Number s (number y left v))) (sym x.0) (long_closing q s left v o d g.0 x.1 x.2)
    ]

-- braces
braced_closing : (q : ℕ) → 125 ≢ q → (n : ℕ) (xs : List (List ℕ)) (w : List ℕ) → Closing q (at xs mode.Braced n w)
unfolding list_transition
braced_closing q d zero xs w = to_closing q xs mode.Braced (mode.Behind delimiter.Brace) 0 125 w class.Close effect.Nothing effect.Word d close_is refl (behind_closing q delimiter.Brace)
braced_closing q d (suc n) xs w =
    let less : suc n - 1 ≡ n = omega arith in
    by_step q _ (at xs mode.Braced n (w ++ 125 ∷ [])) 125 d
    (step_by (at xs mode.Braced (suc n) w) 125 class.Close (does (effect.Byte 125) target.Shallower) close_is (ap (λ x. list_braced x class.Close 125) (lt-ltb 0 (suc n) (omega arith)))
    ∙ ap (λ k. Ok (at xs mode.Braced k (w ++ 125 ∷ []))) less)
    (braced_closing q d n xs (w ++ 125 ∷ []))

ready_braced : (q : ℕ) → 125 ≢ q → Ready q mode.Braced
ready_braced q d xs n w = braced_closing q d n xs w

pub closing : (q : ℕ) (m : Mode) → Other q → Closes q m → Fine m → Ready q m
unfolding list_transition list_stop list_ends
closing q mode.Gap o d h = gap_closing q
closing q (mode.In s) o d h = in_closing q s d
closing q (mode.Pair s) o d h = λ xs n w. to_closing q xs (mode.Pair s) (mode.In s) n 97 w class.Name effect.Nothing (effect.Byte 7) o.2 letter_is refl (in_closing q s d)
closing q (mode.Join s) o d h = dot_closing q s (mode.Join s) effect.Nothing o d (join_dot s)
closing q (mode.Number s x) o d h = number_closing q s x.escape x.left x.value o d h
closing q mode.Braced o d h = ready_braced q d
closing q mode.BracedPair o d h = λ xs n w. to_closing q xs mode.BracedPair mode.Braced n 46 w class.Plain effect.Nothing (effect.Byte 46) o.0 dot_is refl (ready_braced q d)
closing q m o d h = λ xs n w. by_stop q (at xs m n w) xs refl

-- 256 is no byte
closes_any : (m : Mode) → Closes 256 m
closes_any (mode.In context.Quoted) = λ e. omega (arith, e)
closes_any (mode.In s) = tt
closes_any (mode.Pair context.Quoted) = λ e. omega (arith, e)
closes_any (mode.Pair s) = tt
closes_any (mode.Join context.Quoted) = λ e. omega (arith, e)
closes_any (mode.Join s) = tt
closes_any (mode.Number context.Quoted n) = λ e. omega (arith, e)
closes_any (mode.Number s n) = tt
closes_any mode.Braced = λ e. omega (arith, e)
closes_any mode.BracedPair = λ e. omega (arith, e)
closes_any m = tt

pub list_fault_can_go_on : (text : List ℕ) (fault : WordFault) (place : ℕ) → list_read text unread 0 ≡ Err (fault, place) → GoesOn IsList text place
unfolding elements_of
list_fault_can_go_on text fault place e =
    let x = before text fault place e in
    let y = x.state in
    let c = closing 256 y.mode (λ e. omega (arith, e), λ e. omega (arith, e), λ e. omega (arith, e)) (closes_any y.mode) x.reached.fine y.elements y.depth y.text in
    let l = (x.reached.leads c.bytes).on 0 in
    record {
      front = x.front;
      rest = x.rest;
      split = x.split;
      place_is = x.place_is;
      closing = c.bytes;
      is_such = (c.elements, read_list_is_spelled (x.front ++ c.bytes) c.elements (ap without_place (l.1 ∙ c.closes l.0)));
    }

-- a text of which a fault is told is no list
told : (text : List ℕ) (fault : WordFault) → elements_of text ≡ Err fault → IsNoList fault text
told text fault e = (e, λ xs h. let x = sym (spelled_list_is_read text xs h) ∙ e in absurd cc)

pub fails_at : (s : Listing) (b : ℕ) (bs : List ℕ) (f : WordFault) (p : ℕ) → list_step s b ≡ Err f → list_read (b ∷ bs) s p ≡ Err (f, p)
unfolding list_read
fails_at s b bs f p e = ap (λ r. list_onward r p (λ n. list_read bs n (p + 1))) e

pub list_fault_is_first : (text : List ℕ) (fault : WordFault) (place : ℕ) → list_read text unread 0 ≡ Err (fault, place) → StopsAt (IsNoList fault) text place
unfolding elements_of
list_fault_is_first text fault place e =
    let x = before text fault place e in
    record {
      front = x.front;
      place_is = x.place_is;
      why = elim x.why as (λ _. ((text ≡ x.front) × IsNoList fault text)
          ⊎ ((b : ℕ) × (rest : List ℕ) × (text ≡ x.front ++ b ∷ rest) × ((more : List ℕ) → IsNoList fault (x.front ++ b ∷ more)))) [
            | inl (r, w) ↦ inl (x.split ∙ ap (λ r. x.front ++ r) r ∙ append-nil x.front, told text fault (ap without_place e))
            | inr (b, bs, r, w) ↦ inr (
              b,
              bs,
              x.split ∙ ap (λ r. x.front ++ r) r,
              λ more.
                  let l = (x.reached.leads (b ∷ more)).on 0 in
                  told (x.front ++ b ∷ more) fault (ap without_place (l.1 ∙ fails_at x.state b more fault l.0 w)),
            )
          ];
    }
