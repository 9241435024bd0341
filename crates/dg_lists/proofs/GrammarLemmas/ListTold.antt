-- What is wrong at the first place of a list is told.
use Rattle.std.specs.Prelude.{◌≡◌, ◌≢◌, ℕ, ◌+◌, ◌<◌, List, [], ◌∷◌, ◌++◌, length, refl, Ok, Err, Result, Bool, Option, None, Some, nat_lt, ◌⊎◌}
use Rattle.std.proofs.Common.{inl, inr, ◌∙◌, ap, sym, arith, subst, length-append}
use Rattle.std.proofs.lemmas.List.{append-nil}
use Rattle.dg_lists.specs.declared.fault.WordFault.{WordFault}
use Rattle.dg_lists.specs.declared.fault.WordFault.TheVariants.{ListBrace, ListQuote, ListAfter, BadCodePoint}
use Rattle.dg_lists.specs.declared.kinds.Class.TheVariants as class
use Rattle.dg_lists.specs.declared.kinds.Context.{Context}
use Rattle.dg_lists.specs.declared.kinds.Context.TheVariants as context
use Rattle.dg_lists.specs.declared.kinds.Digits as kinds
use Rattle.dg_lists.specs.declared.kinds.Effect.{Effect}
use Rattle.dg_lists.specs.declared.kinds.Effect.TheVariants as effect
use Rattle.dg_lists.specs.declared.kinds.Mode.{Mode}
use Rattle.dg_lists.specs.declared.kinds.Mode.TheVariants as mode
use Rattle.dg_lists.specs.declared.kinds.Target.TheVariants as target
use Rattle.dg_lists.specs.Transitions.{whole}
use Rattle.dg_lists.specs.Elements.{Elements, Listing, elements_of, list_ended, list_ends, list_number_ends, list_onward, list_read, list_step, list_stop, list_stopped, list_transition, unread, without_place}
use Rattle.dg_lists.specs.Grammar.Continuing.{GoesOn, IsList, IsNoList, IsNot, StopsAt}
use Rattle.dg_lists.specs.Grammar.Lists.{ListOf, Parted, parts}
use Rattle.dg_lists.specs.Grammar.Saying.{EndsElement, Misses, Says}
use Rattle.dg_lists.proofs.GrammarLemmas.Endable.{dot_is, no_dot}
use Rattle.dg_lists.proofs.GrammarLemmas.ListRead.{at, step_by}
use Rattle.dg_lists.proofs.GrammarLemmas.ListSpelled.{read_list_is_spelled}
use Rattle.dg_lists.proofs.GrammarLemmas.ListSteps.{Before, Reached, before}
use Rattle.dg_lists.proofs.GrammarLemmas.ListFaults.{list_fault_can_go_on, list_fault_is_first}
use Rattle.dg_lists.proofs.GrammarLemmas.ListKinds.{Failed, OpenBrace, OpenQuote, Stopping, held, held_quote, list_fault_says_what_is_wrong, read_behind, step_failed, stopping}
use Rattle.dg_lists.proofs.GrammarLemmas.Answered.{stops_as}
use Rattle.dg_lists.proofs.GrammarLemmas.Places.{same_front, one_place, stops_whole}
use Rattle.dg_lists.proofs.GrammarLemmas.ListInside.{Bare, Place, brace_lets, quote_lets, bare_lets, not_missing, other_brace, other_quote, number_bare, bare_number, not_quoted, reads_list, number_inside}

-- ---- what two faults at one place say

-- a text whose front is as long as it is that front
whole_front : (text front rest : List ℕ) → text ≡ front ++ rest → length front ≡ length text → front ≡ text
whole_front text front rest e h = (same_front front text rest [] (sym e ∙ sym (append-nil text)) h).0

-- an element that ends leaves no list at the text's end
ended_list : (text : List ℕ) (place : ℕ) → EndsElement text place → place ≡ length text → IsList text
ended_list text place x e = subst IsList (whole_front text x.front x.rest x.split (omega (arith, e, x.place_is))) x.is_list

-- a dot goes on a bare element that may end
record Dotted (s : Listing) : Type 0 where
  state : Listing
  steps : list_step s 46 ≡ Ok state
  elements : List (List ℕ)
  stops : list_stop state ≡ Ok elements

dotted : (m : Mode) (xs : List (List ℕ)) (n : ℕ) (w : List ℕ) (f : Effect) (c : Context) → c ≢ context.Quoted →
    ((deep : Bool) → list_transition deep m class.Plain 46 ≡ record { first = f; second = effect.Byte 46; next = target.To (mode.In c) }) → Dotted (at xs m n w)
unfolding list_stop list_ends
dotted m xs n w f context.Quoted d h = absurd (d refl)
dotted m xs n w f context.Bare d h = record { state = _; steps = step_by (at xs m n w) 46 class.Plain _ dot_is (h (nat_lt 0 n)); elements = _; stops = refl }
dotted m xs n w f context.Index d h = record { state = _; steps = step_by (at xs m n w) 46 class.Plain _ dot_is (h (nat_lt 0 n)); elements = _; stops = refl }
dotted m xs n w f context.Alone d h = record { state = _; steps = step_by (at xs m n w) 46 class.Plain _ dot_is (h (nat_lt 0 n)); elements = _; stops = refl }

bare_not : context.Bare ≢ context.Quoted
bare_not e = absurd cc

number_dotted : (s : Context) (x : kinds.Digits) (xs : List (List ℕ)) (n : ℕ) (w : List ℕ) (r : Option Effect) → whole x ≡ r → s ≢ context.Quoted → (ys : List (List ℕ)) → list_ended (list_number_ends s r) (at xs (mode.Number s x) n w) ≡ Ok ys → Dotted (at xs (mode.Number s x) n w)
unfolding list_transition
number_dotted context.Quoted x xs n w r e d ys h = absurd (d refl)
number_dotted context.Bare x xs n w None e d ys h = absurd cc
number_dotted context.Index x xs n w None e d ys h = absurd cc
number_dotted context.Alone x xs n w None e d ys h = absurd cc
number_dotted context.Bare x xs n w (Some f) e d ys h = dotted (mode.Number context.Bare x) xs n w f context.Bare bare_not (λ deep. rw (no_dot x.escape x.left x.value, e) refl)
number_dotted context.Index x xs n w (Some f) e d ys h = dotted (mode.Number context.Index x) xs n w f context.Bare bare_not (λ deep. rw (no_dot x.escape x.left x.value, e) refl)
number_dotted context.Alone x xs n w (Some f) e d ys h = dotted (mode.Number context.Alone x) xs n w f context.Bare bare_not (λ deep. rw (no_dot x.escape x.left x.value, e) refl)

bare_dotted : (m : Mode) (xs : List (List ℕ)) (n : ℕ) (w : List ℕ) (ys : List (List ℕ)) → Bare m → list_ended (list_ends m) (at xs m n w) ≡ Ok ys → Dotted (at xs m n w)
unfolding list_transition list_ends
bare_dotted (mode.In context.Bare) xs n w ys h e = dotted (mode.In context.Bare) xs n w effect.Nothing context.Bare bare_not (λ deep. refl)
bare_dotted (mode.In context.Index) xs n w ys h e = dotted (mode.In context.Index) xs n w effect.Nothing context.Bare bare_not (λ deep. refl)
bare_dotted (mode.In context.Alone) xs n w ys h e = dotted (mode.In context.Alone) xs n w effect.Nothing context.Bare bare_not (λ deep. refl)
bare_dotted (mode.Pair context.Bare) xs n w ys h e = dotted (mode.Pair context.Bare) xs n w effect.Nothing context.Bare bare_not (λ deep. refl)
bare_dotted (mode.Pair context.Index) xs n w ys h e = dotted (mode.Pair context.Index) xs n w effect.Nothing context.Index (λ i. absurd cc) (λ deep. refl)
bare_dotted (mode.Pair context.Alone) xs n w ys h e = dotted (mode.Pair context.Alone) xs n w effect.Nothing context.Alone (λ i. absurd cc) (λ deep. refl)
bare_dotted (mode.Join context.Bare) xs n w ys h e = dotted (mode.Join context.Bare) xs n w effect.Nothing context.Bare bare_not (λ deep. refl)
bare_dotted (mode.Join context.Index) xs n w ys h e = dotted (mode.Join context.Index) xs n w effect.Nothing context.Bare bare_not (λ deep. refl)
bare_dotted (mode.Join context.Alone) xs n w ys h e = dotted (mode.Join context.Alone) xs n w effect.Nothing context.Bare bare_not (λ deep. refl)
bare_dotted (mode.Number s x) xs n w ys h e = number_dotted s x xs n w (whole x) refl (not_quoted s (bare_number s x h)) ys e
bare_dotted m xs n w ys h e = absurd h

stop_ok : (r : Result (List (List ℕ)) WordFault) (q : ℕ) (xs : List (List ℕ)) → list_stopped r q ≡ Ok xs → (ys : List (List ℕ)) × (r ≡ Ok ys)
stop_ok (Ok ys) q xs e = (ys, refl)
stop_ok (Err f) q xs e = absurd cc

dot_read : (s : Listing) (d : Dotted s) (q : ℕ) → list_read (46 ∷ []) s q ≡ Ok d.elements
unfolding list_read
dot_read s d q = ap (λ r. list_onward r q (λ n. list_read [] n (q + 1))) d.steps ∙ ap (λ r. list_stopped r (q + 1)) d.stops

dot_parted : Parted (46 ∷ []) → ⊥
dot_parted h = let x = sym (ap parts dot_is) ∙ h in absurd cc

-- no element ends where a bare or a quoted one is open
open_end : (text : List ℕ) (place : ℕ) (front rest : List ℕ) (s : Listing) → text ≡ front ++ rest → place ≡ length front → Reached front s → Bare s.mode ⊎ OpenQuote s.mode → EndsElement text place → ⊥
unfolding list_read list_stop
open_end text place front rest s e p l i x =
    let same = (same_front x.front front x.rest rest (sym x.split ∙ e) (omega (arith, p, x.place_is))).0 in
    let is : IsList front = subst IsList same x.is_list in
    let y = read_behind front [] s l is.0 (subst (λ t. ListOf t is.0) (sym (append-nil front)) is.1) in
    elim i [
      | inl b ↦
          let z = stop_ok (list_ended (list_ends s.mode) s) y.0 is.0 y.1 in
          let d = bare_dotted s.mode s.elements s.depth s.text z.0 b z.1 in
          dot_parted (x.is_parted (46 ∷ []) (subst (λ t. IsList (t ++ 46 ∷ [])) (sym same) (reads_list front (46 ∷ []) s l d.elements (dot_read s d))))
      | inr q ↦ held OpenQuote 34 held_quote [] tt s q y.0 is.0 y.1
    ]

context_inside : (s : Context) (n : kinds.Digits) → Bare (mode.Number s n) ⊎ OpenQuote (mode.Number s n)
context_inside context.Quoted n = inr tt
context_inside context.Bare n = inl tt
context_inside context.Index n = inl tt
context_inside context.Alone n = inl tt

-- at the text's end
end_braces : (text : List ℕ) (place : ℕ) (x : Place text place) (s : Listing) (f : WordFault) → place ≡ length text → Reached text s → OpenBrace s.mode → Says f text place → Misses IsList 125 text place → x.front ≡ text → f ≡ ListBrace
end_braces text place x s ListBrace e l h u v w = refl
end_braces text place x s ListQuote e l h u v w = absurd (not_missing 34 text place s l other_quote (brace_lets s.mode h) u)
end_braces text place x s ListAfter e l h u v w = absurd (x.no_list (ended_list text place u e))
end_braces text place x s BadCodePoint e l h u v w =
    let y = number_inside text place x u in
    elim y.inside [
      | inl b ↦ absurd (not_missing 125 text place y.state (subst (λ t. Reached t y.state) w y.reached) other_brace (bare_lets 125 y.state.mode b) v)
      | inr (o, q) ↦ absurd (omega (arith, q, e))
    ]
end_braces text place x s f e l h u v w = absurd u

end_quotes : (text : List ℕ) (place : ℕ) (x : Place text place) (s : Listing) (f : WordFault) → place ≡ length text → Reached text s → OpenQuote s.mode → Says f text place → Misses IsList 34 text place → x.front ≡ text → f ≡ ListQuote
end_quotes text place x s ListBrace e l h u v w = absurd (not_missing 125 text place s l other_brace (quote_lets s.mode h) u)
end_quotes text place x s ListQuote e l h u v w = refl
end_quotes text place x s ListAfter e l h u v w = absurd (x.no_list (ended_list text place u e))
end_quotes text place x s BadCodePoint e l h u v w =
    let y = number_inside text place x u in
    elim y.inside [
      | inl b ↦ absurd (not_missing 34 text place y.state (subst (λ t. Reached t y.state) w y.reached) other_quote (bare_lets 34 y.state.mode b) v)
      | inr (o, q) ↦ absurd (omega (arith, q, e))
    ]
end_quotes text place x s f e l h u v w = absurd u

end_bare : (text : List ℕ) (place : ℕ) (x : Place text place) (s : Listing) (f : WordFault) → place ≡ length text → Reached text s → Bare s.mode → Says f text place → f ≡ BadCodePoint
end_bare text place x s ListBrace e l h u = absurd (not_missing 125 text place s l other_brace (bare_lets 125 s.mode h) u)
end_bare text place x s ListQuote e l h u = absurd (not_missing 34 text place s l other_quote (bare_lets 34 s.mode h) u)
end_bare text place x s ListAfter e l h u = absurd (x.no_list (ended_list text place u e))
end_bare text place x s BadCodePoint e l h u = refl
end_bare text place x s f e l h u = absurd u

same_end : (text : List ℕ) (place : ℕ) (x : Place text place) (s : Listing) (m : Mode) (f g : WordFault) → place ≡ length text → Reached text s → s.mode ≡ m → Stopping m g → Says f text place → Says g text place → x.front ≡ text → f ≡ g
same_end text place x s m f g e l j (Stopping.in_braces h) u v w = end_braces text place x s f e l (subst OpenBrace (sym j) h) u v w
same_end text place x s m f g e l j (Stopping.in_quotes h) u v w = end_quotes text place x s f e l (subst OpenQuote (sym j) h) u v w
same_end text place x s m f g e l j (Stopping.in_number k n d r) u v w = end_bare text place x s f e l (subst Bare (sym j) (number_bare k n d)) u

-- at a byte
byte_behind : (text : List ℕ) (place : ℕ) (x : Place text place) (f : WordFault) → place < length text → Says f text place → EndsElement text place → f ≡ ListAfter
byte_behind text place x ListBrace e u v = absurd (omega (arith, e, u.0))
byte_behind text place x ListQuote e u v = absurd (omega (arith, e, u.0))
byte_behind text place x ListAfter e u v = refl
byte_behind text place x BadCodePoint e u v =
    let y = number_inside text place x u in
    absurd (open_end text place x.front x.rest y.state x.split x.place_is y.reached (elim y.inside [ inl k ↦ inl k | inr (o, q) ↦ inr o ]) v)
byte_behind text place x f e u v = absurd u

byte_inside : (text : List ℕ) (place : ℕ) (x : Place text place) (s : Listing) (f : WordFault) → place < length text → Reached x.front s → Bare s.mode ⊎ OpenQuote s.mode → Says f text place → f ≡ BadCodePoint
byte_inside text place x s ListBrace e l i u = absurd (omega (arith, e, u.0))
byte_inside text place x s ListQuote e l i u = absurd (omega (arith, e, u.0))
byte_inside text place x s ListAfter e l i u = absurd (open_end text place x.front x.rest s x.split x.place_is l i u)
byte_inside text place x s BadCodePoint e l i u = refl
byte_inside text place x s f e l i u = absurd u

same_byte : (text : List ℕ) (place : ℕ) (x : Place text place) (s : Listing) (m : Mode) (b : ℕ) (f g : WordFault) → place < length text → Reached x.front s → s.mode ≡ m → Failed m b g → Says f text place → Says g text place → f ≡ g
same_byte text place x s m b f g e l j (Failed.behind h) u v = byte_behind text place x f e u v
same_byte text place x s m b f g e l j (Failed.last_digit k n v r i w) u z = byte_inside text place x s f e l (subst (λ o. Bare o ⊎ OpenQuote o) (sym j) (context_inside k n)) u
same_byte text place x s m b f g e l j (Failed.no_digit k n w) u z = byte_inside text place x s f e l (subst (λ o. Bare o ⊎ OpenQuote o) (sym j) (context_inside k n)) u

-- ---- the whole

no_list_of : (g : WordFault) (text : List ℕ) → IsNoList g text → IsNot IsList text
no_list_of g text h (xs, l) = h.1 xs l

-- what stands up to the place, by what was read
place_at : (text : List ℕ) (place : ℕ) (g : WordFault) (x : Before text g place) → GoesOn IsList text place → IsNot IsList text → Place text place
place_at text place g x y n =
    let same = (same_front y.front x.front y.rest x.rest (sym y.split ∙ x.split) (omega (arith, x.place_is, y.place_is))).0 in
    record {
      front = x.front;
      rest = x.rest;
      split = x.split;
      place_is = x.place_is;
      closing = y.closing;
      goes_on = subst (λ t. IsList (t ++ y.closing)) same y.is_such;
      no_list = n;
    }

one_fault : (text : List ℕ) (place : ℕ) (f g : WordFault) → list_read text unread 0 ≡ Err (g, place) → GoesOn IsList text place → IsNot IsList text → Says f text place → f ≡ g
unfolding place_at
one_fault text place f g e y n u =
    let x = before text g place e in
    let s = x.state in
    let p = place_at text place g x y n in
    let v = list_fault_says_what_is_wrong text g place e in
    elim x.why as (λ _. f ≡ g) [
      | inl (r, w) ↦
          let same : x.front ≡ text = sym (x.split ∙ ap (λ t. x.front ++ t) r ∙ append-nil x.front) in
          same_end text place p s s.mode f g (x.place_is ∙ ap length same) (subst (λ t. Reached t s) same x.reached) refl (stopping s.mode s.elements s.depth s.text g w) u v same
      | inr (b, bs, r, w) ↦
          let whole : text ≡ x.front ++ b ∷ bs = x.split ∙ ap (λ t. x.front ++ t) r in
          same_byte text place p s s.mode b f g (omega (arith, x.place_is, ap length whole, length-append x.front (b ∷ bs))) x.reached refl (step_failed s b g x.reached.fine w) u v
    ]

pub what_is_wrong_is_told : (text : List ℕ) (place : ℕ) (f : WordFault) → GoesOn IsList text place → StopsAt (IsNot IsList) text place → Says f text place → elements_of text ≡ Err f
unfolding elements_of
what_is_wrong_is_told text place f x y u = from (list_read text unread 0) refl
  where
    from : (a : Elements) → list_read text unread 0 ≡ a → without_place a ≡ Err f
    from (Ok xs) e = absurd (stops_whole (IsNot IsList) text place y (xs, read_list_is_spelled text xs (ap without_place e)))
    from (Err (g, q)) e =
        let z = stops_as (IsNoList g) (IsNot IsList) text q (no_list_of g) (list_fault_is_first text g q e) in
        let p = one_place IsList text q place (list_fault_can_go_on text g q e) z x y in
        let same = one_fault text place f g (e ∙ ap (λ k. Err (g, k)) p) x (stops_whole (IsNot IsList) text place y) u in
        ap Err (sym same)
