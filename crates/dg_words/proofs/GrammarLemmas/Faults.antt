-- What stands before a fault can go on, and what stands up to it cannot.
use Rattle.std.specs.Prelude.{◌≡◌, ℕ, ◌+◌, List, [], ◌∷◌, ◌++◌, length, refl, Ok, Err, Result, drop, ◌⊎◌}
use Rattle.std.proofs.Common.{inl, inr, ◌∙◌, ap, sym, arith, subst, append_assoc, length-append}
use Rattle.std.proofs.lemmas.List.{append-nil}
use Rattle.dg_lists.specs.declared.fault.WordFault.{WordFault}
use Rattle.dg_lists.specs.declared.fault.WordFault.TheVariants as fault
use Rattle.dg_lists.specs.declared.kinds.Class.TheVariants as class
use Rattle.dg_words.specs.declared.kinds.Level.{Level}
use Rattle.dg_words.specs.declared.kinds.Level.TheVariants as level
use Rattle.dg_lists.specs.declared.kinds.Mode.{Mode}
use Rattle.dg_lists.specs.declared.kinds.Mode.TheVariants as mode
use Rattle.dg_words.specs.declared.word.Word.{Word}
use Rattle.dg_words.specs.Machine.{Answer, Go, Fails, Over, Stepped, State, fresh, level_in, onward, read, step, stop, stopped}
use Rattle.dg_words.specs.Reading.{command_at, kind_of, operand_at, words_of, words_only}
use Rattle.dg_lists.specs.Grammar.Continuing.{GoesOn, IsNot, StopsAt}
use Rattle.dg_words.proofs.GrammarLemmas.Reads.{HasCommand, HasOperand, IsRead, IsWords}
use Rattle.dg_words.specs.Grammar.Continuing.{HasNoCommand, HasNoOperand, IsNoWords}
use Rattle.dg_words.proofs.GrammarLemmas.Openings.{IsOther}
use Rattle.dg_words.proofs.GrammarLemmas.Segments.{Leads, lead_one, lead_none, lead_both}
use Rattle.dg_lists.specs.Classes.{class_of}
use Rattle.dg_words.specs.Grammar.Ends.{Open, missing}
use Rattle.dg_words.specs.Grammar.Saying.{EndsWord, IsWrong, OpensNothing, TooMany, Unwritten}
use Rattle.dg_lists.proofs.GrammarLemmas.Bytes.{is_class}
use Rattle.dg_words.proofs.GrammarLemmas.Closers.{ends_at}
use Rattle.dg_words.proofs.GrammarLemmas.Trails.{Cause, IsNested, Reached, Trail, cause, reached_step}
use Rattle.dg_lists.proofs.GrammarLemmas.Places.{one_place, stops_whole}
use Rattle.dg_words.proofs.GrammarLemmas.OneKind.{is_missing, one_kind}
use Rattle.dg_words.proofs.GrammarLemmas.Plain.{OpensOne, bracket_opens, paren_opens, plain}
use Rattle.dg_words.proofs.GrammarLemmas.Wrong.{IsWrongAt, wrong_at, wrong_end}
use Rattle.dg_words.proofs.GrammarLemmas.InOrder.{in_nothing, same_open}
use Rattle.dg_words.proofs.GrammarLemmas.Inmost.{IsInmost, IsMissing, inmost, needed}
use Rattle.dg_words.proofs.GrammarLemmas.Missing.{IsAt, fail_step}
use Rattle.dg_lists.proofs.GrammarLemmas.Endable.{Fine}
use Rattle.dg_words.proofs.GrammarLemmas.GoOn.{FineStep, closing, fine_step}
use Rattle.dg_words.proofs.GrammarLemmas.WordRead.{spelled_command_is_read, spelled_words_are_read}
use Rattle.dg_words.proofs.GrammarLemmas.OperandRead.{spelled_operand_is_read}
use Rattle.dg_lists.proofs.GrammarLemmas.Answered.{goes_as, stops_as}

-- why a reading stops at a place, where this is left of the text
abbrev Why : Level → State → List ℕ → WordFault → Type 0
Why l s rest f = ((rest ≡ []) × (stop s ≡ Err f)) ⊎ ((b : ℕ) × (bs : List ℕ) × (rest ≡ b ∷ bs) × (step l s b ≡ Fails f))

-- what was read before a fault
record Before (l : Level) (s : State) (text : List ℕ) (f : WordFault) (p q : ℕ) : Type 0 where
  front : List ℕ
  rest : List ℕ
  state : State
  split : text ≡ front ++ rest
  place_is : q ≡ p + length front
  leads : (after : List ℕ) → Leads l after s front state
  fine : Fine state.mode
  reached : (m : Mode) (past : List ℕ) → Reached l m past s → Reached l m (past ++ front) state
  why : Why l state rest f

place_of : ℕ → Answer → ℕ
place_of n (Ok x) = n
place_of n (Err e) = e.1

same_place : {f g : WordFault} {p q : ℕ} → ◌≡◌ {A = Answer} (Err (f, p)) (Err (g, q)) → p ≡ q
unfolding place_of
same_place {p = p} e = ap (place_of p) e

fault_of : WordFault → Answer → WordFault
fault_of f (Ok x) = f
fault_of f (Err e) = e.0

same_fault : {f g : WordFault} {p q : ℕ} → ◌≡◌ {A = Answer} (Err (f, p)) (Err (g, q)) → f ≡ g
unfolding fault_of
same_fault {f = f} e = ap (fault_of f) e

here : (l : Level) (s : State) (text : List ℕ) (f : WordFault) (p q : ℕ) → p ≡ q → Fine s.mode → Why l s text f → Before l s text f p q
here l s text f p q e h w = record { front = []; rest = text; state = s; split = refl; place_is = omega (arith, e); leads = λ after. lead_none l after s; fine = h; reached = λ m past r. subst (λ t. Reached l m t s) (sym (append-nil past)) r; why = w }

before_transition : (l : Level) (s : State) (b : ℕ) (bs : List ℕ) (f : WordFault) (p q : ℕ) (m : Stepped) → step l s b ≡ m → Fine s.mode → FineStep m → ((n : State) → Fine n.mode → read l bs n (p + 1) ≡ Err (f, q) → Before l n bs f (p + 1) q) → onward m p (λ n. read l bs n (p + 1)) ≡ Err (f, q) → Before l s (b ∷ bs) f p q
before_transition l s b bs f p q (Go n) e h k rec r =
    let x = rec n k r in
    record {
      front = b ∷ x.front;
      rest = x.rest;
      state = x.state;
      split = ap (λ y. b ∷ y) x.split;
      place_is = omega (arith, x.place_is);
      leads = λ after. lead_both l after _ _ _ (b ∷ []) x.front (lead_one l (x.front ++ after) s n b e) (x.leads after);
      fine = x.fine;
      reached = λ m past r. subst (λ t. Reached l m t x.state) (append_assoc past (b ∷ []) x.front) (x.reached m (past ++ b ∷ []) (reached_step l m past s n b r e));
      why = x.why;
    }
before_transition l s b bs f p q (Over ws n) e h k rec r = absurd cc
before_transition l s b bs f p q (Fails g) e h k rec r = here l s (b ∷ bs) f p q (same_place r) h (inr (b, bs, refl, e ∙ ap Fails (same_fault r)))

before_end : (l : Level) (s : State) (f : WordFault) (p q : ℕ) (r : Result (List Word) WordFault) → stop s ≡ r → Fine s.mode → stopped r p ≡ Err (f, q) → Before l s [] f p q
before_end l s f p q (Ok ws) i h e = absurd cc
before_end l s f p q (Err g) i h e = here l s [] f p q (same_place e) h (inl (refl, i ∙ ap Err (same_fault e)))

before : (l : Level) (text : List ℕ) (s : State) (f : WordFault) (p q : ℕ) → Fine s.mode → read l text s p ≡ Err (f, q) → Before l s text f p q
unfolding read
before l [] s f p q h e = before_end l s f p q (stop s) refl h e
before l (b ∷ bs) s f p q h e = before_transition l s b bs f p q (step l s b) refl h (fine_step l s b h) (λ n k r. before l bs n f (p + 1) q k r) e

-- this fault is told of a text, wherever its reading begins
abbrev Tells : Level → Mode → WordFault → List ℕ → Type 0
Tells l m f text = (p : ℕ) → kind_of (read l text (fresh m) p) ≡ Err f

stop_fails : (l : Level) (s : State) (f : WordFault) (p : ℕ) → stop s ≡ Err f → read l [] s p ≡ Err (f, p)
unfolding read
stop_fails l s f p e = ap (λ r. stopped r p) e

fails_at : (l : Level) (s : State) (b : ℕ) (bs : List ℕ) (f : WordFault) (p : ℕ) → step l s b ≡ Fails f → read l (b ∷ bs) s p ≡ Err (f, p)
unfolding read
fails_at l s b bs f p e = ap (λ m. onward m p (λ n. read l bs n (p + 1))) e

before_byte : (text front bs : List ℕ) (b : ℕ) → text ≡ front ++ b ∷ bs → length front ≡ length text → ⊥
before_byte text front bs b e h = let x = ap length e in omega (arith, x, h, length-append front (b ∷ bs))

-- what is open after a text
opens : (l : Level) (m : Mode) (text front : List ℕ) (s : State) → front ≡ text → Fine s.mode → ((after : List ℕ) → Leads l after (fresh m) front s) → Open (IsRead l m) text (ends_at s)
opens l m text front s e h x =
    let c = closing l s.inner s.mode s.depth s.draft h in
    let z = c.closes (0 + length front) in
    record {
      closing = c.bytes;
      is_such = subst (λ t. IsRead l m (t ++ c.bytes)) e (c.words, z.0, (x c.bytes).on 0 ∙ z.1);
      just = c.just;
      needed = λ more r. needed l more s (0 + length front) (r.0, r.1) (sym ((x more).on 0) ∙ ap (λ t. read l (t ++ more) (fresh m) 0) e ∙ r.2);
    }

-- what is wrong
both : (Is : List ℕ → Type 0) (text : List ℕ) (place : ℕ) (f : WordFault) → IsWrongAt Is f text place → OpensNothing Is text place → IsWrong Is f text place
both Is text place fault.AfterBrace h o = (h, o)
both Is text place fault.AfterQuote h o = (h, o)
both Is text place fault.BadCodePoint h o = (h, o)
both Is text place f h o = absurd h

lacks_first : (Is : List ℕ → Type 0) (text : List ℕ) (place k : ℕ) (ks : List ℕ) (f : WordFault) → IsMissing f k → place ≡ length text → Open Is text (k ∷ ks) → IsWrong Is f text place
lacks_first Is text place k ks fault.MissingBrace h e o = (e, ks, subst (λ b. Open Is text (b ∷ ks)) h o)
lacks_first Is text place k ks fault.MissingQuote h e o = (e, ks, subst (λ b. Open Is text (b ∷ ks)) h o)
lacks_first Is text place k ks fault.MissingBracket h e o = inl (e, ks, subst (λ b. Open Is text (b ∷ ks)) h o)
lacks_first Is text place k ks fault.MissingParen h e o = inl (e, ks, subst (λ b. Open Is text (b ∷ ks)) h o)
lacks_first Is text place k ks f h e o = absurd h

wrong_where_it_ends : (Is : List ℕ → Type 0) (text : List ℕ) (place : ℕ) (ks : List ℕ) (f : WordFault) → IsInmost f ks → (IsOther f → IsWrongAt Is f text place) → place ≡ length text → Open Is text ks → IsWrong Is f text place
wrong_where_it_ends Is text place [] f h w e o = both Is text place f (w h) (λ _. o)
wrong_where_it_ends Is text place (k ∷ ks) f h w e o = lacks_first Is text place k ks f h e o

too_many : (l : Level) (m : Mode) (text front bs : List ℕ) (s : State) (b k : ℕ) (f : WordFault) → text ≡ front ++ b ∷ bs → b ≡ k → OpensOne k → IsNested f → Reached l m front s → step l s b ≡ Fails f → TooMany (IsRead l m) k text (length front)
too_many l m text front bs s b k f e i o n r w =
    let x = plain l m front s k f r o n (ap (λ c. step l s c) (sym i) ∙ w) in
    record { front = front; rest = bs; split = e ∙ ap (λ c. front ++ c ∷ bs) i; place_is = refl; more = x.0; is_such = x.1 }

nested : (l : Level) (m : Mode) (text front bs : List ℕ) (s : State) (b : ℕ) (f : WordFault) → text ≡ front ++ b ∷ bs → Reached l m front s → step l s b ≡ Fails f → IsNested f → IsAt (class_of b) f → IsWrong (IsRead l m) f text (length front)
nested l m text front bs s b fault.MissingBracket e r w n h = inr (too_many l m text front bs s b 91 fault.MissingBracket e (is_class b class.LeftBracket h) bracket_opens tt r w)
nested l m text front bs s b fault.MissingParen e r w n h = inr (too_many l m text front bs s b 40 fault.MissingParen e (is_class b class.LeftParen h) paren_opens tt r w)
nested l m text front bs s b f e r w n h = absurd n

wrong_where_it_stands : (l : Level) (m : Mode) (text front bs : List ℕ) (s : State) (b : ℕ) (f : WordFault) → text ≡ front ++ b ∷ bs → Reached l m front s → step l s b ≡ Fails f → IsNested f ⊎ Cause (level_in l s.inner) b s.mode f → IsWrong (IsRead l m) f text (length front)
wrong_where_it_stands l m text front bs s b f e r w (inl n) = nested l m text front bs s b f e r w n (fail_step l s b f w)
wrong_where_it_stands l m text front bs s b f e r w (inr c) = both (IsRead l m) text (length front) f (wrong_at l m text front bs s b f e r w c) (λ i. absurd (before_byte text front bs b e i))

is_wrong : (l : Level) (m : Mode) (text : List ℕ) (f : WordFault) (p q : ℕ) → Trail l m [] m → Fine m → (x : Before l (fresh m) text f p q) → IsWrong (IsRead l m) f text (length x.front)
is_wrong l m text f p q t h x =
    let s = x.state in
    let r = x.reached m [] (record { leads = λ after. lead_none l after (fresh m); fine = h; trail = t }) in
    elim x.why as (λ _. IsWrong (IsRead l m) f text (length x.front)) [
      | inl (i, w) ↦
          let j : text ≡ x.front ++ [] = x.split ∙ ap (λ y. x.front ++ y) i in
          let e : x.front ≡ text = sym (j ∙ append-nil x.front) in
          wrong_where_it_ends (IsRead l m) text (length x.front) (ends_at s) f (inmost s f w) (λ o. wrong_end l m text x.front s f j r o w) (ap length e) (opens l m text x.front s e x.fine x.leads)
      | inr (b, bs, i, w) ↦ wrong_where_it_stands l m text x.front bs s b f (x.split ∙ ap (λ y. x.front ++ y) i) r w (cause l m x.front s b f r w)
    ]

-- what is so by one name is so by another
pub open_as : (Is Such : List ℕ → Type 0) (text ks : List ℕ) → ((t : List ℕ) → Is t → Such t) → ((t : List ℕ) → Such t → Is t) → Open Is text ks → Open Such text ks
open_as Is Such text ks f g o = record { closing = o.closing; is_such = f (text ++ o.closing) o.is_such; just = o.just; needed = λ more h. o.needed more (g (text ++ more) h) }

ends_as : (Is Such : List ℕ → Type 0) (k : ℕ) (text : List ℕ) (place : ℕ) → ((t : List ℕ) → Such t → Is t) → EndsWord Is k text place → EndsWord Such k text place
ends_as Is Such k text place g x = record { before = x.before; rest = x.rest; split = x.split; is_parted = λ more h. x.is_parted more (g (x.before ++ k ∷ more) h); place_is = x.place_is }

many_as : (Is Such : List ℕ → Type 0) (k : ℕ) (text : List ℕ) (place : ℕ) → ((t : List ℕ) → Is t → Such t) → TooMany Is k text place → TooMany Such k text place
many_as Is Such k text place f x = record { front = x.front; rest = x.rest; split = x.split; place_is = x.place_is; more = x.more; is_such = f (x.front ++ 46 ∷ x.more) x.is_such }

unwritten_as : (Is Such : List ℕ → Type 0) (text : List ℕ) (place : ℕ) → ((t : List ℕ) → Such t → Is t) → Unwritten Is text place → Unwritten Such text place
unwritten_as Is Such text place g x = record {
  before = x.before;
  escape = x.escape;
  digits = x.digits;
  rest = x.rest;
  split = x.split;
  by_letter = x.by_letter;
  are_digits = x.are_digits;
  no_character = x.no_character;
  unfinished = λ more h. x.unfinished more (g _ h);
  place_is = x.place_is;
}

pub wrong_as : (Is Such : List ℕ → Type 0) (text : List ℕ) (place : ℕ) (f : WordFault) → ((t : List ℕ) → Is t → Such t) → ((t : List ℕ) → Such t → Is t) → IsWrong Is f text place → IsWrong Such f text place
wrong_as Is Such text place fault.MissingBrace f g h = (h.0, h.1, open_as Is Such text (125 ∷ h.1) f g h.2)
wrong_as Is Such text place fault.MissingQuote f g h = (h.0, h.1, open_as Is Such text (34 ∷ h.1) f g h.2)
wrong_as Is Such text place fault.MissingBracket f g (inl h) = inl (h.0, h.1, open_as Is Such text (93 ∷ h.1) f g h.2)
wrong_as Is Such text place fault.MissingBracket f g (inr h) = inr (many_as Is Such 91 text place f h)
wrong_as Is Such text place fault.MissingParen f g (inl h) = inl (h.0, h.1, open_as Is Such text (41 ∷ h.1) f g h.2)
wrong_as Is Such text place fault.MissingParen f g (inr h) = inr (many_as Is Such 40 text place f h)
wrong_as Is Such text place fault.AfterBrace f g h = (ends_as Is Such 125 text place g h.0, λ e. open_as Is Such text [] f g (h.1 e))
wrong_as Is Such text place fault.AfterQuote f g h = (ends_as Is Such 34 text place g h.0, λ e. open_as Is Such text [] f g (h.1 e))
wrong_as Is Such text place fault.BadCodePoint f g h = (unwritten_as Is Such text place g h.0, λ e. open_as Is Such text [] f g (h.1 e))
wrong_as Is Such text place f g k h = h

-- A text that is begun in a mode, up to its fault: how far it can go on from there, and why no further.
record Faulted (l : Level) (m : Mode) (text : List ℕ) (f : WordFault) (p q : ℕ) : Type 0 where
  place : ℕ
  place_is : q ≡ p + place
  goes_on : GoesOn (IsRead l m) text place
  stops_at : StopsAt (Tells l m f) text place
  wrong : IsWrong (IsRead l m) f text place

faulted : (l : Level) (m : Mode) (text : List ℕ) (f : WordFault) (p q : ℕ) → Trail l m [] m → Fine m → read l text (fresh m) p ≡ Err (f, q) → Faulted l m text f p q
faulted l m text f p q t h e =
    let x = before l text (fresh m) f p q h e in
    let y = x.state in
    let c = closing l y.inner y.mode y.depth y.draft x.fine in
    let z = c.closes (0 + length x.front) in
    record {
      place = length x.front;
      place_is = x.place_is;
      goes_on = record {
        front = x.front;
        rest = x.rest;
        split = x.split;
        place_is = refl;
        closing = c.bytes;
        is_such = (c.words, z.0, (x.leads c.bytes).on 0 ∙ z.1);
      };
      stops_at = record {
        front = x.front;
        place_is = refl;
        why = elim x.why as (λ _. ((text ≡ x.front) × Tells l m f text) ⊎ ((b : ℕ) × (rest : List ℕ) × (text ≡ x.front ++ b ∷ rest) × ((more : List ℕ) → Tells l m f (x.front ++ b ∷ more)))) [
          | inl (r, w) ↦ inl (
            x.split ∙ ap (λ r. x.front ++ r) r ∙ append-nil x.front,
            λ n. ap (λ u. kind_of (read l u (fresh m) n)) (x.split ∙ ap (λ r. x.front ++ r) r) ∙ ap kind_of ((x.leads []).on n ∙ stop_fails l y f (n + length x.front) w),
          )
          | inr (b, bs, r, w) ↦ inr (b, bs, x.split ∙ ap (λ r. x.front ++ r) r, λ more n. ap kind_of ((x.leads (b ∷ more)).on n ∙ fails_at l y b more f (n + length x.front) w))
        ];
      };
      wrong = is_wrong l m text f p q t h x;
    }

goes_on : (l : Level) (m : Mode) (text : List ℕ) (f : WordFault) (q : ℕ) → Trail l m [] m → Fine m → read l text (fresh m) 0 ≡ Err (f, q) → GoesOn (IsRead l m) text q
goes_on l m text f q t h e = let x = faulted l m text f 0 q t h e in let i : x.place ≡ q = omega (arith, x.place_is) in subst (λ k. GoesOn (IsRead l m) text k) i x.goes_on

stops_at : (l : Level) (m : Mode) (text : List ℕ) (f : WordFault) (q : ℕ) → Trail l m [] m → Fine m → read l text (fresh m) 0 ≡ Err (f, q) → StopsAt (Tells l m f) text q
stops_at l m text f q t h e = let x = faulted l m text f 0 q t h e in let i : x.place ≡ q = omega (arith, x.place_is) in subst (λ k. StopsAt (Tells l m f) text k) i x.stops_at

-- a fault has a place
placed : (a : Answer) (f : WordFault) → kind_of a ≡ Err f → (q : ℕ) × (a ≡ Err (f, q))
placed (Ok x) f e = absurd cc
placed (Err (g, q)) f e = (q, ap (λ r. Err (kind_in r, q)) e)
  where
    kind_in : Result (List Word × ℕ) WordFault → WordFault
    kind_in (Ok x) = g
    kind_in (Err k) = k

-- the other way: where items are open at the end, the fault of the inmost is told
open_tells : (l : Level) (m : Mode) (text : List ℕ) (k : ℕ) (ks : List ℕ) → Fine m → Open (IsRead l m) text (k ∷ ks) → Tells l m (missing k) text
open_tells l m text k ks h o = from (read l text (fresh m) 0) refl
  where
    from : (a : Answer) → read l text (fresh m) 0 ≡ a → Tells l m (missing k) text
    from (Ok x) e = absurd (in_nothing (o.needed [] (x.0, x.1, ap (λ t. read l t (fresh m) 0) (append-nil text) ∙ e)))
    from (Err (f, q)) e =
        let x = before l text (fresh m) f 0 q h e in
        let s = x.state in
        elim x.why as (λ _. Tells l m (missing k) text) [
          | inl (r, w) ↦
              let same : x.front ≡ text = sym (x.split ∙ ap (λ y. x.front ++ y) r ∙ append-nil x.front) in
              let is : ends_at s ≡ k ∷ ks = same_open (IsRead l m) text (ends_at s) (k ∷ ks) (opens l m text x.front s same x.fine x.leads) o in
              let g : missing k ≡ f = is_missing f k (subst (IsInmost f) is (inmost s f w)) in
              λ n. ap (λ u. kind_of (read l u (fresh m) n)) (x.split ∙ ap (λ y. x.front ++ y) r) ∙ ap kind_of ((x.leads []).on n ∙ stop_fails l s f (n + length x.front) w) ∙ ap Err (sym g)
          | inr (b, bs, r, w) ↦
              let whole : text ++ o.closing ≡ x.front ++ (b ∷ (bs ++ o.closing)) = ap (λ t. t ++ o.closing) (x.split ∙ ap (λ y. x.front ++ y) r) ∙ append_assoc x.front (b ∷ bs) o.closing in
              let y = o.is_such in
              let z = sym y.2 ∙ ap (λ t. read l t (fresh m) 0) whole ∙ (x.leads (b ∷ (bs ++ o.closing))).on 0 ∙ fails_at l s b (bs ++ o.closing) f (0 + length x.front) w in
              absurd cc
        ]

-- what is wrong at the first place is told
tells_not : (l : Level) (m : Mode) (f : WordFault) (text : List ℕ) → Tells l m f text → IsNot (IsRead l m) text
tells_not l m f text h x = let y = sym (h 0) ∙ ap kind_of x.2 in absurd cc

decided : (l : Level) (m : Mode) (text : List ℕ) (place : ℕ) (f : WordFault) → Trail l m [] m → Fine m → GoesOn (IsRead l m) text place → StopsAt (IsNot (IsRead l m)) text place → IsWrong (IsRead l m) f text place → Tells l m f text
decided l m text place f t h x y w = from (read l text (fresh m) 0) refl
  where
    from : (a : Answer) → read l text (fresh m) 0 ≡ a → Tells l m f text
    from (Ok r) e = absurd (stops_whole (IsNot (IsRead l m)) text place y (r.0, r.1, e))
    from (Err (g, q)) e =
        let z = faulted l m text g 0 q t h e in
        let p = one_place (IsRead l m) text place z.place x y z.goes_on (stops_as (Tells l m g) (IsNot (IsRead l m)) text z.place (tells_not l m g) z.stops_at) in
        let same = one_kind (IsRead l m) text place f g w (subst (λ k. IsWrong (IsRead l m) g text k) (sym p) z.wrong) in
        subst (λ k. Tells l m k text) (sym same) (stops_whole (Tells l m g) text z.place z.stops_at)

decided_as : (l : Level) (m : Mode) (Such : List ℕ → Type 0) (text : List ℕ) (place : ℕ) (f : WordFault) → Trail l m [] m → Fine m → ((t : List ℕ) → IsRead l m t → Such t) → ((t : List ℕ) → Such t → IsRead l m t) →
    GoesOn Such text place → StopsAt (IsNot Such) text place → IsWrong Such f text place → Tells l m f text
decided_as l m Such text place f t h to from x y w =
    decided l m text place f t h (goes_as Such (IsRead l m) text place from x) (stops_as (IsNot Such) (IsNot (IsRead l m)) text place (λ u n r. n (to u r)) y) (wrong_as Such (IsRead l m) text place f from to w)

-- a command
has_command : (text : List ℕ) → IsRead level.Top mode.Start text → HasCommand text
unfolding command_at
has_command text (ws, next, e) = (ws, next, ap kind_of e)

has_no_command : (fault : WordFault) (text : List ℕ) → Tells level.Top mode.Start fault text → HasNoCommand fault text
unfolding command_at
has_no_command fault text e = let told : command_at text 0 ≡ Err fault = e 0 in (told, λ ws n h. let x = sym (spelled_command_is_read text 0 n ws h) ∙ told in absurd cc)

kind_ok : (a : Answer) (x : List Word × ℕ) → kind_of a ≡ Ok x → a ≡ Ok x
kind_ok (Ok y) x e = ap (λ r. Ok (answer_in r)) e
  where
    answer_in : Result (List Word × ℕ) WordFault → List Word × ℕ
    answer_in (Ok z) = z
    answer_in (Err g) = y
kind_ok (Err g) x e = absurd cc

command_read : (text : List ℕ) → HasCommand text → IsRead level.Top mode.Start text
unfolding command_at
command_read text (ws, n, e) = (ws, n, kind_ok (read level.Top text (fresh mode.Start) 0) (ws, n) e)

pub command_fault_has_its_place : (text : List ℕ) (at : ℕ) (fault : WordFault) → command_at text at ≡ Err fault →
    (place : ℕ) × GoesOn HasCommand (drop at text) place × StopsAt (HasNoCommand fault) (drop at text) place × IsWrong HasCommand fault (drop at text) place
unfolding command_at
command_fault_has_its_place text at fault e =
    let (q, h) = placed (read level.Top (drop at text) (fresh mode.Start) at) fault e in
    let x = faulted level.Top mode.Start (drop at text) fault at q tt tt h in (
      x.place,
      goes_as (IsRead level.Top mode.Start) HasCommand (drop at text) x.place has_command x.goes_on,
      stops_as (Tells level.Top mode.Start fault) (HasNoCommand fault) (drop at text) x.place (has_no_command fault) x.stops_at,
      wrong_as (IsRead level.Top mode.Start) HasCommand (drop at text) x.place fault has_command command_read x.wrong,
    )

pub what_is_wrong_in_a_command_is_told : (text : List ℕ) (at place : ℕ) (fault : WordFault) → GoesOn HasCommand (drop at text) place → StopsAt (IsNot HasCommand) (drop at text) place → IsWrong HasCommand fault (drop at text) place → command_at text at ≡ Err fault
unfolding command_at
what_is_wrong_in_a_command_is_told text at place fault x y w = decided_as level.Top mode.Start HasCommand (drop at text) place fault tt tt has_command command_read x y w at

command_open : (text ks : List ℕ) → Open HasCommand text ks → Open (IsRead level.Top mode.Start) text ks
command_open text ks o = open_as HasCommand (IsRead level.Top mode.Start) text ks command_read has_command o

pub open_command_misses_its_inmost_end : (text : List ℕ) (at k : ℕ) (ks : List ℕ) → Open HasCommand (drop at text) (k ∷ ks) → command_at text at ≡ Err (missing k)
unfolding command_at
open_command_misses_its_inmost_end text at k ks o = open_tells level.Top mode.Start (drop at text) k ks tt (command_open (drop at text) (k ∷ ks) o) at

-- words
is_words : (text : List ℕ) → IsRead level.List mode.Gap text → IsWords text
unfolding words_of
is_words text (ws, next, e) = (ws, ap words_only e)

words_in : Result (List Word × ℕ) WordFault → Result (List Word) WordFault
words_in (Ok x) = Ok x.0
words_in (Err f) = Err f

words_kind : (a : Answer) → words_only a ≡ words_in (kind_of a)
unfolding words_in
words_kind (Ok x) = refl
words_kind (Err e) = refl

is_no_words : (fault : WordFault) (text : List ℕ) → Tells level.List mode.Gap fault text → IsNoWords fault text
unfolding words_of words_in
is_no_words fault text e =
    let told : words_of text ≡ Err fault = words_kind (read level.List text (fresh mode.Gap) 0) ∙ ap words_in (e 0) in
    (told, λ ws h. let x = sym (spelled_words_are_read text ws h) ∙ told in absurd cc)

words_placed : (a : Answer) (f : WordFault) → words_only a ≡ Err f → kind_of a ≡ Err f
words_placed (Ok x) f e = absurd cc
words_placed (Err (g, q)) f e = ap (λ r. Err (kind_in r)) e
  where
    kind_in : Result (List Word) WordFault → WordFault
    kind_in (Ok x) = g
    kind_in (Err k) = k

words_ok : (a : Answer) (ws : List Word) → words_only a ≡ Ok ws → (n : ℕ) × (a ≡ Ok (ws, n))
words_ok (Ok (vs, n)) ws e = (n, ap (λ r. Ok (answer_in r, n)) e)
  where
    answer_in : Result (List Word) WordFault → List Word
    answer_in (Ok z) = z
    answer_in (Err g) = vs
words_ok (Err g) ws e = absurd cc

words_read : (text : List ℕ) → IsWords text → IsRead level.List mode.Gap text
unfolding words_of
words_read text (ws, e) = let x = words_ok (read level.List text (fresh mode.Gap) 0) ws e in (ws, x.0, x.1)

pub words_fault_has_its_place : (text : List ℕ) (fault : WordFault) → words_of text ≡ Err fault → (place : ℕ) × GoesOn IsWords text place × StopsAt (IsNoWords fault) text place × IsWrong IsWords fault text place
unfolding words_of
words_fault_has_its_place text fault e =
    let a = read level.List text (fresh mode.Gap) 0 in
    let (q, h) = placed a fault (words_placed a fault e) in
    let x = faulted level.List mode.Gap text fault 0 q tt tt h in (
      x.place,
      goes_as (IsRead level.List mode.Gap) IsWords text x.place is_words x.goes_on,
      stops_as (Tells level.List mode.Gap fault) (IsNoWords fault) text x.place (is_no_words fault) x.stops_at,
      wrong_as (IsRead level.List mode.Gap) IsWords text x.place fault is_words words_read x.wrong,
    )

pub what_is_wrong_in_words_is_told : (text : List ℕ) (place : ℕ) (fault : WordFault) → GoesOn IsWords text place → StopsAt (IsNot IsWords) text place → IsWrong IsWords fault text place → words_of text ≡ Err fault
unfolding words_of words_in
what_is_wrong_in_words_is_told text place fault x y w =
    words_kind (read level.List text (fresh mode.Gap) 0) ∙ ap words_in (decided_as level.List mode.Gap IsWords text place fault tt tt is_words words_read x y w 0)

pub open_words_miss_their_inmost_end : (text : List ℕ) (k : ℕ) (ks : List ℕ) → Open IsWords text (k ∷ ks) → words_of text ≡ Err (missing k)
unfolding words_of words_in
open_words_miss_their_inmost_end text k ks o =
    words_kind (read level.List text (fresh mode.Gap) 0) ∙ ap words_in (open_tells level.List mode.Gap text k ks tt (open_as IsWords (IsRead level.List mode.Gap) text (k ∷ ks) words_read is_words o) 0)

-- an operand
has_operand : (text : List ℕ) → IsRead level.Alone mode.Operand text → HasOperand text
unfolding operand_at
has_operand text (ws, next, e) = (ws, next, ap kind_of e)

has_no_operand : (fault : WordFault) (text : List ℕ) → Tells level.Alone mode.Operand fault text → HasNoOperand fault text
unfolding operand_at
has_no_operand fault text e = let told : operand_at text 0 ≡ Err fault = e 0 in (told, λ ps n h. let x = sym (spelled_operand_is_read text 0 n ps h) ∙ told in absurd cc)

operand_read : (text : List ℕ) → HasOperand text → IsRead level.Alone mode.Operand text
unfolding operand_at
operand_read text (ws, n, e) = (ws, n, kind_ok (read level.Alone text (fresh mode.Operand) 0) (ws, n) e)

pub operand_fault_has_its_place : (text : List ℕ) (at : ℕ) (fault : WordFault) → operand_at text at ≡ Err fault →
    (place : ℕ) × GoesOn HasOperand (drop at text) place × StopsAt (HasNoOperand fault) (drop at text) place × IsWrong HasOperand fault (drop at text) place
unfolding operand_at
operand_fault_has_its_place text at fault e =
    let (q, h) = placed (read level.Alone (drop at text) (fresh mode.Operand) at) fault e in
    let x = faulted level.Alone mode.Operand (drop at text) fault at q tt tt h in (
      x.place,
      goes_as (IsRead level.Alone mode.Operand) HasOperand (drop at text) x.place has_operand x.goes_on,
      stops_as (Tells level.Alone mode.Operand fault) (HasNoOperand fault) (drop at text) x.place (has_no_operand fault) x.stops_at,
      wrong_as (IsRead level.Alone mode.Operand) HasOperand (drop at text) x.place fault has_operand operand_read x.wrong,
    )

pub open_operand_misses_its_inmost_end : (text : List ℕ) (at k : ℕ) (ks : List ℕ) → Open HasOperand (drop at text) (k ∷ ks) → operand_at text at ≡ Err (missing k)
unfolding operand_at
open_operand_misses_its_inmost_end text at k ks o =
    open_tells level.Alone mode.Operand (drop at text) k ks tt (open_as HasOperand (IsRead level.Alone mode.Operand) (drop at text) (k ∷ ks) operand_read has_operand o) at

pub what_is_wrong_in_an_operand_is_told : (text : List ℕ) (at place : ℕ) (fault : WordFault) → GoesOn HasOperand (drop at text) place → StopsAt (IsNot HasOperand) (drop at text) place → IsWrong HasOperand fault (drop at text) place → operand_at text at ≡ Err fault
unfolding operand_at
what_is_wrong_in_an_operand_is_told text at place fault x y w = decided_as level.Alone mode.Operand HasOperand (drop at text) place fault tt tt has_operand operand_read x y w at
