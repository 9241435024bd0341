-- Where an escape stands that writes no character, a bare or a quoted element is open; and which bytes that leaves to come.
use Rattle.std.specs.Prelude.{◌≡◌, ◌≢◌, ℕ, zero, suc, ◌+◌, ◌-◌, ◌≤◌, ◌<◌, List, [], ◌∷◌, ◌++◌, length, refl, Ok, Err, Result, Bool, true, false, Option, None, Some, cond, nat_lt, ◌⊎◌}
use Rattle.std.proofs.Common.{inl, inr, ◌∙◌, ap, sym, arith, subst, append_assoc, length-append}
use Rattle.std.proofs.lemmas.List.{append-nil}
use Rattle.std.specs.Char.{digit_value}
use Rattle.dg_lists.specs.declared.fault.WordFault.{WordFault}
use Rattle.dg_lists.specs.declared.kinds.Class.{Class}
use Rattle.dg_lists.specs.declared.kinds.Class.TheVariants as class
use Rattle.dg_lists.specs.declared.kinds.Context.{Context}
use Rattle.dg_lists.specs.declared.kinds.Context.TheVariants as context
use Rattle.dg_lists.specs.declared.kinds.Digits as kinds
use Rattle.dg_lists.specs.declared.kinds.Effect.{Effect}
use Rattle.dg_lists.specs.declared.kinds.Escape.{Escape}
use Rattle.dg_lists.specs.declared.kinds.Escape.TheVariants.{Octal, Byte, Short, Long}
use Rattle.dg_lists.specs.declared.kinds.Mode.{Mode}
use Rattle.dg_lists.specs.declared.kinds.Mode.TheVariants as mode
use Rattle.dg_lists.specs.declared.kinds.Transition.{Transition}
use Rattle.dg_lists.specs.Classes.{class_of, is_name}
use Rattle.dg_lists.specs.Transitions.{behind_number, counted, digits_of, escaped, goes, is_space, letter_of, whole, with_digit, written}
use Rattle.dg_lists.specs.Elements.{Listing, elements_of, list_context, list_effect, list_numbered, list_onward, list_pair, list_read, list_step, list_transition, unread, without_place}
use Rattle.dg_lists.specs.Grammar.Continuing.{IsList}
use Rattle.dg_lists.specs.Grammar.Escapes.{each, stands_for}
use Rattle.dg_lists.specs.Grammar.Lists.{ListOf, parts}
use Rattle.dg_lists.specs.Grammar.Saying.{Has, MayEscape, Misses, WritesNone}
use Rattle.dg_lists.proofs.GrammarLemmas.Bytes.{Without}
use Rattle.dg_lists.proofs.GrammarLemmas.Numbers.{Paired, and_left, and_right, paired, test}
use Rattle.dg_lists.proofs.GrammarLemmas.ListRead.{backslash_is, spelled_list_is_read, step_by}
use Rattle.dg_lists.proofs.GrammarLemmas.ListSpelled.{read_list_is_spelled}
use Rattle.dg_lists.proofs.GrammarLemmas.ListSteps.{Reached, before, ok_state, reached_none, reached_step}
use Rattle.dg_lists.proofs.GrammarLemmas.ListFaults.{Closes, Other, closing}
use Rattle.dg_lists.proofs.GrammarLemmas.ListKinds.{IsBehind, OpenBrace, OpenQuote, Stays, behind_parted, held, held_brace, held_quote, read_behind, read_whole, stays_follow, stays_step}
use Rattle.dg_lists.proofs.GrammarLemmas.Places.{same_front}

-- ---- a text that is read from its front on

-- A list was read up to here, and its other bytes are read from this state on.
record Reaching (past more : List ℕ) : Type 0 where
  state : Listing
  reached : Reached past state
  elements : List (List ℕ)
  place : ℕ
  reads : list_read more state place ≡ Ok elements

reaching_step : (b : ℕ) (front more past : List ℕ) (s : Listing) (p : ℕ) (xs : List (List ℕ)) (r : Result Listing WordFault) → list_step s b ≡ r → Reached past s →
    ((n : Listing) → Reached (past ++ b ∷ []) n → list_read (front ++ more) n (p + 1) ≡ Ok xs → Reaching ((past ++ b ∷ []) ++ front) more) →
    list_onward r p (λ n. list_read (front ++ more) n (p + 1)) ≡ Ok xs → Reaching (past ++ b ∷ front) more
reaching_step b front more past s p xs (Err f) e l rec h = absurd cc
reaching_step b front more past s p xs (Ok n) e l rec h = subst (λ t. Reaching t more) (append_assoc past (b ∷ []) front) (rec n (reached_step past s n b l e) h)

reaching_from : (front more past : List ℕ) (s : Listing) (p : ℕ) (xs : List (List ℕ)) → Reached past s → list_read (front ++ more) s p ≡ Ok xs → Reaching (past ++ front) more
unfolding list_read
reaching_from [] more past s p xs l h = subst (λ t. Reaching t more) (sym (append-nil past)) (record { state = s; reached = l; elements = xs; place = p; reads = h })
reaching_from (b ∷ front) more past s p xs l h = reaching_step b front more past s p xs (list_step s b) refl l (λ n k r. reaching_from front more (past ++ b ∷ []) n (p + 1) xs k r) h

reaching : (front more : List ℕ) → IsList (front ++ more) → Reaching front more
unfolding elements_of
reaching front more (xs, h) = reaching_from front more [] unread 0 xs reached_none (read_whole (list_read (front ++ more) unread 0) xs (spelled_list_is_read (front ++ more) xs h))

pub reads_list : (front more : List ℕ) (s : Listing) → Reached front s → (xs : List (List ℕ)) → ((q : ℕ) → list_read more s q ≡ Ok xs) → IsList (front ++ more)
unfolding elements_of
reads_list front more s l xs h =
    let x = (l.leads more).on 0 in
    (xs, read_list_is_spelled (front ++ more) xs (ap without_place (x.1 ∙ h x.0)))

-- ---- bytes that are missing

lacks_has : (k : ℕ) (t : List ℕ) → Without k t → Has k t → ⊥
lacks_has k t w h = go h.front h.rest t w h.split
  where
    go : (front rest u : List ℕ) → Without k u → u ≡ front ++ k ∷ rest → ⊥
    go [] rest u v e = (subst (Without k) e v).0 refl
    go (b ∷ front) rest u v e = go front rest (front ++ k ∷ rest) (subst (Without k) e v).1 refl

-- a state that can end without a byte does not miss it
pub not_missing : (k : ℕ) (text : List ℕ) (place : ℕ) (s : Listing) → Reached text s → Other k → Closes k s.mode → Misses IsList k text place → ⊥
not_missing k text place s l o c m =
    let x = closing k s.mode o c l.fine s.elements s.depth s.text in
    lacks_has k x.bytes x.lacks (m.1 x.bytes (reads_list text x.bytes s l x.elements x.closes))

pub other_quote : Other 34
other_quote = (λ e. omega (arith, e), λ e. omega (arith, e), λ e. omega (arith, e))

pub other_brace : Other 125
other_brace = (λ e. omega (arith, e), λ e. omega (arith, e), λ e. omega (arith, e))

-- ---- modes inside of a bare element

abbrev pub Bare : Mode → Type 0
Bare (mode.In context.Quoted) = ⊥
Bare (mode.Pair context.Quoted) = ⊥
Bare (mode.Join context.Quoted) = ⊥
Bare (mode.Number context.Quoted n) = ⊥
Bare (mode.In s) = Unit {0}
Bare (mode.Pair s) = Unit {0}
Bare (mode.Join s) = Unit {0}
Bare (mode.Number s n) = Unit {0}
Bare m = ⊥

pub brace_lets : (m : Mode) → OpenBrace m → Closes 34 m
brace_lets mode.Braced h = λ e. omega (arith, e)
brace_lets mode.BracedPair h = λ e. omega (arith, e)
brace_lets m h = absurd h

pub quote_lets : (m : Mode) → OpenQuote m → Closes 125 m
quote_lets (mode.In context.Quoted) h = λ e. omega (arith, e)
quote_lets (mode.Pair context.Quoted) h = λ e. omega (arith, e)
quote_lets (mode.Join context.Quoted) h = λ e. omega (arith, e)
quote_lets (mode.Number context.Quoted n) h = λ e. omega (arith, e)
quote_lets m h = absurd h

pub bare_lets : (k : ℕ) (m : Mode) → Bare m → Closes k m
bare_lets k (mode.In context.Bare) h = tt
bare_lets k (mode.In context.Index) h = tt
bare_lets k (mode.In context.Alone) h = tt
bare_lets k (mode.Pair context.Bare) h = tt
bare_lets k (mode.Pair context.Index) h = tt
bare_lets k (mode.Pair context.Alone) h = tt
bare_lets k (mode.Join context.Bare) h = tt
bare_lets k (mode.Join context.Index) h = tt
bare_lets k (mode.Join context.Alone) h = tt
bare_lets k (mode.Number context.Bare n) h = tt
bare_lets k (mode.Number context.Index n) h = tt
bare_lets k (mode.Number context.Alone n) h = tt
bare_lets k m h = absurd h

pub number_bare : (s : Context) (n : kinds.Digits) → s ≢ context.Quoted → Bare (mode.Number s n)
number_bare context.Quoted n d = absurd (d refl)
number_bare context.Bare n d = tt
number_bare context.Index n d = tt
number_bare context.Alone n d = tt

-- what one more byte that parts no elements makes of such a mode
in_bare : (s : Context) → s ≢ context.Quoted → Bare (mode.In s)
in_bare context.Quoted d = absurd (d refl)
in_bare context.Bare d = tt
in_bare context.Index d = tt
in_bare context.Alone d = tt

join_bare : (s : Context) → s ≢ context.Quoted → Bare (mode.Join s)
join_bare context.Quoted d = absurd (d refl)
join_bare context.Bare d = tt
join_bare context.Index d = tt
join_bare context.Alone d = tt

stays_context : (s : Context) (c : Class) (b : ℕ) → s ≢ context.Quoted → parts c ≡ false → Stays Bare (list_context s c b).next
stays_context context.Quoted c b d h = absurd (d refl)
stays_context s class.Blank b d h = absurd cc
stays_context s class.Newline b d h = absurd cc
stays_context context.Bare class.Backslash b d h = tt
stays_context context.Index class.Backslash b d h = tt
stays_context context.Alone class.Backslash b d h = tt
stays_context context.Bare c b d h = tt
stays_context context.Index c b d h = tt
stays_context context.Alone c b d h = tt

stays_paired : (s : Context) (b v : ℕ) (t : Transition) → s ≢ context.Quoted → Paired s b t v → Stays Bare t.next
stays_paired s b v t d (Paired.one h) = in_bare s d
stays_paired s b v t d (Paired.letter e n h) = number_bare s _ d
stays_paired s b v t d (Paired.eight h) = number_bare s _ d

stays_pair : (s : Context) (c : Class) (b : ℕ) → s ≢ context.Quoted → Stays Bare (list_pair s c b).next
stays_pair s class.Newline b d = join_bare s d
stays_pair s c b d = stays_paired s b (stands_for b) (escaped s b) d (paired s b)

stays_if : (x : Bool) (t u : Transition) → Stays Bare t.next → Stays Bare u.next → Stays Bare (cond x t u).next
stays_if true t u h k = h
stays_if false t u h k = k

stays_behind : (r : Option Effect) (t : Transition) → Stays Bare t.next → Stays Bare (behind_number r t).next
stays_behind (Some d) t h = h
stays_behind None t h = tt

stays_counted : (s : Context) (e : Escape) (left v : ℕ) → s ≢ context.Quoted → Stays Bare (counted s e left v).next
stays_counted s e zero v d = tt
stays_counted s e (suc zero) v d = stays_behind (written e v) (goes (mode.In s)) (in_bare s d)
stays_counted s e (suc (suc left)) v d = number_bare s _ d

stays_numbered : (s : Context) (n : kinds.Digits) (c : Class) (b : ℕ) (r : Option ℕ) → s ≢ context.Quoted → parts c ≡ false → Stays Bare (list_numbered s n c b r).next
stays_numbered s n c b (Some v) d h = stays_counted s n.escape n.left v d
stays_numbered s n c b None d h = stays_behind (whole n) (list_context s c b) (stays_context s c b d h)

pub not_quoted : (s : Context) → Bare (mode.In s) → s ≢ context.Quoted
not_quoted context.Quoted h = absurd h
not_quoted context.Bare h = λ e. absurd cc
not_quoted context.Index h = λ e. absurd cc
not_quoted context.Alone h = λ e. absurd cc

bare_pair : (s : Context) → Bare (mode.Pair s) → Bare (mode.In s)
bare_pair context.Quoted h = h
bare_pair context.Bare h = h
bare_pair context.Index h = h
bare_pair context.Alone h = h

bare_join : (s : Context) → Bare (mode.Join s) → Bare (mode.In s)
bare_join context.Quoted h = h
bare_join context.Bare h = h
bare_join context.Index h = h
bare_join context.Alone h = h

pub bare_number : (s : Context) (n : kinds.Digits) → Bare (mode.Number s n) → Bare (mode.In s)
bare_number context.Quoted n h = h
bare_number context.Bare n h = h
bare_number context.Index n h = h
bare_number context.Alone n h = h

bare_transitions : (deep : Bool) (m : Mode) (c : Class) (b : ℕ) → Bare m → parts c ≡ false → Stays Bare (list_transition deep m c b).next
unfolding list_transition
bare_transitions deep (mode.In s) c b h n = stays_context s c b (not_quoted s h) n
bare_transitions deep (mode.Pair s) c b h n = stays_pair s c b (not_quoted s (bare_pair s h))
bare_transitions deep (mode.Join s) c b h n =
    let d = not_quoted s (bare_join s h) in stays_if (is_space b) (goes (mode.Join s)) (list_context s c b) (join_bare s d) (stays_context s c b d n)
bare_transitions deep (mode.Number s x) c b h n = stays_numbered s x c b (with_digit x b) (not_quoted s (bare_number s x h)) n
bare_transitions deep m c b h n = absurd h

-- a byte that ends neither a bare nor a quoted element
abbrev Inner : ℕ → Type 0
Inner b = (parts (class_of b) ≡ false) × (b ≢ 34)

bare_step : (s n : Listing) (b : ℕ) → Bare s.mode → Inner b → list_step s b ≡ Ok n → Bare n.mode
unfolding list_step
bare_step s n b h i e =
    let t : Transition = list_transition (nat_lt 0 s.depth) s.mode (class_of b) b in
    stays_follow Bare t.next (list_effect t.second (list_effect t.first s)) n (bare_transitions (nat_lt 0 s.depth) s.mode (class_of b) b h i.0) e

quote_step : (s n : Listing) (b : ℕ) → OpenQuote s.mode → Inner b → list_step s b ≡ Ok n → OpenQuote n.mode
quote_step s n b h i e = stays_step OpenQuote 34 held_quote s n b h i.1 e

-- ---- behind a backslash

data Kind (m : Mode) : Type 0 where
  gap : m ≡ mode.Gap → Kind m
  bare : Bare m → Kind m
  quoted : OpenQuote m → Kind m
  braced : OpenBrace m → Kind m
  behind : IsBehind m → Kind m

kind : (m : Mode) → Kind m
kind mode.Gap = Kind.gap refl
kind (mode.In context.Quoted) = Kind.quoted tt
kind (mode.In context.Bare) = Kind.bare tt
kind (mode.In context.Index) = Kind.bare tt
kind (mode.In context.Alone) = Kind.bare tt
kind (mode.Pair context.Quoted) = Kind.quoted tt
kind (mode.Pair context.Bare) = Kind.bare tt
kind (mode.Pair context.Index) = Kind.bare tt
kind (mode.Pair context.Alone) = Kind.bare tt
kind (mode.Join context.Quoted) = Kind.quoted tt
kind (mode.Join context.Bare) = Kind.bare tt
kind (mode.Join context.Index) = Kind.bare tt
kind (mode.Join context.Alone) = Kind.bare tt
kind (mode.Number context.Quoted n) = Kind.quoted tt
kind (mode.Number context.Bare n) = Kind.bare tt
kind (mode.Number context.Index n) = Kind.bare tt
kind (mode.Number context.Alone n) = Kind.bare tt
kind mode.Braced = Kind.braced tt
kind mode.BracedPair = Kind.braced tt
kind m = Kind.behind tt

slash_inner : Inner 92
slash_inner = (ap parts backslash_is, λ e. omega (arith, e))

gap_slash : (s : Listing) → s.mode ≡ mode.Gap → (n : Listing) → list_step s 92 ≡ Ok n → Bare n.mode
unfolding list_transition
gap_slash s g n e =
    let x = step_by s 92 class.Backslash (goes (mode.Pair context.Bare)) backslash_is (ap (λ m. list_transition (nat_lt 0 s.depth) m class.Backslash 92) g) in
    subst (λ (k : Listing). Bare k.mode) (ok_state (sym x ∙ e)) tt

-- the state behind the backslash: that of a bare element, or of a quoted one
record Slashed (before after : List ℕ) : Type 0 where
  state : Listing
  reached : Reached (before ++ 92 ∷ []) state
  inside : Bare state.mode ⊎ OpenQuote state.mode
  elements : List (List ℕ)
  place : ℕ
  reads : list_read after state place ≡ Ok elements

slash_inside : (after : List ℕ) (s n : Listing) (q : ℕ) (xs : List (List ℕ)) → Without 125 after → list_read (92 ∷ after) s q ≡ Ok xs → list_step s 92 ≡ Ok n → Kind s.mode → Bare n.mode ⊎ OpenQuote n.mode
slash_inside after s n q xs w r e (Kind.gap h) = inl (gap_slash s h n e)
slash_inside after s n q xs w r e (Kind.bare h) = inl (bare_step s n 92 h slash_inner e)
slash_inside after s n q xs w r e (Kind.quoted h) = inr (quote_step s n 92 h slash_inner e)
slash_inside after s n q xs w r e (Kind.braced h) = absurd (held OpenBrace 125 held_brace (92 ∷ after) (λ i. omega (arith, i), w) s h q xs r)
slash_inside after s n q xs w r e (Kind.behind h) = let x = sym (ap parts backslash_is) ∙ behind_parted (92 ∷ after) s h q xs r in absurd cc

slashed_by : (before after : List ℕ) (x : Reaching before (92 ∷ after)) → Without 125 after → (r : Result Listing WordFault) → list_step x.state 92 ≡ r → list_onward r x.place (λ n. list_read after n (x.place + 1)) ≡ Ok x.elements → Slashed before after
slashed_by before after x w (Err f) e h = absurd cc
slashed_by before after x w (Ok n) e h = record {
  state = n;
  reached = reached_step before x.state n 92 x.reached e;
  inside = slash_inside after x.state n x.place x.elements w x.reads e (kind x.state.mode);
  elements = x.elements;
  place = x.place + 1;
  reads = h;
}

slashed : (before after : List ℕ) → Without 125 after → IsList (before ++ 92 ∷ after) → Slashed before after
unfolding list_read
slashed before after w h = let x = reaching before (92 ∷ after) h in slashed_by before after x w (list_step x.state 92) refl x.reads

-- ---- on from there

-- bytes that end neither
abbrev All : List ℕ → Type 0
All [] = Unit {0}
All (b ∷ bs) = Inner b × All bs

-- Behind these bytes the element goes on.
record Walked (past : List ℕ) (P : Mode → Type 0) : Type 0 where
  state : Listing
  reached : Reached past state
  holds : P state.mode

abbrev Steps : (Mode → Type 0) → Type 0
Steps P = (s n : Listing) (b : ℕ) → P s.mode → Inner b → list_step s b ≡ Ok n → P n.mode

walk_step : (P : Mode → Type 0) (b : ℕ) (u more past : List ℕ) (s : Listing) (p : ℕ) (xs : List (List ℕ)) (r : Result Listing WordFault) → Steps P → list_step s b ≡ r → Reached past s → P s.mode → Inner b →
    ((n : Listing) → Reached (past ++ b ∷ []) n → P n.mode → list_read (u ++ more) n (p + 1) ≡ Ok xs → Walked ((past ++ b ∷ []) ++ u) P) →
    list_onward r p (λ n. list_read (u ++ more) n (p + 1)) ≡ Ok xs → Walked (past ++ b ∷ u) P
walk_step P b u more past s p xs (Err f) step e l h i rec r = absurd cc
walk_step P b u more past s p xs (Ok n) step e l h i rec r = subst (λ t. Walked t P) (append_assoc past (b ∷ []) u) (rec n (reached_step past s n b l e) (step s n b h i e) r)

walk : (P : Mode → Type 0) (u more past : List ℕ) (s : Listing) (p : ℕ) (xs : List (List ℕ)) → Steps P → All u → Reached past s → P s.mode → list_read (u ++ more) s p ≡ Ok xs → Walked (past ++ u) P
unfolding list_read
walk P [] more past s p xs step a l h r = subst (λ t. Walked t P) (sym (append-nil past)) (record { state = s; reached = l; holds = h })
walk P (b ∷ u) more past s p xs step a l h r =
    walk_step P b u more past s p xs (list_step s b) step refl l h a.0 (λ n k g w. walk P u more (past ++ b ∷ []) n (p + 1) xs step a.1 k g w) r

-- a digit ends no element
abbrev Blanks : ℕ → Class → Type 0
Blanks b class.Blank = nat_lt (digit_value b) 16 ≡ false
Blanks b class.Newline = nat_lt (digit_value b) 16 ≡ false
Blanks b c = Unit {0}

no_digit : (n b : ℕ) → nat_lt (digit_value n) 16 ≡ false → b ≡ n → nat_lt (digit_value b) 16 ≡ false
no_digit n b h e = subst (λ x. nat_lt (digit_value x) 16 ≡ false) (sym e) h

other_blanks : (b : ℕ) (x : Bool) → Blanks b (cond x class.Name class.Plain)
other_blanks b true = tt
other_blanks b false = tt

blanks : (b : ℕ) → Blanks b (class_of b)
unfolding class_of
blanks b =
    test (Blanks b) b 10 _ _ (λ e. no_digit 10 b refl e) (λ n. test (Blanks b) b 59 _ _ (λ e. tt) (λ n. test (Blanks b) b 32 _ _ (λ e. no_digit 32 b refl e) (λ n. test (Blanks b) b 9 _ _ (λ e. no_digit 9 b refl e) (λ n.
    test (Blanks b) b 11 _ _ (λ e. no_digit 11 b refl e) (λ n. test (Blanks b) b 12 _ _ (λ e. no_digit 12 b refl e) (λ n. test (Blanks b) b 13 _ _ (λ e. no_digit 13 b refl e) (λ n. test (Blanks b) b 35 _ _ (λ e. tt) (λ n.
    test (Blanks b) b 34 _ _ (λ e. tt) (λ n. test (Blanks b) b 123 _ _ (λ e. tt) (λ n. test (Blanks b) b 125 _ _ (λ e. tt) (λ n. test (Blanks b) b 91 _ _ (λ e. tt) (λ n.
    test (Blanks b) b 93 _ _ (λ e. tt) (λ n. test (Blanks b) b 40 _ _ (λ e. tt) (λ n. test (Blanks b) b 41 _ _ (λ e. tt) (λ n. test (Blanks b) b 92 _ _ (λ e. tt) (λ n.
    test (Blanks b) b 36 _ _ (λ e. tt) (λ n. test (Blanks b) b 58 _ _ (λ e. tt) (λ n. test (Blanks b) b 42 _ _ (λ e. tt) (λ n. other_blanks b (is_name b))))))))))))))))))))

parts_not : (b : ℕ) (c : Class) → Blanks b c → nat_lt (digit_value b) 16 ≡ true → parts c ≡ false
parts_not b class.Blank k h = let x = sym k ∙ h in absurd cc
parts_not b class.Newline k h = let x = sym k ∙ h in absurd cc
parts_not b c k h = refl

digit_inner : (b : ℕ) → nat_lt (digit_value b) 16 ≡ true → Inner b
digit_inner b h = (parts_not b (class_of b) (blanks b) h, λ e. let x = sym (no_digit 34 b refl e) ∙ h in absurd cc)

letter_inner : (e : Escape) → Inner (letter_of e)
unfolding class_of
letter_inner Octal = (refl, λ e. omega (arith, e))
letter_inner Byte = (refl, λ e. omega (arith, e))
letter_inner Short = (refl, λ e. omega (arith, e))
letter_inner Long = (refl, λ e. omega (arith, e))

digits_inner : (ds es : List ℕ) → each (λ d. nat_lt (digit_value d) 16) (ds ++ es) ≡ true → All ds
digits_inner [] es h = tt
digits_inner (d ∷ ds) es h = (digit_inner d (and_left _ _ h), digits_inner ds es (and_right _ _ h))

-- the first n of a text
cut : (n : ℕ) (t : List ℕ) → n ≤ length t → (u : List ℕ) × (v : List ℕ) × (t ≡ u ++ v) × (length u ≡ n)
cut zero t h = ([], t, refl, refl)
cut (suc n) [] h = absurd (omega arith)
cut (suc n) (b ∷ t) h =
    let x = cut n t (omega (arith, h)) in
    (b ∷ x.0, x.1, ap (λ y. b ∷ y) x.2, ap suc x.3)

-- Where an escape writes no character, what stands before the place ends within a bare element, or a quoted one.
pub record Inside (past : List ℕ) (so : Type 0) : Type 0 where
  pub state : Listing
  pub reached : Reached past state
  pub inside : Bare state.mode ⊎ (OpenQuote state.mode × so)

walked : (so : Type 0) (before after u more : List ℕ) (x : Slashed before after) → (OpenQuote x.state.mode → so) → All u → IsList (((before ++ 92 ∷ []) ++ u) ++ more) → Inside ((before ++ 92 ∷ []) ++ u) so
walked so before after u more x q a (xs, h) =
    let past = before ++ 92 ∷ [] in
    let y = read_behind past (u ++ more) x.state x.reached xs (subst (λ t. ListOf t xs) (append_assoc past u more) h) in
    elim x.inside [
      | inl b ↦ let w = walk Bare u more past x.state y.0 xs bare_step a x.reached b y.1 in record { state = w.state; reached = w.reached; inside = inl w.holds }
      | inr b ↦ let w = walk OpenQuote u more past x.state y.0 xs quote_step a x.reached b y.1 in record { state = w.state; reached = w.reached; inside = inr (w.holds, q b) }
    ]

no_quote : (before : List ℕ) (x : Slashed before (97 ∷ [])) → OpenQuote x.state.mode → ⊥
no_quote before x h = held OpenQuote 34 held_quote (97 ∷ []) (λ e. omega (arith, e), tt) x.state h x.place x.elements x.reads

escape_inside : (so : Type 0) (before u more : List ℕ) → MayEscape so before → All u → IsList (((before ++ 92 ∷ []) ++ u) ++ more) → Inside ((before ++ 92 ∷ []) ++ u) so
escape_inside so before u more (inl h) a l =
    let x = slashed before (97 ∷ []) (λ e. omega (arith, e), tt) h in
    walked so before (97 ∷ []) u more x (λ o. absurd (no_quote before x o)) a l
escape_inside so before u more (inr h) a l =
    walked so before (97 ∷ 34 ∷ []) u more (slashed before (97 ∷ 34 ∷ []) (λ e. omega (arith, e), (λ e. omega (arith, e), tt)) h.1) (λ o. h.0) a l

-- what stands before the place: the text up to it
pub record Place (text : List ℕ) (place : ℕ) : Type 0 where
  pub front : List ℕ
  pub rest : List ℕ
  pub split : text ≡ front ++ rest
  pub place_is : place ≡ length front
  pub closing : List ℕ
  pub goes_on : IsList (front ++ closing)
  pub no_list : IsList text → ⊥

pub number_inside : (text : List ℕ) (place : ℕ) (x : Place text place) → WritesNone text place → Inside x.front (place < length text)
number_inside text place x w =
    let most : place ≤ length w.before + 2 + length w.digits = elim w.place_is [ inl (h, p) ↦ omega (arith, p) | inr (h, p) ↦ omega (arith, p) ] in
    let least : length w.before + 2 ≤ place = elim w.place_is [ inl (h, p) ↦ omega (arith, p) | inr (h, p) ↦ omega (arith, p, h, some_digits w.escape) ] in
    let c = cut (place - (length w.before + 2)) w.digits (omega (arith, most, least)) in
    let u = letter_of w.escape ∷ c.0 in
    let whole : text ≡ ((w.before ++ 92 ∷ []) ++ u) ++ (c.1 ++ w.rest) =
    w.split ∙ append_assoc w.before (92 ∷ letter_of w.escape ∷ w.digits) w.rest
    ∙ ap (λ d. w.before ++ 92 ∷ letter_of w.escape ∷ (d ++ w.rest)) c.2
    ∙ ap (λ y. w.before ++ 92 ∷ letter_of w.escape ∷ y) (append_assoc c.0 c.1 w.rest)
    ∙ sym (append_assoc w.before (92 ∷ []) (u ++ (c.1 ++ w.rest)))
    ∙ sym (append_assoc (w.before ++ 92 ∷ []) u (c.1 ++ w.rest)) in
    let long : length ((w.before ++ 92 ∷ []) ++ u) ≡ length x.front =
    omega (arith, x.place_is, c.3, most, least, length-append (w.before ++ 92 ∷ []) u, length-append w.before (92 ∷ [])) in
    let same = (same_front ((w.before ++ 92 ∷ []) ++ u) x.front (c.1 ++ w.rest) x.rest (sym whole ∙ x.split) long).0 in
    subst (λ t. Inside t (place < length text)) same
    (escape_inside (place < length text) w.before u x.closing w.may_escape
    (letter_inner w.escape, digits_inner c.0 c.1 (ap (each (λ d. nat_lt (digit_value d) 16)) (sym c.2) ∙ w.are_digits))
    (subst (λ t. IsList (t ++ x.closing)) (sym same) x.goes_on))
  where
    some_digits : (e : Escape) → 2 ≤ digits_of e
    some_digits Octal = omega arith
    some_digits Byte = omega arith
    some_digits Short = omega arith
    some_digits Long = omega arith
