-- What is known of words behind each byte that was read of them, and why a byte cannot stand where it does.
use Rattle.std.specs.Prelude.{◌≡◌, ◌≢◌, ℕ, zero, suc, ◌+◌, ◌*◌, List, [], ◌∷◌, ◌++◌, length, refl, Bool, true, false, Option, None, Some, cond, nat_lt, ◌⊎◌}
use Rattle.std.proofs.Common.{inl, inr, ◌∙◌, ap, sym, arith, subst, append_assoc, length-append}
use Rattle.std.specs.Char.{digit_value}
use Rattle.dg_lists.specs.declared.fault.WordFault.{WordFault}
use Rattle.dg_lists.specs.declared.fault.WordFault.TheVariants as fault
use Rattle.dg_lists.specs.declared.kinds.Class.{Class}
use Rattle.dg_lists.specs.declared.kinds.Class.TheVariants as class
use Rattle.dg_lists.specs.declared.kinds.Effect.{Effect}
use Rattle.dg_lists.specs.declared.kinds.Delimiter.{Delimiter}
use Rattle.dg_lists.specs.declared.kinds.Delimiter.TheVariants as delimiter
use Rattle.dg_lists.specs.declared.kinds.Digits as kinds
use Rattle.dg_lists.specs.declared.kinds.Escape.{Escape}
use Rattle.dg_lists.specs.declared.kinds.Escape.TheVariants.{Octal}
use Rattle.dg_words.specs.declared.kinds.Level.{Level}
use Rattle.dg_words.specs.declared.kinds.Level.TheVariants as level
use Rattle.dg_lists.specs.declared.kinds.Mode.{Mode}
use Rattle.dg_lists.specs.declared.kinds.Mode.TheVariants as mode
use Rattle.dg_lists.specs.declared.kinds.Target.{Target}
use Rattle.dg_lists.specs.declared.kinds.Target.TheVariants as target
use Rattle.dg_words.specs.declared.kinds.Opener.{Opener}
use Rattle.dg_lists.specs.declared.kinds.Context.{Context}
use Rattle.dg_lists.specs.declared.kinds.Context.TheVariants as context
use Rattle.dg_lists.specs.declared.kinds.Transition.{Transition}
use Rattle.dg_lists.specs.Classes.{class_of}
use Rattle.dg_words.specs.Transitions.{heard}
use Rattle.dg_lists.specs.Transitions.{base_of, behind_number, counted, digits_of, escaped, goes, is_space, letter_of, whole, with_digit, written}
use Rattle.dg_words.specs.Transitions.{after, behind, behind_pair, behind_star, in_bare, in_brace_first, in_brace_star, in_braced, in_braced_pair, in_colon, in_comment, in_dollar, in_gap, in_gap_pair, in_name, in_name_brace, in_operand, in_pair, in_context, in_star_pair, in_start, in_start_pair, numbered, transition}
use Rattle.dg_words.specs.Machine.{Draft, Go, Fails, Over, Stepped, State, follow, follow_inside, fresh, has_room, leaves, leaves_index, level_in, opens, perform, step, take_transition}
use Rattle.dg_lists.specs.Grammar.Escapes.{each, stands_for, value_from}
use Rattle.dg_lists.proofs.GrammarLemmas.Bytes.{is_class}
use Rattle.dg_lists.proofs.GrammarLemmas.Endable.{Fine, Good}
use Rattle.dg_words.proofs.GrammarLemmas.GoOn.{FineStep, fine_step}
use Rattle.dg_lists.proofs.GrammarLemmas.ListSteps.{each_more, value_more}
use Rattle.dg_lists.proofs.GrammarLemmas.Numbers.{Paired, digit_some, is_digit, number, paired}
use Rattle.dg_words.proofs.GrammarLemmas.Openings.{heard_is}
use Rattle.dg_words.proofs.GrammarLemmas.Segments.{Leads, lead_both, lead_one}

-- the byte that ends a word
abbrev pub mark : Delimiter → ℕ
mark delimiter.Brace = 125
mark delimiter.Quote = 34

-- the last byte
abbrev pub EndsIn : ℕ → List ℕ → Type 0
EndsIn k past = (before : List ℕ) × (past ≡ before ++ k ∷ [])

-- the digits so far of an escape by number
pub record Numbered (past : List ℕ) (n : kinds.Digits) : Type 0 where
  pub before : List ℕ
  pub digits : List ℕ
  pub split : past ≡ before ++ 92 ∷ letter_of n.escape ∷ digits
  pub by_letter : n.escape ≢ Octal
  pub are_digits : each (is_digit n.escape) digits ≡ true
  pub value_is : n.value ≡ value_from (base_of n.escape) 0 digits
  pub left_is : n.left + length digits ≡ digits_of n.escape

-- a word that ended before a backslash
pub record Ended (l : Level) (m : Mode) (past : List ℕ) (d : Delimiter) : Type 0 where
  pub before : List ℕ
  pub state : State
  pub split : past ≡ (before ++ mark d ∷ []) ++ 92 ∷ []
  pub leads : (after : List ℕ) → Leads l after (fresh m) (before ++ mark d ∷ []) state
  pub is_behind : state.mode ≡ mode.Behind d
  pub is_word : level_in l state.inner ≢ level.Alone

-- what the bytes that were read are to a mode
abbrev pub Trail : Level → Mode → List ℕ → Mode → Type 0
Trail l m past mode.StartPair = EndsIn 92 past
Trail l m past mode.GapPair = EndsIn 92 past
Trail l m past mode.StarPair = EndsIn 92 past
Trail l m past (mode.Pair s) = EndsIn 92 past
Trail l m past (mode.Number s n) = (n.escape ≡ Octal) ⊎ Numbered past n
Trail l m past (mode.Behind d) = EndsIn (mark d) past
Trail l m past (mode.BehindPair d) = Ended l m past d
Trail l m past k = Unit {0}

-- why this byte cannot stand in a mode
pub data Cause (l : Level) (b : ℕ) : Mode → WordFault → Type 0 where
  behind_word : {f : WordFault} (d : Delimiter) → l ≢ level.Alone → f ≡ after d → Cause l b (mode.Behind d) f
  behind_backslash : {f : WordFault} (d : Delimiter) → f ≡ after d → Cause l b (mode.BehindPair d) f
  last_digit : (s : Context) (n : kinds.Digits) (v : ℕ) → n.left ≡ 1 → with_digit n b ≡ Some v → written n.escape v ≡ None → Cause l b (mode.Number s n) fault.BadCodePoint
  no_digit : (s : Context) (n : kinds.Digits) → whole n ≡ None → Cause l b (mode.Number s n) fault.BadCodePoint

-- what comes behind a byte: the trail goes on, or there is such a cause
abbrev NextTrail : Level → Mode → (WordFault → Type 0) → List ℕ → Target → Type 0
NextTrail l m P past (target.To k) = Trail l m past k
NextTrail l m P past (target.Bad f) = P f
NextTrail l m P past x = Unit {0}

ends_in : (k : ℕ) (past : List ℕ) (b : ℕ) → b ≡ k → EndsIn k (past ++ b ∷ [])
ends_in k past b e = (past, ap (λ x. past ++ x ∷ []) e)

abbrev IsSlash : Class → ℕ → Type 0
IsSlash c b = c ≡ class.Backslash → b ≡ 92

slash : (b : ℕ) → IsSlash (class_of b) b
slash b e = is_class b class.Backslash e

heard_slash : (l : Level) (b : ℕ) → IsSlash (heard l (class_of b)) b
heard_slash l b e = is_class b class.Backslash (heard_is l (class_of b) class.Backslash tt e)

slashed : (past : List ℕ) (b : ℕ) → IsSlash class.Backslash b → EndsIn 92 (past ++ b ∷ [])
slashed past b f = ends_in 92 past b (f refl)

module _ (l₀ : Level) (m₀ : Mode) (P : WordFault → Type 0) (past : List ℕ) (b : ℕ) where
  abbrev OnTo : Target → Type 0
  OnTo x = NextTrail l₀ m₀ P (past ++ b ∷ []) x

  on_bare : (l : Level) (c : Class) → IsSlash c b → OnTo (in_bare l c b).next
  on_bare l class.Blank f = tt
  on_bare l class.Newline f = tt
  on_bare l class.Semicolon f = tt
  on_bare l class.LeftBracket f = tt
  on_bare l class.RightBracket f = tt
  on_bare l class.Backslash f = slashed past b f
  on_bare l class.Dollar f = tt
  on_bare l c f = tt

  on_quoted : (l : Level) (c : Class) → class_of b ≡ c → OnTo (in_context l context.Quoted c b).next
  on_quoted l class.Quote e = ends_in 34 past b (is_class b class.Quote e)
  on_quoted l class.LeftBracket e = tt
  on_quoted l class.Backslash e = ends_in 92 past b (is_class b class.Backslash e)
  on_quoted l class.Dollar e = tt
  on_quoted l c e = tt

  on_index : (l : Level) (c : Class) → class_of b ≡ c → OnTo (in_context l context.Index c b).next
  on_index l class.RightParen e = tt
  on_index l class.LeftBracket e = tt
  on_index l class.Backslash e = ends_in 92 past b (is_class b class.Backslash e)
  on_index l class.Dollar e = tt
  on_index l c e = tt

  on_context : (l : Level) (s : Context) → OnTo (in_context l s (class_of b) b).next
  on_context l context.Bare = on_bare l (heard l (class_of b)) (heard_slash l b)
  on_context l context.Quoted = on_quoted l (class_of b) refl
  on_context l context.Index = on_index l (class_of b) refl
  on_context l context.Alone = tt

  on_gap : (l : Level) (c : Class) → IsSlash c b → OnTo (in_gap l c b).next
  on_gap l class.Blank f = tt
  on_gap l class.Newline f = tt
  on_gap l class.Semicolon f = tt
  on_gap l class.Quote f = tt
  on_gap l class.Open f = tt
  on_gap l class.Backslash f = slashed past b f
  on_gap l c f = on_bare l c f

  on_start : (l : Level) (c : Class) → IsSlash c b → OnTo (in_start l c b).next
  on_start l class.Blank f = tt
  on_start l class.Newline f = tt
  on_start l class.Semicolon f = tt
  on_start l class.Hash f = tt
  on_start l class.Backslash f = slashed past b f
  on_start l c f = on_gap l c f

  on_paired : (s : Context) (v : ℕ) (t : Transition) → Paired s b t v → EndsIn 92 past → OnTo t.next
  on_paired s v t (Paired.one h) e = tt
  on_paired s v t (Paired.letter k n h) e = inr (record {
    before = e.0;
    digits = [];
    split = ap (λ y. y ++ b ∷ []) e.1 ∙ append_assoc e.0 (92 ∷ []) (b ∷ []) ∙ ap (λ y. e.0 ++ 92 ∷ y ∷ []) h;
    by_letter = n;
    are_digits = refl;
    value_is = refl;
    left_is = omega arith;
  })
  on_paired s v t (Paired.eight h) e = inl refl

  on_escaped : (s : Context) → EndsIn 92 past → OnTo (escaped s b).next
  on_escaped s e = on_paired s (stands_for b) (escaped s b) (paired s b) e

  on_pair : (s : Context) (c : Class) → EndsIn 92 past → OnTo (in_pair s c b).next
  on_pair context.Bare class.Newline e = tt
  on_pair context.Quoted class.Newline e = tt
  on_pair context.Index class.Newline e = tt
  on_pair context.Alone class.Newline e = tt
  on_pair s c e = on_escaped s e

  on_gap_pair : (c : Class) → EndsIn 92 past → OnTo (in_gap_pair c b).next
  on_gap_pair class.Newline e = tt
  on_gap_pair c e = on_escaped context.Bare e

  on_start_pair : (c : Class) → EndsIn 92 past → OnTo (in_start_pair c b).next
  on_start_pair class.Newline e = tt
  on_start_pair c e = on_escaped context.Bare e

  on_star_pair : (c : Class) → EndsIn 92 past → OnTo (in_star_pair c b).next
  on_star_pair class.Newline e = tt
  on_star_pair c e = on_escaped context.Bare e

  on_comment : (c : Class) → OnTo (in_comment c).next
  on_comment class.Newline = tt
  on_comment class.Backslash = tt
  on_comment c = tt

  on_operand : (c : Class) → OnTo (in_operand c).next
  on_operand class.Quote = tt
  on_operand class.Open = tt
  on_operand class.LeftBracket = tt
  on_operand class.Dollar = tt
  on_operand c = tt

  on_if : (x : Bool) (t u : Transition) → OnTo t.next → OnTo u.next → OnTo (cond x t u).next
  on_if true t u h k = h
  on_if false t u h k = k

  on_dollar : (l : Level) (s : Context) (c : Class) → class_of b ≡ c → OnTo (in_dollar l s c b).next
  on_dollar l s class.Name e = tt
  on_dollar l s class.Colon e = tt
  on_dollar l s class.LeftParen e = tt
  on_dollar l s class.Open e = tt
  on_dollar l s c e = subst (λ x. OnTo (in_context l s x b).next) e (on_context l s)

  on_colon : (l : Level) (s : Context) (c : Class) → class_of b ≡ c → OnTo (in_colon l s c b).next
  on_colon l s class.Colon e = tt
  on_colon l s c e = subst (λ x. OnTo (in_context l s x b).next) e (on_context l s)

  on_name : (l : Level) (s : Context) (c : Class) → class_of b ≡ c → OnTo (in_name l s c b).next
  on_name l s class.Name e = tt
  on_name l s class.LeftParen e = tt
  on_name l s c e = subst (λ x. OnTo (in_context l s x b).next) e (on_context l s)

  on_name_brace : (s : Context) (c : Class) → OnTo (in_name_brace s c b).next
  on_name_brace s class.Close = tt
  on_name_brace s c = tt

  on_braced : (deep : Bool) (c : Class) → class_of b ≡ c → OnTo (in_braced deep c b).next
  on_braced true class.Open e = tt
  on_braced true class.Close e = tt
  on_braced true class.Backslash e = tt
  on_braced true c e = tt
  on_braced false class.Open e = tt
  on_braced false class.Close e = ends_in 125 past b (is_class b class.Close e)
  on_braced false class.Backslash e = tt
  on_braced false c e = tt

  on_braced_pair : (c : Class) → OnTo (in_braced_pair c b).next
  on_braced_pair class.Newline = tt
  on_braced_pair c = tt

  on_brace_first : (c : Class) → class_of b ≡ c → OnTo (in_brace_first c b).next
  on_brace_first class.Star e = tt
  on_brace_first c e = on_braced false c e

  on_brace_star : (c : Class) → class_of b ≡ c → OnTo (in_brace_star c b).next
  on_brace_star class.Close e = tt
  on_brace_star c e = on_braced false c e

  on_behind_star : (l : Level) (c : Class) → IsSlash c b → OnTo (behind_star l c b).next
  on_behind_star l class.Blank f = tt
  on_behind_star l class.Newline f = tt
  on_behind_star l class.Semicolon f = tt
  on_behind_star l class.RightBracket f = tt
  on_behind_star l class.Backslash f = slashed past b f
  on_behind_star l class.Quote f = tt
  on_behind_star l class.Open f = tt
  on_behind_star l c f = on_bare l c f

  on_behind_number : (r : Option Effect) (t : Transition) → (r ≡ None → P fault.BadCodePoint) → OnTo t.next → OnTo (behind_number r t).next
  on_behind_number (Some d) t f h = h
  on_behind_number None t f h = f refl

-- one more digit
pub numbered_more : (past : List ℕ) (e : Escape) (left v b w : ℕ) → with_digit (number e (suc left) v) b ≡ Some w → Numbered past (number e (suc left) v) → Numbered (past ++ b ∷ []) (number e left w)
numbered_more past e left v b w h x =
    let told = digit_some e (suc left) v b w h in
    let more = length-append x.digits (b ∷ []) in
    record {
      before = x.before;
      digits = x.digits ++ b ∷ [];
      split = ap (λ y. y ++ b ∷ []) x.split ∙ append_assoc x.before (92 ∷ letter_of e ∷ x.digits) (b ∷ []);
      by_letter = x.by_letter;
      are_digits = each_more (is_digit e) x.digits b x.are_digits told.0;
      value_is = told.1 ∙ ap (λ y. base_of e * y + digit_value b) x.value_is ∙ sym (value_more (base_of e) 0 x.digits b);
      left_is = omega (arith, more, x.left_is);
    }

module _ (l₀ : Level) (m₀ : Mode) (past : List ℕ) (b : ℕ) where
  abbrev From : Level → Mode → Target → Type 0
  From l k x = NextTrail l₀ m₀ (Cause l b k) (past ++ b ∷ []) x

  from_counted : (l : Level) (s : Context) (e : Escape) (left v w : ℕ) → with_digit (number e left v) b ≡ Some w → Good (number e left v) → (e ≡ Octal) ⊎ Numbered past (number e left v) →
      From l (mode.Number s (number e left v)) (counted s e left w).next
  from_counted l s e zero v w h g x = absurd (omega (arith, g.0))
  from_counted l s e (suc zero) v w h g x = on_behind_number l₀ m₀ (Cause l b (mode.Number s (number e 1 v))) past b (written e w) (goes (mode.In s)) (λ i. Cause.last_digit s (number e 1 v) w refl h i) tt
  from_counted l s e (suc (suc left)) v w h g (inl o) = inl o
  from_counted l s e (suc (suc left)) v w h g (inr x) = inr (numbered_more past e (suc left) v b w h x)

  from_numbered : (l : Level) (s : Context) (n : kinds.Digits) (r : Option ℕ) → with_digit n b ≡ r → Good n → (n.escape ≡ Octal) ⊎ Numbered past n → From l (mode.Number s n) (numbered l s n (class_of b) b r).next
  from_numbered l s n (Some w) h g x = from_counted l s n.escape n.left n.value w h g x
  from_numbered l s n None h g x = on_behind_number l₀ m₀ (Cause l b (mode.Number s n)) past b (whole n) (in_context l s (class_of b) b) (λ i. Cause.no_digit s n i) (on_context l₀ m₀ (Cause l b (mode.Number s n)) past b l s)

  from_behind : (l : Level) (d : Delimiter) (c : Class) → (l ≢ level.Alone → c ≡ class.Backslash → Ended l₀ m₀ (past ++ b ∷ []) d) → From l (mode.Behind d) (behind l d c).next
  from_behind level.Alone d c f = tt
  from_behind l d class.Blank f = tt
  from_behind l d class.Newline f = tt
  from_behind l d class.Semicolon f = tt
  from_behind l d class.RightBracket f = tt
  from_behind level.Top d class.Backslash f = f (λ i. absurd cc) refl
  from_behind level.List d class.Backslash f = f (λ i. absurd cc) refl
  from_behind level.Inside d class.Backslash f = f (λ i. absurd cc) refl
  from_behind level.Top d c f = Cause.behind_word d (λ i. absurd cc) refl
  from_behind level.List d c f = Cause.behind_word d (λ i. absurd cc) refl
  from_behind level.Inside d c f = Cause.behind_word d (λ i. absurd cc) refl

  from_behind_pair : (l : Level) (d : Delimiter) (c : Class) → From l (mode.BehindPair d) (behind_pair d c).next
  from_behind_pair l d class.Newline = tt
  from_behind_pair l d c = Cause.behind_backslash d refl

  from_transition : (l : Level) (deep : Bool) (k : Mode) → Fine k → Trail l₀ m₀ past k → ((d : Delimiter) → k ≡ mode.Behind d → l ≢ level.Alone → b ≡ 92 → Ended l₀ m₀ (past ++ b ∷ []) d) →
      From l k (transition l deep k (class_of b) b).next
  unfolding transition
  from_transition l deep mode.Start g h f = on_start l₀ m₀ (Cause l b mode.Start) past b l (heard l (class_of b)) (heard_slash l b)
  from_transition l deep mode.StartPair g h f = on_start_pair l₀ m₀ (Cause l b mode.StartPair) past b (class_of b) h
  from_transition l deep mode.Comment g h f = on_comment l₀ m₀ (Cause l b mode.Comment) past b (class_of b)
  from_transition l deep mode.CommentPair g h f = tt
  from_transition l deep mode.Gap g h f = on_gap l₀ m₀ (Cause l b mode.Gap) past b l (heard l (class_of b)) (heard_slash l b)
  from_transition l deep mode.GapPair g h f = on_gap_pair l₀ m₀ (Cause l b mode.GapPair) past b (class_of b) h
  from_transition l deep mode.Operand g h f = on_operand l₀ m₀ (Cause l b mode.Operand) past b (class_of b)
  from_transition l deep (mode.In s) g h f = on_context l₀ m₀ (Cause l b (mode.In s)) past b l s
  from_transition l deep (mode.Pair s) g h f = on_pair l₀ m₀ (Cause l b (mode.Pair s)) past b s (class_of b) h
  from_transition l deep (mode.Join s) g h f = on_if l₀ m₀ (Cause l b (mode.Join s)) past b (is_space b) (goes (mode.Join s)) (in_context l s (class_of b) b) tt (on_context l₀ m₀ (Cause l b (mode.Join s)) past b l s)
  from_transition l deep (mode.Dollar s) g h f = on_dollar l₀ m₀ (Cause l b (mode.Dollar s)) past b l s (class_of b) refl
  from_transition l deep (mode.Colon s) g h f = on_colon l₀ m₀ (Cause l b (mode.Colon s)) past b l s (class_of b) refl
  from_transition l deep (mode.Name s) g h f = on_name l₀ m₀ (Cause l b (mode.Name s)) past b l s (class_of b) refl
  from_transition l deep (mode.NameBrace s) g h f = on_name_brace l₀ m₀ (Cause l b (mode.NameBrace s)) past b s (class_of b)
  from_transition l deep (mode.Number s n) g h f = from_numbered l s n (with_digit n b) refl g h
  from_transition l deep mode.BraceFirst g h f = on_brace_first l₀ m₀ (Cause l b mode.BraceFirst) past b (class_of b) refl
  from_transition l deep mode.BraceStar g h f = on_brace_star l₀ m₀ (Cause l b mode.BraceStar) past b (class_of b) refl
  from_transition l deep mode.BehindStar g h f = on_behind_star l₀ m₀ (Cause l b mode.BehindStar) past b l (heard l (class_of b)) (heard_slash l b)
  from_transition l deep mode.StarPair g h f = on_star_pair l₀ m₀ (Cause l b mode.StarPair) past b (class_of b) h
  from_transition l deep mode.Braced g h f = on_braced l₀ m₀ (Cause l b mode.Braced) past b deep (class_of b) refl
  from_transition l deep mode.BracedPair g h f = on_braced_pair l₀ m₀ (Cause l b mode.BracedPair) past b (class_of b)
  from_transition l deep mode.BracedJoin g h f = on_if l₀ m₀ (Cause l b mode.BracedJoin) past b (is_space b) (goes mode.BracedJoin) (in_braced deep (class_of b) b) tt (on_braced l₀ m₀ (Cause l b mode.BracedJoin) past b deep (class_of b) refl)
  from_transition l deep (mode.Behind d) g h f = from_behind l d (heard l (class_of b)) (λ n e. f d refl n (heard_slash l b e))
  from_transition l deep (mode.BehindPair d) g h f = from_behind_pair l d (class_of b)

-- one bracket or index too many
abbrev pub IsNested : WordFault → Type 0
IsNested fault.MissingBracket = Unit {0}
IsNested fault.MissingParen = Unit {0}
IsNested f = ⊥

abbrev MoveTrail : Level → Mode → (WordFault → Type 0) → List ℕ → Stepped → Type 0
MoveTrail l m P past (Go s) = Trail l m past s.mode
MoveTrail l m P past (Over ws n) = Unit {0}
MoveTrail l m P past (Fails f) = IsNested f ⊎ P f

module _ (l₀ : Level) (m₀ : Mode) (P : WordFault → Type 0) (past : List ℕ) where
  abbrev Onward : Stepped → Type 0
  Onward v = MoveTrail l₀ m₀ P past v

  move_opens : (x : Bool) (f : WordFault) (s : State) → IsNested f → Trail l₀ m₀ past s.mode → Onward (opens x f s)
  move_opens true f s h k = k
  move_opens false f s h k = inl h

  move_index : (is : List Context) (n : ℕ) (d : Draft) → Onward (leaves_index is n d)
  move_index [] n d = tt
  move_index (s ∷ is) n d = tt

  move_leaves : (os : List Opener) (n : ℕ) (d : Draft) (b : ℕ) → Onward (leaves os n d b)
  move_leaves [] n d b = tt
  move_leaves (o ∷ []) n d b = tt
  move_leaves (o ∷ p ∷ os) n d b = tt

  move_follow : (x : Target) (n : ℕ) (d : Draft) → NextTrail l₀ m₀ P past x → Onward (follow x n d)
  move_follow (target.To k) n d h = h
  move_follow target.Deeper n d h = tt
  move_follow target.Shallower n d h = tt
  move_follow (target.Bracket s) n d h = move_opens (has_room d []) fault.MissingBracket _ tt tt
  move_follow (target.Paren s) n d h = move_opens (has_room d []) fault.MissingParen _ tt tt
  move_follow target.Leave n d h = move_index d.indices n d
  move_follow target.End n d h = tt
  move_follow target.Rest n d h = tt
  move_follow (target.Bad f) n d h = inr h

  move_inside : (x : Target) (n : ℕ) (os : List Opener) (d : Draft) (b : ℕ) → NextTrail l₀ m₀ P past x → Onward (follow_inside x n os d b)
  move_inside (target.To k) n os d b h = h
  move_inside target.Deeper n os d b h = tt
  move_inside target.Shallower n os d b h = tt
  move_inside (target.Bracket s) n os d b h = move_opens (has_room d os) fault.MissingBracket _ tt tt
  move_inside (target.Paren s) n os d b h = move_opens (has_room d os) fault.MissingParen _ tt tt
  move_inside target.Leave n os d b h = move_leaves os n d b
  move_inside target.End n os d b h = tt
  move_inside target.Rest n os d b h = tt
  move_inside (target.Bad f) n os d b h = inr h

  move_take : (t : Transition) (n : ℕ) (os : List Opener) (d : Draft) (b : ℕ) → NextTrail l₀ m₀ P past t.next → Onward (take_transition t n os d b)
  move_take t n [] d b h = move_follow t.next n (perform t.second (perform t.first d)) h
  move_take t n (o ∷ os) d b h = move_inside t.next n (o ∷ os) d b h

-- Words that were read up to here, from a mode on.
pub record Reached (l : Level) (m : Mode) (past : List ℕ) (s : State) : Type 0 where
  pub leads : (after : List ℕ) → Leads l after (fresh m) past s
  pub fine : Fine s.mode
  pub trail : Trail l m past s.mode

ended_word : (l : Level) (m : Mode) (past : List ℕ) (s : State) (b : ℕ) → Reached l m past s → (d : Delimiter) → s.mode ≡ mode.Behind d → level_in l s.inner ≢ level.Alone → b ≡ 92 → Ended l m (past ++ b ∷ []) d
ended_word l m past s b r d e n i =
    let x = subst (λ k. Trail l m past k) e r.trail in
    record {
      before = x.0;
      state = s;
      split = ap (λ y. y ++ b ∷ []) x.1 ∙ ap (λ k. (x.0 ++ mark d ∷ []) ++ k ∷ []) i;
      leads = λ after. subst (λ y. Leads l after (fresh m) y s) x.1 (r.leads after);
      is_behind = e;
      is_word = n;
    }

trailed : (l : Level) (m : Mode) (past : List ℕ) (s : State) (b : ℕ) → Reached l m past s → MoveTrail l m (Cause (level_in l s.inner) b s.mode) (past ++ b ∷ []) (step l s b)
unfolding step
trailed l m past s b r =
    move_take l m (Cause (level_in l s.inner) b s.mode) (past ++ b ∷ []) (transition (level_in l s.inner) (nat_lt 0 s.depth) s.mode (class_of b) b) s.depth s.inner s.draft b
    (from_transition l m past b (level_in l s.inner) (nat_lt 0 s.depth) s.mode r.fine r.trail (ended_word l m past s b r))

pub reached_step : (l : Level) (m : Mode) (past : List ℕ) (s n : State) (b : ℕ) → Reached l m past s → step l s b ≡ Go n → Reached l m (past ++ b ∷ []) n
reached_step l m past s n b r e = record {
  leads = λ after. lead_both l after _ _ _ past (b ∷ []) (r.leads (b ∷ after)) (lead_one l after s n b e);
  fine = subst FineStep e (fine_step l s b r.fine);
  trail = subst (MoveTrail l m (Cause (level_in l s.inner) b s.mode) (past ++ b ∷ [])) e (trailed l m past s b r);
}

pub cause : (l : Level) (m : Mode) (past : List ℕ) (s : State) (b : ℕ) (f : WordFault) → Reached l m past s → step l s b ≡ Fails f → IsNested f ⊎ Cause (level_in l s.inner) b s.mode f
cause l m past s b f r e = subst (MoveTrail l m (Cause (level_in l s.inner) b s.mode) (past ++ b ∷ [])) e (trailed l m past s b r)
