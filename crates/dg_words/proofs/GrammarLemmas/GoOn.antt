-- From each state that a reading comes to, some bytes end it well.
use Rattle.std.specs.Prelude.{◌≡◌, ℕ, zero, suc, ◌+◌, ◌-◌, ◌*◌, ◌≤◌, ◌<◌, List, [], ◌∷◌, refl, Ok, Bool, true, false, Option, None, Some, nat_lt, ◌==◌}
use Rattle.std.proofs.Common.{inl, inr, ◌∙◌, ap, sym, arith, subst}
use Rattle.std.proofs.lemmas.Bool.{lt-ltb}
use Rattle.dg_lists.specs.declared.fault.WordFault.{WordFault}
use Rattle.dg_lists.specs.declared.fault.WordFault.TheVariants.{MissingBracket, MissingParen}
use Rattle.dg_lists.specs.declared.kinds.Class.{Class}
use Rattle.dg_lists.specs.declared.kinds.Class.TheVariants as class
use Rattle.dg_lists.specs.declared.kinds.Effect.{Effect}
use Rattle.dg_lists.specs.declared.kinds.Effect.TheVariants as effect
use Rattle.dg_lists.specs.declared.kinds.Delimiter.{Delimiter}
use Rattle.dg_lists.specs.declared.kinds.Delimiter.TheVariants as delimiter
use Rattle.dg_lists.specs.declared.kinds.Digits as kinds
use Rattle.dg_lists.specs.declared.kinds.Escape.{Escape}
use Rattle.dg_lists.specs.declared.kinds.Escape.TheVariants.{Long}
use Rattle.dg_words.specs.declared.kinds.Level.{Level}
use Rattle.dg_words.specs.declared.kinds.Level.TheVariants as level
use Rattle.dg_lists.specs.declared.kinds.Mode.{Mode}
use Rattle.dg_lists.specs.declared.kinds.Mode.TheVariants as mode
use Rattle.dg_lists.specs.declared.kinds.Target.{Target}
use Rattle.dg_lists.specs.declared.kinds.Target.TheVariants as target
use Rattle.dg_words.specs.declared.kinds.Opener.{Opener}
use Rattle.dg_words.specs.declared.kinds.Opener.TheVariants as opener
use Rattle.dg_lists.specs.declared.kinds.Context.{Context}
use Rattle.dg_lists.specs.declared.kinds.Context.TheVariants as context
use Rattle.dg_lists.specs.declared.kinds.Transition.{Transition}
use Rattle.dg_words.specs.declared.word.Word.{Word}
use Rattle.dg_lists.specs.Classes.{class_of}
use Rattle.dg_words.specs.Transitions.{heard}
use Rattle.dg_lists.specs.Transitions.{behind_effect, behind_number, does, goes, is_space, puts, whole, with_digit}
use Rattle.dg_words.specs.Transitions.{behind, behind_pair, behind_star, ends, in_bare, in_brace_first, in_brace_star, in_braced, in_braced_pair, in_colon, in_comment, in_dollar, in_gap, in_gap_pair, in_name, in_name_brace, in_operand, in_pair, in_context, in_star_pair, in_start, in_start_pair, numbered, transition}
use Rattle.dg_words.specs.Machine.{Draft, Go, Over, Stepped, State, add, close, open_index, close_index, follow, follow_inside, has_room, leaves, leaves_index, level_in, onward, opens, perform, read, context_of, step, stop, stopped, take_transition}
use Rattle.std.specs.List.{filter}
use Rattle.dg_words.specs.Grammar.Ends.{is_end}
use Rattle.dg_lists.proofs.GrammarLemmas.Numbers.{number, digit_fits}
use Rattle.dg_lists.proofs.GrammarLemmas.ListRead.{newline_is, quote_is}
use Rattle.dg_words.proofs.GrammarLemmas.Segments.{at, moved, step_by, taken_to}
use Rattle.dg_words.proofs.GrammarLemmas.Openings.{effect_indices}
use Rattle.dg_words.proofs.GrammarLemmas.Closers.{ends_at, ends_of, part_ends, top_ends, with_end}
use Rattle.dg_words.proofs.GrammarLemmas.Pieces.{close_is, right_bracket_is, right_paren_is}
use Rattle.dg_lists.proofs.GrammarLemmas.Endable.{Good, Fine, FineTarget, fine_escaped, fine_if, fine_behind_number, fine_counted, dot_is, letter_is, no_dot, number_whole, zero_is, sixteenfold}

fine_bare : (l : Level) (c : Class) (b : ℕ) → FineTarget (in_bare l c b).next
fine_bare l class.Blank b = tt
fine_bare l class.Newline b = tt
fine_bare l class.Semicolon b = tt
fine_bare l class.LeftBracket b = tt
fine_bare l class.RightBracket b = tt
fine_bare l class.Backslash b = tt
fine_bare l class.Dollar b = tt
fine_bare l c b = tt

fine_context : (l : Level) (s : Context) (c : Class) (b : ℕ) → FineTarget (in_context l s c b).next
fine_context l context.Bare c b = fine_bare l (heard l c) b
fine_context l context.Quoted class.Quote b = tt
fine_context l context.Quoted class.LeftBracket b = tt
fine_context l context.Quoted class.Backslash b = tt
fine_context l context.Quoted class.Dollar b = tt
fine_context l context.Quoted c b = tt
fine_context l context.Index class.RightParen b = tt
fine_context l context.Index class.LeftBracket b = tt
fine_context l context.Index class.Backslash b = tt
fine_context l context.Index class.Dollar b = tt
fine_context l context.Index c b = tt
fine_context l context.Alone c b = tt

fine_gap : (l : Level) (c : Class) (b : ℕ) → FineTarget (in_gap l c b).next
fine_gap l class.Blank b = tt
fine_gap l class.Newline b = tt
fine_gap l class.Semicolon b = tt
fine_gap l class.Quote b = tt
fine_gap l class.Open b = tt
fine_gap l class.Backslash b = tt
fine_gap l c b = fine_bare l c b

fine_start : (l : Level) (c : Class) (b : ℕ) → FineTarget (in_start l c b).next
fine_start l class.Blank b = tt
fine_start l class.Newline b = tt
fine_start l class.Semicolon b = tt
fine_start l class.Hash b = tt
fine_start l class.Backslash b = tt
fine_start l c b = fine_gap l c b

fine_pair : (s : Context) (c : Class) (b : ℕ) → FineTarget (in_pair s c b).next
fine_pair context.Bare class.Newline b = tt
fine_pair context.Quoted class.Newline b = tt
fine_pair context.Index class.Newline b = tt
fine_pair context.Alone class.Newline b = tt
fine_pair s c b = fine_escaped s b

fine_gap_pair : (c : Class) (b : ℕ) → FineTarget (in_gap_pair c b).next
fine_gap_pair class.Newline b = tt
fine_gap_pair c b = fine_escaped context.Bare b

fine_start_pair : (c : Class) (b : ℕ) → FineTarget (in_start_pair c b).next
fine_start_pair class.Newline b = tt
fine_start_pair c b = fine_escaped context.Bare b

fine_star_pair : (c : Class) (b : ℕ) → FineTarget (in_star_pair c b).next
fine_star_pair class.Newline b = tt
fine_star_pair c b = fine_escaped context.Bare b

fine_comment : (c : Class) → FineTarget (in_comment c).next
fine_comment class.Newline = tt
fine_comment class.Backslash = tt
fine_comment c = tt

fine_operand : (c : Class) → FineTarget (in_operand c).next
fine_operand class.Quote = tt
fine_operand class.Open = tt
fine_operand class.LeftBracket = tt
fine_operand class.Dollar = tt
fine_operand c = tt

fine_dollar : (l : Level) (s : Context) (c : Class) (b : ℕ) → FineTarget (in_dollar l s c b).next
fine_dollar l s class.Name b = tt
fine_dollar l s class.Colon b = tt
fine_dollar l s class.LeftParen b = tt
fine_dollar l s class.Open b = tt
fine_dollar l s c b = fine_context l s c b

fine_colon : (l : Level) (s : Context) (c : Class) (b : ℕ) → FineTarget (in_colon l s c b).next
fine_colon l s class.Colon b = tt
fine_colon l s c b = fine_context l s c b

fine_name : (l : Level) (s : Context) (c : Class) (b : ℕ) → FineTarget (in_name l s c b).next
fine_name l s class.Name b = tt
fine_name l s class.LeftParen b = tt
fine_name l s c b = fine_context l s c b

fine_name_brace : (s : Context) (c : Class) (b : ℕ) → FineTarget (in_name_brace s c b).next
fine_name_brace s class.Close b = tt
fine_name_brace s c b = tt

fine_numbered : (l : Level) (s : Context) (n : kinds.Digits) (c : Class) (b : ℕ) (r : Option ℕ) → with_digit n b ≡ r → Good n → FineTarget (numbered l s n c b r).next
fine_numbered l s n c b (Some w) h g = fine_counted s n.escape n.left n.value b w h g
fine_numbered l s n c b None h g = fine_behind_number (whole n) (in_context l s c b) (fine_context l s c b)

fine_braced : (deep : Bool) (c : Class) (b : ℕ) → FineTarget (in_braced deep c b).next
fine_braced true class.Open b = tt
fine_braced true class.Close b = tt
fine_braced true class.Backslash b = tt
fine_braced true c b = tt
fine_braced false class.Open b = tt
fine_braced false class.Close b = tt
fine_braced false class.Backslash b = tt
fine_braced false c b = tt

fine_braced_pair : (c : Class) (b : ℕ) → FineTarget (in_braced_pair c b).next
fine_braced_pair class.Newline b = tt
fine_braced_pair c b = tt

fine_brace_first : (c : Class) (b : ℕ) → FineTarget (in_brace_first c b).next
fine_brace_first class.Star b = tt
fine_brace_first c b = fine_braced false c b

fine_brace_star : (c : Class) (b : ℕ) → FineTarget (in_brace_star c b).next
fine_brace_star class.Close b = tt
fine_brace_star c b = fine_braced false c b

fine_behind_star : (l : Level) (c : Class) (b : ℕ) → FineTarget (behind_star l c b).next
fine_behind_star l class.Blank b = tt
fine_behind_star l class.Newline b = tt
fine_behind_star l class.Semicolon b = tt
fine_behind_star l class.RightBracket b = tt
fine_behind_star l class.Backslash b = tt
fine_behind_star l class.Quote b = tt
fine_behind_star l class.Open b = tt
fine_behind_star l c b = fine_bare l c b

fine_after : (l : Level) (k : Delimiter) (c : Class) → FineTarget (behind l k c).next
fine_after level.Alone k c = tt
fine_after l k class.Blank = tt
fine_after l k class.Newline = tt
fine_after l k class.Semicolon = tt
fine_after l k class.RightBracket = tt
fine_after l k class.Backslash = tt
fine_after l k c = tt

fine_after_pair : (k : Delimiter) (c : Class) → FineTarget (behind_pair k c).next
fine_after_pair k class.Newline = tt
fine_after_pair k c = tt

fine_transition : (l : Level) (deep : Bool) (m : Mode) (c : Class) (b : ℕ) → Fine m → FineTarget (transition l deep m c b).next
unfolding transition
fine_transition l deep mode.Start c b h = fine_start l (heard l c) b
fine_transition l deep mode.StartPair c b h = fine_start_pair c b
fine_transition l deep mode.Comment c b h = fine_comment c
fine_transition l deep mode.CommentPair c b h = tt
fine_transition l deep mode.Gap c b h = fine_gap l (heard l c) b
fine_transition l deep mode.GapPair c b h = fine_gap_pair c b
fine_transition l deep mode.Operand c b h = fine_operand c
fine_transition l deep (mode.In s) c b h = fine_context l s c b
fine_transition l deep (mode.Pair s) c b h = fine_pair s c b
fine_transition l deep (mode.Join s) c b h = fine_if (is_space b) (goes (mode.Join s)) (in_context l s c b) tt (fine_context l s c b)
fine_transition l deep (mode.Dollar s) c b h = fine_dollar l s c b
fine_transition l deep (mode.Colon s) c b h = fine_colon l s c b
fine_transition l deep (mode.Name s) c b h = fine_name l s c b
fine_transition l deep (mode.NameBrace s) c b h = fine_name_brace s c b
fine_transition l deep (mode.Number s n) c b h = fine_numbered l s n c b (with_digit n b) refl h
fine_transition l deep mode.BraceFirst c b h = fine_brace_first c b
fine_transition l deep mode.BraceStar c b h = fine_brace_star c b
fine_transition l deep mode.BehindStar c b h = fine_behind_star l (heard l c) b
fine_transition l deep mode.StarPair c b h = fine_star_pair c b
fine_transition l deep mode.Braced c b h = fine_braced deep c b
fine_transition l deep mode.BracedPair c b h = fine_braced_pair c b
fine_transition l deep mode.BracedJoin c b h = fine_if (is_space b) (goes mode.BracedJoin) (in_braced deep c b) tt (fine_braced deep c b)
fine_transition l deep (mode.Behind k) c b h = fine_after l k (heard l c)
fine_transition l deep (mode.BehindPair k) c b h = fine_after_pair k c

abbrev pub FineStep : Stepped → Type 0
FineStep (Go s) = Fine s.mode
FineStep m = Unit {0}

fine_opens : (x : Bool) (f : WordFault) (s : State) → Fine s.mode → FineStep (opens x f s)
fine_opens true f s h = h
fine_opens false f s h = tt

fine_leaves_index : (ss : List Context) (n : ℕ) (d : Draft) → FineStep (leaves_index ss n d)
fine_leaves_index [] n d = tt
fine_leaves_index (s ∷ ss) n d = tt

fine_leaves : (os : List Opener) (n : ℕ) (d : Draft) (b : ℕ) → FineStep (leaves os n d b)
fine_leaves [] n d b = tt
fine_leaves (o ∷ []) n d b = tt
fine_leaves (o ∷ p ∷ os) n d b = tt

fine_follow : (x : Target) (n : ℕ) (d : Draft) → FineTarget x → FineStep (follow x n d)
fine_follow (target.To m) n d h = h
fine_follow target.Deeper n d h = tt
fine_follow target.Shallower n d h = tt
fine_follow (target.Bracket s) n d h = fine_opens (has_room d []) MissingBracket (at (opener.Bracket s ∷ []) mode.Start n (close d)) tt
fine_follow (target.Paren s) n d h = fine_opens (has_room d []) MissingParen (at [] (mode.In context.Index) n (open_index s d)) tt
fine_follow target.Leave n d h = fine_leaves_index d.indices n d
fine_follow target.End n d h = tt
fine_follow target.Rest n d h = tt
fine_follow (target.Bad f) n d h = tt

fine_inside : (x : Target) (n : ℕ) (os : List Opener) (d : Draft) (b : ℕ) → FineTarget x → FineStep (follow_inside x n os d b)
fine_inside (target.To m) n os d b h = h
fine_inside target.Deeper n os d b h = tt
fine_inside target.Shallower n os d b h = tt
fine_inside (target.Bracket s) n os d b h = fine_opens (has_room d os) MissingBracket (at (opener.Bracket s ∷ os) mode.Start n (add (b ∷ []) d)) tt
fine_inside (target.Paren s) n os d b h = fine_opens (has_room d os) MissingParen (at (opener.Paren s ∷ os) (mode.In context.Index) n (add (b ∷ []) d)) tt
fine_inside target.Leave n os d b h = fine_leaves os n d b
fine_inside target.End n os d b h = tt
fine_inside target.Rest n os d b h = tt
fine_inside (target.Bad f) n os d b h = tt

fine_take : (t : Transition) (n : ℕ) (os : List Opener) (d : Draft) (b : ℕ) → FineTarget t.next → FineStep (take_transition t n os d b)
fine_take t n [] d b h = fine_follow t.next n (perform t.second (perform t.first d)) h
fine_take t n (o ∷ os) d b h = fine_inside t.next n (o ∷ os) d b h

pub fine_step : (l : Level) (s : State) (b : ℕ) → Fine s.mode → FineStep (step l s b)
unfolding step
fine_step l s b h = fine_take (transition (level_in l s.inner) (nat_lt 0 s.depth) s.mode (class_of b) b) s.depth s.inner s.draft b (fine_transition (level_in l s.inner) (nat_lt 0 s.depth) s.mode (class_of b) b h)

-- Bytes behind which a command is read: they end what is open, and no more.
pub record Closing (l : Level) (s : State) : Type 0 where
  pub bytes : List ℕ
  pub words : List Word
  pub closes : (p : ℕ) → (q : ℕ) × (read l bytes s p ≡ Ok (words, q))
  pub just : filter is_end bytes ≡ ends_at s

by_step : (l : Level) (s n : State) (b : ℕ) → step l s b ≡ Go n → with_end b (ends_at n) ≡ ends_at s → Closing l n → Closing l s
unfolding read
by_step l s n b e j c = record {
  bytes = b ∷ c.bytes;
  words = c.words;
  closes = λ p. let x = c.closes (p + 1) in (x.0, ap (λ m. onward m p (λ k. read l c.bytes k (p + 1))) e ∙ x.1);
  just = ap (λ ks. with_end b ks) c.just ∙ j;
}

by_over : (l : Level) (s : State) (b : ℕ) (ws : List Word) (k : ℕ) → step l s b ≡ Over ws k → with_end b [] ≡ ends_at s → Closing l s
unfolding read
by_over l s b ws k e j = record { bytes = b ∷ []; words = ws; closes = λ p. (p + k, ap (λ m. onward m p (λ n. read l [] n (p + 1))) e); just = j }

by_stop : (l : Level) (s : State) (ws : List Word) → stop s ≡ Ok ws → [] ≡ ends_at s → Closing l s
unfolding read
by_stop l s ws e j = record { bytes = []; words = ws; closes = λ p. (p, ap (λ r. stopped r p) e); just = j }

-- outside brackets
top_stops : (l : Level) (m : Mode) (n : ℕ) (d : Draft) → m ≡ mode.In context.Bare → Closing l (at [] m n d)
unfolding stop ends
top_stops l m n d e = subst (λ x. Closing l (at [] x n d)) (sym e) (by_stop l (at [] (mode.In context.Bare) n d) _ refl refl)

alone_stops : (l : Level) (n : ℕ) (d : Draft) → Closing l (at [] (mode.In context.Alone) n d)
unfolding stop ends
alone_stops l n d = by_stop l (at [] (mode.In context.Alone) n d) _ refl refl

behind_stops : (l : Level) (k : Delimiter) (n : ℕ) (d : Draft) → Closing l (at [] (mode.Behind k) n d)
unfolding stop ends
behind_stops l k n d = by_stop l (at [] (mode.Behind k) n d) _ refl refl

top_closing : (l : Level) (is : List Context) (s : Context) (n : ℕ) (d : Draft) → d.indices ≡ is → Closing l (at [] (mode.In s) n d)
unfolding transition
top_closing l is context.Bare n d e = top_stops l (mode.In context.Bare) n d refl
top_closing l is context.Alone n d e = alone_stops l n d
top_closing l is context.Quoted n d e =
    by_step l _ (at [] (mode.Behind delimiter.Quote) n (perform effect.Word d)) 34 (step_by l (at [] (mode.In context.Quoted) n d) 34 class.Quote (does effect.Word (target.To (mode.Behind delimiter.Quote))) quote_is refl) refl (behind_stops l delimiter.Quote n _)
top_closing l [] context.Index n d e =
    by_step l _ (at [] (mode.In context.Bare) n d) 41 (step_by l (at [] (mode.In context.Index) n d) 41 class.RightParen (does effect.Nothing target.Leave) right_paren_is refl ∙ ap (λ x. leaves_index x n d) e) (ap (top_ends context.Index) (sym e)) (top_stops l (mode.In context.Bare) n d refl)
top_closing l (k ∷ ks) context.Index n d e =
    by_step l _ (at [] (mode.In k) n (close_index ks d)) 41 (step_by l (at [] (mode.In context.Index) n d) 41 class.RightParen (does effect.Nothing target.Leave) right_paren_is refl ∙ ap (λ x. leaves_index x n d) e) (ap (top_ends context.Index) (sym e))
    (top_closing l ks k n (close_index ks d) refl)

-- the innermost bracket or index closes
abbrev Ready : Level → List Opener → Type 0
Ready l os = (s : Context) (n : ℕ) (d : Draft) → Closing l (at os (mode.In s) n d)

leaves_closing : (l : Level) (o : Opener) (os : List Opener) (m : Mode) (n b : ℕ) (d : Draft) → Ready l os → step l (at (o ∷ os) m n d) b ≡ leaves (o ∷ os) n d b →
    with_end b (part_ends (context_of o) os d.indices) ≡ ends_of (o ∷ os) m n d.indices → Closing l (at (o ∷ os) m n d)
leaves_closing l o [] m n b d r e j = by_step l _ _ b e j (r (context_of o) n _)
leaves_closing l o (p ∷ ps) m n b d r e j = by_step l _ _ b e j (r (context_of o) n _)

gap_leaves : (l : Level) (o : Opener) (os : List Opener) (n : ℕ) (d : Draft) → Ready l os → Closing l (at (o ∷ os) mode.Gap n d)
unfolding transition
gap_leaves l o os n d r = leaves_closing l o os mode.Gap n 93 d r (step_by l (at (o ∷ os) mode.Gap n d) 93 class.RightBracket (does effect.Nothing target.Leave) right_bracket_is refl) refl

start_leaves : (l : Level) (o : Opener) (os : List Opener) (n : ℕ) (d : Draft) → Ready l os → Closing l (at (o ∷ os) mode.Start n d)
unfolding transition
start_leaves l o os n d r = leaves_closing l o os mode.Start n 93 d r (step_by l (at (o ∷ os) mode.Start n d) 93 class.RightBracket (does effect.Nothing target.Leave) right_bracket_is refl) refl

behind_leaves : (l : Level) (k : Delimiter) (o : Opener) (os : List Opener) (n : ℕ) (d : Draft) → Ready l os → Closing l (at (o ∷ os) (mode.Behind k) n d)
unfolding transition
behind_leaves l k o os n d r = leaves_closing l o os (mode.Behind k) n 93 d r (step_by l (at (o ∷ os) (mode.Behind k) n d) 93 class.RightBracket (does effect.Nothing target.Leave) right_bracket_is refl) refl

inner_closing : (l : Level) (o : Opener) (os : List Opener) → Ready l os → Ready l (o ∷ os)
unfolding transition
inner_closing l o os r context.Bare n d = leaves_closing l o os (mode.In context.Bare) n 93 d r (step_by l (at (o ∷ os) (mode.In context.Bare) n d) 93 class.RightBracket (does effect.Nothing target.Leave) right_bracket_is refl) refl
inner_closing l o os r context.Index n d = leaves_closing l o os (mode.In context.Index) n 41 d r (step_by l (at (o ∷ os) (mode.In context.Index) n d) 41 class.RightParen (does effect.Nothing target.Leave) right_paren_is refl) refl
inner_closing l o os r context.Quoted n d =
    by_step l _ (at (o ∷ os) (mode.Behind delimiter.Quote) n (add (34 ∷ []) d)) 34 (step_by l (at (o ∷ os) (mode.In context.Quoted) n d) 34 class.Quote (does effect.Word (target.To (mode.Behind delimiter.Quote))) quote_is refl) refl (behind_leaves l delimiter.Quote o os n _ r)
inner_closing l o os r context.Alone n d =
    by_step l _ (at (o ∷ os) mode.Start n (add (46 ∷ []) d)) 46 (step_by l (at (o ∷ os) (mode.In context.Alone) n d) 46 class.Plain (does effect.Word target.Rest) dot_is refl) refl (start_leaves l o os n _ r)

in_closing : (l : Level) (os : List Opener) → Ready l os
in_closing l [] = λ s n d. top_closing l d.indices s n d refl
in_closing l (o ∷ os) = inner_closing l o os (in_closing l os)

gap_closing : (l : Level) (os : List Opener) (n : ℕ) (d : Draft) → Closing l (at os mode.Gap n d)
unfolding stop ends
gap_closing l [] n d = by_stop l (at [] mode.Gap n d) _ refl refl
gap_closing l (o ∷ os) n d = gap_leaves l o os n d (in_closing l os)

start_closing : (l : Level) (os : List Opener) (n : ℕ) (d : Draft) → Closing l (at os mode.Start n d)
unfolding stop ends
start_closing l [] n d = by_stop l (at [] mode.Start n d) _ refl refl
start_closing l (o ∷ os) n d = start_leaves l o os n d (in_closing l os)

behind_closing : (l : Level) (k : Delimiter) (os : List Opener) (n : ℕ) (d : Draft) → Closing l (at os (mode.Behind k) n d)
behind_closing l k [] n d = behind_stops l k n d
behind_closing l k (o ∷ os) n d = behind_leaves l k o os n d (in_closing l os)

moved_indices : (os : List Opener) (t : List ℕ) (f g : Effect) (d : Draft) → (moved os t (λ x. perform g (perform f x)) d).indices ≡ d.indices
moved_indices [] t f g d = effect_indices g (perform f d) ∙ effect_indices f d
moved_indices (o ∷ os) t f g d = refl

-- a byte that goes to another mode
to_closing : (l : Level) (os : List Opener) (m k : Mode) (n b : ℕ) (d : Draft) (c : Class) (f g : Effect) → class_of b ≡ c → transition (level_in l os) (nat_lt 0 n) m c b ≡ record { first = f; second = g; next = target.To k } →
    ((is : List Context) → with_end b (ends_of os k n is) ≡ ends_of os m n is) → ((e : Draft) → Closing l (at os k n e)) → Closing l (at os m n d)
to_closing l os m k n b d c f g e h j r =
    by_step l _ _ b (step_by l (at os m n d) b c _ e h ∙ taken_to f g k os n d b) (ap (λ is. with_end b (ends_of os k n is)) (moved_indices os (b ∷ []) f g d) ∙ j d.indices) (r _)

plain_heard : (l : Level) → heard l class.Plain ≡ class.Plain
plain_heard level.Top = refl
plain_heard level.List = refl
plain_heard level.Inside = refl
plain_heard level.Alone = refl

-- a dot goes on parts, behind any effect
dot_top : (l : Level) (s : Context) (m : Mode) (n : ℕ) (d : Draft) (f : Effect) → transition l (nat_lt 0 n) m class.Plain 46 ≡ behind_effect f (in_context l s class.Plain 46) → ((is : List Context) → ends_of [] (mode.In s) n is ≡ ends_of [] m n is) → Closing l (at [] m n d)
dot_top l context.Bare m n d f h j = to_closing l [] m (mode.In context.Bare) n 46 d class.Plain f (effect.Byte 46) dot_is (h ∙ ap (λ c. behind_effect f (in_bare l c 46)) (plain_heard l)) j (λ e. in_closing l [] context.Bare n e)
dot_top l context.Quoted m n d f h j = to_closing l [] m (mode.In context.Quoted) n 46 d class.Plain f (effect.Byte 46) dot_is h j (λ e. in_closing l [] context.Quoted n e)
dot_top l context.Index m n d f h j = to_closing l [] m (mode.In context.Index) n 46 d class.Plain f (effect.Byte 46) dot_is h j (λ e. in_closing l [] context.Index n e)
dot_top l context.Alone m n d f h j = by_over l (at [] m n d) 46 (perform effect.Word (perform f d)).words 0 (step_by l (at [] m n d) 46 class.Plain (behind_effect f (does effect.Word target.Rest)) dot_is h) (j d.indices)

dot_inside : (l : Level) (o : Opener) (os : List Opener) (s : Context) (m : Mode) (n : ℕ) (d : Draft) (f : Effect) → transition level.Inside (nat_lt 0 n) m class.Plain 46 ≡ behind_effect f (in_context level.Inside s class.Plain 46) →
    ((is : List Context) → ends_of (o ∷ os) (mode.In s) n is ≡ ends_of (o ∷ os) m n is) → Closing l (at (o ∷ os) m n d)
dot_inside l o os context.Bare m n d f h j = to_closing l (o ∷ os) m (mode.In context.Bare) n 46 d class.Plain f (effect.Byte 46) dot_is h j (λ e. in_closing l (o ∷ os) context.Bare n e)
dot_inside l o os context.Quoted m n d f h j = to_closing l (o ∷ os) m (mode.In context.Quoted) n 46 d class.Plain f (effect.Byte 46) dot_is h j (λ e. in_closing l (o ∷ os) context.Quoted n e)
dot_inside l o os context.Index m n d f h j = to_closing l (o ∷ os) m (mode.In context.Index) n 46 d class.Plain f (effect.Byte 46) dot_is h j (λ e. in_closing l (o ∷ os) context.Index n e)
dot_inside l o os context.Alone m n d f h j = by_step l _ (at (o ∷ os) mode.Start n (add (46 ∷ []) d)) 46 (step_by l (at (o ∷ os) m n d) 46 class.Plain (behind_effect f (does effect.Word target.Rest)) dot_is h) (j d.indices) (start_closing l (o ∷ os) n _)

dot_closing : (l : Level) (os : List Opener) (s : Context) (m : Mode) (n : ℕ) (d : Draft) (f : Effect) → transition (level_in l os) (nat_lt 0 n) m class.Plain 46 ≡ behind_effect f (in_context (level_in l os) s class.Plain 46) →
    ((is : List Context) → ends_of os (mode.In s) n is ≡ ends_of os m n is) → Closing l (at os m n d)
dot_closing l [] s m n d f h j = dot_top l s m n d f h j
dot_closing l (o ∷ os) s m n d f h j = dot_inside l o os s m n d f h j

join_dot : (l : Level) (s : Context) (deep : Bool) → transition l deep (mode.Join s) class.Plain 46 ≡ behind_effect effect.Nothing (in_context l s class.Plain 46)
unfolding transition
join_dot level.Top context.Bare deep = refl
join_dot level.List context.Bare deep = refl
join_dot level.Inside context.Bare deep = refl
join_dot level.Alone context.Bare deep = refl
join_dot l context.Quoted deep = refl
join_dot l context.Index deep = refl
join_dot l context.Alone deep = refl

number_dot : (l : Level) (os : List Opener) (s : Context) (e : Escape) (left v n : ℕ) (d : Draft) (w : Effect) → whole (number e left v) ≡ Some w → Closing l (at os (mode.Number s (number e left v)) n d)
unfolding transition
number_dot l os s e left v n d w h =
    dot_closing l os s (mode.Number s (number e left v)) n d w
    (ap (λ x. numbered (level_in l os) s (number e left v) class.Plain 46 x) (no_dot e left v) ∙ ap (λ r. behind_number r (in_context (level_in l os) s class.Plain 46)) h) (λ is. refl)

long_closing : (l : Level) (os : List Opener) (s : Context) (left v n : ℕ) (d : Draft) → 1 ≤ left → 55296 ≤ v → v < 57344 → Closing l (at os (mode.Number s (number Long left v)) n d)
unfolding transition
long_closing l os s zero v n d g h k = absurd (omega arith)
long_closing l os s (suc zero) v n d g h k =
    to_closing l os (mode.Number s (number Long 1 v)) (mode.In s) n 48 d class.Name (effect.Code (16 * v + 0)) effect.Nothing zero_is
    (ap (λ x. numbered (level_in l os) s (number Long 1 v) class.Name 48 x) (digit_fits Long 1 v 48 refl (omega arith)) ∙ ap (λ r. behind_number r (goes (mode.In s))) (sixteenfold v h k))
    (λ is. refl) (λ e. in_closing l os s n e)
long_closing l os s (suc (suc left)) v n d g h k =
    to_closing l os (mode.Number s (number Long (suc (suc left)) v)) (mode.Number s (number Long (suc left) (16 * v + 0))) n 48 d class.Name effect.Nothing effect.Nothing zero_is
    (ap (λ x. numbered (level_in l os) s (number Long (suc (suc left)) v) class.Name 48 x) (digit_fits Long (suc (suc left)) v 48 refl (omega arith)))
    (λ is. refl) (λ e. tested (suc left == 8) refl e)
  where
    tested : (x : Bool) → (suc left == 8) ≡ x → (e : Draft) → Closing l (at os (mode.Number s (number Long (suc left) (16 * v + 0))) n e)
    tested true y e = number_dot l os s Long (suc left) (16 * v + 0) n e (effect.Byte 85) (rw y refl)
    tested false y e = number_dot l os s Long (suc left) (16 * v + 0) n e (effect.Code (16 * v + 0)) (rw y (sixteenfold v h k))

number_closing : (l : Level) (os : List Opener) (s : Context) (e : Escape) (left v n : ℕ) (d : Draft) → Good (number e left v) → Closing l (at os (mode.Number s (number e left v)) n d)
number_closing l os s e left v n d g =
    elim (number_whole e left v g) [
      | inl x ↦ number_dot l os s e left v n d x.0 x.1
      | inr x ↦ subst (λ y. Closing l (at os (mode.Number s (number y left v)) n d)) (sym x.0) (long_closing l os s left v n d g.0 x.1 x.2)
    ]

-- braces
brace_behind : (l : Level) (os : List Opener) (d : Draft) → Closing l (at os mode.Braced 0 d)
unfolding transition
brace_behind l os d = to_closing l os mode.Braced (mode.Behind delimiter.Brace) 0 125 d class.Close effect.Nothing effect.Word close_is refl (λ is. refl) (λ e. behind_closing l delimiter.Brace os 0 e)

shallower_to : (l : Level) (os : List Opener) (n : ℕ) (d : Draft) → ((e : Draft) → Closing l (at os mode.Braced n e)) → Closing l (at os mode.Braced (suc n) d)
unfolding transition
shallower_to l [] n d r =
    let less : suc n - 1 ≡ n = omega arith in
    by_step l _ (at [] mode.Braced n (add (125 ∷ []) d)) 125
    (step_by l (at [] mode.Braced (suc n) d) 125 class.Close (does (effect.Byte 125) target.Shallower) close_is (ap (λ x. in_braced x class.Close 125) (lt-ltb 0 (suc n) (omega arith)))
    ∙ ap (λ k. Go (at [] mode.Braced k (add (125 ∷ []) d))) less) refl (r _)
shallower_to l (o ∷ os) n d r =
    let less : suc n - 1 ≡ n = omega arith in
    by_step l _ (at (o ∷ os) mode.Braced n (add (125 ∷ []) d)) 125
    (step_by l (at (o ∷ os) mode.Braced (suc n) d) 125 class.Close (does (effect.Byte 125) target.Shallower) close_is (ap (λ x. in_braced x class.Close 125) (lt-ltb 0 (suc n) (omega arith)))
    ∙ ap (λ k. Go (at (o ∷ os) mode.Braced k (add (125 ∷ []) d))) less) refl (r _)

braced_closing : (l : Level) (os : List Opener) (n : ℕ) (d : Draft) → Closing l (at os mode.Braced n d)
braced_closing l os zero d = brace_behind l os d
braced_closing l os (suc n) d = shallower_to l os n d (λ e. braced_closing l os n e)

dot_braced : (deep : Bool) → in_braced deep class.Plain 46 ≡ puts 46 mode.Braced
dot_braced true = refl
dot_braced false = refl

operand_closing : (l : Level) (os : List Opener) (n : ℕ) (d : Draft) → Closing l (at os mode.Operand n d)
unfolding stop ends transition
operand_closing l [] n d = by_stop l (at [] mode.Operand n d) _ refl refl
operand_closing l (o ∷ os) n d = by_step l _ (at (o ∷ os) mode.Start n (add (46 ∷ []) d)) 46 (step_by l (at (o ∷ os) mode.Operand n d) 46 class.Plain (does effect.Word target.Rest) dot_is refl) refl (start_closing l (o ∷ os) n _)

star_dot : (l : Level) (b : ℕ) → behind_star l class.Plain b ≡ behind_effect effect.Expand (puts b (mode.In context.Bare))
star_dot l b = refl

star_closing : (l : Level) (os : List Opener) (n : ℕ) (d : Draft) → Closing l (at os mode.BehindStar n d)
unfolding transition
star_closing l os n d =
    to_closing l os mode.BehindStar (mode.In context.Bare) n 46 d class.Plain effect.Expand (effect.Byte 46) dot_is (ap (λ c. behind_star (level_in l os) c 46) (plain_heard (level_in l os)) ∙ star_dot (level_in l os) 46)
    (λ is. refl) (λ e. in_closing l os context.Bare n e)

pub closing : (l : Level) (os : List Opener) (m : Mode) (n : ℕ) (d : Draft) → Fine m → Closing l (at os m n d)
unfolding transition
closing l os mode.Start n d h = start_closing l os n d
closing l os mode.StartPair n d h = to_closing l os mode.StartPair mode.Start n 10 d class.Newline effect.Nothing effect.Nothing newline_is refl (λ is. refl) (λ e. start_closing l os n e)
closing l os mode.Comment n d h = to_closing l os mode.Comment mode.Start n 10 d class.Newline effect.Nothing effect.Nothing newline_is refl (λ is. refl) (λ e. start_closing l os n e)
closing l os mode.CommentPair n d h =
    to_closing l os mode.CommentPair mode.Comment n 10 d class.Newline effect.Nothing effect.Nothing newline_is refl (λ is. refl)
    (λ e. to_closing l os mode.Comment mode.Start n 10 e class.Newline effect.Nothing effect.Nothing newline_is refl (λ is. refl) (λ f. start_closing l os n f))
closing l os mode.Gap n d h = gap_closing l os n d
closing l os mode.GapPair n d h = to_closing l os mode.GapPair mode.Gap n 10 d class.Newline effect.Nothing effect.Nothing newline_is refl (λ is. refl) (λ e. gap_closing l os n e)
closing l os mode.Operand n d h = operand_closing l os n d
closing l os (mode.In s) n d h = in_closing l os s n d
closing l os (mode.Pair s) n d h = to_closing l os (mode.Pair s) (mode.In s) n 97 d class.Name effect.Nothing (effect.Byte 7) letter_is refl (λ is. refl) (λ e. in_closing l os s n e)
closing l os (mode.Join s) n d h = dot_closing l os s (mode.Join s) n d effect.Nothing (join_dot (level_in l os) s (nat_lt 0 n)) (λ is. refl)
closing l os (mode.Dollar s) n d h = dot_closing l os s (mode.Dollar s) n d effect.Dollar refl (λ is. refl)
closing l os (mode.Colon s) n d h = dot_closing l os s (mode.Colon s) n d effect.DollarColon refl (λ is. refl)
closing l os (mode.Name s) n d h = dot_closing l os s (mode.Name s) n d effect.Value refl (λ is. refl)
closing l os (mode.NameBrace s) n d h = to_closing l os (mode.NameBrace s) (mode.In s) n 125 d class.Close effect.Nothing effect.Value close_is refl (λ is. refl) (λ e. in_closing l os s n e)
closing l os (mode.Number s x) n d h = number_closing l os s x.escape x.left x.value n d h
closing l os mode.BraceFirst n d h = to_closing l os mode.BraceFirst (mode.Behind delimiter.Brace) n 125 d class.Close effect.Nothing effect.Word close_is refl (λ is. refl) (λ e. behind_closing l delimiter.Brace os n e)
closing l os mode.BraceStar n d h = to_closing l os mode.BraceStar mode.BehindStar n 125 d class.Close effect.Nothing effect.Nothing close_is refl (λ is. refl) (λ e. star_closing l os n e)
closing l os mode.BehindStar n d h = star_closing l os n d
closing l os mode.StarPair n d h = to_closing l os mode.StarPair mode.Gap n 10 d class.Newline effect.Nothing effect.Word newline_is refl (λ is. refl) (λ e. gap_closing l os n e)
closing l os mode.Braced n d h = braced_closing l os n d
closing l os mode.BracedPair n d h = to_closing l os mode.BracedPair mode.Braced n 46 d class.Plain (effect.Byte 92) (effect.Byte 46) dot_is refl (λ is. refl) (λ e. braced_closing l os n e)
closing l os mode.BracedJoin n d h = to_closing l os mode.BracedJoin mode.Braced n 46 d class.Plain effect.Nothing (effect.Byte 46) dot_is (dot_braced (nat_lt 0 n)) (λ is. refl) (λ e. braced_closing l os n e)
closing l os (mode.Behind k) n d h = behind_closing l k os n d
closing l os (mode.BehindPair k) n d h = to_closing l os (mode.BehindPair k) mode.Gap n 10 d class.Newline effect.Nothing effect.Nothing newline_is refl (λ is. refl) (λ e. gap_closing l os n e)
