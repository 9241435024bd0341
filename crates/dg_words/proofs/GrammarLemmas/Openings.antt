-- What is open in a reading stays open until the byte that ends it.
use Rattle.std.specs.Prelude.{◌≡◌, ℕ, zero, suc, List, [], ◌∷◌, refl, Ok, Bool, true, false, Option, None, Some, cond}
use Rattle.std.proofs.Common.{◌∙◌, sym, subst}
use Rattle.dg_lists.specs.declared.fault.WordFault.{WordFault}
use Rattle.dg_lists.specs.declared.fault.WordFault.TheVariants as fault
use Rattle.dg_lists.specs.declared.kinds.Class.{Class}
use Rattle.dg_lists.specs.declared.kinds.Class.TheVariants as class
use Rattle.dg_lists.specs.declared.kinds.Effect.{Effect}
use Rattle.dg_lists.specs.declared.kinds.Effect.TheVariants as effect
use Rattle.dg_lists.specs.declared.kinds.Delimiter.{Delimiter}
use Rattle.dg_lists.specs.declared.kinds.Delimiter.TheVariants as delimiter
use Rattle.dg_lists.specs.declared.kinds.Digits as kinds
use Rattle.dg_lists.specs.declared.kinds.Escape.{Escape}
use Rattle.dg_words.specs.declared.kinds.Level.{Level}
use Rattle.dg_words.specs.declared.kinds.Level.TheVariants as level
use Rattle.dg_lists.specs.declared.kinds.Mode.{Mode}
use Rattle.dg_lists.specs.declared.kinds.Mode.TheVariants as mode
use Rattle.dg_lists.specs.declared.kinds.Target.{Target}
use Rattle.dg_lists.specs.declared.kinds.Target.TheVariants as target
use Rattle.dg_lists.specs.declared.kinds.Context.{Context}
use Rattle.dg_lists.specs.declared.kinds.Context.TheVariants as context
use Rattle.dg_lists.specs.declared.kinds.Transition.{Transition}
use Rattle.dg_words.specs.declared.word.Word.{Word}
use Rattle.dg_words.specs.Transitions.{heard}
use Rattle.dg_lists.specs.Transitions.{behind_number, counted, escaped, goes, is_space, whole as whole_number, with_digit, written}
use Rattle.dg_words.specs.Transitions.{after, behind, behind_pair, behind_star, ends, in_bare, in_brace_first, in_brace_star, in_braced, in_braced_pair, in_colon, in_comment, in_dollar, in_gap, in_gap_pair, in_name, in_name_brace, in_operand, in_pair, in_context, in_star_pair, in_start, in_start_pair, number_ends, numbered, context_ends, transition}
use Rattle.dg_words.specs.Machine.{Draft, end_word, ended, perform}
use Rattle.dg_lists.specs.Grammar.Escapes.{stands_for}
use Rattle.dg_lists.proofs.GrammarLemmas.Numbers.{Paired, paired}

-- faults that miss nothing
abbrev pub IsOther : WordFault → Type 0
IsOther fault.AfterBrace = Unit {0}
IsOther fault.AfterQuote = Unit {0}
IsOther fault.BadCodePoint = Unit {0}
IsOther f = ⊥

-- where parts stand in a mode; between words they would stand bare
abbrev pub context_in : Mode → Context
context_in (mode.In s) = s
context_in (mode.Pair s) = s
context_in (mode.Join s) = s
context_in (mode.Dollar s) = s
context_in (mode.Colon s) = s
context_in (mode.Name s) = s
context_in (mode.NameBrace s) = s
context_in (mode.Number s n) = s
context_in mode.Operand = context.Alone
context_in m = context.Bare

-- a context that is in no index
abbrev pub IsWordy : Context → Type 0
IsWordy context.Index = ⊥
IsWordy s = Unit {0}

-- what a byte of this class does to what is open
pub data Going (s : Context) (c : Class) : Target → Type 0 where
  stays : {m : Mode} → context_in m ≡ s → Going s c (target.To m)
  words : {m : Mode} → IsWordy s → IsWordy (context_in m) → (s ≡ context.Quoted → c ≡ class.Quote) → Going s c (target.To m)
  deeper : s ≡ context.Bare → Going s c target.Deeper
  shallower : s ≡ context.Bare → Going s c target.Shallower
  bracket : c ≡ class.LeftBracket → Going s c (target.Bracket s)
  paren : c ≡ class.LeftParen → Going s c (target.Paren s)
  ends_index : s ≡ context.Index → c ≡ class.RightParen → Going s c target.Leave
  ends_bracket : s ≡ context.Bare → c ≡ class.RightBracket → Going s c target.Leave
  ends_command : s ≡ context.Bare → Going s c target.End
  rests : IsWordy s → (s ≡ context.Quoted → ⊥) → Going s c target.Rest
  fails : {f : WordFault} → IsOther f → Going s c (target.Bad f)

going_bare : (l : Level) (c : Class) (b : ℕ) → Going context.Bare c (in_bare l c b).next
going_bare l class.Blank b = Going.stays refl
going_bare l class.Newline b = Going.ends_command refl
going_bare l class.Semicolon b = Going.ends_command refl
going_bare l class.LeftBracket b = Going.bracket refl
going_bare l class.RightBracket b = Going.ends_bracket refl refl
going_bare l class.Backslash b = Going.stays refl
going_bare l class.Dollar b = Going.stays refl
going_bare l c b = Going.stays refl

-- a byte that is heard as a bracket, a parenthesis or a backslash is one
abbrev Keeps : Class → Type 0
Keeps class.LeftBracket = Unit {0}
Keeps class.RightBracket = Unit {0}
Keeps class.LeftParen = Unit {0}
Keeps class.RightParen = Unit {0}
Keeps class.Backslash = Unit {0}
Keeps c = ⊥

heard_same : (l : Level) (c : Class) → Keeps (heard l c) → heard l c ≡ c
heard_same level.Inside c h = refl
heard_same level.List class.Newline h = absurd h
heard_same level.List class.Semicolon h = absurd h
heard_same level.List class.Hash h = absurd h
heard_same level.List class.RightBracket h = absurd h
heard_same level.List c h = refl
heard_same level.Top class.RightBracket h = absurd h
heard_same level.Top c h = refl
heard_same level.Alone class.RightBracket h = absurd h
heard_same level.Alone c h = refl

pub heard_is : (l : Level) (c k : Class) → Keeps k → heard l c ≡ k → c ≡ k
heard_is l c k h e = sym (heard_same l c (subst Keeps (sym e) h)) ∙ e

going_heard : (l : Level) (c : Class) (x : Target) → Going context.Bare (heard l c) x → Going context.Bare c x
going_heard l c x (Going.stays e) = Going.stays e
going_heard l c x (Going.words i j f) = Going.words i j (λ e. absurd cc)
going_heard l c x (Going.deeper e) = Going.deeper e
going_heard l c x (Going.shallower e) = Going.shallower e
going_heard l c x (Going.bracket e) = Going.bracket (heard_is l c class.LeftBracket tt e)
going_heard l c x (Going.paren e) = Going.paren (heard_is l c class.LeftParen tt e)
going_heard l c x (Going.ends_index i e) = absurd cc
going_heard l c x (Going.ends_bracket i e) = Going.ends_bracket i (heard_is l c class.RightBracket tt e)
going_heard l c x (Going.ends_command e) = Going.ends_command e
going_heard l c x (Going.rests i f) = Going.rests i f
going_heard l c x (Going.fails f) = Going.fails f

going_context : (l : Level) (s : Context) (c : Class) (b : ℕ) → Going s c (in_context l s c b).next
going_context l context.Bare c b = going_heard l c (in_bare l (heard l c) b).next (going_bare l (heard l c) b)
going_context l context.Quoted class.Quote b = Going.words tt tt (λ e. refl)
going_context l context.Quoted class.LeftBracket b = Going.bracket refl
going_context l context.Quoted class.Backslash b = Going.stays refl
going_context l context.Quoted class.Dollar b = Going.stays refl
going_context l context.Quoted c b = Going.stays refl
going_context l context.Index class.RightParen b = Going.ends_index refl refl
going_context l context.Index class.LeftBracket b = Going.bracket refl
going_context l context.Index class.Backslash b = Going.stays refl
going_context l context.Index class.Dollar b = Going.stays refl
going_context l context.Index c b = Going.stays refl
going_context l context.Alone c b = Going.rests tt (λ e. absurd cc)

quotes : {c : Class} → Going context.Bare c (target.To (mode.In context.Quoted))
quotes = Going.words tt tt (λ e. absurd cc)

going_gap : (l : Level) (c : Class) (b : ℕ) → Going context.Bare c (in_gap l c b).next
going_gap l class.Blank b = Going.stays refl
going_gap l class.Newline b = Going.ends_command refl
going_gap l class.Semicolon b = Going.ends_command refl
going_gap l class.Quote b = quotes
going_gap l class.Open b = Going.stays refl
going_gap l class.Backslash b = Going.stays refl
going_gap l c b = going_bare l c b

going_start : (l : Level) (c : Class) (b : ℕ) → Going context.Bare c (in_start l c b).next
going_start l class.Blank b = Going.stays refl
going_start l class.Newline b = Going.stays refl
going_start l class.Semicolon b = Going.stays refl
going_start l class.Hash b = Going.stays refl
going_start l class.Backslash b = Going.stays refl
going_start l c b = going_gap l c b

going_paired : (s : Context) (c : Class) (b v : ℕ) (t : Transition) → Paired s b t v → Going s c t.next
going_paired s c b v t (Paired.one h) = Going.stays refl
going_paired s c b v t (Paired.letter e n h) = Going.stays refl
going_paired s c b v t (Paired.eight h) = Going.stays refl

going_escaped : (s : Context) (c : Class) (b : ℕ) → Going s c (escaped s b).next
going_escaped s c b = going_paired s c b (stands_for b) (escaped s b) (paired s b)

going_pair : (s : Context) (c : Class) (b : ℕ) → Going s c (in_pair s c b).next
going_pair context.Bare class.Newline b = Going.stays refl
going_pair context.Quoted class.Newline b = Going.stays refl
going_pair context.Index class.Newline b = Going.stays refl
going_pair context.Alone class.Newline b = Going.stays refl
going_pair s c b = going_escaped s c b

going_gap_pair : (c : Class) (b : ℕ) → Going context.Bare c (in_gap_pair c b).next
going_gap_pair class.Newline b = Going.stays refl
going_gap_pair c b = going_escaped context.Bare c b

going_start_pair : (c : Class) (b : ℕ) → Going context.Bare c (in_start_pair c b).next
going_start_pair class.Newline b = Going.stays refl
going_start_pair c b = going_escaped context.Bare c b

going_star_pair : (c : Class) (b : ℕ) → Going context.Bare c (in_star_pair c b).next
going_star_pair class.Newline b = Going.stays refl
going_star_pair c b = going_escaped context.Bare c b

going_comment : (c : Class) → Going context.Bare c (in_comment c).next
going_comment class.Newline = Going.stays refl
going_comment class.Backslash = Going.stays refl
going_comment c = Going.stays refl

going_operand : (c : Class) → Going context.Alone c (in_operand c).next
going_operand class.Quote = Going.words tt tt (λ e. absurd cc)
going_operand class.Open = Going.words tt tt (λ e. absurd cc)
going_operand class.LeftBracket = Going.bracket refl
going_operand class.Dollar = Going.stays refl
going_operand c = Going.rests tt (λ e. absurd cc)

going_if : (s : Context) (c : Class) (x : Bool) (t u : Transition) → Going s c t.next → Going s c u.next → Going s c (cond x t u).next
going_if s c true t u h k = h
going_if s c false t u h k = k

going_dollar : (l : Level) (s : Context) (c : Class) (b : ℕ) → Going s c (in_dollar l s c b).next
going_dollar l s class.Name b = Going.stays refl
going_dollar l s class.Colon b = Going.stays refl
going_dollar l s class.LeftParen b = Going.paren refl
going_dollar l s class.Open b = Going.stays refl
going_dollar l s c b = going_context l s c b

going_colon : (l : Level) (s : Context) (c : Class) (b : ℕ) → Going s c (in_colon l s c b).next
going_colon l s class.Colon b = Going.stays refl
going_colon l s c b = going_context l s c b

going_name : (l : Level) (s : Context) (c : Class) (b : ℕ) → Going s c (in_name l s c b).next
going_name l s class.Name b = Going.stays refl
going_name l s class.LeftParen b = Going.paren refl
going_name l s c b = going_context l s c b

going_name_brace : (s : Context) (c : Class) (b : ℕ) → Going s c (in_name_brace s c b).next
going_name_brace s class.Close b = Going.stays refl
going_name_brace s c b = Going.stays refl

going_number : (s : Context) (c : Class) (r : Option Effect) (t : Transition) → Going s c t.next → Going s c (behind_number r t).next
going_number s c (Some d) t h = h
going_number s c None t h = Going.fails tt

going_counted : (s : Context) (c : Class) (e : Escape) (left v : ℕ) → Going s c (counted s e left v).next
going_counted s c e zero v = Going.fails tt
going_counted s c e (suc zero) v = going_number s c (written e v) (goes (mode.In s)) (Going.stays refl)
going_counted s c e (suc (suc left)) v = Going.stays refl

going_numbered : (l : Level) (s : Context) (n : kinds.Digits) (c : Class) (b : ℕ) (r : Option ℕ) → Going s c (numbered l s n c b r).next
going_numbered l s n c b (Some v) = going_counted s c n.escape n.left v
going_numbered l s n c b None = going_number s c (whole_number n) (in_context l s c b) (going_context l s c b)

going_braced : (deep : Bool) (c : Class) (b : ℕ) → Going context.Bare c (in_braced deep c b).next
going_braced true class.Open b = Going.deeper refl
going_braced true class.Close b = Going.shallower refl
going_braced true class.Backslash b = Going.stays refl
going_braced true c b = Going.stays refl
going_braced false class.Open b = Going.deeper refl
going_braced false class.Close b = Going.stays refl
going_braced false class.Backslash b = Going.stays refl
going_braced false c b = Going.stays refl

going_braced_pair : (c : Class) (b : ℕ) → Going context.Bare c (in_braced_pair c b).next
going_braced_pair class.Newline b = Going.stays refl
going_braced_pair c b = Going.stays refl

going_brace_first : (c : Class) (b : ℕ) → Going context.Bare c (in_brace_first c b).next
going_brace_first class.Star b = Going.stays refl
going_brace_first c b = going_braced false c b

going_brace_star : (c : Class) (b : ℕ) → Going context.Bare c (in_brace_star c b).next
going_brace_star class.Close b = Going.stays refl
going_brace_star c b = going_braced false c b

going_behind_star : (l : Level) (c : Class) (b : ℕ) → Going context.Bare c (behind_star l c b).next
going_behind_star l class.Blank b = Going.stays refl
going_behind_star l class.Newline b = Going.ends_command refl
going_behind_star l class.Semicolon b = Going.ends_command refl
going_behind_star l class.RightBracket b = Going.ends_bracket refl refl
going_behind_star l class.Backslash b = Going.stays refl
going_behind_star l class.Quote b = quotes
going_behind_star l class.Open b = Going.stays refl
going_behind_star l c b = going_bare l c b

other_after : (k : Delimiter) → IsOther (after k)
other_after delimiter.Brace = tt
other_after delimiter.Quote = tt

going_behind : (l : Level) (k : Delimiter) (c : Class) → Going context.Bare c (behind l k c).next
going_behind level.Alone k c = Going.rests tt (λ e. absurd cc)
going_behind l k class.Blank = Going.stays refl
going_behind l k class.Newline = Going.ends_command refl
going_behind l k class.Semicolon = Going.ends_command refl
going_behind l k class.RightBracket = Going.ends_bracket refl refl
going_behind l k class.Backslash = Going.stays refl
going_behind l k c = Going.fails (other_after k)

going_behind_pair : (k : Delimiter) (c : Class) → Going context.Bare c (behind_pair k c).next
going_behind_pair k class.Newline = Going.stays refl
going_behind_pair k c = Going.fails (other_after k)

pub going : (l : Level) (deep : Bool) (m : Mode) (c : Class) (b : ℕ) → Going (context_in m) c (transition l deep m c b).next
unfolding transition
going l deep mode.Start c b = going_heard l c (in_start l (heard l c) b).next (going_start l (heard l c) b)
going l deep mode.StartPair c b = going_start_pair c b
going l deep mode.Comment c b = going_comment c
going l deep mode.CommentPair c b = Going.stays refl
going l deep mode.Gap c b = going_heard l c (in_gap l (heard l c) b).next (going_gap l (heard l c) b)
going l deep mode.GapPair c b = going_gap_pair c b
going l deep mode.Operand c b = going_operand c
going l deep (mode.In s) c b = going_context l s c b
going l deep (mode.Pair s) c b = going_pair s c b
going l deep (mode.Join s) c b = going_if s c (is_space b) (goes (mode.Join s)) (in_context l s c b) (Going.stays refl) (going_context l s c b)
going l deep (mode.Dollar s) c b = going_dollar l s c b
going l deep (mode.Colon s) c b = going_colon l s c b
going l deep (mode.Name s) c b = going_name l s c b
going l deep (mode.NameBrace s) c b = going_name_brace s c b
going l deep (mode.Number s n) c b = going_numbered l s n c b (with_digit n b)
going l deep mode.BraceFirst c b = going_brace_first c b
going l deep mode.BraceStar c b = going_brace_star c b
going l deep mode.BehindStar c b = going_heard l c (behind_star l (heard l c) b).next (going_behind_star l (heard l c) b)
going l deep mode.StarPair c b = going_star_pair c b
going l deep mode.Braced c b = going_braced deep c b
going l deep mode.BracedPair c b = going_braced_pair c b
going l deep mode.BracedJoin c b = going_if context.Bare c (is_space b) (goes mode.BracedJoin) (in_braced deep c b) (Going.stays refl) (going_braced deep c b)
going l deep (mode.Behind k) c b = going_heard l c (behind l k (heard l c)).next (going_behind l k (heard l c))
going l deep (mode.BehindPair k) c b = going_behind_pair k c

-- no effect opens an index or ends one
word_indices : (is : List Context) (d : Draft) → (end_word is d).indices ≡ d.indices
word_indices [] d = refl
word_indices (s ∷ is) d = refl

pub effect_indices : (e : Effect) (d : Draft) → (perform e d).indices ≡ d.indices
effect_indices effect.Nothing d = refl
effect_indices (effect.Byte b) d = refl
effect_indices (effect.Code c) d = refl
effect_indices effect.Dollar d = refl
effect_indices effect.DollarColon d = refl
effect_indices effect.Close d = refl
effect_indices effect.Global d = refl
effect_indices effect.Value d = refl
effect_indices effect.Expand d = refl
effect_indices effect.Word d = word_indices d.indices d

-- within brackets no text ends
inside_context : (s : Context) (x y : Effect) (d : Draft) (ws : List Word) → ended (context_ends false s x y) d ≡ Ok ws → ⊥
inside_context context.Bare x y d ws e = absurd cc
inside_context context.Quoted x y d ws e = absurd cc
inside_context context.Index x y d ws e = absurd cc
inside_context context.Alone x y d ws e = absurd cc

inside_number : (s : Context) (r : Option Effect) (d : Draft) (ws : List Word) → ended (number_ends false s r) d ≡ Ok ws → ⊥
inside_number s (Some x) d ws e = inside_context s effect.Nothing x d ws e
inside_number s None d ws e = inside_context s effect.Nothing effect.Nothing d ws e

pub inside_ends : (m : Mode) (d : Draft) (ws : List Word) → ended (ends false m) d ≡ Ok ws → ⊥
unfolding ends
inside_ends (mode.In s) d ws e = inside_context s effect.Nothing effect.Nothing d ws e
inside_ends (mode.Pair s) d ws e = inside_context s effect.Nothing (effect.Byte 92) d ws e
inside_ends (mode.Join s) d ws e = inside_context s effect.Nothing effect.Nothing d ws e
inside_ends (mode.Dollar s) d ws e = inside_context s effect.Nothing effect.Dollar d ws e
inside_ends (mode.Colon s) d ws e = inside_context s effect.Nothing effect.DollarColon d ws e
inside_ends (mode.Name s) d ws e = inside_context s effect.Nothing effect.Value d ws e
inside_ends (mode.Number s n) d ws e = inside_number s (whole_number n) d ws e
inside_ends m d ws e = absurd cc
