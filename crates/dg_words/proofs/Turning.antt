-- What each transition keeps: its faults are the text's own, an index is left only by its end, and behind a word there are words.
use Rattle.std.specs.Prelude.{◌≡◌, ◌≢◌, ℕ, zero, suc, Bool, true, false, cond, ◌⊎◌, Option, None, Some, ◌==◌, ◌-◌, nat_lt, refl}
use Rattle.std.proofs.Common.{inl, inr}
use Rattle.std.proofs.lemmas.Bool.{false≢true}
use Rattle.dg_lists.specs.declared.fault.WordFault.TheVariants.{Memory}
use Rattle.dg_lists.specs.declared.kinds.Class.{Class}
use Rattle.dg_lists.specs.declared.kinds.Class.TheVariants as class
use Rattle.dg_words.specs.declared.kinds.Level.TheVariants as level
use Rattle.dg_lists.specs.declared.kinds.Context.{Context}
use Rattle.dg_lists.specs.declared.kinds.Context.TheVariants.{Bare, Quoted, Index, Alone}
use Rattle.dg_lists.specs.declared.kinds.Escape.{Escape}
use Rattle.dg_lists.specs.declared.kinds.Escape.TheVariants as escape
use Rattle.dg_lists.specs.declared.kinds.Digits.{Digits}
use Rattle.dg_lists.specs.declared.kinds.Delimiter.{Delimiter}
use Rattle.dg_lists.specs.declared.kinds.Delimiter.TheVariants as delimiter
use Rattle.dg_lists.specs.declared.kinds.Mode.{Mode}
use Rattle.dg_lists.specs.declared.kinds.Mode.TheVariants.{Start, StartPair, Comment, CommentPair, Gap, GapPair, Operand, In, Pair, Join, Dollar, Colon, Name, NameBrace, Number, BraceFirst, BraceStar, BehindStar, StarPair, Braced, BracedPair, BracedJoin, Behind, BehindPair}
use Rattle.dg_lists.specs.declared.kinds.Effect.{Effect}
use Rattle.dg_lists.specs.declared.kinds.Effect.TheVariants as effect
use Rattle.dg_lists.specs.declared.kinds.Target.{Target}
use Rattle.dg_lists.specs.declared.kinds.Target.TheVariants as target
use Rattle.dg_lists.specs.declared.kinds.Transition.{Transition}
use Rattle.dg_words.specs.Transitions.{heard}
use Rattle.dg_lists.specs.Transitions.{behind_number, counted, does, escaped, goes, is_space, puts, whole, with_digit, written}
use Rattle.dg_words.specs.Transitions.{after, behind, behind_pair, behind_star, in_bare, in_brace_first, in_brace_star, in_braced, in_braced_join, in_braced_pair, in_colon, in_comment, in_dollar, in_gap, in_gap_pair, in_index, in_join, in_name, in_name_brace, in_operand, in_pair, in_quoted, in_context, in_star_pair, in_start, in_start_pair, joined, numbered, transition}

abbrev pub is_index : Context → Bool
is_index Index = true
is_index s = false

-- where the item of a mode stands
abbrev pub home : Mode → Context
home (In s) = s
home (Pair s) = s
home (Join s) = s
home (Dollar s) = s
home (Colon s) = s
home (Name s) = s
home (NameBrace s) = s
home (Number s n) = s
home m = Bare

-- no word is open, and one was
abbrev pub behind_word : Mode → Bool
behind_word Gap = true
behind_word GapPair = true
behind_word (Behind d) = true
behind_word (BehindPair d) = true
behind_word m = false

abbrev pub ends_word : Effect → Bool
ends_word effect.Word = true
ends_word d = false

-- from an item that stands in h, behind a word or not, with a word that ends or not
abbrev pub Flow : Context → Bool → Bool → Target → Type 0
Flow h w e (target.To m) = (is_index h ≡ true → is_index (home m) ≡ true) × (behind_word m ≡ true → (w ≡ true) ⊎ (e ≡ true))
Flow h w e target.Deeper = is_index h ≡ false
Flow h w e target.Shallower = is_index h ≡ false
Flow h w e (target.Bracket s) = is_index h ≡ true → is_index s ≡ true
Flow h w e (target.Paren s) = is_index h ≡ true → is_index s ≡ true
Flow h w e target.Leave = is_index h ≡ true
Flow h w e target.End = (w ≡ true) ⊎ (e ≡ true)
Flow h w e target.Rest = (w ≡ true) ⊎ (e ≡ true)
Flow h w e (target.Bad f) = f ≢ Memory

abbrev pub Flows : Context → Bool → Transition → Type 0
Flows h w t = Flow h w (ends_word t.second) t.next × (ends_word t.second ≡ true → is_index h ≡ false)

either : (h : Context) (w x : Bool) (t u : Transition) → Flows h w t → Flows h w u → Flows h w (cond x t u)
either h w true t u a b = a
either h w false t u a b = b

-- nothing but a mode of the same place
stays : (s : Context) (w : Bool) (d : Effect) (m : Mode) → ends_word d ≡ false → home m ≡ s → behind_word m ≡ false → Flows s w (does d (target.To m))
stays s w d m e h b = ((λ i. cc, λ x. absurd cc), λ x. absurd cc)

-- a byte of a bare word, at the top
bare_flows : (w : Bool) (c : Class) (b : ℕ) → Flows Bare w (in_bare level.Top (heard level.Top c) b)
bare_flows w class.Blank b = ((λ i. absurd (false≢true i), λ x. inr refl), λ x. refl)
bare_flows w class.Newline b = (inr refl, λ x. refl)
bare_flows w class.Semicolon b = (inr refl, λ x. refl)
bare_flows w class.LeftBracket b = (λ i. absurd (false≢true i), λ x. refl)
bare_flows w class.RightBracket b = ((λ i. absurd (false≢true i), λ x. absurd (false≢true x)), λ x. refl)
bare_flows w class.Backslash b = ((λ i. absurd (false≢true i), λ x. absurd (false≢true x)), λ x. refl)
bare_flows w class.Dollar b = ((λ i. absurd (false≢true i), λ x. absurd (false≢true x)), λ x. refl)
bare_flows w c b = ((λ i. absurd (false≢true i), λ x. absurd (false≢true x)), λ x. refl)

quoted_flows : (w : Bool) (c : Class) (b : ℕ) → Flows Quoted w (in_quoted c b)
quoted_flows w class.Quote b = ((λ i. absurd (false≢true i), λ x. inr refl), λ x. refl)
quoted_flows w class.LeftBracket b = (λ i. absurd (false≢true i), λ x. refl)
quoted_flows w class.Backslash b = ((λ i. absurd (false≢true i), λ x. absurd (false≢true x)), λ x. refl)
quoted_flows w class.Dollar b = ((λ i. absurd (false≢true i), λ x. absurd (false≢true x)), λ x. refl)
quoted_flows w c b = ((λ i. absurd (false≢true i), λ x. absurd (false≢true x)), λ x. refl)

index_flows : (w : Bool) (c : Class) (b : ℕ) → Flows Index w (in_index c b)
index_flows w class.RightParen b = (refl, λ x. absurd (false≢true x))
index_flows w class.LeftBracket b = (λ i. refl, λ x. absurd (false≢true x))
index_flows w class.Backslash b = ((λ i. refl, λ x. absurd (false≢true x)), λ x. absurd (false≢true x))
index_flows w class.Dollar b = ((λ i. refl, λ x. absurd (false≢true x)), λ x. absurd (false≢true x))
index_flows w c b = ((λ i. refl, λ x. absurd (false≢true x)), λ x. absurd (false≢true x))

context_flows : (w : Bool) (s : Context) (c : Class) (b : ℕ) → Flows s w (in_context level.Top s c b)
context_flows w Bare c b = bare_flows w c b
context_flows w Quoted c b = quoted_flows w c b
context_flows w Index c b = index_flows w c b
context_flows w Alone c b = (inr refl, λ x. refl)

puts_flows : (w : Bool) (s : Context) (b : ℕ) → Flows s w (puts b (In s))
puts_flows w s b = stays s w (effect.Byte b) (In s) refl refl refl

num_flows : (w : Bool) (s : Context) (n : Digits) → Flows s w (goes (Number s n))
num_flows w s n = stays s w effect.Nothing (Number s n) refl refl refl

escaped_flows : (w : Bool) (s : Context) (b : ℕ) → Flows s w (escaped s b)
escaped_flows w s b =
    either s w (b == 97) _ _ (puts_flows w s 7) (either s w (b == 98) _ _ (puts_flows w s 8) (either s w (b == 102) _ _ (puts_flows w s 12) (either s w (b == 110) _ _ (puts_flows w s 10)
    (either s w (b == 114) _ _ (puts_flows w s 13) (either s w (b == 116) _ _ (puts_flows w s 9) (either s w (b == 118) _ _ (puts_flows w s 11)
    (either s w (b == 120) _ _ (num_flows w s (record { escape = escape.Byte; left = 2; value = 0 })) (either s w (b == 117) _ _ (num_flows w s (record { escape = escape.Short; left = 4; value = 0 }))
    (either s w (b == 85) _ _ (num_flows w s (record { escape = escape.Long; left = 8; value = 0 }))
    (either s w (nat_lt b 48) _ _ (puts_flows w s b) (either s w (nat_lt b 56) _ _ (num_flows w s (record { escape = escape.Octal; left = 2; value = b - 48 })) (puts_flows w s b))))))))))))

written_flows : (w : Bool) (s : Context) (d : Option Effect) (t : Transition) → Flows s w t → Flows s w (behind_number d t)
written_flows w s (Some d) t h = h
written_flows w s None t h = (λ x. cc, λ x. absurd (false≢true x))

same_flows : (w : Bool) (s : Context) → Flows s w (goes (In s))
same_flows w s = stays s w effect.Nothing (In s) refl refl refl

counted_flows : (w : Bool) (s : Context) (e : Escape) (n v : ℕ) → Flows s w (counted s e n v)
counted_flows w s e zero v = (λ x. cc, λ x. absurd (false≢true x))
counted_flows w s e (suc zero) v = written_flows w s (written e v) (goes (In s)) (same_flows w s)
counted_flows w s e (suc (suc n)) v = num_flows w s (record { escape = e; left = suc n; value = v })

numbered_flows : (w : Bool) (s : Context) (n : Digits) (c : Class) (b : ℕ) (v : Option ℕ) → Flows s w (numbered level.Top s n c b v)
numbered_flows w s n c b (Some v) = counted_flows w s n.escape n.left v
numbered_flows w s n c b None = written_flows w s (whole n) (in_context level.Top s c b) (context_flows w s c b)

joined_flows : (w : Bool) (s : Context) → Flows s w (joined s)
joined_flows w Bare = ((λ i. absurd (false≢true i), λ x. inr refl), λ x. refl)
joined_flows w Quoted = stays Quoted w (effect.Byte 32) (Join Quoted) refl refl refl
joined_flows w Index = stays Index w (effect.Byte 32) (Join Index) refl refl refl
joined_flows w Alone = stays Alone w (effect.Byte 32) (Join Alone) refl refl refl

pair_flows : (w : Bool) (s : Context) (c : Class) (b : ℕ) → Flows s w (in_pair s c b)
pair_flows w s class.Newline b = joined_flows w s
pair_flows w s c b = escaped_flows w s b

join_flows : (w : Bool) (s : Context) (c : Class) (b : ℕ) → Flows s w (in_join level.Top s c b)
join_flows w s c b = either s w (is_space b) _ _ (stays s w effect.Nothing (Join s) refl refl refl) (context_flows w s c b)

dollar_flows : (w : Bool) (s : Context) (c : Class) (b : ℕ) → Flows s w (in_dollar level.Top s c b)
dollar_flows w s class.Name b = stays s w (effect.Byte b) (Name s) refl refl refl
dollar_flows w s class.Colon b = stays s w effect.Nothing (Colon s) refl refl refl
dollar_flows w s class.LeftParen b = (λ i. i, λ x. absurd (false≢true x))
dollar_flows w s class.Open b = stays s w effect.Close (NameBrace s) refl refl refl
dollar_flows w s c b = context_flows w s c b

colon_flows : (w : Bool) (s : Context) (c : Class) (b : ℕ) → Flows s w (in_colon level.Top s c b)
colon_flows w s class.Colon b = stays s w effect.Global (Name s) refl refl refl
colon_flows w s c b = context_flows w s c b

name_flows : (w : Bool) (s : Context) (c : Class) (b : ℕ) → Flows s w (in_name level.Top s c b)
name_flows w s class.Name b = stays s w (effect.Byte b) (Name s) refl refl refl
name_flows w s class.LeftParen b = (λ i. i, λ x. absurd (false≢true x))
name_flows w s c b = context_flows w s c b

name_brace_flows : (w : Bool) (s : Context) (c : Class) (b : ℕ) → Flows s w (in_name_brace s c b)
name_brace_flows w s class.Close b = stays s w effect.Value (In s) refl refl refl
name_brace_flows w s c b = stays s w (effect.Byte b) (NameBrace s) refl refl refl

gap_flows : (c : Class) (b : ℕ) → Flows Bare true (in_gap level.Top (heard level.Top c) b)
gap_flows class.Blank b = ((λ i. absurd (false≢true i), λ x. inl refl), λ x. refl)
gap_flows class.Newline b = (inl refl, λ x. refl)
gap_flows class.Semicolon b = (inl refl, λ x. refl)
gap_flows class.Quote b = ((λ i. absurd (false≢true i), λ x. absurd (false≢true x)), λ x. refl)
gap_flows class.Open b = ((λ i. absurd (false≢true i), λ x. absurd (false≢true x)), λ x. refl)
gap_flows class.Backslash b = ((λ i. absurd (false≢true i), λ x. inl refl), λ x. refl)
gap_flows class.LeftBracket b = (λ i. absurd (false≢true i), λ x. refl)
gap_flows class.RightBracket b = ((λ i. absurd (false≢true i), λ x. absurd (false≢true x)), λ x. refl)
gap_flows class.Dollar b = ((λ i. absurd (false≢true i), λ x. absurd (false≢true x)), λ x. refl)
gap_flows c b = ((λ i. absurd (false≢true i), λ x. absurd (false≢true x)), λ x. refl)

start_flows : (c : Class) (b : ℕ) → Flows Bare false (in_start level.Top (heard level.Top c) b)
start_flows class.Blank b = ((λ i. absurd (false≢true i), λ x. absurd (false≢true x)), λ x. refl)
start_flows class.Newline b = ((λ i. absurd (false≢true i), λ x. absurd (false≢true x)), λ x. refl)
start_flows class.Semicolon b = ((λ i. absurd (false≢true i), λ x. absurd (false≢true x)), λ x. refl)
start_flows class.Hash b = ((λ i. absurd (false≢true i), λ x. absurd (false≢true x)), λ x. refl)
start_flows class.Quote b = ((λ i. absurd (false≢true i), λ x. absurd (false≢true x)), λ x. refl)
start_flows class.Open b = ((λ i. absurd (false≢true i), λ x. absurd (false≢true x)), λ x. refl)
start_flows class.Backslash b = ((λ i. absurd (false≢true i), λ x. absurd (false≢true x)), λ x. refl)
start_flows class.LeftBracket b = (λ i. absurd (false≢true i), λ x. refl)
start_flows class.RightBracket b = ((λ i. absurd (false≢true i), λ x. absurd (false≢true x)), λ x. refl)
start_flows class.Dollar b = ((λ i. absurd (false≢true i), λ x. absurd (false≢true x)), λ x. refl)
start_flows c b = ((λ i. absurd (false≢true i), λ x. absurd (false≢true x)), λ x. refl)

comment_flows : (c : Class) → Flows Bare false (in_comment c)
comment_flows class.Newline = ((λ i. absurd (false≢true i), λ x. absurd (false≢true x)), λ x. refl)
comment_flows class.Backslash = ((λ i. absurd (false≢true i), λ x. absurd (false≢true x)), λ x. refl)
comment_flows c = ((λ i. absurd (false≢true i), λ x. absurd (false≢true x)), λ x. refl)

gap_pair_flows : (c : Class) (b : ℕ) → Flows Bare true (in_gap_pair c b)
gap_pair_flows class.Newline b = ((λ i. absurd (false≢true i), λ x. inl refl), λ x. refl)
gap_pair_flows c b = escaped_flows true Bare b

start_pair_flows : (c : Class) (b : ℕ) → Flows Bare false (in_start_pair c b)
start_pair_flows class.Newline b = ((λ i. absurd (false≢true i), λ x. absurd (false≢true x)), λ x. refl)
start_pair_flows c b = escaped_flows false Bare b

operand_flows : (c : Class) → Flows Bare false (in_operand c)
operand_flows class.Quote = ((λ i. absurd (false≢true i), λ x. absurd (false≢true x)), λ x. refl)
operand_flows class.Open = ((λ i. absurd (false≢true i), λ x. absurd (false≢true x)), λ x. refl)
operand_flows class.LeftBracket = (λ i. absurd (false≢true i), λ x. refl)
operand_flows class.Dollar = ((λ i. absurd (false≢true i), λ x. absurd (false≢true x)), λ x. refl)
operand_flows c = (inr refl, λ x. refl)

braced_flows : (deep : Bool) (c : Class) (b : ℕ) → Flows Bare false (in_braced deep c b)
braced_flows true class.Open b = (refl, λ x. refl)
braced_flows false class.Open b = (refl, λ x. refl)
braced_flows true class.Close b = (refl, λ x. refl)
braced_flows false class.Close b = ((λ i. absurd (false≢true i), λ x. inr refl), λ x. refl)
braced_flows true class.Backslash b = ((λ i. absurd (false≢true i), λ x. absurd (false≢true x)), λ x. refl)
braced_flows false class.Backslash b = ((λ i. absurd (false≢true i), λ x. absurd (false≢true x)), λ x. refl)
braced_flows true c b = ((λ i. absurd (false≢true i), λ x. absurd (false≢true x)), λ x. refl)
braced_flows false c b = ((λ i. absurd (false≢true i), λ x. absurd (false≢true x)), λ x. refl)

braced_pair_flows : (c : Class) (b : ℕ) → Flows Bare false (in_braced_pair c b)
braced_pair_flows class.Newline b = ((λ i. absurd (false≢true i), λ x. absurd (false≢true x)), λ x. refl)
braced_pair_flows c b = ((λ i. absurd (false≢true i), λ x. absurd (false≢true x)), λ x. refl)

braced_join_flows : (deep : Bool) (c : Class) (b : ℕ) → Flows Bare false (in_braced_join deep c b)
braced_join_flows deep c b = either Bare false (is_space b) _ _ ((λ i. absurd (false≢true i), λ x. absurd (false≢true x)), λ x. refl) (braced_flows deep c b)

first_flows : (c : Class) (b : ℕ) → Flows Bare false (in_brace_first c b)
first_flows class.Star b = ((λ i. absurd (false≢true i), λ x. absurd (false≢true x)), λ x. refl)
first_flows c b = braced_flows false c b

brace_star_flows : (c : Class) (b : ℕ) → Flows Bare false (in_brace_star c b)
brace_star_flows class.Close b = ((λ i. absurd (false≢true i), λ x. absurd (false≢true x)), λ x. refl)
brace_star_flows c b = braced_flows false c b

star_flows : (c : Class) (b : ℕ) → Flows Bare false (behind_star level.Top (heard level.Top c) b)
star_flows class.Blank b = ((λ i. absurd (false≢true i), λ x. inr refl), λ x. refl)
star_flows class.Newline b = (inr refl, λ x. refl)
star_flows class.Semicolon b = (inr refl, λ x. refl)
star_flows class.Quote b = ((λ i. absurd (false≢true i), λ x. absurd (false≢true x)), λ x. refl)
star_flows class.Open b = ((λ i. absurd (false≢true i), λ x. absurd (false≢true x)), λ x. refl)
star_flows class.Backslash b = ((λ i. absurd (false≢true i), λ x. absurd (false≢true x)), λ x. refl)
star_flows class.LeftBracket b = (λ i. absurd (false≢true i), λ x. refl)
star_flows class.RightBracket b = ((λ i. absurd (false≢true i), λ x. absurd (false≢true x)), λ x. refl)
star_flows class.Dollar b = ((λ i. absurd (false≢true i), λ x. absurd (false≢true x)), λ x. refl)
star_flows c b = ((λ i. absurd (false≢true i), λ x. absurd (false≢true x)), λ x. refl)

star_pair_flows : (c : Class) (b : ℕ) → Flows Bare false (in_star_pair c b)
star_pair_flows class.Newline b = ((λ i. absurd (false≢true i), λ x. inr refl), λ x. refl)
star_pair_flows c b = escaped_flows false Bare b

after_own : (d : Delimiter) → after d ≢ Memory
after_own delimiter.Brace e = cc
after_own delimiter.Quote e = cc

behind_flows : (d : Delimiter) (c : Class) → Flows Bare true (behind level.Top d (heard level.Top c))
behind_flows d class.Blank = ((λ i. absurd (false≢true i), λ x. inl refl), λ x. refl)
behind_flows d class.Newline = (inl refl, λ x. refl)
behind_flows d class.Semicolon = (inl refl, λ x. refl)
behind_flows d class.Backslash = ((λ i. absurd (false≢true i), λ x. inl refl), λ x. refl)
behind_flows d class.RightBracket = (after_own d, λ x. refl)
behind_flows d c = (after_own d, λ x. refl)

behind_pair_flows : (d : Delimiter) (c : Class) → Flows Bare true (behind_pair d c)
behind_pair_flows d class.Newline = ((λ i. absurd (false≢true i), λ x. inl refl), λ x. refl)
behind_pair_flows d c = (after_own d, λ x. refl)

pub transition_flows : (deep : Bool) (m : Mode) (c : Class) (b : ℕ) → Flows (home m) (behind_word m) (transition level.Top deep m c b)
unfolding transition
transition_flows deep Start c b = start_flows c b
transition_flows deep StartPair c b = start_pair_flows c b
transition_flows deep Comment c b = comment_flows c
transition_flows deep CommentPair c b = ((λ i. absurd (false≢true i), λ x. absurd (false≢true x)), λ x. refl)
transition_flows deep Gap c b = gap_flows c b
transition_flows deep GapPair c b = gap_pair_flows c b
transition_flows deep Operand c b = operand_flows c
transition_flows deep (In s) c b = context_flows false s c b
transition_flows deep (Pair s) c b = pair_flows false s c b
transition_flows deep (Join s) c b = join_flows false s c b
transition_flows deep (Dollar s) c b = dollar_flows false s c b
transition_flows deep (Colon s) c b = colon_flows false s c b
transition_flows deep (Name s) c b = name_flows false s c b
transition_flows deep (NameBrace s) c b = name_brace_flows false s c b
transition_flows deep (Number s n) c b = numbered_flows false s n c b (with_digit n b)
transition_flows deep BraceFirst c b = first_flows c b
transition_flows deep BraceStar c b = brace_star_flows c b
transition_flows deep BehindStar c b = star_flows c b
transition_flows deep StarPair c b = star_pair_flows c b
transition_flows deep Braced c b = braced_flows deep c b
transition_flows deep BracedPair c b = braced_pair_flows c b
transition_flows deep BracedJoin c b = braced_join_flows deep c b
transition_flows deep (Behind d) c b = behind_flows d c
transition_flows deep (BehindPair d) c b = behind_pair_flows d c
