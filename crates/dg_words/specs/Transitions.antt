-- The effect of one more byte on the open items of a script.
use Rattle.std.specs.Prelude.{ℕ, Bool, true, false, Option, None, Some, if◌then◌else◌}
use Rattle.dg_lists.specs.declared.fault.WordFault.{WordFault}
use Rattle.dg_lists.specs.declared.fault.WordFault.TheVariants.{MissingBrace, MissingBracket, MissingQuote, MissingParen, AfterBrace, AfterQuote, BadCodePoint}
use Rattle.dg_lists.specs.declared.kinds.Class.{Class}
use Rattle.dg_lists.specs.declared.kinds.Class.TheVariants as class
use Rattle.dg_words.specs.declared.kinds.Level.{Level}
use Rattle.dg_words.specs.declared.kinds.Level.TheVariants as level
use Rattle.dg_lists.specs.declared.kinds.Context.{Context}
use Rattle.dg_lists.specs.declared.kinds.Context.TheVariants.{Bare, Quoted, Index, Alone}
use Rattle.dg_lists.specs.declared.kinds.Digits.{Digits}
use Rattle.dg_lists.specs.declared.kinds.Delimiter.{Delimiter}
use Rattle.dg_lists.specs.declared.kinds.Delimiter.TheVariants as delimiter
use Rattle.dg_lists.specs.declared.kinds.Mode.{Mode}
use Rattle.dg_lists.specs.declared.kinds.Mode.TheVariants.{Start, StartPair, Comment, CommentPair, Gap, GapPair, Operand, In, Pair, Join, Dollar, Colon, Name, NameBrace, Number, BraceFirst, BraceStar, BehindStar, StarPair, Braced, BracedPair, BracedJoin, Behind, BehindPair}
use Rattle.dg_lists.specs.declared.kinds.Effect.{Effect}
use Rattle.dg_lists.specs.declared.kinds.Effect.TheVariants as effect
use Rattle.dg_lists.specs.declared.kinds.Target.TheVariants as target
use Rattle.dg_lists.specs.declared.kinds.Transition.{Transition}
use Rattle.dg_lists.specs.declared.kinds.Ending.{Ending}
use Rattle.dg_lists.specs.declared.kinds.Ending.TheVariants as ending
use Rattle.dg_lists.specs.Transitions.{does, puts, goes, in_braces, behind_effect, with_digit, whole, behind_number, counted, escaped, is_space}

-- The class of a byte between words: `]` ends only a bracket, and a list has no commands.
abbrev pub heard : Level → Class → Class
heard level.Inside c = c
heard level.List class.Newline = class.Blank
heard level.List class.Semicolon = class.Plain
heard level.List class.Hash = class.Plain
heard level.List class.RightBracket = class.Plain
heard level.List c = c
heard level.Top class.RightBracket = class.Plain
heard level.Top c = c
heard level.Alone class.RightBracket = class.Plain
heard level.Alone c = c

abbrev pub in_bare : Level → Class → ℕ → Transition
in_bare l class.Blank b = does effect.Word (target.To Gap)
in_bare l class.Newline b = does effect.Word target.End
in_bare l class.Semicolon b = does effect.Word target.End
in_bare l class.LeftBracket b = does effect.Nothing (target.Bracket Bare)
in_bare l class.RightBracket b = does effect.Nothing target.Leave
in_bare l class.Backslash b = goes (Pair Bare)
in_bare l class.Dollar b = goes (Dollar Bare)
in_bare l c b = puts b (In Bare)

abbrev pub in_quoted : Class → ℕ → Transition
in_quoted class.Quote b = does effect.Word (target.To (Behind delimiter.Quote))
in_quoted class.LeftBracket b = does effect.Nothing (target.Bracket Quoted)
in_quoted class.Backslash b = goes (Pair Quoted)
in_quoted class.Dollar b = goes (Dollar Quoted)
in_quoted c b = puts b (In Quoted)

abbrev pub in_index : Class → ℕ → Transition
in_index class.RightParen b = does effect.Nothing target.Leave
in_index class.LeftBracket b = does effect.Nothing (target.Bracket Index)
in_index class.Backslash b = goes (Pair Index)
in_index class.Dollar b = goes (Dollar Index)
in_index c b = puts b (In Index)

-- where parts stand
abbrev pub in_context : Level → Context → Class → ℕ → Transition
in_context l Bare c b = in_bare l (heard l c) b
in_context l Quoted c b = in_quoted c b
in_context l Index c b = in_index c b
in_context l Alone c b = does effect.Word target.Rest

abbrev pub numbered : Level → Context → Digits → Class → ℕ → Option ℕ → Transition
numbered l s n c b (Some v) = counted s n.escape n.left v
numbered l s n c b None = behind_number (whole n) (in_context l s c b)

-- a joined line
abbrev pub joined : Context → Transition
joined Bare = does effect.Word (target.To Gap)
joined s = puts 32 (Join s)

abbrev pub in_pair : Context → Class → ℕ → Transition
in_pair s class.Newline b = joined s
in_pair s c b = escaped s b

abbrev pub in_join : Level → Context → Class → ℕ → Transition
in_join l s c b = if is_space b then goes (Join s) else in_context l s c b

abbrev pub in_dollar : Level → Context → Class → ℕ → Transition
in_dollar l s class.Name b = behind_effect effect.Close (puts b (Name s))
in_dollar l s class.Colon b = goes (Colon s)
in_dollar l s class.LeftParen b = behind_effect effect.Close (does effect.Nothing (target.Paren s))
in_dollar l s class.Open b = does effect.Close (target.To (NameBrace s))
in_dollar l s c b = behind_effect effect.Dollar (in_context l s c b)

abbrev pub in_colon : Level → Context → Class → ℕ → Transition
in_colon l s class.Colon b = does effect.Global (target.To (Name s))
in_colon l s c b = behind_effect effect.DollarColon (in_context l s c b)

abbrev pub in_name : Level → Context → Class → ℕ → Transition
in_name l s class.Name b = puts b (Name s)
in_name l s class.LeftParen b = does effect.Nothing (target.Paren s)
in_name l s c b = behind_effect effect.Value (in_context l s c b)

abbrev pub in_name_brace : Context → Class → ℕ → Transition
in_name_brace s class.Close b = does effect.Value (target.To (In s))
in_name_brace s c b = puts b (NameBrace s)

-- between words: only what begins a word needs more than in_bare
abbrev pub in_gap : Level → Class → ℕ → Transition
in_gap l class.Blank b = goes Gap
in_gap l class.Newline b = does effect.Nothing target.End
in_gap l class.Semicolon b = does effect.Nothing target.End
in_gap l class.Quote b = goes (In Quoted)
in_gap l class.Open b = goes BraceFirst
in_gap l class.Backslash b = goes GapPair
in_gap l c b = in_bare l c b

abbrev pub in_gap_pair : Class → ℕ → Transition
in_gap_pair class.Newline b = goes Gap
in_gap_pair c b = escaped Bare b

abbrev pub in_start : Level → Class → ℕ → Transition
in_start l class.Blank b = goes Start
in_start l class.Newline b = goes Start
in_start l class.Semicolon b = goes Start
in_start l class.Hash b = goes Comment
in_start l class.Backslash b = goes StartPair
in_start l c b = in_gap l c b

abbrev pub in_start_pair : Class → ℕ → Transition
in_start_pair class.Newline b = goes Start
in_start_pair c b = escaped Bare b

abbrev pub in_comment : Class → Transition
in_comment class.Newline = goes Start
in_comment class.Backslash = goes CommentPair
in_comment c = goes Comment

abbrev pub in_operand : Class → Transition
in_operand class.Quote = goes (In Quoted)
in_operand class.Open = goes Braced
in_operand class.LeftBracket = does effect.Nothing (target.Bracket Alone)
in_operand class.Dollar = goes (Dollar Alone)
in_operand c = does effect.Word target.Rest

-- inside braces, where others may be open within
abbrev pub in_braced : Bool → Class → ℕ → Transition
in_braced deep c b = in_braces (goes BracedPair) deep c b

-- both bytes of a pair stay, but for a joined line
abbrev pub in_braced_pair : Class → ℕ → Transition
in_braced_pair class.Newline b = puts 32 BracedJoin
in_braced_pair c b = behind_effect (effect.Byte 92) (puts b Braced)

abbrev pub in_braced_join : Bool → Class → ℕ → Transition
in_braced_join deep c b = if is_space b then goes BracedJoin else in_braced deep c b

abbrev pub in_brace_first : Class → ℕ → Transition
in_brace_first class.Star b = puts b BraceStar
in_brace_first c b = in_braced false c b

abbrev pub in_brace_star : Class → ℕ → Transition
in_brace_star class.Close b = goes BehindStar
in_brace_star c b = in_braced false c b

-- the byte after `{*}` decides whether it is a prefix or a word
abbrev pub behind_star : Level → Class → ℕ → Transition
behind_star l class.Blank b = does effect.Word (target.To Gap)
behind_star l class.Newline b = does effect.Word target.End
behind_star l class.Semicolon b = does effect.Word target.End
behind_star l class.RightBracket b = does effect.Nothing target.Leave
behind_star l class.Backslash b = goes StarPair
behind_star l class.Quote b = does effect.Expand (target.To (In Quoted))
behind_star l class.Open b = does effect.Expand (target.To Braced)
behind_star l c b = behind_effect effect.Expand (in_bare l c b)

abbrev pub in_star_pair : Class → ℕ → Transition
in_star_pair class.Newline b = does effect.Word (target.To Gap)
in_star_pair c b = behind_effect effect.Expand (escaped Bare b)

abbrev pub after : Delimiter → WordFault
after delimiter.Brace = AfterBrace
after delimiter.Quote = AfterQuote

-- behind a braced or a quoted word
abbrev pub behind : Level → Delimiter → Class → Transition
behind level.Alone d c = does effect.Nothing target.Rest
behind l d class.Blank = goes Gap
behind l d class.Newline = does effect.Nothing target.End
behind l d class.Semicolon = does effect.Nothing target.End
behind l d class.RightBracket = does effect.Nothing target.Leave
behind l d class.Backslash = goes (BehindPair d)
behind l d c = does effect.Nothing (target.Bad (after d))

abbrev pub behind_pair : Delimiter → Class → Transition
behind_pair d class.Newline = goes Gap
behind_pair d c = does effect.Nothing (target.Bad (after d))

unfoldable pub transition : Level → Bool → Mode → Class → ℕ → Transition
transition l deep Start c b = in_start l (heard l c) b
transition l deep StartPair c b = in_start_pair c b
transition l deep Comment c b = in_comment c
transition l deep CommentPair c b = goes Comment
transition l deep Gap c b = in_gap l (heard l c) b
transition l deep GapPair c b = in_gap_pair c b
transition l deep Operand c b = in_operand c
transition l deep (In s) c b = in_context l s c b
transition l deep (Pair s) c b = in_pair s c b
transition l deep (Join s) c b = in_join l s c b
transition l deep (Dollar s) c b = in_dollar l s c b
transition l deep (Colon s) c b = in_colon l s c b
transition l deep (Name s) c b = in_name l s c b
transition l deep (NameBrace s) c b = in_name_brace s c b
transition l deep (Number s n) c b = numbered l s n c b (with_digit n b)
transition l deep BraceFirst c b = in_brace_first c b
transition l deep BraceStar c b = in_brace_star c b
transition l deep BehindStar c b = behind_star l (heard l c) b
transition l deep StarPair c b = in_star_pair c b
transition l deep Braced c b = in_braced deep c b
transition l deep BracedPair c b = in_braced_pair c b
transition l deep BracedJoin c b = in_braced_join deep c b
transition l deep (Behind d) c b = behind l d (heard l c)
transition l deep (BehindPair d) c b = behind_pair d c

-- the text ends while parts stand open
abbrev pub context_ends : Bool → Context → Effect → Effect → Ending
context_ends top Quoted d e = ending.Bad MissingQuote
context_ends top Index d e = ending.Bad MissingParen
context_ends true s d e = ending.Word d e
context_ends false s d e = ending.Bad MissingBracket

abbrev pub number_ends : Bool → Context → Option Effect → Ending
number_ends top s (Some d) = context_ends top s effect.Nothing d
number_ends true Bare None = ending.Bad BadCodePoint
number_ends true Alone None = ending.Bad BadCodePoint
number_ends top s None = context_ends top s effect.Nothing effect.Nothing

abbrev pub rests : Bool → Ending → Ending
rests true e = e
rests false e = ending.Bad MissingBracket

-- The effect of the end of the text, outside brackets or within: the innermost open item is missing its end.
unfoldable pub ends : Bool → Mode → Ending
ends top Start = rests top ending.Done
ends top StartPair = rests top (ending.Word effect.Nothing (effect.Byte 92))
ends top Comment = rests top ending.Done
ends top CommentPair = rests top ending.Done
ends top Gap = rests top ending.Done
ends top GapPair = rests top (ending.Word effect.Nothing (effect.Byte 92))
ends top Operand = rests top (ending.Word effect.Nothing effect.Nothing)
ends top (In s) = context_ends top s effect.Nothing effect.Nothing
ends top (Pair s) = context_ends top s effect.Nothing (effect.Byte 92)
ends top (Join s) = context_ends top s effect.Nothing effect.Nothing
ends top (Dollar s) = context_ends top s effect.Nothing effect.Dollar
ends top (Colon s) = context_ends top s effect.Nothing effect.DollarColon
ends top (Name s) = context_ends top s effect.Nothing effect.Value
ends top (NameBrace s) = ending.Bad MissingBrace
ends top (Number s n) = number_ends top s (whole n)
ends top BraceFirst = ending.Bad MissingBrace
ends top BraceStar = ending.Bad MissingBrace
ends top BehindStar = rests top (ending.Word effect.Nothing effect.Nothing)
ends top StarPair = rests top (ending.Word effect.Expand (effect.Byte 92))
ends top Braced = ending.Bad MissingBrace
ends top BracedPair = ending.Bad MissingBrace
ends top BracedJoin = ending.Bad MissingBrace
ends top (Behind d) = rests top ending.Done
ends top (BehindPair d) = rests top (ending.Bad (after d))
