-- The elements of a list, read from its text.
use Rattle.std.specs.Prelude.{ℕ, ◌+◌, ◌-◌, List, [], ◌∷◌, ◌++◌, Bool, Option, None, Some, Result, Ok, Err, if◌then◌else◌, nat_lt}
use Rattle.std.specs.Char.{encode_utf8}
use Rattle.dg_lists.specs.declared.fault.WordFault.{WordFault}
use Rattle.dg_lists.specs.declared.fault.WordFault.TheVariants.{ListBrace, ListQuote, ListAfter, BadCodePoint}
use Rattle.dg_lists.specs.declared.kinds.Class.{Class}
use Rattle.dg_lists.specs.declared.kinds.Class.TheVariants as class
use Rattle.dg_lists.specs.declared.kinds.Context.{Context}
use Rattle.dg_lists.specs.declared.kinds.Context.TheVariants.{Bare, Quoted}
use Rattle.dg_lists.specs.declared.kinds.Digits.{Digits}
use Rattle.dg_lists.specs.declared.kinds.Delimiter.TheVariants as delimiter
use Rattle.dg_lists.specs.declared.kinds.Mode.{Mode}
use Rattle.dg_lists.specs.declared.kinds.Mode.TheVariants.{Gap, In, Pair, Join, Number, Braced, BracedPair, Behind}
use Rattle.dg_lists.specs.declared.kinds.Effect.{Effect}
use Rattle.dg_lists.specs.declared.kinds.Effect.TheVariants as effect
use Rattle.dg_lists.specs.declared.kinds.Target.{Target}
use Rattle.dg_lists.specs.declared.kinds.Target.TheVariants as target
use Rattle.dg_lists.specs.declared.kinds.Transition.{Transition}
use Rattle.dg_lists.specs.declared.kinds.Ending.{Ending}
use Rattle.dg_lists.specs.declared.kinds.Ending.TheVariants as ending
use Rattle.dg_lists.specs.Classes.{class_of}
use Rattle.dg_lists.specs.Transitions.{behind_number, counted, does, escaped, goes, in_braces, is_space, puts, whole, with_digit}

-- between elements
abbrev pub list_gap : Class → ℕ → Transition
list_gap class.Blank b = goes Gap
list_gap class.Newline b = goes Gap
list_gap class.Quote b = goes (In Quoted)
list_gap class.Open b = goes Braced
list_gap class.Backslash b = goes (Pair Bare)
list_gap c b = puts b (In Bare)

abbrev pub list_bare : Class → ℕ → Transition
list_bare class.Blank b = does effect.Word (target.To Gap)
list_bare class.Newline b = does effect.Word (target.To Gap)
list_bare class.Backslash b = goes (Pair Bare)
list_bare c b = puts b (In Bare)

abbrev pub list_quoted : Class → ℕ → Transition
list_quoted class.Quote b = does effect.Word (target.To (Behind delimiter.Quote))
list_quoted class.Backslash b = goes (Pair Quoted)
list_quoted c b = puts b (In Quoted)

abbrev pub list_context : Context → Class → ℕ → Transition
list_context Quoted c b = list_quoted c b
list_context s c b = list_bare c b

-- a joined line is a space of the element
abbrev pub list_pair : Context → Class → ℕ → Transition
list_pair s class.Newline b = puts 32 (Join s)
list_pair s c b = escaped s b

abbrev pub list_join : Context → Class → ℕ → Transition
list_join s c b = if is_space b then goes (Join s) else list_context s c b

abbrev pub list_numbered : Context → Digits → Class → ℕ → Option ℕ → Transition
list_numbered s n c b (Some v) = counted s n.escape n.left v
list_numbered s n c b None = behind_number (whole n) (list_context s c b)

-- a braced element is taken as it stands
abbrev pub list_braced : Bool → Class → ℕ → Transition
list_braced deep c b = in_braces (puts b BracedPair) deep c b

abbrev pub list_behind : Class → Transition
list_behind class.Blank = goes Gap
list_behind class.Newline = goes Gap
list_behind c = does effect.Nothing (target.Bad ListAfter)

unfoldable pub list_transition : Bool → Mode → Class → ℕ → Transition
list_transition deep Gap c b = list_gap c b
list_transition deep (In s) c b = list_context s c b
list_transition deep (Pair s) c b = list_pair s c b
list_transition deep (Join s) c b = list_join s c b
list_transition deep (Number s n) c b = list_numbered s n c b (with_digit n b)
list_transition deep Braced c b = list_braced deep c b
list_transition deep BracedPair c b = puts b Braced
list_transition deep m c b = list_behind c

abbrev pub list_context_ends : Context → Effect → Ending
list_context_ends Quoted d = ending.Bad ListQuote
list_context_ends s d = ending.Word effect.Nothing d

abbrev pub list_number_ends : Context → Option Effect → Ending
list_number_ends s (Some d) = list_context_ends s d
list_number_ends Quoted None = ending.Bad ListQuote
list_number_ends s None = ending.Bad BadCodePoint

unfoldable pub list_ends : Mode → Ending
list_ends (In s) = list_context_ends s effect.Nothing
list_ends (Pair s) = list_context_ends s (effect.Byte 92)
list_ends (Join s) = list_context_ends s effect.Nothing
list_ends (Number s n) = list_number_ends s (whole n)
list_ends Braced = ending.Bad ListBrace
list_ends BracedPair = ending.Bad ListBrace
list_ends m = ending.Done

-- What is open behind a text, the braces inside of a braced element, the whole elements, and the bytes of the one that is open.
pub record Listing : Type 0 where
  pub mode : Mode
  pub depth : ℕ
  pub elements : List (List ℕ)
  pub text : List ℕ

abbrev pub list_effect : Effect → Listing → Listing
list_effect (effect.Byte b) s = record s { text = s.text ++ b ∷ [] }
list_effect (effect.Code c) s = record s { text = s.text ++ encode_utf8 c }
list_effect effect.Word s = record s { elements = s.elements ++ s.text ∷ []; text = [] }
list_effect d s = s

abbrev pub list_follow : Target → Listing → Result Listing WordFault
list_follow (target.To m) s = Ok (record s { mode = m })
list_follow target.Deeper s = Ok (record s { mode = Braced; depth = s.depth + 1 })
list_follow target.Shallower s = Ok (record s { mode = Braced; depth = s.depth - 1 })
list_follow (target.Bad f) s = Err f
list_follow n s = Err ListAfter

unfoldable pub list_step : Listing → ℕ → Result Listing WordFault
list_step s b =
    let t : Transition = list_transition (nat_lt 0 s.depth) s.mode (class_of b) b in
    list_follow t.next (list_effect t.second (list_effect t.first s))

abbrev pub list_ended : Ending → Listing → Result (List (List ℕ)) WordFault
list_ended (ending.Word d e) s = Ok (list_effect effect.Word (list_effect e (list_effect d s))).elements
list_ended ending.Done s = Ok s.elements
list_ended (ending.Bad f) s = Err f

unfoldable pub list_stop : Listing → Result (List (List ℕ)) WordFault
list_stop s = list_ended (list_ends s.mode) s

-- the elements, or the first fault and its place
abbrev pub Elements : Type 0
Elements = Result (List (List ℕ)) (WordFault × ℕ)

abbrev pub list_stopped : Result (List (List ℕ)) WordFault → ℕ → Elements
list_stopped (Ok xs) p = Ok xs
list_stopped (Err f) p = Err (f, p)

abbrev pub list_onward : Result Listing WordFault → ℕ → (Listing → Elements) → Elements
list_onward (Ok s) p more = more s
list_onward (Err f) p more = Err (f, p)

unfoldable pub list_read : List ℕ → Listing → ℕ → Elements
list_read [] s p = list_stopped (list_stop s) p
list_read (b ∷ bs) s p = list_onward (list_step s b) p (λ n. list_read bs n (p + 1))

abbrev pub unread : Listing
unread = record { mode = Gap; depth = 0; elements = []; text = [] }

abbrev pub without_place : Elements → Result (List (List ℕ)) WordFault
without_place (Ok xs) = Ok xs
without_place (Err e) = Err e.0

-- The elements of a list, or its first fault.
unfoldable pub elements_of : List ℕ → Result (List (List ℕ)) WordFault
elements_of text = without_place (list_read text unread 0)
