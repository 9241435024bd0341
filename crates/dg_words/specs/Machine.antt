-- The items that are open after a text, and the reading of a text from its beginning.
use Rattle.std.specs.Prelude.{ℕ, ◌+◌, ◌-◌, List, [], ◌∷◌, ◌++◌, length, Bool, true, false, Result, Ok, Err, nat_lt}
use Rattle.std.specs.Char.{encode_utf8}
use Rattle.dg_words.specs.Piece.{Piece, Text, Variable, Element, End, Command}
use Rattle.dg_lists.specs.declared.fault.WordFault.{WordFault}
use Rattle.dg_lists.specs.declared.fault.WordFault.TheVariants.{MissingBracket, MissingParen}
use Rattle.dg_words.specs.declared.kinds.Level.{Level}
use Rattle.dg_words.specs.declared.kinds.Level.TheVariants.{Inside}
use Rattle.dg_lists.specs.declared.kinds.Context.{Context}
use Rattle.dg_lists.specs.declared.kinds.Context.TheVariants.{Bare, Index}
use Rattle.dg_words.specs.declared.kinds.Opener.{Opener}
use Rattle.dg_words.specs.declared.kinds.Opener.TheVariants as opener
use Rattle.dg_lists.specs.declared.kinds.Mode.{Mode}
use Rattle.dg_lists.specs.declared.kinds.Mode.TheVariants.{Start, In, Braced}
use Rattle.dg_lists.specs.declared.kinds.Effect.{Effect}
use Rattle.dg_lists.specs.declared.kinds.Effect.TheVariants as effect
use Rattle.dg_lists.specs.declared.kinds.Target.{Target}
use Rattle.dg_lists.specs.declared.kinds.Target.TheVariants as target
use Rattle.dg_lists.specs.declared.kinds.Transition.{Transition}
use Rattle.dg_lists.specs.declared.kinds.Ending.{Ending}
use Rattle.dg_lists.specs.declared.kinds.Ending.TheVariants as ending
use Rattle.dg_words.specs.declared.word.Word.{Word}
use Rattle.dg_lists.specs.Classes.{class_of}
use Rattle.dg_words.specs.Transitions.{transition, ends}

-- What was read: the whole words, and of the word that is open whether it expands, the indices that are open in it
-- (innermost first, each where its element stands), its pieces, and the text of the part that is open.
pub record Draft : Type 0 where
  pub words : List Word
  pub expand : Bool
  pub indices : List Context
  pub parts : List Piece
  pub text : List ℕ

-- pieces, with the text behind them where there is one
abbrev pub closed : List Piece → List ℕ → List Piece
closed parts [] = parts
closed parts (b ∷ bs) = parts ++ Text (b ∷ bs) ∷ []

abbrev pub add : List ℕ → Draft → Draft
add t d = record d { text = d.text ++ t }

abbrev pub close : Draft → Draft
close d = record d { parts = closed d.parts d.text; text = [] }

-- a word ends, outside of its indices
abbrev pub end_word : List Context → Draft → Draft
end_word [] d = record d { words = d.words ++ record { expand = d.expand; parts = closed d.parts d.text } ∷ []; expand = false; parts = []; text = [] }
end_word (s ∷ ss) d = d

abbrev pub perform : Effect → Draft → Draft
perform effect.Nothing d = d
perform (effect.Byte b) d = add (b ∷ []) d
perform (effect.Code c) d = add (encode_utf8 c) d
perform effect.Dollar d = add (36 ∷ []) d
perform effect.DollarColon d = add (36 ∷ 58 ∷ []) d
perform effect.Close d = close d
perform effect.Global d = record d { parts = closed d.parts d.text; text = 58 ∷ 58 ∷ [] }
perform effect.Value d = record d { parts = d.parts ++ Variable d.text ∷ []; text = [] }
perform effect.Expand d = record d { expand = true; text = [] }
perform effect.Word d = end_word d.indices d

-- an element's index begins, and ends
abbrev pub open_index : Context → Draft → Draft
open_index s d = record d { indices = s ∷ d.indices; parts = d.parts ++ Element d.text ∷ []; text = [] }

abbrev pub close_index : List Context → Draft → Draft
close_index rest d = record d { indices = rest; parts = closed d.parts d.text ++ End ∷ []; text = [] }

-- the text that was read within brackets is a part
abbrev pub command : Draft → Draft
command d = record d { parts = d.parts ++ Command d.text ∷ []; text = [] }

-- What is open: the innermost item, the braces inside of a braced word, the brackets and the indices in brackets
-- (innermost first), and what was read. Within brackets that is the text of the outermost, and no parts.
pub record State : Type 0 where
  pub mode : Mode
  pub depth : ℕ
  pub inner : List Opener
  pub draft : Draft

-- the outcome of a byte: the reading goes on, the command is over with so many bytes more, or no spelling goes on
pub data Stepped : Type 0 where
  Go : State → Stepped
  Over : List Word → ℕ → Stepped
  Fails : WordFault → Stepped

abbrev pub context_of : Opener → Context
context_of (opener.Bracket s) = s
context_of (opener.Paren s) = s

-- brackets and indices that may be open inside each other
abbrev pub has_room : Draft → List Opener → Bool
has_room d inner = nat_lt (length d.indices + length inner) 100

abbrev pub opens : Bool → WordFault → State → Stepped
opens true f s = Go s
opens false f s = Fails f

abbrev pub leaves_index : List Context → ℕ → Draft → Stepped
leaves_index [] n d = Go (record { mode = In Bare; depth = n; inner = []; draft = d })
leaves_index (s ∷ ss) n d = Go (record { mode = In s; depth = n; inner = []; draft = close_index ss d })

-- outside brackets, behind the effects
abbrev pub follow : Target → ℕ → Draft → Stepped
follow (target.To m) n d = Go (record { mode = m; depth = n; inner = []; draft = d })
follow target.Deeper n d = Go (record { mode = Braced; depth = n + 1; inner = []; draft = d })
follow target.Shallower n d = Go (record { mode = Braced; depth = n - 1; inner = []; draft = d })
follow (target.Bracket s) n d = opens (has_room d []) MissingBracket (record { mode = Start; depth = n; inner = opener.Bracket s ∷ []; draft = close d })
follow (target.Paren s) n d = opens (has_room d []) MissingParen (record { mode = In Index; depth = n; inner = []; draft = open_index s d })
follow target.Leave n d = leaves_index d.indices n d
follow target.End n d = Over d.words 1
follow target.Rest n d = Over d.words 0
follow (target.Bad f) n d = Fails f

-- the innermost bracket or index within brackets ends
abbrev pub leaves : List Opener → ℕ → Draft → ℕ → Stepped
leaves [] n d b = Go (record { mode = In Bare; depth = n; inner = []; draft = d })
leaves (o ∷ []) n d b = Go (record { mode = In (context_of o); depth = n; inner = []; draft = command d })
leaves (o ∷ p ∷ os) n d b = Go (record { mode = In (context_of o); depth = n; inner = p ∷ os; draft = add (b ∷ []) d })

-- within brackets, where each byte goes to their text, and behind a command another may begin
abbrev pub follow_inside : Target → ℕ → List Opener → Draft → ℕ → Stepped
follow_inside (target.To m) n os d b = Go (record { mode = m; depth = n; inner = os; draft = add (b ∷ []) d })
follow_inside target.Deeper n os d b = Go (record { mode = Braced; depth = n + 1; inner = os; draft = add (b ∷ []) d })
follow_inside target.Shallower n os d b = Go (record { mode = Braced; depth = n - 1; inner = os; draft = add (b ∷ []) d })
follow_inside (target.Bracket s) n os d b = opens (has_room d os) MissingBracket (record { mode = Start; depth = n; inner = opener.Bracket s ∷ os; draft = add (b ∷ []) d })
follow_inside (target.Paren s) n os d b = opens (has_room d os) MissingParen (record { mode = In Index; depth = n; inner = opener.Paren s ∷ os; draft = add (b ∷ []) d })
follow_inside target.Leave n os d b = leaves os n d b
follow_inside target.End n os d b = Go (record { mode = Start; depth = n; inner = os; draft = add (b ∷ []) d })
follow_inside target.Rest n os d b = Go (record { mode = Start; depth = n; inner = os; draft = add (b ∷ []) d })
follow_inside (target.Bad f) n os d b = Fails f

abbrev pub take_transition : Transition → ℕ → List Opener → Draft → ℕ → Stepped
take_transition t n [] d b = follow t.next n (perform t.second (perform t.first d))
take_transition t n (o ∷ os) d b = follow_inside t.next n (o ∷ os) d b

abbrev pub level_in : Level → List Opener → Level
level_in l [] = l
level_in l (o ∷ os) = Inside

abbrev pub is_none : List Opener → Bool
is_none [] = true
is_none (o ∷ os) = false

unfoldable pub step : Level → State → ℕ → Stepped
step l s b = take_transition (transition (level_in l s.inner) (nat_lt 0 s.depth) s.mode (class_of b) b) s.depth s.inner s.draft b

-- the outcome of the end of the text: these words, or the kind of the open item
abbrev pub ended : Ending → Draft → Result (List Word) WordFault
ended (ending.Word d e) draft = Ok (perform effect.Word (perform e (perform d draft))).words
ended ending.Done draft = Ok draft.words
ended (ending.Bad f) draft = Err f

unfoldable pub stop : State → Result (List Word) WordFault
stop s = ended (ends (is_none s.inner) s.mode) s.draft

-- the words and the place behind them, or the first fault and its place
abbrev pub Answer : Type 0
Answer = Result (List Word × ℕ) (WordFault × ℕ)

abbrev pub stopped : Result (List Word) WordFault → ℕ → Answer
stopped (Ok words) p = Ok (words, p)
stopped (Err f) p = Err (f, p)

-- after a move at place p
abbrev pub onward : Stepped → ℕ → (State → Answer) → Answer
onward (Go s) p more = more s
onward (Over words n) p more = Ok (words, p + n)
onward (Fails f) p more = Err (f, p)

-- Reading of a text from place p on.
unfoldable pub read : Level → List ℕ → State → ℕ → Answer
read l [] s p = stopped (stop s) p
read l (b ∷ bs) s p = onward (step l s b) p (λ n. read l bs n (p + 1))

-- nothing was read
abbrev pub fresh : Mode → State
fresh m = record { mode = m; depth = 0; inner = []; draft = record { words = []; expand = false; indices = []; parts = []; text = [] } }
