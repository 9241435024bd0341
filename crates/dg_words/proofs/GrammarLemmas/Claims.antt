-- What is claimed of each mode. Where the reading of a text succeeds from a mode and a stack of what is open, the text is the rest
-- of something spelled; a byte more in front leaves it so. Of the words that it spells nothing is claimed: what is spelled is read,
-- so they are the words that were read.
use Rattle.std.specs.Prelude.{refl, ◌≡◌, ◌≢◌, ℕ, suc, ◌+◌, ◌≤◌, List, [], ◌∷◌, ◌++◌, length, true, false, ◌⊎◌, Some}
use Rattle.std.proofs.Common.{inl, inr, sym, arith, subst}
use Rattle.dg_words.specs.Piece.{Piece}
use Rattle.dg_lists.specs.declared.kinds.Effect.{Effect}
use Rattle.dg_lists.specs.declared.kinds.Digits as kinds
use Rattle.dg_words.specs.declared.kinds.Level.{Level}
use Rattle.dg_words.specs.declared.kinds.Level.TheVariants as level
use Rattle.dg_lists.specs.declared.kinds.Mode.{Mode}
use Rattle.dg_lists.specs.declared.kinds.Mode.TheVariants as mode
use Rattle.dg_words.specs.declared.kinds.Opener.{Opener}
use Rattle.dg_words.specs.declared.kinds.Opener.TheVariants as opener
use Rattle.dg_lists.specs.declared.kinds.Context.{Context}
use Rattle.dg_lists.specs.declared.kinds.Context.TheVariants as context
use Rattle.dg_lists.specs.Transitions.{base_of, most_of, whole}
use Rattle.dg_lists.specs.Grammar.Escapes.{each, Digits, Spaces, value_from}
use Rattle.dg_words.specs.Grammar.Operands as operands
use Rattle.dg_words.specs.Grammar.Words.{begins_variable, begins_with_colon, Named, brace_name_byte, name_byte, name_goes_on, Parted, Comment}
use Rattle.dg_lists.proofs.GrammarLemmas.Numbers.{number}
use Rattle.dg_lists.proofs.GrammarLemmas.ListRead.{left}
use Rattle.dg_words.proofs.GrammarLemmas.Between.{Outermost, HasCommands, OutermostIn}
use Rattle.dg_words.proofs.GrammarLemmas.Readings.{level_at, parens, Reads}
use Rattle.dg_words.proofs.GrammarLemmas.Rests.{BehindLeft, left_nothing, PartsEnd, PartsLeft, WordsLeft, WordLeft, StartLeft, BracesLeft}

-- what a reading may be of
abbrev pub Bottom : Level → Type 0
Bottom level.Inside = ⊥
Bottom l = Unit {0}

-- Where parts may stand: those of a word at the bottom or within a bracket, those of an index within its element, and an operand at the bottom.
abbrev pub Sound : Level → Context → List Opener → Type 0
Sound l context.Bare [] = Outermost l
Sound l context.Bare (opener.Bracket s ∷ stack) = Sound l s stack
Sound l context.Bare (opener.Paren s ∷ stack) = ⊥
Sound l context.Quoted [] = Bottom l
Sound l context.Quoted (opener.Bracket s ∷ stack) = Sound l s stack
Sound l context.Quoted (opener.Paren s ∷ stack) = ⊥
Sound l context.Index [] = ⊥
Sound l context.Index (opener.Bracket s ∷ stack) = ⊥
Sound l context.Index (opener.Paren s ∷ stack) = Sound l s stack
Sound l context.Alone [] = l ≡ level.Alone
Sound l context.Alone (o ∷ stack) = ⊥

-- parts stand there, and so many brackets and indices more may open
pub record Standing (l : Level) (stack : List Opener) (n : ℕ) (s : Context) : Type 0 where
  pub room : n + length stack ≡ 100
  pub sound : Sound l s stack

pub outermost : (l : Level) (stack : List Opener) (n : ℕ) → Standing l stack n context.Bare → OutermostIn l stack
outermost l [] n g = g.sound
outermost l (o ∷ stack) n g = tt

pub outermost_in : (l : Level) (stack : List Opener) (n : ℕ) → Standing l stack n context.Bare → (inner : List Opener) (is : List Context) → inner ++ parens is ≡ stack → OutermostIn l inner
outermost_in l stack n g [] [] e = subst (λ y. Sound l context.Bare y) (sym e) g.sound
outermost_in l stack n g [] (s ∷ ss) e = absurd (subst (λ y. Sound l context.Bare y) (sym e) g.sound)
outermost_in l stack n g (o ∷ os) is e = tt

bottom : (l : Level) → Outermost l → Bottom l
bottom level.Top o = tt
bottom level.List o = tt
bottom level.Inside o = o
bottom level.Alone o = tt

sound_quoted : (l : Level) (stack : List Opener) → Sound l context.Bare stack → Sound l context.Quoted stack
sound_quoted l [] h = bottom l h
sound_quoted l (opener.Bracket s ∷ stack) h = h
sound_quoted l (opener.Paren s ∷ stack) h = absurd h

pub in_quotes : (l : Level) (stack : List Opener) (n : ℕ) → Standing l stack n context.Bare → Standing l stack n context.Quoted
in_quotes l stack n g = record { room = g.room; sound = sound_quoted l stack g.sound }

-- within quotes or braces there is a word, or an operand
pub quotes_of : (l : Level) (stack : List Opener) (n : ℕ) → Standing l stack n context.Quoted → Standing l stack n context.Bare ⊎ ((l ≡ level.Alone) × (stack ≡ []))
quotes_of level.Top [] n g = inl (record { room = g.room; sound = tt })
quotes_of level.List [] n g = inl (record { room = g.room; sound = tt })
quotes_of level.Inside [] n g = absurd g.sound
quotes_of level.Alone [] n g = inr (refl, refl)
quotes_of l (opener.Bracket s ∷ stack) n g = inl (record { room = g.room; sound = g.sound })
quotes_of l (opener.Paren s ∷ stack) n g = absurd g.sound

-- behind a word more words may come
pub worded : (l : Level) (stack : List Opener) (n : ℕ) (t : List ℕ) → Standing l stack n context.Bare → BehindLeft l stack n t → Parted (level_at l stack) t × WordsLeft l stack n t
worded l stack n t g (inl x) = x
worded l [] n t g (inr x) = absurd (subst (λ y. Outermost y) x.0 g.sound)
worded l (o ∷ stack) n t g (inr x) = let y = x.1 in absurd cc

-- behind an operand anything may come
pub alone_left : (l : Level) (stack : List Opener) (n : ℕ) (t : List ℕ) → Standing l stack n context.Alone → PartsLeft l stack n context.Alone t
alone_left l [] n t g = left_nothing l [] n context.Alone t (PartsEnd.alone g.sound)
alone_left l (o ∷ stack) n t g = absurd g.sound

pub in_bracket : (l : Level) (stack : List Opener) (n : ℕ) (s : Context) → Standing l stack (suc n) s → Standing l (opener.Bracket s ∷ stack) n context.Bare
in_bracket l stack n s g = record { room = omega (arith, g.room); sound = g.sound }

pub behind_bracket : (l : Level) (stack : List Opener) (n : ℕ) (s : Context) → Standing l (opener.Bracket s ∷ stack) n context.Bare → Standing l stack (suc n) s
behind_bracket l stack n s g = record { room = omega (arith, g.room); sound = g.sound }

pub in_index : (l : Level) (stack : List Opener) (n : ℕ) (s : Context) → Standing l stack (suc n) s → Standing l (opener.Paren s ∷ stack) n context.Index
in_index l stack n s g = record { room = omega (arith, g.room); sound = g.sound }

pub behind_index : (l : Level) (stack : List Opener) (n : ℕ) (s : Context) → Standing l (opener.Paren s ∷ stack) n context.Index → Standing l stack (suc n) s
behind_index l stack n s g = record { room = omega (arith, g.room); sound = g.sound }

-- behind a joined line
abbrev pub JoinLeft : Level → List Opener → ℕ → Context → List ℕ → Type 0
JoinLeft l stack n s t = (g u : List ℕ) × (t ≡ g ++ u) × Spaces g u × PartsLeft l stack n s u

-- behind a name: it is a variable, or an element's
abbrev pub NameEnd : Level → List Opener → ℕ → Context → List ℕ → Type 0
NameEnd l stack n s t = ((name_goes_on t ≡ false) × PartsLeft l stack n s t)
    ⊎ ((k : ℕ) × (rest : List ℕ) × (n ≡ suc k) × (t ≡ 40 ∷ rest) × PartsLeft l (opener.Paren s ∷ stack) k context.Index rest)

-- the rest of a name
abbrev pub NameLeft : Level → List Opener → ℕ → Context → List ℕ → Type 0
NameLeft l stack n s t = (name rest : List ℕ) × (t ≡ name ++ rest) × (each name_byte name ≡ true) × NameEnd l stack n s rest

-- the rest of a name in braces
abbrev pub BraceNameLeft : Level → List Opener → ℕ → Context → List ℕ → Type 0
BraceNameLeft l stack n s t = (name rest : List ℕ) × (t ≡ name ++ 125 ∷ rest) × (each brace_name_byte name ≡ true) × PartsLeft l stack n s rest

-- what comes behind a dollar sign: a name, an index without one, a name in braces, or no variable
pub data DollarLeft (l : Level) (stack : List Opener) (n : ℕ) (s : Context) (t : List ℕ) : Type 0 where
  named : (name rest : List ℕ) → t ≡ name ++ rest → Named name → name ≢ [] → NameEnd l stack n s rest → DollarLeft l stack n s t
  nameless : (k : ℕ) (rest : List ℕ) → n ≡ suc k → t ≡ 40 ∷ rest → PartsLeft l (opener.Paren s ∷ stack) k context.Index rest → DollarLeft l stack n s t
  braced : (name rest : List ℕ) → t ≡ 123 ∷ name ++ 125 ∷ rest → each brace_name_byte name ≡ true → PartsLeft l stack n s rest → DollarLeft l stack n s t
  lone : begins_variable t ≡ false → begins_with_colon t ≡ false → PartsLeft l stack n s t → DollarLeft l stack n s t
  lone_colon : (rest : List ℕ) → t ≡ 58 ∷ rest → begins_with_colon rest ≡ false → PartsLeft l stack n s rest → DollarLeft l stack n s t

-- an operand
abbrev pub OperandLeft : List ℕ → Type 0
OperandLeft t = (ps : List Piece) × (k : ℕ) × operands.Begun t ps k

-- the rest of a number
pub record NumberLeft (l : Level) (stack : List Opener) (n : ℕ) (s : Context) (x : kinds.Digits) (t : List ℕ) : Type 0 where
  pub digits : List ℕ
  pub rest : List ℕ
  pub effect : Effect
  pub split : t ≡ digits ++ rest
  pub they : Digits x.escape x.left x.value digits rest
  pub is : whole (number x.escape (left x.left digits) (value_from (base_of x.escape) x.value digits)) ≡ Some effect
  pub parts : PartsLeft l stack n s rest

-- the rest of a comment
abbrev pub CommentLeft : Level → List Opener → ℕ → List ℕ → Type 0
CommentLeft l stack n t = ((c rest : List ℕ) × (t ≡ c ++ 10 ∷ rest) × Comment (10 ∷ []) c × StartLeft l stack n rest) ⊎ (Comment [] t × (stack ≡ []))

-- What is left of a text where it is read from this mode on: k braces and the stack are open.
abbrev pub Claim : Level → Mode → ℕ → List Opener → ℕ → List ℕ → Type 0
Claim l mode.Start k stack n t = k ≡ 0 → Standing l stack n context.Bare → HasCommands (level_at l stack) → StartLeft l stack n t
Claim l mode.StartPair k stack n t = k ≡ 0 → Standing l stack n context.Bare → HasCommands (level_at l stack) → StartLeft l stack n (92 ∷ t)
Claim l mode.Comment k stack n t = k ≡ 0 → Standing l stack n context.Bare → HasCommands (level_at l stack) → CommentLeft l stack n t
Claim l mode.CommentPair k stack n t = k ≡ 0 → Standing l stack n context.Bare → HasCommands (level_at l stack) → CommentLeft l stack n (92 ∷ t)
Claim l mode.Gap k stack n t = k ≡ 0 → Standing l stack n context.Bare → WordsLeft l stack n t
Claim l mode.GapPair k stack n t = k ≡ 0 → Standing l stack n context.Bare → WordsLeft l stack n (92 ∷ t)
Claim l mode.Operand k stack n t = k ≡ 0 → Standing l stack n context.Alone → OperandLeft t
Claim l (mode.In s) k stack n t = k ≡ 0 → Standing l stack n s → PartsLeft l stack n s t
Claim l (mode.Pair s) k stack n t = k ≡ 0 → Standing l stack n s → PartsLeft l stack n s (92 ∷ t)
Claim l (mode.Join s) k stack n t = k ≡ 0 → Standing l stack n s → JoinLeft l stack n s t
Claim l (mode.Dollar s) k stack n t = k ≡ 0 → Standing l stack n s → DollarLeft l stack n s t
Claim l (mode.Colon s) k stack n t = k ≡ 0 → Standing l stack n s → DollarLeft l stack n s (58 ∷ t)
Claim l (mode.Name s) k stack n t = k ≡ 0 → Standing l stack n s → NameLeft l stack n s t
Claim l (mode.NameBrace s) k stack n t = k ≡ 0 → Standing l stack n s → BraceNameLeft l stack n s t
Claim l (mode.Number s x) k stack n t = k ≡ 0 → Standing l stack n s → x.value ≤ most_of x.escape → NumberLeft l stack n s x t
Claim l mode.BraceFirst k stack n t = k ≡ 0 → Standing l stack n context.Bare → WordLeft l stack n (123 ∷ t)
Claim l mode.BraceStar k stack n t = k ≡ 0 → Standing l stack n context.Bare → WordLeft l stack n (123 ∷ 42 ∷ t)
Claim l mode.BehindStar k stack n t = k ≡ 0 → Standing l stack n context.Bare → WordLeft l stack n (123 ∷ 42 ∷ 125 ∷ t)
Claim l mode.StarPair k stack n t = k ≡ 0 → Standing l stack n context.Bare → WordLeft l stack n (123 ∷ 42 ∷ 125 ∷ 92 ∷ t)
Claim l mode.Braced k stack n t = Standing l stack n context.Quoted → BracesLeft l stack n k t
Claim l mode.BracedPair k stack n t = Standing l stack n context.Quoted → BracesLeft l stack n k (92 ∷ t)
Claim l mode.BracedJoin k stack n t = Standing l stack n context.Quoted → (g u : List ℕ) × (t ≡ g ++ u) × Spaces g u × BracesLeft l stack n k u
Claim l (mode.Behind d) k stack n t = k ≡ 0 → Standing l stack n context.Quoted → BehindLeft l stack n t
Claim l (mode.BehindPair d) k stack n t = k ≡ 0 → Standing l stack n context.Bare → (rest : List ℕ) × (t ≡ 10 ∷ rest) × WordsLeft l stack n rest

-- what holds of the text behind a byte
abbrev pub Rec : Level → List ℕ → Type 0
Rec l t = (m : Mode) (k : ℕ) (stack : List Opener) (n : ℕ) → Reads l m k stack t → Claim l m k stack n t
