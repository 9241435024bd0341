-- How words, commands and scripts are spelled.
use Rattle.std.specs.Prelude.{◌≡◌, ◌≢◌, ℕ, suc, ◌+◌, List, [], ◌∷◌, ◌++◌, length, Bool, true, false, not}
use Rattle.dg_words.specs.Piece.{Piece, Text, Variable, Element, End, Command}
use Rattle.dg_lists.specs.declared.kinds.Class.{Class}
use Rattle.dg_lists.specs.declared.kinds.Class.TheVariants as class
use Rattle.dg_words.specs.declared.kinds.Level.{Level}
use Rattle.dg_words.specs.declared.kinds.Level.TheVariants.{Top, List as Listed, Inside}
use Rattle.dg_lists.specs.declared.kinds.Context.{Context}
use Rattle.dg_lists.specs.declared.kinds.Context.TheVariants.{Bare, Quoted, Index}
use Rattle.dg_words.specs.declared.word.Word.{Word}
use Rattle.dg_lists.specs.Classes.{class_of}
use Rattle.dg_lists.specs.Grammar.Escapes.{each, Escaped, Spaces}
use Rattle.dg_lists.specs.Grammar.Lists.{plain_braced}

-- the bytes that separate words: in a list of words newlines too
abbrev pub blanks : Level → Class → Bool
blanks l class.Blank = true
blanks Listed class.Newline = true
blanks l c = false

-- the bytes that end a command
abbrev pub ends_command : Level → Class → Bool
ends_command Listed c = false
ends_command l class.Newline = true
ends_command l class.Semicolon = true
ends_command l c = false

-- the bytes that end a bare word: these, and within brackets the one that closes them
abbrev pub ends_word : Level → Class → Bool
ends_word l class.Blank = true
ends_word l class.Newline = true
ends_word Listed c = false
ends_word l class.Semicolon = true
ends_word Inside class.RightBracket = true
ends_word l c = false

-- the bytes that stand for themselves in a bare word, between quotes, and in an index
abbrev pub plain : Level → Context → Class → Bool
plain l s class.LeftBracket = false
plain l s class.Backslash = false
plain l s class.Dollar = false
plain l Quoted class.Quote = false
plain l Quoted c = true
plain l Index class.RightParen = false
plain l Index c = true
plain l Bare c = not (ends_word l c)
plain l s c = false

-- in a comment
abbrev pub plain_comment : Class → Bool
plain_comment class.Newline = false
plain_comment class.Backslash = false
plain_comment c = true

-- before a command
abbrev pub skipped : Class → Bool
skipped class.Blank = true
skipped class.Newline = true
skipped class.Semicolon = true
skipped c = false

-- a bare word begins with neither a quote nor a brace
abbrev pub begins : Class → Bool
begins class.Quote = false
begins class.Open = false
begins c = true

abbrev pub BeginsWord : List ℕ → Type 0
BeginsWord [] = ⊥
BeginsWord (b ∷ bs) = begins (class_of b) ≡ true

-- nor does a command's first word begin with `#`
abbrev pub is_hash : Class → Bool
is_hash class.Hash = true
is_hash c = false

abbrev pub begins_with_hash : List ℕ → Bool
begins_with_hash [] = false
begins_with_hash (b ∷ bs) = is_hash (class_of b)

-- letters, digits and `_`
abbrev pub is_name : Class → Bool
is_name class.Name = true
is_name c = false

abbrev pub name_byte : ℕ → Bool
name_byte b = is_name (class_of b)

-- A name may begin with `::`.
pub data Named : List ℕ → Type 0 where
  local : {t : List ℕ} → each name_byte t ≡ true → Named t
  global : {t : List ℕ} → each name_byte t ≡ true → Named (58 ∷ 58 ∷ t)

-- the bytes that continue a name, or make it an element's
abbrev pub goes_on : Class → Bool
goes_on class.Name = true
goes_on class.LeftParen = true
goes_on c = false

abbrev pub name_goes_on : List ℕ → Bool
name_goes_on [] = false
name_goes_on (b ∷ bs) = goes_on (class_of b)

-- the text that a dollar sign needs after it: a name, `(`, `{` or `::`
abbrev pub is_colon : Class → Bool
is_colon class.Colon = true
is_colon c = false

abbrev pub begins_with_colon : List ℕ → Bool
begins_with_colon [] = false
begins_with_colon (b ∷ bs) = is_colon (class_of b)

abbrev pub variable_by : Class → List ℕ → Bool
variable_by class.Name t = true
variable_by class.LeftParen t = true
variable_by class.Open t = true
variable_by class.Colon t = begins_with_colon t
variable_by c t = false

abbrev pub begins_variable : List ℕ → Bool
begins_variable [] = false
begins_variable (b ∷ bs) = variable_by (class_of b) bs

abbrev pub no_close : Class → Bool
no_close class.Close = false
no_close c = true

abbrev pub brace_name_byte : ℕ → Bool
brace_name_byte b = no_close (class_of b)

-- a text before pieces: texts side by side are one
abbrev pub with_text : List ℕ → List Piece → List Piece
with_text [] ps = ps
with_text (b ∷ bs) (Text t ∷ ps) = Text ((b ∷ bs) ++ t) ∷ ps
with_text (b ∷ bs) ps = Text (b ∷ bs) ∷ ps

-- The inside of a braced word, and what it stands for: itself, but a joined line is a space. Each brace has its
-- partner, but for those behind a backslash.
pub data Braced : List ℕ → List ℕ → Type 0 where
  nothing : Braced [] []
  byte : {t v : List ℕ} (b : ℕ) → plain_braced (class_of b) ≡ true → Braced t v → Braced (b ∷ t) (b ∷ v)
  pair : {t v : List ℕ} (b : ℕ) → b ≢ 10 → Braced t v → Braced (92 ∷ b ∷ t) (92 ∷ b ∷ v)
  joined_line : {t v : List ℕ} (g : List ℕ) → Spaces g t → Braced t v → Braced (92 ∷ 10 ∷ g ++ t) (32 ∷ v)
  braces : {t u v w : List ℕ} → Braced t v → Braced u w → Braced (123 ∷ t ++ 125 ∷ u) (123 ∷ v ++ 125 ∷ w)

-- The inside of a comment before the text after. A newline behind a backslash does not end it.
pub data Comment (after : List ℕ) : List ℕ → Type 0 where
  nothing : Comment after []
  byte : {t : List ℕ} (b : ℕ) → plain_comment (class_of b) ≡ true → Comment after t → Comment after (b ∷ t)
  pair : {t : List ℕ} (b : ℕ) → Comment after t → Comment after (92 ∷ b ∷ t)
  last_backslash : after ≡ [] → Comment after (92 ∷ [])

-- The text that is skipped before a command: blanks, newlines, `;`, joined lines and comments.
pub data Skipped (after : List ℕ) : List ℕ → Type 0 where
  nothing : Skipped after []
  byte : {t : List ℕ} (b : ℕ) → skipped (class_of b) ≡ true → Skipped after t → Skipped after (b ∷ t)
  joined_line : {t : List ℕ} → Skipped after t → Skipped after (92 ∷ 10 ∷ t)
  comment : {c t : List ℕ} → Comment (10 ∷ []) c → Skipped after t → Skipped after (35 ∷ c ++ 10 ∷ t)
  last_comment : {c : List ℕ} → after ≡ [] → Comment [] c → Skipped after (35 ∷ c)

-- the text between words: blanks and joined lines
pub data Gap (l : Level) : List ℕ → Type 0 where
  nothing : Gap l []
  blank : {t : List ℕ} (b : ℕ) → blanks l (class_of b) ≡ true → Gap l t → Gap l (b ∷ t)
  joined_line : {t : List ℕ} → Gap l t → Gap l (92 ∷ 10 ∷ t)

-- the text after a word
pub data Parted (l : Level) : List ℕ → Type 0 where
  at_end : Parted l []
  at_byte : {t : List ℕ} (b : ℕ) → ends_word l (class_of b) ≡ true → Parted l (b ∷ t)
  at_joined_line : {t : List ℕ} → Parted l (92 ∷ 10 ∷ t)

-- All of these stand before a text after, and n brackets and indices may be open inside each other there.
mutual
  -- The inside of a bare or a quoted word, or of an index, and its pieces.
  pub data Parts : Level → ℕ → Context → List ℕ → List ℕ → List Piece → Type 0 where
    nothing : {l : Level} {n : ℕ} {s : Context} {after : List ℕ} → Parts l n s after [] []
    byte : {l : Level} {n : ℕ} {s : Context} {after t : List ℕ} {ps : List Piece} (b : ℕ) → plain l s (class_of b) ≡ true →
        Parts l n s after t ps → Parts l n s after (b ∷ t) (with_text (b ∷ []) ps)
    escape : {l : Level} {n : ℕ} {s : Context} {after t : List ℕ} {ps : List Piece} (e w : List ℕ) → Escaped (t ++ after) e w →
        Parts l n s after t ps → Parts l n s after (92 ∷ e ++ t) (with_text w ps)
    joined_line : {l : Level} {n : ℕ} {s : Context} {after t : List ℕ} {ps : List Piece} (g : List ℕ) → s ≢ Bare → Spaces g (t ++ after) →
        Parts l n s after t ps → Parts l n s after (92 ∷ 10 ∷ g ++ t) (with_text (32 ∷ []) ps)
    last_backslash : {l : Level} {n : ℕ} {s : Context} {after : List ℕ} → after ≡ [] → Parts l n s after (92 ∷ []) (Text (92 ∷ []) ∷ [])
    dollar : {l : Level} {n : ℕ} {s : Context} {after t : List ℕ} {ps : List Piece} → begins_variable (t ++ after) ≡ false →
        Parts l n s after t ps → Parts l n s after (36 ∷ t) (with_text (36 ∷ []) ps)
    variable : {l : Level} {n : ℕ} {s : Context} {after t : List ℕ} {ps : List Piece} (name : List ℕ) → Named name → name ≢ [] → name_goes_on (t ++ after) ≡ false →
        Parts l n s after t ps → Parts l n s after (36 ∷ name ++ t) (Variable name ∷ ps)
    braced_variable : {l : Level} {n : ℕ} {s : Context} {after t : List ℕ} {ps : List Piece} (name : List ℕ) → each brace_name_byte name ≡ true →
        Parts l n s after t ps → Parts l n s after (36 ∷ 123 ∷ name ++ 125 ∷ t) (Variable name ∷ ps)
    element : {l : Level} {n : ℕ} {s : Context} {after t i : List ℕ} {ps is : List Piece} (name : List ℕ) → Named name → Parts l n Index (41 ∷ t ++ after) i is →
        Parts l (suc n) s after t ps → Parts l (suc n) s after (36 ∷ name ++ 40 ∷ i ++ 41 ∷ t) (Element name ∷ is ++ End ∷ ps)
    substitution : {l : Level} {n : ℕ} {s : Context} {after t c : List ℕ} {ps : List Piece} → Script n (93 ∷ t ++ after) c →
        Parts l (suc n) s after t ps → Parts l (suc n) s after (91 ∷ c ++ 93 ∷ t) (Command c ∷ ps)

  -- A bare, a quoted or a braced word.
  pub data Plain : Level → ℕ → List ℕ → List ℕ → List Piece → Type 0 where
    bare : {l : Level} {n : ℕ} {after t : List ℕ} {ps : List Piece} → BeginsWord t → Parts l n Bare after t ps → Plain l n after t ps
    quoted : {l : Level} {n : ℕ} {after t : List ℕ} {ps : List Piece} → Parts l n Quoted (34 ∷ after) t ps → Plain l n after (34 ∷ t ++ 34 ∷ []) ps
    braced : {l : Level} {n : ℕ} {after t v : List ℕ} → Braced t v → Plain l n after (123 ∷ t ++ 125 ∷ []) (with_text v [])

  -- A word, with a prefix `{*}` or without.
  pub data OneWord : Level → ℕ → List ℕ → List ℕ → Word → Type 0 where
    alone : {l : Level} {n : ℕ} {after t : List ℕ} {ps : List Piece} → Plain l n after t ps → OneWord l n after t (record { expand = false; parts = ps })
    expanded : {l : Level} {n : ℕ} {after t : List ℕ} {ps : List Piece} → Plain l n after t ps → OneWord l n after (123 ∷ 42 ∷ 125 ∷ t) (record { expand = true; parts = ps })

  -- Words, each behind a gap.
  pub data Words : Level → ℕ → List ℕ → List ℕ → List Word → Type 0 where
    no_words : {l : Level} {n : ℕ} {after t : List ℕ} → Gap l t → Words l n after t []
    word : {l : Level} {n : ℕ} {after g u t : List ℕ} {w : Word} {ws : List Word} → Gap l g → OneWord l n (t ++ after) u w → Parted l (t ++ after) → Words l n after t ws →
        Words l n after (g ++ u ++ t) (w ∷ ws)

  -- A command, which may have no words.
  pub data OneCommand : Level → ℕ → List ℕ → List ℕ → List Word → Type 0 where
    no_command : {l : Level} {n : ℕ} {after t : List ℕ} → Skipped after t → OneCommand l n after t []
    command : {l : Level} {n : ℕ} {after s u t : List ℕ} {w : Word} {ws : List Word} → Skipped (u ++ t ++ after) s → begins_with_hash u ≡ false →
        OneWord l n (t ++ after) u w → Parted l (t ++ after) → Words l n after t ws → OneCommand l n after (s ++ u ++ t) (w ∷ ws)

  -- Commands within brackets, each but the last with its end.
  pub data Script : ℕ → List ℕ → List ℕ → Type 0 where
    last : {n : ℕ} {after t : List ℕ} {ws : List Word} → OneCommand Inside n after t ws → Script n after t
    more : {n : ℕ} {after u t : List ℕ} {ws : List Word} (b : ℕ) → ends_command Inside (class_of b) ≡ true → OneCommand Inside n (b ∷ t ++ after) u ws → Script n after t →
        Script n after (u ++ b ∷ t)

-- A text begins with a command: its words, and how many bytes it takes with its end.
pub data Begun : List ℕ → List Word → ℕ → Type 0 where
  whole : {t : List ℕ} {ws : List Word} → OneCommand Top 100 [] t ws → Begun t ws (length t)
  ended : {t rest : List ℕ} {w : Word} {ws : List Word} (b : ℕ) → ends_command Top (class_of b) ≡ true → OneCommand Top 100 (b ∷ rest) t (w ∷ ws) →
      Begun (t ++ b ∷ rest) (w ∷ ws) (length t + 1)

-- The words of a text.
abbrev pub WordsOf : List ℕ → List Word → Type 0
WordsOf text ws = Words Listed 100 [] text ws
