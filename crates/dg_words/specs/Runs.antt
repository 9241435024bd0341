-- Runs of bytes that only add to the open item.
use Rattle.std.specs.Prelude.{◌≡◌, ◌≤◌, ℕ, ◌+◌, List, [], ◌∷◌, Bool, true, false, length, drop}
use Rattle.dg_lists.specs.declared.kinds.Class.{Class}
use Rattle.dg_lists.specs.declared.kinds.Class.TheVariants as class
use Rattle.dg_words.specs.declared.kinds.Level.{Level}
use Rattle.dg_lists.specs.declared.kinds.Mode.{Mode}
use Rattle.dg_words.specs.declared.kinds.Opener.{Opener}
use Rattle.dg_lists.specs.declared.kinds.Context.{Context}
use Rattle.dg_lists.specs.declared.kinds.Context.TheVariants.{Bare, Quoted, Index, Alone}
use Rattle.dg_words.specs.Machine.{Draft, State, add, read}

-- a byte of this class is text there, whatever is read
abbrev pub is_text : Context → Class → Bool
is_text Bare class.Blank = false
is_text Bare class.Newline = false
is_text Bare class.Semicolon = false
is_text Bare class.LeftBracket = false
is_text Bare class.RightBracket = false
is_text Bare class.Backslash = false
is_text Bare class.Dollar = false
is_text Bare c = true
is_text Quoted class.Quote = false
is_text Quoted class.LeftBracket = false
is_text Quoted class.Backslash = false
is_text Quoted class.Dollar = false
is_text Quoted c = true
is_text Index class.RightParen = false
is_text Index class.LeftBracket = false
is_text Index class.Backslash = false
is_text Index class.Dollar = false
is_text Index c = true
is_text Alone c = false

-- a byte of this class is one of a comment's
abbrev pub is_comment : Class → Bool
is_comment class.Newline = false
is_comment class.Backslash = false
is_comment c = true

-- Reading from a place on, with this state open, goes on as reading from a later place on with the other.
pub record Reaches (text : List ℕ) (from : ℕ) (old : State) (to : ℕ) (new : State) : Type 0 where
  pub onward : from ≤ to
  pub within : to ≤ length text
  pub deep : new.depth + from ≤ old.depth + to
  pub reads : (l : Level) → read l (drop from text) old from ≡ read l (drop to text) new to

-- the state of these parts
abbrev pub in_mode : Mode → ℕ → List Opener → Draft → State
in_mode m n os d = record { mode = m; depth = n; inner = os; draft = d }

-- a comment's text stays within brackets alone
abbrev pub commented : List Opener → List ℕ → Draft → Draft
commented [] t d = d
commented (o ∷ os) t d = add t d
