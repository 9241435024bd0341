-- Runs of bytes between braces, of a word or of an element.
use Rattle.std.specs.Prelude.{◌≡◌, ℕ, zero, suc, ◌+◌, List, ⊤, get_or}
use Rattle.dg_lists.specs.declared.kinds.Class.{Class}
use Rattle.dg_lists.specs.declared.kinds.Class.TheVariants as class
use Rattle.dg_lists.specs.Classes.{class_of}

-- Between braces, with so many open inside of the word, a byte of this class is not one of a run: a backslash begins a
-- pair, and with none open a brace closes the word.
abbrev pub EndsRun : Class → ℕ → Type 0
EndsRun class.Backslash n = ⊤
EndsRun class.Close n = n ≡ 0
EndsRun c n = ⊥

-- A byte of this class is one of a run, with so many braces open before it and so many behind it.
abbrev pub Continues : Class → ℕ → ℕ → Type 0
Continues class.Backslash n m = ⊥
Continues class.Open n m = m ≡ n + 1
Continues class.Close n m = n ≡ m + 1
Continues c n m = m ≡ n

-- The bytes of a text from a place on, so many of them, are a run, with n braces open before it and m behind it.
abbrev pub IsBracedRun : List ℕ → ℕ → ℕ → ℕ → ℕ → Type 0
IsBracedRun text from n zero m = m ≡ n
IsBracedRun text from n (suc count) m = (k : ℕ) × IsBracedRun text from n count k × Continues (class_of (get_or text (from + count) 0)) k m
