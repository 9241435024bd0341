-- The first fault, and a command's end, depend only on the text up to them.
use Rattle.std.specs.Prelude.{◌≡◌, ℕ, List, ◌∷◌, ◌++◌, length, ◌⊎◌, Ok, Err}
use Rattle.dg_lists.specs.declared.fault.WordFault.{WordFault}
use Rattle.dg_words.specs.declared.kinds.Level.TheVariants.{Top}
use Rattle.dg_lists.specs.declared.kinds.Mode.TheVariants.{Start}
use Rattle.dg_words.specs.declared.word.Word.{Word}
use Rattle.dg_words.specs.Machine.{read, fresh}

-- A fault stands at the end of the text, or at a byte: then each text that begins with the bytes up to that one has it.
pub record FirstFault (text : List ℕ) (fault : WordFault) (place : ℕ) : Type 0 where
  pub front : List ℕ
  pub place_is : place ≡ length front
  pub why : (text ≡ front)
      ⊎ ((b : ℕ) × (rest : List ℕ) × (text ≡ front ++ b ∷ rest) × ((more : List ℕ) → read Top (front ++ b ∷ more) (fresh Start) 0 ≡ Err (fault, place)))

-- A command goes to the end of the text, or to an ender: then each text that begins with it has the same first command.
pub record FirstCommand (text : List ℕ) (words : List Word) (next : ℕ) : Type 0 where
  pub front : List ℕ
  pub why : ((text ≡ front) × (next ≡ length front))
      ⊎ ((b : ℕ) × (rest : List ℕ) × (text ≡ front ++ b ∷ rest) × ((more : List ℕ) → read Top (front ++ b ∷ more) (fresh Start) 0 ≡ Ok (words, next)))
