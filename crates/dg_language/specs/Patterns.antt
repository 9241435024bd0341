-- `-re` patterns are asked for before they are used, since how one is read is no matter of the script.
use Rattle.std.specs.Prelude.{ℕ, Bool, true, false, List, [], ◌∷◌, codes}
use Rattle.dg_match.specs.declared.reading.Reading.{Reading}
use Rattle.dg_match.specs.declared.reading.Reading.TheVariants.{Read}
use Rattle.dg_world.specs.declared.question.Question.TheVariants.{Pattern}
use Rattle.dg_world.specs.declared.question.Answer.{Answer}
use Rattle.dg_world.specs.declared.question.Answer.TheVariants as answer
use Rattle.dg_language.specs.Play.{Play}
use Rattle.dg_language.specs.State.{State}
use Rattle.dg_language.specs.Evaluation.{Ending, Then, ask, fail}

abbrev pub is_read : Answer → Bool
is_read (answer.Reading Read) = true
is_read _ = false

abbrev pub cannot_compile : List ℕ
cannot_compile = codes "couldn't compile regular expression pattern"

-- what comes next where a pattern is read; else an error
abbrev pub if_read : Answer → State → Then → (State → Play Ending) → Play Ending
if_read a s k f = elim (is_read a) [ true ↦ f s | false ↦ fail cannot_compile s k ]

-- a pattern is asked for
unfoldable pub with_pattern : List ℕ → State → Then → (State → Play Ending) → Play Ending
with_pattern text s k f = ask (Pattern text) s (λ a t. if_read a t k f)

-- each of these patterns is asked for, in order, up to the first that isn't read
unfoldable pub with_patterns : List (List ℕ) → State → Then → (State → Play Ending) → Play Ending
with_patterns [] s k f = f s
with_patterns (text ∷ texts) s k f = with_pattern text s k (λ t. with_patterns texts t k f)
