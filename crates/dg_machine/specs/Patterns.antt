-- How far the `-re` patterns of a command are known.
use Rattle.std.specs.Prelude.{◌≡◌, ℕ, List, [], ◌∷◌, Some, None}
use Rattle.dg_match.specs.declared.reading.Reading.TheVariants.{Read as IsRead}
use Rattle.dg_world.specs.declared.question.Question.TheVariants.{Pattern}
use Rattle.dg_world.specs.declared.question.Answer.TheVariants.{Reading}
use Rattle.dg_world.specs.declared.question.Read.{Read}
use Rattle.dg_language.specs.declared.expect.Awaited.{Awaited}
use Rattle.dg_language.specs.declared.expect.Awaited.TheVariants.{Regex}
use Rattle.dg_language.specs.Play.{Play, Asks, plain, lookup}
use Rattle.dg_language.specs.State.{State, learn}
use Rattle.dg_language.specs.Evaluation.{Ending, Then, fail}
use Rattle.dg_language.specs.ExpectWords.{pattern_in}
use Rattle.dg_language.specs.Patterns.{with_patterns, cannot_compile}
use Rattle.dg_machine.specs.declared.patterns.Known.{Known}
use Rattle.dg_machine.specs.declared.patterns.Known.TheVariants.{AllRead, OneUnread, Unasked}
use Rattle.dg_machine.specs.declared.patterns.Made.{Made}
use Rattle.dg_machine.specs.declared.patterns.Made.TheVariants.{Made as MadePattern, Nothing, Lost}

-- each of these patterns was asked for and is read
abbrev pub AreRead : List (List ℕ) → List Read → Type 0
AreRead [] known = Unit {0}
AreRead (text ∷ texts) known = (lookup (Pattern text) known ≡ Some (Reading IsRead)) × AreRead texts known

-- they are all read; or one is not, which is an error; or one was not asked for yet
abbrev pub Knows : List (List ℕ) → State → Known → Type 0
Knows texts s AllRead = AreRead texts s.known
Knows texts s OneUnread = (k : Then) (f : State → Play Ending) → with_patterns texts s k f ≡ fail cannot_compile s k
Knows texts s (Unasked q) =
    ((k : Then) (f : State → Play Ending) → with_patterns texts s k f ≡ Asks (plain q) (λ a. with_patterns texts (learn q a s) k f))
    × (lookup q s.known ≡ None)

-- the pattern of a pair, if it waits for output; or it is a `-re` pattern that can't be built
abbrev pub Makes : Awaited → Made → Type 0
Makes awaited (MadePattern p) = pattern_in awaited ≡ Some p
Makes awaited Nothing = pattern_in awaited ≡ None
Makes awaited Lost = (text : List ℕ) × (awaited ≡ Regex text)
