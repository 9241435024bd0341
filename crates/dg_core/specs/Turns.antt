-- How long the judging of a test may go on, while the book of its world grows.
use Rattle.std.specs.Prelude.{ℕ, ◌+◌, Option, Some, None, List, [], ◌∷◌}
use Rattle.dg_match.specs.declared.reading.Reading.TheVariants.{Read as IsRead, Syntax, TooLarge}
use Rattle.dg_world.specs.World.{WorldView, look}
use Rattle.dg_world.specs.declared.question.Answer.{Answer}
use Rattle.dg_world.specs.declared.question.Answer.TheVariants.{Reading}
use Rattle.dg_world.specs.declared.question.Read.{Read}
use Rattle.dg_world.specs.declared.test_id.TestId.{TestId}
use Rattle.dg_language.specs.Play.{Play, Ends, Asks}
use Rattle.dg_language.specs.Judge.{judge}

-- what is left of an evaluation that was told these answers
abbrev pub left_of : {A : Type 0} → Play A → List Read → Play A
left_of play [] = play
left_of (Ends a) (r ∷ rs) = Ends a
left_of (Asks ask k) (r ∷ rs) = left_of (k r.answer) rs

-- a count over the answer to a question, or over all that a pattern which has none may be answered
abbrev pub over_answers : Option Answer → (Answer → ℕ) → ℕ
over_answers (Some a) count = count a
over_answers None count = count (Reading IsRead) + count (Reading Syntax) + count (Reading TooLarge)

-- a bound on the questions of an evaluation in a world, whatever is answered for the patterns that are not in its book
abbrev pub bound : {A : Type 0} → WorldView → Play A → ℕ
bound w (Ends a) = 0
bound w (Asks ask k) = over_answers (look w ask.question) (λ a. bound w (k a)) + 1

-- a bound on the turns that are left of the judging of a test
unfoldable pub turns_left : WorldView → TestId → List Read → ℕ
turns_left w t reads = bound w (left_of (judge t) reads)
