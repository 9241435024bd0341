-- A pattern that was asked for and is read.
use Rattle.std.specs.Prelude.{◌≡◌, ℕ, List, Some}
use Rattle.dg_match.specs.declared.reading.Reading.TheVariants.{Read as IsRead}
use Rattle.dg_world.specs.declared.question.Question.TheVariants.{Pattern}
use Rattle.dg_world.specs.declared.question.Answer.TheVariants.{Reading}
use Rattle.dg_world.specs.declared.question.Read.{Read}
use Rattle.dg_language.specs.Play.{lookup}

-- one of the answers is that a pattern is read
abbrev pub HasReadPattern : List Read → Type 0
HasReadPattern reads = (text : List ℕ) × (lookup (Pattern text) reads ≡ Some (Reading IsRead))
