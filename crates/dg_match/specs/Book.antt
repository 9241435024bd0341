-- A book of patterns: the answer for each text that was asked for, in the order of the first asks.
use Rattle.std.specs.Prelude.{ℕ, List, Option, nat_eq}
use Rattle.std.specs.Cmp.Lexicographic.{pointwise}
use Rattle.std.specs.List.{All}
use Rattle.std.specs.Map.{lookup}
use Rattle.dg_match.specs.Regexes.{IsPatternText, IsNoPatternText}
use Rattle.dg_match.specs.declared.reading.Reading.{Reading}
use Rattle.dg_match.specs.declared.reading.Reading.TheVariants.{Read, Syntax, TooLarge}

-- the answer fits the text: Read only of a pattern, and Syntax only of what is none or nests too deep
abbrev pub Fits : List ℕ → Reading → Type 0
Fits text Read = IsPatternText text
Fits text Syntax = IsNoPatternText text
Fits text TooLarge = IsPatternText text

abbrev pub AllFit : List (List ℕ × Reading) → Type 0
AllFit = All (λ e. Fits e.0 e.1)

-- the book's answer for a text
abbrev pub reading_of : List (List ℕ × Reading) → List ℕ → Option Reading
reading_of book text = lookup (pointwise nat_eq text) book
