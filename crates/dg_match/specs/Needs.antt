-- The texts that a `-re` pattern needs.
use Rattle.std.specs.Prelude.{◌≡◌, List, ℕ, None}
use Rattle.std.specs.List.{All}
use Rattle.regex_literal.specs.Find.{AreBytes}
use Rattle.dg_match.specs.Groups.{regex_match}
use Rattle.dg_match.specs.Literals.{IsNowhere}

-- the pattern has no match in bytes in which none of the texts stands
abbrev pub NeedsOneOf : List ℕ → List (List ℕ) → Type 0
NeedsOneOf pattern texts = (bytes : List ℕ) → AreBytes bytes → All (λ t. IsNowhere t bytes) texts → regex_match pattern bytes ≡ None
