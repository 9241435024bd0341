-- The answer for a literal.
use Rattle.std.proofs.Common.{◌≡◌, ℕ, List, [], Option, None, Some, option_map, refl, sym, subst}
use Rattle.std.specs.Prelude.{MatchOption}
use Rattle.dg_glob.specs.declared.glob.Span.{Span}
use Rattle.dg_match.specs.Literals.{IsNowhere, IsFirstPlace}
use Rattle.dg_match.specs.Hits.{IsAnswer}
use Rattle.dg_match.specs.declared.found.Found.{Found}
use Rattle.dg_match.specs.declared.pattern.Pattern.{Pattern}
use Rattle.dg_match.specs.declared.pattern.Pattern.TheVariants.{Exact}

-- a match without groups
abbrev pub alone : Span → Found
alone s = record { start = s.start; end = s.end; groups = [] }

literal_found : (t bytes : List ℕ) (o : Option Span) → MatchOption o (IsNowhere t bytes) (λ s. IsFirstPlace t bytes s.start s.end) → IsAnswer (Exact t) bytes (option_map alone o)
literal_found t bytes None h = h
literal_found t bytes (Some s) h = (h, refl)

pub literal_answer : (t bytes : List ℕ) (p : Pattern) (o : Option Span) (r : Option Found) → p ≡ Exact t → r ≡ option_map alone o →
    MatchOption o (IsNowhere t bytes) (λ s. IsFirstPlace t bytes s.start s.end) → IsAnswer p bytes r
literal_answer t bytes p o r is e h =
    subst (λ (q : Pattern). IsAnswer q bytes r) (sym is) (subst (λ (a : Option Found). IsAnswer (Exact t) bytes a) (sym e) (literal_found t bytes o h))
