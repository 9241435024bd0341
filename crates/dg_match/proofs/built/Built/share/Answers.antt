use Rattle.std.proofs.Common.{ℕ, Vec, Global, refl, subst, sym}
use Rattle.std.specs.Arc.{arc_value}
use Rattle.std.specs.List.{All}
use Rattle.regex.specs.Bytes.{regex_source}
use Rattle.regex.specs.declared.bytes.regex.Regex.{Regex}
use Rattle.regex_extract.specs.Needles.{needles_of}
use Rattle.dg_match.specs.Needs.{NeedsOneOf}
use Rattle.dg_match.specs.Regexes.{IsBuilt, IsPatternText}
use Rattle.dg_match.specs.declared.needs.Needs.{Needs}
use Rattle.dg_match.proofs.RegexLemmas.{pattern_of_regex}
use Rattle.dg_match.proofs.built.Built.share.Goals as goal

pub invariant_of-result : goal.invariant_of-result
invariant_of-result c =
    let P : Regex → Needs → Type 0 = λ r n. IsBuilt r × All (λ (s : Vec (Vec ℕ Global) Global). NeedsOneOf (regex_source r) (needles_of s)) n.sets.items in
    subst (λ (r : Regex). P r (arc_value c.in_ok-try_clone-2.field-0)) (sym c.in_ok-try_clone.ensures)
    (subst (P (arc_value c.self.inside.regex)) (sym c.in_ok-try_clone-2.ensures) c.self.invariant)

pub returns-clause-read : goal.returns-clause-read
returns-clause-read c =
    subst IsPatternText c.self.view_is
    (pattern_of_regex (arc_value c.self.inside.regex) _ refl c.self.invariant.0.0 c.self.invariant.0.1 c.self.invariant.0.2)
