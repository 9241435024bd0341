use Rattle.std.proofs.Common.{ap, sym, ◌∙◌, subst, ℕ, List, Vec, Global}
use Rattle.std.specs.List.{All}
use Rattle.std.specs.Arc.{arc_value}
use Rattle.regex.specs.Bytes.{regex_source}
use Rattle.regex_extract.specs.Needles.{needles_of}
use Rattle.dg_match.specs.Needs.{NeedsOneOf}
use Rattle.dg_match.specs.Regexes.{IsBuilt}
use Rattle.dg_match.specs.declared.needs.Needs.{Needs}
use Rattle.dg_match.proofs.built.Built.of.Goals as goal

pub invariant_of-result : goal.invariant_of-result
invariant_of-result c =
    let P : List ℕ → Needs → Type 0 = λ text n. All (λ (s : Vec (Vec ℕ Global) Global). NeedsOneOf text (needles_of s)) n.sets.items in
    let source = ap regex_source c.in_ok-regex.ensures.ok ∙ c.requires.text in (
      subst IsBuilt (sym c.in_ok-regex.ensures.ok) c.requires.built,
      subst (λ (text : List ℕ). P text (arc_value c.in_ok-needs.needs)) (sym source) (subst (P c.args.source.now) (sym c.in_ok-needs.ensures.ok) c.in_ok-of.ensures),
    )
