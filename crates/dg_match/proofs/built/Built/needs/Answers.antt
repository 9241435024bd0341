use Rattle.std.proofs.Common.{List, ℕ, Vec, Global, subst, sym}
use Rattle.std.specs.Arc.{arc_value}
use Rattle.std.specs.List.{All}
use Rattle.regex.specs.Bytes.{regex_source}
use Rattle.regex_extract.specs.Needles.{needles_of}
use Rattle.dg_match.specs.Needs.{NeedsOneOf}
use Rattle.dg_match.specs.declared.needs.Needs.{Needs}
use Rattle.dg_match.proofs.built.Built.needs.Goals as goal

pub returns : goal.returns
returns c =
    let P : List ℕ → Needs → Type 0 = λ text n. All (λ (s : Vec (Vec ℕ Global) Global). NeedsOneOf text (needles_of s)) n.sets.items in
    subst (λ (text : List ℕ). P text c.as_ref.result.now) c.self.view_is
    (subst (P (regex_source (arc_value c.self.inside.regex))) (sym c.as_ref.ensures) c.self.invariant.1)
