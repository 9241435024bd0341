use Rattle.std.proofs.Common.{ℕ, Vec, Global, sym, subst, arith}
use Rattle.std.specs.List.{All}
use Rattle.regex_extract.specs.Needles.{needles_of}
use Rattle.dg_match.specs.Needs.{NeedsOneOf}
use Rattle.dg_match.proofs.needs.Needs.of_tree.Goals as goal

pub returns : goal.returns
returns c = λ text names reads.
    let P : Vec (Vec ℕ Global) Global → Type 0 = λ s. NeedsOneOf text (needles_of s) in
    let none = subst (All P) (sym c.new.ensures.items) (λ k d low. absurd (omega arith)) in
    c.in_ok-add_all.ensures text names reads none
