use Rattle.std.proofs.Common.{ℕ, Vec, Global}
use Rattle.regex_extract.specs.Needles.{ContainsNeedle, EndsWithNeedle, StartsWithNeedle, needles_of}
use Rattle.regex_hir.specs.Meaning.{meaning}
use Rattle.dg_match.specs.Needs.{NeedsOneOf}
use Rattle.dg_match.proofs.NeedsLemmas.{contains_of_end, contains_of_start, if_some, needs_of_tree}
use Rattle.dg_match.proofs.needs.Needs.add_all.Goals as goal

pub returns : goal.returns
returns c = λ text names reads before.
    let hir = c.args.hir.now in
    let P : Vec (Vec ℕ Global) Global → Type 0 = λ s. NeedsOneOf text (needles_of s) in
    let contained = λ (s : Vec (Vec ℕ Global) Global) (h : ContainsNeedle (meaning hir) (needles_of s)). needs_of_tree text hir names (needles_of s) reads h in
    let ends = if_some (λ s. EndsWithNeedle (meaning hir) (needles_of s)) P c.in_ok-suffixes.field-0 (λ s h. contained s (contains_of_end (meaning hir) (needles_of s) h)) c.in_ok-suffixes.ensures.ends in
    let starts = if_some (λ s. StartsWithNeedle (meaning hir) (needles_of s)) P c.in_ok-prefixes.field-0 (λ s h. contained s (contains_of_start (meaning hir) (needles_of s) h)) c.in_ok-prefixes.ensures.starts in
    let holds = if_some (λ s. ContainsNeedle (meaning hir) (needles_of s)) P c.in_ok-required.field-0 contained c.in_ok-required.ensures.contains in
    c.add-3.ensures text holds (c.in_ok-add-2.ensures text starts (c.in_ok-add.ensures text ends before))
