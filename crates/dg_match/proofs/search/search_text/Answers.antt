use Rattle.std.proofs.Common.{◌∙◌, ap, Option, ℕ}
use Rattle.dg_match.specs.Searches.{bytes_compared, places_passed}
use Rattle.dg_match.proofs.OccursLemmas.{passed_least}
use Rattle.dg_match.proofs.search.search_text.Goals as goal

pub returns-in-Nowhere-clause-counted : goal.returns-in-Nowhere-clause-counted
returns-in-Nowhere-clause-counted c =
    c.in-Nowhere.ensures.2 ∙ ap (λ (o : Option ℕ). bytes_compared c.args.passed c.args.text.now c.args.bytes.now o) c.in-Nowhere.ensures.1

pub returns-in-Nowhere-clause-places : goal.returns-in-Nowhere-clause-places
returns-in-Nowhere-clause-places c =
    c.passed_by.ensures.value ∙ ap (λ (o : Option ℕ). places_passed c.args.text.now c.args.bytes.now o) c.in-Nowhere.ensures.1

pub returns-in-At-clause-counted : goal.returns-in-At-clause-counted
returns-in-At-clause-counted c =
    c.in-At.ensures.2 ∙ ap (λ (o : Option ℕ). bytes_compared c.args.passed c.args.text.now c.args.bytes.now o) c.in-At.ensures.1

pub returns-in-At-clause-passed : goal.returns-in-At-clause-passed
returns-in-At-clause-passed c = passed_least _ _ _ c.in-At.ensures.0

pub returns-in-At-clause-places : goal.returns-in-At-clause-places
returns-in-At-clause-places c = ap (λ (o : Option ℕ). places_passed c.args.text.now c.args.bytes.now o) c.in-At.ensures.1
