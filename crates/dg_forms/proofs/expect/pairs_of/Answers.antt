use Rattle.std.proofs.Common.{◌∙◌, ap, sym}
use Rattle.dg_language.specs.ExpectWords.{pairs_of}
use Rattle.dg_forms.proofs.PairLemmas.{behind_pair, behind_pairs}
use Rattle.dg_forms.proofs.expect.pairs_of.Goals as goal

pub pairs-preserved : goal.pairs-preserved
pairs-preserved c =
    let first = rw c.in-Ok.is at c.in_ok-pair.ensures.pair in
    rw c.in_ok-push-in-Ok.ensures.ok
    (behind_pair c.pairs.pairs c.in-Ok.pair (pairs_of c.in-Ok.others.now)
    ∙ ap (behind_pairs c.pairs.pairs) (sym (ap pairs_of c.in-Some.ensures ∙ first))
    ∙ c.pairs.invariant)
