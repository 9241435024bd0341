use Rattle.std.proofs.Common.{rules, tests, ◌∙◌}
use Rattle.std.proofs.lemmas.Iterator.{YieldsList-from_slice}
use Rattle.std.proofs.lemmas.Iterator.Search.{position_from_yields_List}
use Rattle.dg_line.specs.Words.{is_bad_word}
use Rattle.dg_line.proofs.WordLemmas.{position-map}
use Rattle.dg_line.proofs.words.find_bad.Goals as goal

pub returns : goal.returns
returns c =
    position_from_yields_List (λ w. is_bad_word w.now) _ _ _ c.position.ensures.ran
    (YieldsList-from_slice c.args.words.now cc) (λ x b q k. search (rules, tests))
    ∙ position-map is_bad_word (λ w. w.now) c.args.words.now
