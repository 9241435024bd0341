use Rattle.std.proofs.Common.{refl}
use Rattle.std.proofs.lemmas.List.{nil_from_length}
use Rattle.dg_glob.proofs.SearchLemmas.{no_answer, answer_along_is, answer_within, at_star, none_later}
use Rattle.dg_glob.proofs.search.longest.Goals as goal

pub returns-in_default-clause-answer : goal.returns-in_default-clause-answer
returns-in_default-clause-answer c = no_answer _ _ _ c.in_default.ensures.none

pub returns-in-None-clause-answer : goal.returns-in-None-clause-answer
returns-in-None-clause-answer c =
    answer_along_is _ _ _ _ _ _ _ _ _ c.in-Some.ensures.some (nil_from_length c.in-Some.run'.pattern.now c.in-None.ensures.cases) c.left_at_end.ensures refl

pub returns-in-Some-split_first-clause-answer : goal.returns-in-Some-split_first-clause-answer
returns-in-Some-split_first-clause-answer c =
    answer_along_is _ _ _ _ _ _ _ _ _ c.in-Some.ensures.some (at_star _ _ _ c.in-Some-split_first.ensures.cases.0 c.in-Some.ensures.stops) c.after_star.ensures refl

pub returns-in-Some-split_first-clause-later : goal.returns-in-Some-split_first-clause-later
returns-in-Some-split_first-clause-later c =
    none_later _ _ _ _ _ _ _ _ c.in-Some.ensures.some (at_star _ _ _ c.in-Some-split_first.ensures.cases.0 c.in-Some.ensures.stops) c.after_star.ensures

pub returns-in-None-clause-within : goal.returns-in-None-clause-within
returns-in-None-clause-within c = answer_within _ _ _ _ (returns-in-None-clause-answer c)

pub returns-in-Some-split_first-clause-within : goal.returns-in-Some-split_first-clause-within
returns-in-Some-split_first-clause-within c = answer_within _ _ _ _ (returns-in-Some-split_first-clause-answer c)
