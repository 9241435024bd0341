use Rattle.std.proofs.Common.{◌∙◌, sym}
use Rattle.std.proofs.lemmas.Option.{MatchOption-at_none}
use Rattle.dg_match.specs.Searches.{sought_of}
use Rattle.dg_match.proofs.StartLemmas.{known_behind, known_hit, known_miss}
use Rattle.dg_match.proofs.starts.Starts.holds.Goals as goal

pub returns-in-Some-clause-yes : goal.returns-in-Some-clause-yes
returns-in-Some-clause-yes c = λ yes.
    known_hit c.args.index (sought_of c.args.kind c.args.text.now) c.deref.result.now c.args.self.now c.in-Some.start.now c.in-Some.ensures.lookup.3.0 c.in-Some.ensures.lookup.1 (c.deref.ensures.value ∙ c.self.view_is)
    (sym c.is_of.ensures ∙ yes)

pub returns-in-Some-clause-no : goal.returns-in-Some-clause-no
returns-in-Some-clause-no c = λ no.
    known_miss c.args.index (sought_of c.args.kind c.args.text.now) c.deref.result.now c.args.self.now c.in-Some.start.now c.in-Some.ensures.lookup.3.0 c.in-Some.ensures.lookup.1 (c.deref.ensures.value ∙ c.self.view_is)
    (sym c.is_of.ensures ∙ no)

pub returns-in-None-clause-no : goal.returns-in-None-clause-no
returns-in-None-clause-no c = λ _.
    known_behind c.args.index (sought_of c.args.kind c.args.text.now) c.deref.result.now c.args.self.now (MatchOption-at_none _ _ c.in-None.is c.get.ensures.lookup.3) (c.deref.ensures.value ∙ c.self.view_is)
