use Rattle.std.proofs.Common.{◌∙◌, List, length, sym, ap, subst, arith}
use Rattle.dg_match.specs.Searches.{IsFound, searched, sought_of}
use Rattle.dg_match.specs.Starts.{AllKept}
use Rattle.dg_match.specs.Tries.{known, remembered}
use Rattle.dg_match.specs.declared.starts.Progress.{Progress}
use Rattle.dg_match.proofs.StartLemmas.{all_remembered, at_known, known_kept, known_sought, remembered_length, remembered_twice}
use Rattle.dg_match.proofs.starts.Starts.search_for.Goals as goal

pub search-looked-requires-clause-within : goal.search-looked-requires-clause-within
search-looked-requires-clause-within c =
    let size = ap length c.in_ok-hold.ensures.ok in
    let more = remembered_length c.args.index (known c.args.index (sought_of c.args.kind c.args.text.now) c.args.self.now) c.args.self.now c.requires.within in
    omega arith

pub search-looked-requires-clause-kept : goal.search-looked-requires-clause-kept
search-looked-requires-clause-kept c =
    let k = sought_of c.args.kind c.args.text.now in
    subst (AllKept c.args.bytes.now) (sym c.in_ok-hold.ensures.ok)
    (all_remembered c.args.bytes.now c.args.index (known c.args.index k c.args.self.now) c.args.self.now c.requires.kept (known_kept c.args.bytes.now c.args.index k c.args.self.now c.requires.kept))

pub returns-clause-state : goal.returns-clause-state
returns-clause-state c =
    let k = sought_of c.args.kind c.args.text.now in
    let s : Progress = known c.args.index k c.args.self.now in
    c.search-looked.ensures.state s (at_known c.args.index s c.args.self.now c.hold.new.self c.requires.within c.in_ok-hold.ensures.ok)
    ∙ (ap (λ (ss : List Progress). remembered c.args.index (searched c.args.bytes.now s) ss) c.in_ok-hold.ensures.ok
    ∙ remembered_twice c.args.index (searched c.args.bytes.now s) s c.args.self.now c.requires.within)

pub returns-clause-compared : goal.returns-clause-compared
returns-clause-compared c =
    let k = sought_of c.args.kind c.args.text.now in
    let s : Progress = known c.args.index k c.args.self.now in
    c.search-looked.ensures.compared s (at_known c.args.index s c.args.self.now c.hold.new.self c.requires.within c.in_ok-hold.ensures.ok)

pub returns-clause-found : goal.returns-clause-found
returns-clause-found c =
    let k = sought_of c.args.kind c.args.text.now in
    let s : Progress = known c.args.index k c.args.self.now in
    subst (λ q. IsFound c.args.bytes.now q c.search-looked.result.found) (known_sought c.args.index k c.args.self.now)
    (c.search-looked.ensures.found s (at_known c.args.index s c.args.self.now c.hold.new.self c.requires.within c.in_ok-hold.ensures.ok))

pub returns-in_err-hold-clause-kept : goal.returns-in_err-hold-clause-kept
returns-in_err-hold-clause-kept c = subst (AllKept c.args.bytes.now) (sym c.in_err-hold.ensures.err) c.requires.kept
