use Rattle.std.proofs.Common.{ap, length, arith}
use Rattle.dg_match.specs.Searches.{searched}
use Rattle.dg_match.specs.Tries.{known}
use Rattle.dg_match.specs.declared.starts.Sought.TheVariants.{Text}
use Rattle.dg_match.proofs.StartLemmas.{remembered_length}
use Rattle.dg_match.proofs.NeedsLemmas.{nowhere_unless}
use Rattle.dg_match.proofs.watch.Watch.finds.Goals as goal

pub search_for-requires-clause-kept : goal.search_for-requires-clause-kept
search_for-requires-clause-kept c = rw c.self.view_is c.requires

pub invariant_of-self-2 : goal.invariant_of-self-2
invariant_of-self-2 c =
    let size = ap length c.in_ok-looked.ensures.state in
    let more = remembered_length c.self.inside.turn (searched c.args.bytes.now (known c.self.inside.turn (Text c.args.text.now) c.self.inside.starts)) c.self.inside.starts c.self.invariant in
    let turn = c.saturating_add-self-inside.ensures in
    omega arith

pub returns-clause-nowhere : goal.returns-clause-nowhere
returns-clause-nowhere c = nowhere_unless _ c.in_ok-looked.looked.found c.is_some.result c.in_ok-looked.ensures.found c.is_some.ensures

pub returns-clause-passed : goal.returns-clause-passed
returns-clause-passed c = c.search_for.ensures.kept
