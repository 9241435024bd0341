use Rattle.dg_match.proofs.StartLemmas.{searched_at}
use Rattle.dg_match.proofs.starts.Starts.search.Goals as goal

pub returns-in-Some-clause-state : goal.returns-in-Some-clause-state
returns-in-Some-clause-state c =
    searched_at c.args.bytes.now c.args.index c.self.inside.entries.items c.args.self.now _ c.search.new.self c.in-Some.ensures.item.3.0 c.in-Some.ensures.item.1 c.self.view_is c.search.ensures.state
