use Rattle.dg_match.specs.Searches.{sought_of}
use Rattle.dg_match.proofs.TryLemmas.{sought_once}
use Rattle.dg_match.proofs.buffer.Buffer.look.Goals as goal

pub returns-clause-tried : goal.returns-clause-tried
returns-clause-tried c =
    sought_once c.args.index (sought_of c.args.kind c.args.text.now) c.args.self.now c.search_for.new.self c.count.new.self c.in_ok-looked.looked.compared
    c.in_ok-looked.ensures.state c.in_ok-looked.ensures.compared c.count.ensures.value
