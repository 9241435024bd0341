use Rattle.std.proofs.Common.{◌∙◌, ap}
use Rattle.dg_match.specs.Tries.{remembered}
use Rattle.dg_match.proofs.StartLemmas.{remembered_push, remembered_set}
use Rattle.dg_match.proofs.starts.Starts.put.Goals as goal

pub returns-in-Some-clause-ok : goal.returns-in-Some-clause-ok
returns-in-Some-clause-ok c =
    remembered_set c.args.index c.args.start c.self.inside.entries.items c.in-Some.ensures.item.3.0 ∙ ap (remembered c.args.index c.args.start) c.self.view_is

pub returns-clause-ok : goal.returns-clause-ok
returns-clause-ok c =
    c.in_ok-push.ensures.items
    ∙ (remembered_push c.args.index c.args.start c.self.inside.entries.items c.in_default.ensures.item.3
    ∙ ap (remembered c.args.index c.args.start) c.self.view_is)
