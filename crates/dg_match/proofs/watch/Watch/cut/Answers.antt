use Rattle.dg_match.proofs.watch.Watch.cut.Goals as goal

pub returns : goal.returns
returns c = λ bytes low all. c.cut.ensures.passed bytes low (rw c.self.view_is all)
