use Rattle.dg_machine.proofs.machine.Machine.session.Goals as goal

pub returns-in-Send : goal.returns-in-Send
returns-in-Send c = rw c.in-Send.is c.send.ensures

pub returns-in-Close : goal.returns-in-Close
returns-in-Close c = rw c.in-Close.is c.close.ensures

pub returns-in-Wait : goal.returns-in-Wait
returns-in-Wait c = rw c.in-Wait.is c.wait.ensures

pub returns-in-MatchMax : goal.returns-in-MatchMax
returns-in-MatchMax c = rw c.in-MatchMax.is c.match_max.ensures
