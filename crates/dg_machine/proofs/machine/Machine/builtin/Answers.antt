use Rattle.dg_machine.proofs.machine.Machine.builtin.Goals as goal

pub returns-in-Variable : goal.returns-in-Variable
returns-in-Variable c = rw c.in-Variable.is c.variable.ensures

pub returns-in-Target : goal.returns-in-Target
returns-in-Target c = rw c.in-Target.is c.target.ensures

pub returns-in-Session : goal.returns-in-Session
returns-in-Session c = rw c.in-Session.is c.session.ensures

pub returns-in-Flag : goal.returns-in-Flag
returns-in-Flag c = rw c.in-Flag.is c.flag.ensures

pub returns-in-LoadLib : goal.returns-in-LoadLib
returns-in-LoadLib c = rw c.in-LoadLib.is c.load_lib.ensures

pub returns-in-Regexp : goal.returns-in-Regexp
returns-in-Regexp c = rw c.in-Regexp.is c.regexp.ensures
