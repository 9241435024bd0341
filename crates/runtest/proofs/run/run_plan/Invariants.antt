use Rattle.runtest.proofs.run.run_plan.Given as goal

abbrev pub ghosts-run_over : goal.ghosts-run_over
ghosts-run_over g a = record { names = a.opened.cells.names }
