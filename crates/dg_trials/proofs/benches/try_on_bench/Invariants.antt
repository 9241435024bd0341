-- Which bench it is.
use Rattle.dg_trials.proofs.benches.try_on_bench.Given as goal

abbrev pub ghosts-try_case : goal.ghosts-try_case
ghosts-try_case g a = record { names = a.opened.cells.names }
