-- Which benches they are.
use Rattle.dg_trials.proofs.benches.try_elsewhere.Given as goal

abbrev pub ghosts-is_shorter-A-Room : goal.ghosts-is_shorter-A-Room
ghosts-is_shorter-A-Room g a = record { names = a.one.cells.names }

abbrev pub ghosts-is_shorter-B-Room : goal.ghosts-is_shorter-B-Room
ghosts-is_shorter-B-Room g a = record { names = a.other.cells.names }
