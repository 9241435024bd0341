use Rattle.std.proofs.Common.{◌≡◌, map, take}
use Rattle.dg_line.specs.Words.{scripts_in}
use Rattle.dg_line.proofs.words.scripts_in.Given as goal

abbrev pub invariant-loop-word : goal.invariant-loop-word
invariant-loop-word l = l.scripts ≡ scripts_in (map (λ w. w.now) (take l.word-index l.words))
