use Rattle.std.proofs.Common.{◌≡◌, map, take, true}
use Rattle.std.specs.List.{list_all}
use Rattle.std.specs.Str.{is_utf8}
use Rattle.dg_line.proofs.select.texts_of.Given as goal

abbrev pub invariant-loop-word : goal.invariant-loop-word
invariant-loop-word l = (map (λ w. w.now) l.texts.items ≡ take l.word-index l.words) × (list_all is_utf8 (take l.word-index l.words) ≡ true)
