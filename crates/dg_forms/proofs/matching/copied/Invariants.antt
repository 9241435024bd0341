use Rattle.std.proofs.Common.{◌≡◌, take}
use Rattle.dg_forms.proofs.matching.copied.Given as goal

abbrev pub invariant-loop-word : goal.invariant-loop-word
invariant-loop-word l = l.list ≡ take l.word-index l.words
