use Rattle.std.proofs.Common.{◌≡◌, ◌++◌, ◌∷◌, flat_map, take}
use Rattle.dg_transcript.specs.Text.{word_field}
use Rattle.dg_transcript.proofs.writing.push_words.Given as goal

abbrev pub invariant-loop-word : goal.invariant-loop-word
invariant-loop-word l = l.out ≡ l.fn.out ++ flat_map (λ w. 32 ∷ word_field w) (take l.word-index l.fn.words)
