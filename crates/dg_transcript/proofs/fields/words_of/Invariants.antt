use Rattle.std.proofs.Common.{◌≡◌, ◌+◌, ◌-◌, ◌≤◌, length, option_copied}
use Rattle.dg_transcript.specs.Fields.{each_word}
use Rattle.dg_transcript.specs.Spaced.{behind}
use Rattle.dg_transcript.proofs.WordsLemmas.{with_front}
use Rattle.dg_transcript.proofs.fields.words_of.Given as goal

abbrev pub invariant-loop-left : goal.invariant-loop-left
invariant-loop-left l = record {
  front : with_front l.words.items (each_word (behind (option_copied l.left))) ≡ each_word (behind (option_copied l.fn.fields));
  total : length l.words.items + length (behind (option_copied l.left)) ≡ length (behind (option_copied l.fn.fields));
  few : length l.words.items ≤ 64;
}

abbrev pub decreases-loop-left : goal.decreases-loop-left
decreases-loop-left l = 64 - length l.words.items
