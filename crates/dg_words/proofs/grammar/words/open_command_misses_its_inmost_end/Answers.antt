use Rattle.dg_words.proofs.GrammarLemmas.Answered.{open_command_misses}
use Rattle.dg_words.proofs.grammar.words.open_command_misses_its_inmost_end.Goals as goal

pub returns : goal.returns
returns c = λ text at k ks o. open_command_misses text at k ks o
