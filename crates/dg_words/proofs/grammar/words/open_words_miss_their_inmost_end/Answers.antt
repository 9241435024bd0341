use Rattle.dg_words.proofs.GrammarLemmas.Answered.{open_words_misses}
use Rattle.dg_words.proofs.grammar.words.open_words_miss_their_inmost_end.Goals as goal

pub returns : goal.returns
returns c = λ text k ks o. open_words_misses text k ks o
