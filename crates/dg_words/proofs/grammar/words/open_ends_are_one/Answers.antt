use Rattle.dg_words.specs.Grammar.Spelling.{BeginsCommand}
use Rattle.dg_words.proofs.GrammarLemmas.InOrder.{same_open}
use Rattle.dg_words.proofs.grammar.words.open_ends_are_one.Goals as goal

pub returns : goal.returns
returns c = λ text ks ls x y. same_open BeginsCommand text ks ls x y
