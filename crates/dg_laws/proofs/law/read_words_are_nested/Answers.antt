use Rattle.dg_laws.proofs.NestedWords.{read-command-nested, read-operand-nested, read-words-nested}
use Rattle.dg_laws.proofs.law.read_words_are_nested.Goals as goal

pub returns : goal.returns
returns c = (read-command-nested, read-words-nested, read-operand-nested)
