use Rattle.dg_words.proofs.First.{first_fault}
use Rattle.dg_words.proofs.scan.first_fault.Goals as goal

pub returns : goal.returns
returns c = λ text fault place e. first_fault text fault place e
