use Rattle.dg_words.proofs.First.{first_command}
use Rattle.dg_words.proofs.scan.first_command.Goals as goal

pub returns : goal.returns
returns c = λ text words next e. first_command text words next e
