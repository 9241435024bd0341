use Rattle.dg_match.proofs.TryLemmas.{regex_tried}
use Rattle.dg_match.proofs.buffer.Buffer.hold_regex.Goals as goal

pub returns-clause-ok : goal.returns-clause-ok
returns-clause-ok c = λ text. regex_tried c.args.index text c.args.self.now c.look.new.self c.in_ok-look.ensures.tried
