use Rattle.dg_match.specs.declared.pattern.Pattern.TheVariants.{Exact}
use Rattle.dg_match.proofs.TryLemmas.{tried_ok}
use Rattle.dg_match.proofs.buffer.Buffer.try_text.Goals as goal

pub returns-clause-tried : goal.returns-clause-tried
returns-clause-tried c = tried_ok c.look.result c.args.index (Exact c.args.text.now) c.args.self.now c.look.new.self c.look.ensures.tried
