use Rattle.std.proofs.Common.{codes}
use Rattle.dg_transcript.proofs.Spaces.{behind_words}
use Rattle.dg_transcript.proofs.writing.push_started.Goals as goal

pub returns : goal.returns
returns c =
    behind_words c.push_words.result c.args.out.now c.extend.new.self c.push_words.new.out (codes "started") c.args.words.now c.in_ok-extend.ensures.ok c.push_words.ensures
