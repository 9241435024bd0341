use Rattle.std.proofs.Common.{codes, decimal}
use Rattle.dg_transcript.specs.Text.{code_number}
use Rattle.dg_transcript.proofs.Spaces.{behind_code}
use Rattle.dg_transcript.proofs.writing.push_no_start.Goals as goal

pub returns : goal.returns
returns c =
    behind_code c.push_words.result c.args.out.now c.push_coded.new.out c.push_words.new.out (codes "nostart") (decimal (code_number c.args.code)) c.args.words.now c.in_ok-push_coded.ensures c.push_words.ensures
