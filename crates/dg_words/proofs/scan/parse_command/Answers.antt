use Rattle.dg_words.proofs.Advance.{gives_command, gives_within, gives_onward, gives_over}
use Rattle.dg_words.proofs.GrammarLemmas.Answered.{command_fault, command_spelled}
use Rattle.dg_words.proofs.scan.parse_command.Goals as goal

pub returns : goal.returns
returns c =
    let e = gives_command c.args.text.now c.args.at c.scan.result c.scan.ensures in
    record {
      reading = e;
      within = gives_within c.args.text.now c.args.at c.scan.result c.requires e;
      onward = gives_onward c.args.text.now c.args.at c.scan.result e;
      over = gives_over c.args.text.now c.args.at c.scan.result c.requires e;
      spelled = command_spelled c.args.text.now c.args.at c.scan.result e;
      fault = command_fault c.args.text.now c.args.at c.scan.result e;
    }
