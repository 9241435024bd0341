use Rattle.dg_words.proofs.Advance.{gives_operand, gives_operand_within}
use Rattle.dg_words.proofs.GrammarLemmas.Answered.{operand_fault, operand_spelled}
use Rattle.dg_words.proofs.scan.parse_operand.Goals as goal

pub returns : goal.returns
returns c =
    let e = gives_operand c.args.text.now c.args.at c.scan.result c.scan.ensures in
    record {
      reading = e;
      within = gives_operand_within c.args.text.now c.args.at c.scan.result c.requires e;
      spelled = operand_spelled c.args.text.now c.args.at c.scan.result e;
      fault = operand_fault c.args.text.now c.args.at c.scan.result e;
    }
