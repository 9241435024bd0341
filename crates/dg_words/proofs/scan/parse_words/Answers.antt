use Rattle.dg_words.proofs.Advance.{gives_words, gives_fault}
use Rattle.dg_words.proofs.GrammarLemmas.Answered.{words_fault}
use Rattle.dg_words.proofs.GrammarLemmas.CommandSpelled.{read_words_are_spelled}
use Rattle.dg_words.proofs.scan.parse_words.Goals as goal

pub returns-in-Ok : goal.returns-in-Ok
returns-in-Ok c =
    let e = gives_words c.args.text.now c.in-Ok.field-0.words c.in-Ok.field-0.next c.in-Ok.ensures in
    record { reading = e; spelled = read_words_are_spelled c.args.text.now c.in-Ok.field-0.words e; fault = tt }

pub returns-in-Err : goal.returns-in-Err
returns-in-Err c =
    let e = gives_fault c.args.text.now c.in-Err.fault c.in-Err.ensures in
    record { reading = e; spelled = tt; fault = words_fault c.args.text.now c.in-Err.fault e }
