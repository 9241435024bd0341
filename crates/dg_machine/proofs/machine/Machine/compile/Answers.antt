use Rattle.std.proofs.Common.{arith}
use Rattle.dg_language.specs.ExpectWords.{regexes_in}
use Rattle.dg_machine.specs.Acting.{first_round}
use Rattle.dg_machine.specs.Meaning.{all_back}
use Rattle.dg_machine.proofs.PatternLemmas.{patterns-read}
use Rattle.dg_machine.proofs.ResultLemmas.{Goes-comes-ok}
use Rattle.dg_machine.proofs.machine.Machine.compile.Goals as goal

pub returns-in-AllRead : goal.returns-in-AllRead
returns-in-AllRead c =
    let it = c.args.compiling in
    let k = all_back c.args.self.now.stack in
    let read = rw (c.in-AllRead.is, c.as_slice-2.ensures, c.in_ok-texts.ensures, c.as_slice.ensures) at c.in_ok-question.ensures in
    Goes-comes-ok _ _ _ _ _ _ _ c.first_round.ensures
    (patterns-read (regexes_in it.pairs) c.args.self.now.state k (λ t. first_round it t k) read) (omega arith)
