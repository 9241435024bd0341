use Rattle.std.proofs.Common.{rules}
use Rattle.dg_line.proofs.SelectLemmas.{no_text_at, text_at}
use Rattle.dg_line.proofs.select.texts_of.Goals as goal

pub returns-in_default : goal.returns-in_default
returns-in_default c =
    no_text_at c.args.words.now c.loop-word.word-index c.word-item.result c.as_slice.result.now c.loop-word-test.true c.word-item.is c.as_slice.ensures c.in_default.ensures.cases.0

pub loop-word-preserved : goal.loop-word-preserved
loop-word-preserved c =
    text_at c.args.words.now c.loop-word.texts.items _ c.loop-word.word-index c.word-item.result c.as_slice.result.now c.in-Ok.text c.loop-word-test.true c.word-item.is c.as_slice.ensures
    c.in-Ok.ensures.cases (search rules) c.loop-word.invariant
