use Rattle.std.proofs.Common.{◌∙◌, ap, sym, get_or, List}
use Rattle.dg_world.specs.declared.question.Read.{Read}
use Rattle.dg_transcript.specs.declared.entry.Entry.{Entry}
use Rattle.dg_living.specs.Replayed.{told_entry}
use Rattle.dg_live.proofs.Telling.{transcript-more}
use Rattle.dg_live.proofs.sessions.sessions_in.Goals as goal

pub loop-read-preserved : goal.loop-read-preserved
loop-read-preserved c =
    let r = c.read-item.result in
    c.in_ok-add_read.ensures
    ∙ ap (λ (x : Read). told_entry x.question x.answer c.loop-read.sessions.items) c.read-item.is
    ∙ ap (λ (ss : List (List Entry)). told_entry (get_or c.args.reads.now c.loop-read.read-index r).question (get_or c.args.reads.now c.loop-read.read-index r).answer ss) c.loop-read.invariant
    ∙ sym (transcript-more c.args.reads.now c.loop-read.read-index r c.loop-read-test.true)
