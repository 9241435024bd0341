use Rattle.dg_transcript.proofs.GoodLines.{keeps_more}
use Rattle.dg_transcript.proofs.decoding.Lines.take.Goals as goal

pub invariant_of-self-2 : goal.invariant_of-self-2
invariant_of-self-2 c =
    keeps_more c.self.inside.lines.items c.push_line.new.lines.items c.self.inside.place c.self.inside.sessions c.self.inside.entries c.next_of-place.result c.args.text.now c.in_ok-line.line c.self.invariant
    c.in_ok-line.ensures c.in_ok-push_line.ensures.ok c.next_of-place.ensures
