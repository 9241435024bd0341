use Rattle.std.proofs.Common.{◌+◌, ◌++◌, ap, ◌∙◌, map, flat_map, arith, rules}
use Rattle.std.specs.Prelude.{codes}
use Rattle.dg_transcript.specs.Text.{line_text, sessions_lines, text_of}
use Rattle.dg_transcript.specs.declared.line.Line.TheVariants as line
use Rattle.dg_transcript.proofs.Spaces.{text_more, text_whole}
use Rattle.dg_transcript.proofs.writing.encode.Goals as goal

pub loop-session-init : goal.loop-session-init
unfolding sessions_lines
loop-session-init c = record {
  so_far = search rules;
  count = search rules;
  few = rw c.sessions-session-items.ensures.value c.sessions-session-items.ensures.kept.sessions;
}

pub loop-session-preserved : goal.loop-session-preserved
loop-session-preserved c =
    let s = c.session-item.result in
    record {
      so_far = text_more c.loop-session.out c.push_session.new.out (codes "dejagnu-transcript 1\n") c.sessions-session-items.result.now c.loop-session.session-index (c.loop-session.number + 1) s c.loop-session-test.true (omega (arith, c.loop-session.invariant.count)) c.loop-session.invariant.so_far
          (c.in_ok-push_session.ensures ∙ ap (λ t. c.loop-session.out ++ (line_text (line.Session (c.loop-session.number + 1)) ++ flat_map line_text (map line.Said t))) (c.as_slice.ensures ∙ c.session-item.is));
      count = omega (arith, c.loop-session.invariant.count);
      few = c.loop-session.invariant.few;
    }

pub returns : goal.returns
returns c =
    text_whole c.loop-session.out c.extend-2.new.self c.sessions-session-items.result.now c.loop-session.session-index c.loop-session-test.false c.loop-session.invariant.so_far c.in_ok-extend-2.ensures.ok
    ∙ ap text_of c.sessions-session-items.ensures.value
