use Rattle.std.proofs.Common.{◌++◌, ap, ◌∙◌}
use Rattle.dg_transcript.specs.Text.{line_text, entry_fields}
use Rattle.std.specs.List.{join_with_byte}
use Rattle.dg_transcript.specs.declared.line.Line.TheVariants as line
use Rattle.dg_transcript.proofs.Spaces.{session_begins, session_more}
use Rattle.dg_transcript.proofs.writing.push_session.Goals as goal

pub loop-entry-init : goal.loop-entry-init
loop-entry-init c = session_begins c.args.out.now c.extend.new.self c.push_number.new.out c.push.new.self c.args.number c.in_ok-extend.ensures.ok c.in_ok-push_number.ensures c.in_ok-push.ensures.ok

pub loop-entry-preserved : goal.loop-entry-preserved
loop-entry-preserved c =
    session_more c.args.out.now c.loop-entry.out c.push_entry.new.out c.push-in-loop-entry.new.self (line_text (line.Session c.args.number)) c.args.entries.now c.loop-entry.entry-index c.entry-item.result c.loop-entry-test.true
    c.loop-entry.invariant (c.in_ok-push_entry.ensures ∙ ap (λ e. c.loop-entry.out ++ join_with_byte 32 (entry_fields e)) c.entry-item.is) c.in_ok-push-2.ensures.ok
