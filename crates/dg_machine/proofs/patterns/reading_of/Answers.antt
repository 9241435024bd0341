use Rattle.std.proofs.Common.{sym, ◌∙◌}
use Rattle.dg_machine.proofs.PatternLemmas.{one-read, one-unread, one-unasked}
use Rattle.dg_machine.proofs.patterns.reading_of.Goals as goal

pub returns-in_default : goal.returns-in_default
returns-in_default c = one-unasked _ _ _ c.in_ok-copy.ensures (sym c.in_default.ensures)

pub returns-then-is_read : goal.returns-then-is_read
returns-then-is_read c = one-read _ _ c.args.state.now _ c.in_ok-copy.ensures (sym c.in-Some.ensures) (sym c.is_read.ensures ∙ c.if-is_read.true)

pub returns : goal.returns
returns c = one-unread _ _ c.args.state.now _ c.in_ok-copy.ensures (sym c.in-Some.ensures) (sym c.is_read.ensures ∙ c.if-is_read.false)
