use Rattle.std.proofs.Common.{◌∙◌, refl, sym, arith}
use Rattle.dg_machine.specs.Meaning.{all_back, go, rest}
use Rattle.dg_machine.proofs.MachineLemmas.{weight-cons}
use Rattle.dg_machine.proofs.LimitLemmas.{expect-given, expect-listed, weight-expecting}
use Rattle.dg_machine.proofs.ResultLemmas.{Goes-along-ok}
use Rattle.dg_machine.proofs.machine.Machine.expect.Goals as goal

pub returns-in_default : goal.returns-in_default
unfolding rest go
returns-in_default c =
    rw (c.in_ok-push.ensures, c.in_ok-push_all.ensures, c.new-words.ensures, c.requires)
    (sym (expect-given _ _ _ _ c.in_default.ensures), refl, (rw weight-cons (omega arith)))

-- the words of a list begin to be made
pub returns-in-Ok : goal.returns-in-Ok
unfolding rest go
returns-in-Ok c =
    let s = c.args.self.now.state in
    let k = all_back c.args.self.now.stack in
    let listed = expect-listed c.args.depth _ s k _ _ c.in-Some.ensures (c.deref.ensures ∙ c.in_ok-words.ensures) in
    let same = rw c.in-Ok.is at c.in_ok-making.ensures.same in
    let purpose = rw c.in-Ok.is at c.in_ok-making.ensures.purpose in
    rw (c.in_ok-push-in-Ok.ensures, c.requires) (
      same c.args.depth k ∙ sym listed,
      refl,
      weight-expecting s _ c.args.depth _ purpose (omega (arith, c.len-count.ensures)),
    )

-- the list can't be read
pub returns : goal.returns
returns c =
    let s = c.args.self.now.state in
    let k = all_back c.args.self.now.stack in
    let listed = expect-listed c.args.depth _ s k _ _ c.in-Some.ensures (c.deref.ensures ∙ c.in_ok-words.ensures) in
    let same = rw c.in-Err.is at c.in_ok-making.ensures.same in
    let went = rw (c.in_ok-message-in-Err.ensures, c.fault_text.ensures) at c.fail.ensures in
    Goes-along-ok _ _ _ _ _ _ _ _ went (listed ∙ sym (same c.args.depth k)) refl (omega arith)
