use Rattle.std.proofs.Common.{◌≡◌, ◌∙◌, subst, sym}
use Rattle.std.specs.Prelude.{OnOk}
use Rattle.dg_match.specs.Tries.{remembered}
use Rattle.dg_match.specs.declared.starts.Progress.{Progress}
use Rattle.dg_match.proofs.starts.Starts.hold.Goals as goal

pub returns-then-holds-clause-ok : goal.returns-then-holds-clause-ok
returns-then-holds-clause-ok c = sym (c.holds.ensures.yes c.if-holds.true)

pub returns-clause-ok : goal.returns-clause-ok
returns-clause-ok c =
    subst (λ (s : Progress). OnOk c.put.result (c.put.new.self ≡ remembered c.args.index s c.args.self.now)) (c.in_ok-start.ensures ∙ sym (c.holds.ensures.no c.if-holds.false)) c.put.ensures.ok
