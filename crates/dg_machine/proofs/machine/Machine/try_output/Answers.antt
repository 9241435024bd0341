use Rattle.std.proofs.Common.{refl, sym, ◌∙◌, arith}
use Rattle.dg_language.specs.Expecting.{bytes_of}
use Rattle.dg_language.specs.Language.{evaluate}
use Rattle.dg_machine.specs.declared.frame.Reach.TheVariants.{Reading}
use Rattle.dg_machine.specs.Acting.{again, awaiting, waiting_of}
use Rattle.dg_machine.specs.Meaning.{all_back, go, rest}
use Rattle.dg_machine.proofs.MachineLemmas.{weight-cons}
use Rattle.dg_machine.proofs.AwaitingLemmas.{stays-match, tries-hit, tries-none, weight-stays}
use Rattle.dg_machine.proofs.ResultLemmas.{Goes-along-ok}
use Rattle.dg_machine.proofs.machine.Machine.try_output.Goals as goal

pub returns-in_default : goal.returns-in_default
unfolding rest go
returns-in_default c =
    let w = c.args.wait in
    let s = c.args.self.now.state in
    let k = all_back c.args.self.now.stack in
    let hit = rw c.patterns-patterns.ensures at c.in_ok-hit.ensures.hit in
    let none = tries-none (evaluate w.depth) (waiting_of w) (again w k) s k (awaiting (Reading c.args.limit) w s k) (sym c.in_default.is ∙ hit) in
    rw (c.in_ok-push.ensures, c.find_match.ensures.same, c.requires) (sym none, refl, (rw weight-cons (omega arith)))

pub returns : goal.returns
returns c =
    let w = c.args.wait in
    let s = c.args.self.now.state in
    let k = all_back c.args.self.now.stack in
    let hit = rw c.patterns-patterns.ensures at c.in_ok-hit.ensures.hit in
    let some = tries-hit (evaluate w.depth) (waiting_of w) (again w k) s k (awaiting (Reading c.args.limit) w s k) c.in-Some.hit (sym c.in-Some.is ∙ hit) in
    let went = rw (c.in_ok-keep_match.ensures, c.find_match.ensures.same, c.in_ok-action.ensures, c.action_at.ensures, c.pairs.ensures) at c.run_action.ensures in
    let stays = stays-match w.session (bytes_of w.session s) c.in-Some.hit s in
    Goes-along-ok _ _ _ _ _ _ _ _ went some stays.known (rw (weight-stays _ _ _ _ stays) (omega arith))
