use Rattle.std.proofs.Common.{◌+◌, ◌≤◌, ◌∙◌, ap, length, refl, sym, arith}
use Rattle.dg_language.proofs.TouchLemmas.{within-short}
use Rattle.dg_compiled.proofs.ComputingLemmas.{nothing}
use Rattle.dg_compiled.proofs.GatherLemmas.{gather-none}
use Rattle.dg_machine.specs.Meaning.{all_back, budget, go, rest}
use Rattle.dg_machine.proofs.MachineLemmas.{weight-cons}
use Rattle.dg_machine.proofs.ResultLemmas.{Comes-along-ok, Goes-comes-ok}
use Rattle.dg_machine.proofs.machine.Machine.add_and_use.Goals as goal

pub returns-then-not-has_room : goal.returns-then-not-has_room
returns-then-not-has_room c = Goes-comes-ok _ _ _ _ _ _ _ c.add_value.ensures refl (omega arith)

pub returns-then-len-eq0 : goal.returns-then-len-eq0
returns-then-len-eq0 c =
    let short : length c.args.making.text + length c.args.value ≤ 1048576 = rw c.if-not-has_room.false at c.has_room.ensures.short in
    let made = rw c.in_ok-add_text.ensures at c.in_ok-make_texts.ensures in
    let same = made.same c.args.depth (all_back c.args.self.now.stack) in
    let fewer = made.fewer in
    let paid = ap budget made.purpose in
    Comes-along-ok _ _ _ _ _ _ _ c.use_words.ensures
    (within-short _ _ _ short ∙ sym same ∙ gather-none _ _ _ _ _ _ _ _ (nothing c.make_texts.new.making.left (omega (arith, c.len.ensures, c.if-len-eq0.true)))) (omega (arith, fewer, paid))

pub returns : goal.returns
unfolding rest go
returns c =
    let short : length c.args.making.text + length c.args.value ≤ 1048576 = rw c.if-not-has_room.false at c.has_room.ensures.short in
    let made = rw c.in_ok-add_text.ensures at c.in_ok-make_texts.ensures in
    let same = made.same c.args.depth (all_back c.args.self.now.stack) in
    let fewer = made.fewer in
    let paid = ap budget made.purpose in
    rw (c.in_ok-push.ensures, c.requires) (same ∙ sym (within-short _ _ _ short), refl, rw weight-cons (omega (arith, fewer, paid)))
