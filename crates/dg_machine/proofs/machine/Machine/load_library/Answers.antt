use Rattle.std.proofs.Common.{◌∙◌, refl, sym, arith}
use Rattle.dg_language.specs.Boards.{load}
use Rattle.dg_language.specs.Language.{evaluate}
use Rattle.dg_machine.specs.Meaning.{rest, back, all_back, weight}
use Rattle.dg_machine.proofs.OpeningLemmas.{known-marked, weight-marked, weight-pushed}
use Rattle.dg_machine.proofs.LibraryLemmas.{load-begun, load-asks, load-known, known-in_library, weight-in_library}
use Rattle.dg_machine.proofs.ResultLemmas.{Goes-runs-ok}
use Rattle.dg_machine.proofs.machine.Machine.load_library.Goals as goal

pub returns-then-has_begun : goal.returns-then-has_begun
unfolding rest weight
returns-then-has_begun c =
    let begun = sym c.has_begun.ensures ∙ c.if-has_begun.true in
    rw (c.end.ensures, c.new.ensures, c.requires.go) (sym (load-begun _ _ _ _ (rw (c.as_slice.ensures.bytes, c.requires.file) at begun)), refl, omega arith)

pub returns-in_ok-ask-in-Unanswered : goal.returns-in_ok-ask-in-Unanswered
returns-in_ok-ask-in-Unanswered c =
    let new = rw (c.as_slice.ensures.bytes, c.requires.file) at (sym c.has_begun.ensures ∙ c.if-has_begun.false) in
    let held = rw c.requires.file at (rw c.in-Unanswered.is at c.in_ok-question.ensures) in
    rw c.in_ok-ask-in-Unanswered.ensures (load-asks _ _ _ _ _ new held, refl, held.1)

pub returns-in_ok-mark-in-Known-None : goal.returns-in_ok-mark-in-Known-None
returns-in_ok-mark-in-Known-None c =
    let new = rw (c.as_slice.ensures.bytes, c.requires.file) at (sym c.has_begun.ensures ∙ c.if-has_begun.false) in
    let held = rw c.requires.file at (rw c.in-Known-None.field-0-is at (rw c.in-Known-None.is at c.in_ok-question.ensures)) in
    let went = rw (c.in_ok-mark-in-Known-None.ensures, c.as_slice-in-Known-None.ensures.bytes, c.requires.file) at c.miss_library.ensures in
    Goes-runs-ok _ _ _ (λ s. load (evaluate c.args.depth) c.args.library.now s (all_back c.args.self.now.stack)) _ _ _ _ went
    (load-known _ _ _ _ _ new held) (known-marked _ _) (rw weight-marked (omega arith))

pub returns-in_ok-push-in-Known-Some : goal.returns-in_ok-push-in-Known-Some
unfolding all_back back
returns-in_ok-push-in-Known-Some c =
    let new = rw (c.as_slice.ensures.bytes, c.requires.file) at (sym c.has_begun.ensures ∙ c.if-has_begun.false) in
    let held = rw c.requires.file at (rw c.in-Known-Some.field-0-is at (rw c.in-Known-Some.is at c.in_ok-question.ensures)) in
    let went = rw (c.in_ok-push-in-Known-Some.ensures, c.in_ok-enter_library-in-Known-Some.ensures, c.as_slice-in-Known-Some.ensures.bytes, c.requires.file) at c.enter.ensures in
    Goes-runs-ok _ _ _ (λ s. load (evaluate c.args.depth) c.args.library.now s (all_back c.args.self.now.stack)) _ _ _ _ went
    (load-known _ _ _ _ _ new held) (known-in_library _ _) (rw (weight-pushed, weight-in_library) (omega arith))
