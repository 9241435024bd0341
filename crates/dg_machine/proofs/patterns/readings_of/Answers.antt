use Rattle.std.proofs.Common.{◌∙◌, ◌++◌, ap}
use Rattle.dg_machine.proofs.PatternLemmas.{looked-more, unread-behind, unasked-behind}
use Rattle.dg_machine.proofs.patterns.readings_of.Goals as goal

pub texts-preserved : goal.texts-preserved
texts-preserved c =
    let read = rw c.in-AllRead.is at c.in_ok-reading_of.ensures in
    looked-more _ _ _ _ _ c.in-Some.ensures read c.texts.invariant

pub returns-in-OneUnread : goal.returns-in-OneUnread
returns-in-OneUnread c =
    let looked = c.texts.invariant in
    let unread = rw c.in-OneUnread.is at c.in_ok-reading_of.ensures in
    unread-behind looked.0 _ _ _ _ (looked.1 ∙ ap (λ l. looked.0 ++ l) c.in-Some.ensures) looked.2 unread

pub returns-in-Unasked : goal.returns-in-Unasked
returns-in-Unasked c =
    let looked = c.texts.invariant in
    let unasked = rw c.in-Unasked.is at c.in_ok-reading_of.ensures in
    unasked-behind looked.0 _ _ _ _ (looked.1 ∙ ap (λ l. looked.0 ++ l) c.in-Some.ensures) looked.2 _ unasked
