use Rattle.std.proofs.Common.{◌≤◌, ◌+◌, ◌*◌, ◌^◌, ◌∙◌, length, refl, sym, arith}
use Rattle.std.proofs.lemmas.Result.{IfOk-weaker}
use Rattle.dg_machine.specs.Meaning.{weight_of}
use Rattle.dg_machine.proofs.PatternLemmas.{regexp-asks, regexp-read, regexp-runs, regexp-unread}
use Rattle.dg_machine.proofs.machine.Machine.regexp.Goals as goal

pub returns-in_ok-ask-in-Unasked : goal.returns-in_ok-ask-in-Unasked
returns-in_ok-ask-in-Unasked c =
    let words = sym c.in-Ok.is ∙ c.in_ok-search.ensures in
    let unasked = rw c.in-Unasked.is at c.in_ok-question.ensures in
    rw c.in_ok-ask-in-Unasked.ensures (regexp-asks _ _ words _ _ _ unasked, refl, unasked.1)

pub returns-in_ok-message-in-OneUnread : goal.returns-in_ok-message-in-OneUnread
returns-in_ok-message-in-OneUnread c =
    let words = sym c.in-Ok.is ∙ c.in_ok-search.ensures in
    let unread = rw c.in-OneUnread.is at c.in_ok-question.ensures in
    let old = c.args.self.now in
    let went = rw c.in_ok-message-in-OneUnread.ensures at c.fail-in-OneUnread.ensures in
    let enough : weight_of old + 2 ≤ weight_of old + 2 ^ 250 = omega arith in
    IfOk-weaker c.fail-in-OneUnread.result _ _
    (λ p h. regexp-runs c.args.args.now _ old c.fail-in-OneUnread.new.self p _ h (regexp-unread _ _ words _ _ unread) enough) went

pub returns-in-AllRead : goal.returns-in-AllRead
returns-in-AllRead c =
    let words = sym c.in-Ok.is ∙ c.in_ok-search.ensures in
    let read = rw c.in-AllRead.is at c.in_ok-question.ensures in
    let old = c.args.self.now in
    let enough : weight_of old + 6 + 4 * length c.in-Ok.search.names ≤ weight_of old + 2 ^ 250 = omega (arith, c.len-count.ensures) in
    IfOk-weaker c.find_text.result _ _
    (λ p h. regexp-runs c.args.args.now _ old c.find_text.new.self p _ h (regexp-read _ _ words _ _ read) enough) c.find_text.ensures
