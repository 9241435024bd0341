use Rattle.std.proofs.Common.{◌≡◌, ◌<◌, ◌≤◌, ◌++◌, length, ap, sym, ◌∙◌, refl, arith}
use Rattle.dg_sessions.specs.Views.{SessionsView}
use Rattle.dg_language.specs.State.{with_sessions}
use Rattle.dg_machine.specs.Meaning.{all_back, go, rest, stack_weight, weight}
use Rattle.dg_machine.proofs.SessionLemmas.{start-begins, start-full, start-long}
use Rattle.dg_machine.proofs.ResultLemmas.{Goes-along-ok}
use Rattle.dg_machine.proofs.machine.Machine.start.Goals as goal

pub returns-then-words-gt-MOST_WORDS : goal.returns-then-words-gt-MOST_WORDS
returns-then-words-gt-MOST_WORDS c =
    let words = c.args.words.now in
    let many : 64 < length words = omega (arith, c.if-words-gt-MOST_WORDS.true) in
    let went = rw c.in_ok-message.ensures at c.fail.ensures in
    Goes-along-ok _ _ _ _ _ _ _ _ went (start-long words _ _ many) refl (omega arith)

pub returns-then-len-ge-MAX_SESSIONS : goal.returns-then-len-ge-MAX_SESSIONS
returns-then-len-ge-MAX_SESSIONS c =
    let s = c.args.self.now.state in
    let words = c.args.words.now in
    let few : length words ≤ 64 = omega (arith, c.if-words-gt-MOST_WORDS.false) in
    let full : 64 ≤ length s.sessions.all = omega (arith, c.if-len-ge-MAX_SESSIONS.true, c.len.ensures, ap (λ (x : SessionsView). length x.all) c.sessions.ensures) in
    let went = rw c.in_ok-message-2.ensures at c.fail-then-len-ge-MAX_SESSIONS.ensures in
    Goes-along-ok _ _ _ _ _ _ _ _ went (start-full words s _ few full) refl (omega arith)

pub returns : goal.returns
unfolding rest go weight stack_weight with_sessions
returns c =
    let s = c.args.self.now.state in
    let words = c.args.words.now in
    let few : length words ≤ 64 = omega (arith, c.if-words-gt-MOST_WORDS.false) in
    let room : length s.sessions.all < 64 = omega (arith, c.if-len-ge-MAX_SESSIONS.false, c.len.ensures, ap (λ (x : SessionsView). length x.all) c.sessions.ensures) in
    let made : c.push_all.new.list ≡ words = c.in_ok-push_all.ensures ∙ ap (λ xs. xs ++ words) c.new-copies.ensures in
    rw (c.in_ok-push.ensures, c.in_ok-copy.ensures, made, c.in_ok-session.ensures.next, c.requires)
    (sym (start-begins words s (all_back c.args.self.now.stack) few room c.in_ok-session.session c.in_ok-session.ensures.number), refl, omega arith)
