use Rattle.std.proofs.Common.{◌<◌, ◌≡◌, ◌+◌, ◌-◌, Some, sym, ap, ◌∙◌, subst, true, length, arith}
use Rattle.dg_bench.specs.History.{IsLegal}
use Rattle.dg_bench.specs.Seen.{Knows}
use Rattle.dg_bench.proofs.Places.{all_known}
use Rattle.dg_bench.proofs.notes.whole.Goals as goal

pub of_note-requires-2 : goal.of_note-requires-2
of_note-requires-2 g c is =
    let n = c.len-count.result in
    let len = c.len-count.ensures ∙ c.args.calls.now.ok.0 in
    let some : 0 < n = omega (arith, c.if-count-eq0.false) in
    let next : n - 1 + 1 ≡ n = omega arith in
    let known = all_known g.B.Room.names c.args.notes.now.items c.args.calls.now.items (n - 1) c.note_at-note.result c.requires.all c.note_at-note.ensures.note (next ∙ len) in
    (subst (λ k. Knows g.B.Room.names k (Some c.note_at-note.result)) next known.0, len ∙ ap length (sym known.1), subst IsLegal (sym known.1) c.requires.legal)

pub returns-clause-seen : goal.returns-clause-seen
returns-clause-seen g c =
    let n = c.len-count.result in
    let len = c.len-count.ensures ∙ c.args.calls.now.ok.0 in
    let some : 0 < n = omega (arith, c.if-count-eq0.false) in
    let next : n - 1 + 1 ≡ n = omega arith in
    let known = all_known g.B.Room.names c.args.notes.now.items c.args.calls.now.items (n - 1) c.note_at-note.result c.requires.all c.note_at-note.ensures.note (next ∙ len) in
    c.of_note-2.ensures ∙ ap (λ calls. record { ours = true; count = n; calls = calls }) known.1 ∙ ap (λ k. record { ours = true; count = k; calls = c.args.calls.now.items }) len
