use Rattle.std.proofs.Common.{◌∙◌, ap, sym, arith, List, [], ◌∷◌, ◌++◌, length, ◌<◌, ◌≤◌, slice_set}
use Rattle.dg_transcript.specs.declared.entry.Entry.{Entry}
use Rattle.dg_living.specs.Living.{with_entry}
use Rattle.dg_live.proofs.Telling.{entry-set, entry-push}
use Rattle.dg_live.proofs.sessions.add_entry.Goals as goal

pub returns-in_ok-push : goal.returns-in_ok-push
returns-in_ok-push c =
    let items = c.args.sessions.now.items in
    let i = c.saturating_sub-index.result in
    let within : i < length items = omega (arith, c.if-index-len.true, c.len.ensures) in
    ap (λ (xs : List Entry). slice_set items i xs) (c.in_ok-push.ensures.ok ∙ ap (λ (xs : List Entry). xs ++ c.args.entry ∷ []) c.index_mut.ensures.value)
    ∙ sym (entry-set i c.args.entry items _ within) ∙ ap (λ k. with_entry k c.args.entry items) c.saturating_sub-index.ensures

pub returns-in_ok-push-3 : goal.returns-in_ok-push-3
returns-in_ok-push-3 c =
    let items = c.args.sessions.now.items in
    let i = c.saturating_sub-index.result in
    let past : length items ≤ i = omega (arith, c.if-index-len.false, c.len.ensures) in
    c.in_ok-push-3.ensures.items
    ∙ ap (λ (xs : List Entry). items ++ xs ∷ []) (c.in_ok-push-2.ensures.ok ∙ ap (λ (xs : List Entry). xs ++ c.args.entry ∷ []) c.new-entries.ensures)
    ∙ sym (entry-push i c.args.entry items past) ∙ ap (λ k. with_entry k c.args.entry items) c.saturating_sub-index.ensures
