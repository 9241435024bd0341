use Rattle.std.proofs.Common.{◌∙◌, ap, length, subst, sym}
use Rattle.std.specs.Map.{keys_of}
use Rattle.dg_records.specs.Truth.{RecordView}
use Rattle.dg_records.specs.Shelf.{with_record}
use Rattle.dg_index.specs.Marks.{MarkedView, counted, shelf_of}
use Rattle.dg_index.specs.Kept.{committed}
use Rattle.dg_index.specs.Numbers.{numbers_in, HoldsMore, IsNumbered}
use Rattle.dg_index.proofs.KeptLemmas.{Entries, kept-more, placed}
use Rattle.dg_index.proofs.kept.Kept.commit.Goals as goal

pub invariant_of-self : goal.invariant_of-self
invariant_of-self c =
    let k = c.self.inside in
    let room = c.make_room in (
      kept-more k.world k.records.entries room.new.records.entries k.index room.new.index room.ensures.stays room.ensures.entries c.self.invariant.0,
      subst (IsNumbered room.new.contents) (sym room.ensures.entries) (room.ensures.numbered c.self.invariant.1),
    )

pub invariant_of-self-2 : goal.invariant_of-self-2
invariant_of-self-2 c =
    let k = c.self.inside in
    let room = c.make_room in
    let e = c.in_ok-test.ensures in
    let placed_at =
    placed k.world k.records.entries room.new.records.entries c.place-self-inside.new.records.entries room.new.index c.in_ok-test.test c.in_ok-test.marked c.args.newest
    (ap keys_of room.ensures.entries) (ap length room.ensures.entries) e.test (ap (λ (m : MarkedView). m.record_of) e.marked) e.named c.place-self-inside.ensures.entries
    (kept-more k.world k.records.entries room.new.records.entries k.index room.new.index room.ensures.stays room.ensures.entries c.self.invariant.0) in
    (placed_at.0, c.place-self-inside.ensures.numbered)

pub place-self-inside-requires-clause-numbered : goal.place-self-inside-requires-clause-numbered
place-self-inside-requires-clause-numbered c =
    subst (IsNumbered c.make_room.new.contents) (sym c.make_room.ensures.entries) (c.make_room.ensures.numbered c.self.invariant.1)

pub place-self-inside-requires-clause-numbers : goal.place-self-inside-requires-clause-numbers
place-self-inside-requires-clause-numbers c =
    let e = c.in_ok-test.ensures in
    ap (λ (m : MarkedView). m.numbers) e.marked ∙ ap (λ (m : MarkedView). numbers_in c.make_room.new.contents m.record_of.reads) (sym e.marked)

pub place-self-inside-requires-clause-held : goal.place-self-inside-requires-clause-held
place-self-inside-requires-clause-held c =
    let room = c.make_room in
    let e = c.in_ok-test.ensures in
    subst (λ (m : MarkedView). HoldsMore room.new.contents room.new.records.entries m.record_of.reads) (sym e.marked)
    (subst (λ (l : Entries). HoldsMore room.new.contents l c.args.newest.reads) (sym room.ensures.entries) (e.held c.self.invariant.1))

pub returns-clause-ok : goal.returns-clause-ok
returns-clause-ok c =
    let k = c.self.inside in
    let room = c.make_room in
    let e = c.in_ok-test.ensures in
    let whole = ap (λ (m : MarkedView). m.record_of) e.marked in
    let shelf = (placed k.world k.records.entries room.new.records.entries c.place-self-inside.new.records.entries room.new.index c.in_ok-test.test c.in_ok-test.marked c.args.newest
    (ap keys_of room.ensures.entries) (ap length room.ensures.entries) e.test whole e.named c.place-self-inside.ensures.entries
    (kept-more k.world k.records.entries room.new.records.entries k.index room.new.index room.ensures.stays room.ensures.entries c.self.invariant.0)).1
    ∙ ap (λ (l : Entries). with_record (shelf_of l) c.args.newest) room.ensures.entries in
    let count = c.place-self-inside.ensures.count ∙ ap (λ (r : RecordView). counted k.compared (length r.reads)) whole in
    (λ i. record { world = k.world; shelf = shelf i; compared = count i }) ∙ ap (λ x. committed x c.args.newest) c.self.view_is
