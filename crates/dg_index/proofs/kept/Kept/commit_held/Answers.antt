use Rattle.std.proofs.Common.{◌≡◌, ◌∙◌, ap, length, subst, sym, true}
use Rattle.std.specs.Map.{keys_of}
use Rattle.dg_records.specs.Truth.{RecordView, holds}
use Rattle.dg_records.specs.Shelf.{with_record}
use Rattle.dg_index.specs.Marks.{MarkedView, counted, shelf_of}
use Rattle.dg_index.specs.Kept.{committed}
use Rattle.dg_index.specs.Numbers.{numbers_in, HoldsMore, IsNumbered}
use Rattle.indexmap.specs.IndexMap.{insert_entry}
use Rattle.dg_world.specs.Test.{same_test}
use Rattle.dg_index.proofs.KeptLemmas.{Entries, kept-more, placed}
use Rattle.dg_index.proofs.MarksLemmas.{marked-held}
use Rattle.dg_index.proofs.kept.Kept.commit_held.Goals as goal

pub invariant_of-self : goal.invariant_of-self
invariant_of-self c =
    let k = c.self.inside in
    let room = c.make_room in (
      kept-more k.world k.records.entries room.new.records.entries k.index room.new.index room.ensures.stays room.ensures.entries c.self.invariant.0,
      subst (IsNumbered room.new.contents) (sym room.ensures.entries) (room.ensures.numbered c.self.invariant.1),
    )

pub invariant_of-self-2 : goal.invariant_of-self-2
invariant_of-self-2 c =
    let k = c.self.inside in
    let room = c.make_room in
    let e = c.in_ok-test.ensures in
    let held = marked-held k.world c.in_ok-test.marked c.args.newest _ e.marked (subst (λ v. holds v.world c.args.newest ≡ true) (sym c.self.view_is) c.requires) in
    let placed_as = c.place_marked-self-inside.ensures.entries ∙ ap (insert_entry same_test room.new.records.entries c.in_ok-test.test) held in
    let placed_at =
    placed k.world k.records.entries room.new.records.entries c.place_marked-self-inside.new.records.entries room.new.index c.in_ok-test.test c.in_ok-test.marked c.args.newest
    (ap keys_of room.ensures.entries) (ap length room.ensures.entries) e.test (ap (λ (m : MarkedView). m.record_of) e.marked) e.named placed_as
    (kept-more k.world k.records.entries room.new.records.entries k.index room.new.index room.ensures.stays room.ensures.entries c.self.invariant.0) in
    (placed_at.0, c.place_marked-self-inside.ensures.numbered)

pub place_marked-self-inside-requires-clause-numbered : goal.place_marked-self-inside-requires-clause-numbered
place_marked-self-inside-requires-clause-numbered c =
    subst (IsNumbered c.make_room.new.contents) (sym c.make_room.ensures.entries) (c.make_room.ensures.numbered c.self.invariant.1)

pub place_marked-self-inside-requires-clause-numbers : goal.place_marked-self-inside-requires-clause-numbers
place_marked-self-inside-requires-clause-numbers c =
    let e = c.in_ok-test.ensures in
    ap (λ (m : MarkedView). m.numbers) e.marked ∙ ap (λ (m : MarkedView). numbers_in c.make_room.new.contents m.record_of.reads) (sym e.marked)

pub place_marked-self-inside-requires-clause-held : goal.place_marked-self-inside-requires-clause-held
place_marked-self-inside-requires-clause-held c =
    let room = c.make_room in
    let e = c.in_ok-test.ensures in
    subst (λ (m : MarkedView). HoldsMore room.new.contents room.new.records.entries m.record_of.reads) (sym e.marked)
    (subst (λ (l : Entries). HoldsMore room.new.contents l c.args.newest.reads) (sym room.ensures.entries) (e.held c.self.invariant.1))

pub returns-clause-ok : goal.returns-clause-ok
returns-clause-ok c =
    let k = c.self.inside in
    let room = c.make_room in
    let e = c.in_ok-test.ensures in
    let held = marked-held k.world c.in_ok-test.marked c.args.newest _ e.marked (subst (λ v. holds v.world c.args.newest ≡ true) (sym c.self.view_is) c.requires) in
    let placed_as = c.place_marked-self-inside.ensures.entries ∙ ap (insert_entry same_test room.new.records.entries c.in_ok-test.test) held in
    let whole = ap (λ (m : MarkedView). m.record_of) e.marked in
    let shelf = (placed k.world k.records.entries room.new.records.entries c.place_marked-self-inside.new.records.entries room.new.index c.in_ok-test.test c.in_ok-test.marked c.args.newest
    (ap keys_of room.ensures.entries) (ap length room.ensures.entries) e.test whole e.named placed_as
    (kept-more k.world k.records.entries room.new.records.entries k.index room.new.index room.ensures.stays room.ensures.entries c.self.invariant.0)).1
    ∙ ap (λ (l : Entries). with_record (shelf_of l) c.args.newest) room.ensures.entries in
    let count = c.place_marked-self-inside.ensures.count ∙ ap (λ (r : RecordView). counted k.compared (length r.reads)) whole in
    (λ i. record { world = k.world; shelf = shelf i; compared = count i }) ∙ ap (λ x. committed x c.args.newest) c.self.view_is
