use Rattle.std.proofs.Common.{◌∙◌, ap, sym, map}
use Rattle.std.specs.List.{list_all}
use Rattle.std.specs.Map.{set_value}
use Rattle.std.specs.Option.{option_copied_mut}
use Rattle.dg_world.specs.Test.{same_test}
use Rattle.dg_records.proofs.ShelfLemmas.{keyed, set_value-keyed, remove_entry-keyed, exchanged-lookup, exchanged-test, newest-found, newest-is, undone-by_record, undone-by_removal}
use Rattle.dg_records.proofs.shelf.Shelf.put_back.Goals as goal

pub unreachable-requires : goal.unreachable-requires
unreachable-requires c =
    let r = c.requires in
    newest-found r.1 _ (exchanged-lookup r.0 _ c.self.inside.records.entries r.1 _ c.args.test.now c.self.invariant c.self.view_is r.2 r.3)
    (sym c.get_mut.ensures.value ∙ ap option_copied_mut c.in-None-get_mut.is)

pub invariant_of-self : goal.invariant_of-self
invariant_of-self c =
    let r = c.requires in
    let test = exchanged-test r.0 _ r.1 c.in-Some.previous _ c.args.test.now c.in-Some.is r.2 r.3 ∙ ap (λ p. p.test) (sym c.replace.ensures.after) in
    ap (list_all keyed) (c.get_mut.follows.holds c.replace.new.dest).0 ∙ set_value-keyed c.self.inside.records.entries c.args.test.now c.replace.new.dest test c.self.invariant

pub returns-in-Some-get_mut : goal.returns-in-Some-get_mut
returns-in-Some-get_mut c before newest e x =
    let es = c.self.inside.records.entries in
    let t = c.args.test.now in (
      ap (map (λ e. e.1)) (c.get_mut.follows.holds c.replace.new.dest).0 ∙ ap (λ p. map (λ e. e.1) (set_value (same_test t) es p)) c.replace.ensures.after
          ∙ undone-by_record before _ es newest c.in-Some.previous _ t c.self.invariant c.self.view_is c.in-Some.is e x,
      c.replace.ensures.value ∙ newest-is newest _ _ (exchanged-lookup before _ es newest _ t c.self.invariant c.self.view_is e x) c.in-Some-get_mut.ensures.value,
    )

pub unreachable-requires-in-None-shift_remove : goal.unreachable-requires-in-None-shift_remove
unreachable-requires-in-None-shift_remove c =
    let r = c.requires in
    newest-found r.1 _ (exchanged-lookup r.0 _ c.self.inside.records.entries r.1 _ c.args.test.now c.self.invariant c.self.view_is r.2 r.3)
    (sym c.shift_remove.ensures.value ∙ c.in-None-shift_remove.is)

pub invariant_of-self-in-None : goal.invariant_of-self-in-None
invariant_of-self-in-None c =
    ap (list_all keyed) c.shift_remove.ensures.entries ∙ remove_entry-keyed c.self.inside.records.entries c.args.test.now c.self.invariant

pub returns-in-Some-shift_remove : goal.returns-in-Some-shift_remove
returns-in-Some-shift_remove c before newest e x =
    let es = c.self.inside.records.entries in
    let t = c.args.test.now in (
      ap (map (λ e. e.1)) c.shift_remove.ensures.entries ∙ undone-by_removal before _ es newest _ t c.self.invariant c.self.view_is c.in-None.is e x,
      newest-is newest _ _ (exchanged-lookup before _ es newest _ t c.self.invariant c.self.view_is e x) c.in-Some-shift_remove.ensures.value,
    )
