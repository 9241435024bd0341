use Rattle.std.proofs.Common.{◌∙◌, ◌+◌, get_or, take, take_all, ap, sym, refl, arith}
use Rattle.std.specs.Option.{option_copied_mut}
use Rattle.std.specs.Prelude.{slice_get}
use Rattle.std.specs.Map.{values_of}
use Rattle.indexmap.specs.IndexMap.{spare, set_value_at}
use Rattle.dg_index.specs.Index.{is_among}
use Rattle.dg_index.specs.Marks.{counted, looked}
use Rattle.dg_index.proofs.LookingLemmas.{looked-all, looked-found, looked-past, looked_where, none_looked, none_read, places-step, read_where}
use Rattle.dg_index.proofs.NumbersLemmas.{knows-numbers}
use Rattle.dg_index.proofs.looking.look_again.Goals as goal
use Rattle.dg_index.proofs.looking.look_again.Goals.{in-Some, in_default}

pub loop-place-init : goal.loop-place-init
loop-place-init c =
    let es = c.args.records.now.entries in
    let n = none_read c.args.world.now c.args.topic.now es in
    record {
      entries = sym (none_looked c.args.world.now c.args.topic.now es);
      room = refl;
      count = omega (arith, n, c.ranges.compared.fits);
    }

pub loop-place-preserved : goal.loop-place-preserved
loop-place-preserved c =
    let w = c.args.world.now in
    let t = c.args.topic.now in
    let es = c.args.records.now.entries in
    let i = c.loop-place.place-index in
    let p = get_or c.args.places.now i 0 in
    let f = is_among (take i c.args.places.now) in
    let g = is_among (take (i + 1) c.args.places.now) in
    let s = places-step c.args.places.now i c.requires.once c.loop-place-test.true in
    elim c.match-get_index_mut.branch [
      | in-Some u ↦
          let m = u.in-Some.marked.now in
          let found = looked-found w t es f g p m s (u.in-Some.ensures.value ∙ ap (λ l. slice_get (values_of l) p) c.loop-place.invariant.entries) in
          record {
            entries = ap (λ r. r.entries) u.records-is ∙ ap (set_value_at c.loop-place.records.entries p) u.look_again-reads.ensures.marks
                ∙ ap (λ l. set_value_at l p (looked w t m)) c.loop-place.invariant.entries ∙ found.0;
            room = ap spare u.records-is ∙ c.loop-place.invariant.room;
            count = omega (arith, u.compared-is, u.saturating_add-compared.ensures, u.look_again-reads.ensures.compared, c.loop-place.invariant.count, found.1);
          }
      | in_default u ↦
          let past = looked-past w t es f g p s (sym (ap option_copied_mut u.in_default.is) ∙ c.get_index_mut.ensures.value ∙ ap (λ l. slice_get (values_of l) p) c.loop-place.invariant.entries) in
          record {
            entries = ap (λ r. r.entries) u.records-is ∙ c.loop-place.invariant.entries ∙ past.0;
            room = ap spare u.records-is ∙ c.loop-place.invariant.room;
            count = u.compared-is ∙ c.loop-place.invariant.count ∙ ap (counted c.args.compared) (sym past.1);
          }
    ]

pub returns-clause-entries : goal.returns-clause-entries
returns-clause-entries c =
    let es = c.args.records.now.entries in
    c.loop-place.invariant.entries
    ∙ ap (λ ps. looked_where c.args.world.now c.args.topic.now (is_among ps) es) (take_all c.loop-place.place-index c.args.places.now c.loop-place-test.false)
    ∙ (looked-all c.args.world.now c.args.topic.now es (is_among c.args.places.now) c.requires.only).0

pub returns-clause-count : goal.returns-clause-count
returns-clause-count c =
    let es = c.args.records.now.entries in
    c.loop-place.invariant.count
    ∙ ap (counted c.args.compared) (
    ap (λ ps. read_where c.args.world.now c.args.topic.now (is_among ps) es) (take_all c.loop-place.place-index c.args.places.now c.loop-place-test.false)
    ∙ (looked-all c.args.world.now c.args.topic.now es (is_among c.args.places.now) c.requires.only).1
    )

pub look_again-reads-requires-clause-numbers : goal.look_again-reads-requires-clause-numbers
look_again-reads-requires-clause-numbers c =
    let i = c.loop-place.place-index in
    (knows-numbers c.args.world.now c.args.topic.now c.args.contents.now c.args.records.now.entries (is_among (take i c.args.places.now)) (get_or c.args.places.now i 0) c.in-Some.marked.now
    c.requires.numbered (c.in-Some.ensures.value ∙ ap (λ l. slice_get (values_of l) (get_or c.args.places.now i 0)) c.loop-place.invariant.entries)).0

pub look_again-reads-requires-clause-held : goal.look_again-reads-requires-clause-held
look_again-reads-requires-clause-held c =
    let i = c.loop-place.place-index in
    (knows-numbers c.args.world.now c.args.topic.now c.args.contents.now c.args.records.now.entries (is_among (take i c.args.places.now)) (get_or c.args.places.now i 0) c.in-Some.marked.now
    c.requires.numbered (c.in-Some.ensures.value ∙ ap (λ l. slice_get (values_of l) (get_or c.args.places.now i 0)) c.loop-place.invariant.entries)).1
