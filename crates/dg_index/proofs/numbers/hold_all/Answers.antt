use Rattle.std.proofs.Common.{◌≤◌, ◌∙◌, ◌+◌, ◌++◌, ℕ, List, [], ◌∷◌, refl, take, take_all, ap, sym, arith}
use Rattle.dg_contents.specs.Contents.{ContentsView, holders_of, KeepsNumbers}
use Rattle.dg_index.specs.Numbers.{given_by, numbers_in}
use Rattle.dg_index.proofs.NumbersLemmas.{all-have, given-more, is_numbered-fewer, is_numbered-more, more-held, numbers-more, numbers-stay}
use Rattle.dg_index.proofs.numbers.hold_all.Goals as goal

pub returns-in-Err-clause-numbered : goal.returns-in-Err-clause-numbered
returns-in-Err-clause-numbered c es h =
    let old = c.args.contents.now in
    let now = c.hold.new.contents in
    let first = take c.loop-place.place c.args.reads.now in
    let held : (t : List ℕ) → holders_of old t + given_by t first ≤ holders_of now t =
    λ t. omega (arith, c.loop-place.invariant.held t, ap (λ (x : ContentsView). holders_of x t) c.in-Err.ensures.err) in
    let stays : KeepsNumbers old now = λ t n is. c.hold.ensures.stays t n (c.loop-place.invariant.stays t n is) in
    is_numbered-fewer now c.release_all.new.contents es first c.release_all.ensures.stays (more-held old now es first first refl held h) c.release_all.ensures.fewer
    (is_numbered-more old now es stays (λ t. omega (arith, held t)) h).numbered

pub loop-place-preserved : goal.loop-place-preserved
loop-place-preserved c =
    let i = c.loop-place.place in
    let reads = c.args.reads.now in
    let r = c.index-reads-place.result in
    let old = c.loop-place.contents in
    let new = c.hold.new.contents in
    let first = take i reads in
    let stay = numbers-stay old new first c.hold.ensures.stays (all-have old first (λ t. omega (arith, c.loop-place.invariant.held t))) in
    record {
      numbers = c.push_reserved.ensures.items ∙ ap (λ l. l ++ c.in-Ok.number ∷ []) (c.loop-place.invariant.numbers ∙ sym stay)
          ∙ ap (λ n. numbers_in new first ++ n ∷ []) c.in-Ok.ensures.number ∙ sym (numbers-more new reads i r c.loop-place-test.true c.index-reads-place.is);
      held = λ t. omega (arith, c.loop-place.invariant.held t, c.in-Ok.ensures.more t, given-more t reads i r c.loop-place-test.true c.index-reads-place.is);
      stays = λ t n h. c.hold.ensures.stays t n (c.loop-place.invariant.stays t n h);
      len = omega (arith, c.push_reserved.ensures.len, c.loop-place.invariant.len);
      room = omega (arith, c.push_reserved.ensures.capacity, c.loop-place.invariant.room);
    }

pub returns-clause-numbered : goal.returns-clause-numbered
returns-clause-numbered c es h =
    is_numbered-more c.args.contents.now c.loop-place.contents es c.loop-place.invariant.stays (λ t. omega (arith, c.loop-place.invariant.held t)) h

pub returns-clause-held : goal.returns-clause-held
returns-clause-held c es h =
    more-held c.args.contents.now c.loop-place.contents es (take c.loop-place.place c.args.reads.now) c.args.reads.now
    (take_all c.loop-place.place c.args.reads.now c.loop-place-test.false) c.loop-place.invariant.held h
