use Rattle.std.proofs.Common.{◌≡◌, ◌∙◌, ◌<◌, ◌+◌, false, length, true, take, ap, sym, arith}
use Rattle.std.specs.Prelude.{slice_set}
use Rattle.std.proofs.lemmas.List.Sums.{count_by_more_no, count_by_more_yes}
use Rattle.dg_index.specs.Marks.{is_stale}
use Rattle.dg_index.specs.Topic.{is_on}
use Rattle.dg_index.proofs.MarksLemmas.{looked_again-length, looked_again-more}
use Rattle.dg_index.proofs.NumbersLemmas.{has-at}
use Rattle.dg_index.proofs.marked.look_again.Goals as goal
use Rattle.dg_index.proofs.marked.look_again.Goals.{then-covers, else-covers}

pub put-requires : goal.put-requires
put-requires c =
    omega (arith, ap length c.loop-place.invariant.marks, looked_again-length c.args.world.now c.args.topic.now (take c.loop-place.place c.args.reads.now) c.args.marks.now)

pub loop-place-preserved : goal.loop-place-preserved
loop-place-preserved c =
    let w = c.args.world.now in
    let t = c.args.topic.now in
    let i = c.loop-place.place in
    let read = c.index-reads-place.result in
    let within : i < length c.args.reads.now = c.loop-place-test.true in
    elim c.if-covers.branch [
      | then-covers u ↦
          let on : is_on t read.question ≡ true = sym c.covers.ensures ∙ u.if-covers.true in
          record {
            marks = u.marks-is ∙ u.put.ensures ∙ ap (slice_set c.loop-place.marks i) u.is_stale.ensures
                ∙ ap (λ ms. slice_set ms i (is_stale w read)) c.loop-place.invariant.marks ∙ sym (looked_again-more w t c.args.reads.now c.args.marks.now i read true on within c.requires.marks c.index-reads-place.is);
            compared = u.compared-is ∙ ap (λ n. n + 1) c.loop-place.invariant.compared
                ∙ sym (count_by_more_yes (λ r. is_on t r.question) c.args.reads.now i read within (ap (λ r. is_on t r.question) (sym c.index-reads-place.is) ∙ on));
          }
      | else-covers u ↦
          let on : is_on t read.question ≡ false = sym c.covers.ensures ∙ u.if-covers.false in
          record {
            marks = u.marks-is ∙ c.loop-place.invariant.marks ∙ sym (looked_again-more w t c.args.reads.now c.args.marks.now i read false on within c.requires.marks c.index-reads-place.is);
            compared = u.compared-is ∙ c.loop-place.invariant.compared
                ∙ sym (count_by_more_no (λ r. is_on t r.question) c.args.reads.now i read within (ap (λ r. is_on t r.question) (sym c.index-reads-place.is) ∙ on));
          }
    ]

pub is_stale-requires-clause-held : goal.is_stale-requires-clause-held
is_stale-requires-clause-held c =
    has-at c.args.contents.now c.args.reads.now c.loop-place.place c.index-reads-place.result c.requires.held c.loop-place-test.true c.index-reads-place.is
