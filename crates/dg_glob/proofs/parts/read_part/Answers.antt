use Rattle.std.proofs.Common.{◌+◌, ◌-◌, List, ℕ, length, take, drop, ap, sym, ◌∙◌, inl, inr, arith}
use Rattle.std.proofs.lemmas.List.{length-take}
use Rattle.dg_glob.proofs.ReadingLemmas.{read_begins, read_passed, read_more, behind_shorter}
use Rattle.dg_glob.proofs.parts.read_part.Goals.{then-run-plain, else-run-plain}
use Rattle.dg_glob.proofs.parts.read_part.Goals as goal

pub loop-run-init : goal.loop-run-init
loop-run-init c = record { read = read_begins c.args.pattern.now; within = omega arith }

pub returns-then-not-begins_steadily-clause-read : goal.returns-then-not-begins_steadily-clause-read
returns-then-not-begins_steadily-clause-read c =
    read_passed c.args.pattern.now c.loop-run.size c.loop-run.lead c.loop-run.run.now c.loop-run.rest.now c.plain_run-plain.result.now c.if-run-plain.lead c.if-run-plain.run.now c.loop-run.invariant.read c.plain_run-plain.ensures.value
    (elim c.if-run-plain.branch [
      | then-run-plain w ↦ inl (w.lead-is, ap (λ r. r.now) w.run-is)
      | else-run-plain w ↦ inr (w.lead-is, ap (λ r. r.now) w.run-is)
    ])

pub loop-run-smaller : goal.loop-run-smaller
loop-run-smaller c =
    let rest = c.loop-run.rest.now in
    let run = c.plain_run-plain.result.now in
    let left : List ℕ = take (length rest - length run) (drop (length run) rest) in
    let size = length-take (length rest - length run) (drop (length run) rest) in
    let less = behind_shorter left (sym c.begins_steadily.ensures ∙ c.if-not-begins_steadily.false) in
    let now = ap length c.behind_item-rest.ensures in
    omega arith

pub loop-run-preserved : goal.loop-run-preserved
loop-run-preserved c =
    let rest = c.loop-run.rest.now in
    let run = c.plain_run-plain.result.now in
    let left : List ℕ = take (length rest - length run) (drop (length run) rest) in
    let size = length-take (length rest - length run) (drop (length run) rest) in
    let steady = sym c.begins_steadily.ensures ∙ c.if-not-begins_steadily.false in
    let less = behind_shorter left steady in
    let now = ap length c.behind_item-rest.ensures in
    let fits = c.plain_run-plain.ensures.within in
    let within = c.loop-run.invariant.within in
    record {
      read = rw c.behind_item-rest.ensures
          (read_more c.args.pattern.now (c.loop-run.size + length run) c.if-run-plain.lead c.if-run-plain.run.now left
          (read_passed c.args.pattern.now c.loop-run.size c.loop-run.lead c.loop-run.run.now c.loop-run.rest.now c.plain_run-plain.result.now c.if-run-plain.lead c.if-run-plain.run.now c.loop-run.invariant.read c.plain_run-plain.ensures.value
          (elim c.if-run-plain.branch [
            | then-run-plain w ↦ inl (w.lead-is, ap (λ r. r.now) w.run-is)
            | else-run-plain w ↦ inr (w.lead-is, ap (λ r. r.now) w.run-is)
          ]))
          steady);
      within = omega arith;
    }
