use Rattle.std.proofs.Common.{◌-◌, ℕ, List, length, sym, ap, subst, ◌∙◌, arith}
use Rattle.dg_glob.specs.Reading.{IsPart, IsRun, Steps}
use Rattle.dg_glob.specs.declared.parts.Part.{Part}
use Rattle.dg_glob.proofs.TrailLemmas.{left_join, part_last, part_more, star_left, steps_left, steps_shorter}
use Rattle.dg_glob.proofs.parts.read_parts.Goals as goal

pub loop-parts-smaller : goal.loop-parts-smaller
loop-parts-smaller c =
    let less = steps_shorter c.read_part-reading.ensures.read.steps in
    let size = ap length c.in-Some.ensures.some in
    omega arith

pub loop-parts-preserved : goal.loop-parts-preserved
loop-parts-preserved c =
    let read = c.read_part-reading.ensures.read in
    let rest = c.loop-parts.rest.now in
    let behind = c.read_part-reading.result.rest.now in
    let within = c.loop-parts.invariant.within in
    let less = steps_shorter read.steps in
    let begin : ℕ = length c.args.pattern.now - length rest in
    let part : Part = record { begin = begin; size = c.read_part-reading.result.size; lead = c.read_part-reading.result.lead; run = c.in_ok-into_owned.field-0 } in
    let is : IsPart c.args.pattern.now part read.items =
    record {
      rest = behind;
      begins = omega arith;
      steps = subst (λ (r : List ℕ). Steps r read.items behind) c.loop-parts.invariant.left read.steps;
      ends = c.read_part-reading.ensures.ends;
      count = read.count;
      has_run = subst (λ (r : List ℕ). IsRun read.items r c.read_part-reading.result.lead) (sym (c.in_ok-into_owned.ensures ∙ c.new.ensures)) read.has_run;
    } in
    let star = c.in-Some.ensures.some in
    let size = ap length star in
    record {
      read = rw c.in_ok-push.ensures.items
          (part_more c.args.pattern.now c.loop-parts.parts.items rest part read.items behind c.loop-parts.invariant.read read.steps c.read_part-reading.ensures.ends is c.in-Some.behind.now star);
      within = omega arith;
      left = left_join c.args.pattern.now behind c.in-Some.behind.now (omega arith) (omega arith)
          (left_join c.args.pattern.now rest behind within less c.loop-parts.invariant.left (steps_left read.steps)) (star_left behind c.in-Some.behind.now 42 star);
    }

pub returns-in-None : goal.returns-in-None
returns-in-None c =
    let read = c.read_part-reading.ensures.read in
    let rest = c.loop-parts.rest.now in
    let behind = c.read_part-reading.result.rest.now in
    let within = c.loop-parts.invariant.within in
    let less = steps_shorter read.steps in
    let begin : ℕ = length c.args.pattern.now - length rest in
    let part : Part = record { begin = begin; size = c.read_part-reading.result.size; lead = c.read_part-reading.result.lead; run = c.in_ok-into_owned.field-0 } in
    let is : IsPart c.args.pattern.now part read.items =
    record {
      rest = behind;
      begins = omega arith;
      steps = subst (λ (r : List ℕ). Steps r read.items behind) c.loop-parts.invariant.left read.steps;
      ends = c.read_part-reading.ensures.ends;
      count = read.count;
      has_run = subst (λ (r : List ℕ). IsRun read.items r c.read_part-reading.result.lead) (sym (c.in_ok-into_owned.ensures ∙ c.new.ensures)) read.has_run;
    } in
    rw c.in_ok-push.ensures.items
    (part_last c.args.pattern.now c.loop-parts.parts.items rest part read.items behind c.loop-parts.invariant.read read.steps c.read_part-reading.ensures.ends is c.in-None.ensures.none)
