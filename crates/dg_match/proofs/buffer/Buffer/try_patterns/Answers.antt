use Rattle.std.proofs.Common.{rules, arith, ◌+◌}
use Rattle.std.proofs.lemmas.Grind.{common_steps}
use Rattle.dg_match.proofs.WithinLemmas.{answer_lies}
use Rattle.dg_match.proofs.HitLemmas.{hit_here, none_here}
use Rattle.dg_match.proofs.TryLemmas.{none_tried, some_tried, tried_length, tried_step}
use Rattle.dg_match.proofs.buffer.Buffer.try_patterns.Goals as goal

pub loop-index-init : goal.loop-index-init
loop-index-init c = record {
  bytes = search rules;
  max = search rules;
  counted = search rules;
  at_most = search rules;
  tried = none_tried c.args.self.now;
  kept = omega arith;
  none = search rules;
}

pub returns-in-Some-clause-tried : goal.returns-in-Some-clause-tried
returns-in-Some-clause-tried c =
    tried_step c.loop-index.index c.args.patterns.now c.index-patterns-index.result c.args.self.now c.loop-index.self c.try_pattern.new.self c.loop-index-test.true c.index-patterns-index.is c.loop-index.invariant.tried c.in_ok-found.ensures.tried

pub returns-in-Some-clause-within : goal.returns-in-Some-clause-within
returns-in-Some-clause-within c =
    rw (← c.loop-index.invariant.bytes) (answer_lies _ _ _ c.in-Some.found c.loop-index.index c.in-Some.is c.in_ok-found.ensures.answer)

pub returns-in-Some-clause-part : goal.returns-in-Some-clause-part
returns-in-Some-clause-part c =
    some_tried (c.loop-index.index + 1) c.args.patterns.now c.args.self.now c.try_pattern.new.self
    (tried_step c.loop-index.index c.args.patterns.now c.index-patterns-index.result c.args.self.now c.loop-index.self c.try_pattern.new.self c.loop-index-test.true c.index-patterns-index.is c.loop-index.invariant.tried c.in_ok-found.ensures.tried)

pub loop-index-preserved : goal.loop-index-preserved
loop-index-preserved c = record {
  bytes = search rules;
  max = search rules;
  counted = search rules;
  at_most = grind (arith, common_steps);
  tried =
      tried_step c.loop-index.index c.args.patterns.now c.index-patterns-index.result c.args.self.now c.loop-index.self c.try_pattern.new.self c.loop-index-test.true c.index-patterns-index.is c.loop-index.invariant.tried c.in_ok-found.ensures.tried;
  kept = tried_length c.loop-index.index c.index-patterns-index.result c.loop-index.self c.try_pattern.new.self c.loop-index.invariant.kept c.in_ok-found.ensures.tried;
  none = grind (arith, common_steps);
}

pub returns-in-Some-clause-hit : goal.returns-in-Some-clause-hit
returns-in-Some-clause-hit c =
    hit_here c.args.patterns.now c.index-patterns-index.result c.args.self.now.bytes c.loop-index.index c.in-Some.found c.in_ok-found.field-0 c.loop-index-test.true c.index-patterns-index.is
    c.in-Some.is (rw (← c.loop-index.invariant.bytes) c.in_ok-found.ensures.answer) c.loop-index.invariant.none

pub returns-clause-hit : goal.returns-clause-hit
returns-clause-hit c = none_here c.args.patterns.now c.args.self.now.bytes c.loop-index.index c.loop-index-test.false c.loop-index.invariant.none
