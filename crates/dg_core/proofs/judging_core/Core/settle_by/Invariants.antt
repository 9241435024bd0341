use Rattle.std.proofs.Common.{◌≡◌, take}
use Rattle.dg_core.specs.Core.{kept_of, pending, settled_up_to}
use Rattle.dg_core.specs.Turning.{JudgesAll}
use Rattle.dg_core.specs.Grown.{IsGrown}
use Rattle.dg_core.proofs.Settling.{AllEnd}
use Rattle.dg_core.proofs.judging_core.Core.settle_by.Given as goal

abbrev pub invariant-loop-test : goal.invariant-loop-test
invariant-loop-test l =
    record {
      grown : IsGrown l.fn.self.world l.self.world;
      settled : l.self ≡ settled_up_to l.test-index l.test-index l.self.world l.self.compared l.fn.self;
      judged : JudgesAll (kept_of l.fn.self) (take l.test-index (pending l.fn.self)) (kept_of l.self);
      ended : AllEnd l.self.world (take l.test-index (pending l.fn.self));
    }
