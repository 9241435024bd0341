-- What settling says of a report's answer.
use Rattle.std.proofs.Common.{◌≡◌, ℕ, ◌+◌, ◌-◌, ◌≤◌, min, List, length, Some, inl, ap, ap₂, ◌∙◌, arith}
use Rattle.dg_core.specs.Core.{CoreView, settled, settled_up_to, evaluated, pending}
use Rattle.dg_core.specs.Grown.{IsGrown}
use Rattle.dg_core.specs.Scratch.{scratch}
use Rattle.dg_session.specs.declared.answer.LineAnswer.TheVariants as answer
use Rattle.dg_session.specs.Session.{AnswersReport}

counts : (core new : CoreView) → new ≡ settled new.world new.compared core → new.evaluations ≡ min (core.evaluations + length (pending core)) 18446744073709551615
unfolding settled_up_to
counts core new s = ap (λ (c : CoreView). c.evaluations) s

-- the count of evaluations never falls
pub rises : (core new : CoreView) (before after : ℕ) → before ≡ core.evaluations → after ≡ new.evaluations → new ≡ settled new.world new.compared core → before ≤ 18446744073709551615 → before ≤ after
rises core new before after b a s small = let e = counts core new s in omega arith

-- the report is that of the settled world
pub reported : (core new : CoreView) (before after status : ℕ) (report : List ℕ) → before ≡ core.evaluations → after ≡ new.evaluations → IsGrown core.world new.world
    → new ≡ settled new.world new.compared core → scratch new.world ≡ Some (report, status) → AnswersReport core new (answer.Sum status (after - before) report)
reported core new before after status report b a g s sum =
    let count : after - before ≡ evaluated core = ap₂ (λ x y. x - y) (a ∙ counts core new s) b in
    inl
    (record {
      grown = g;
      is_settled = s;
      sum = (report, status);
      from_scratch = sum;
      is_answered = ap (λ n. answer.Sum status n report) count;
    })
