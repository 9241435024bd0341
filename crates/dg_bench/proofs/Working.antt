-- What a run of workers comes to, by what its first and its last call come to.
use Rattle.std.proofs.Common.{List, Option, ◌++◌, refl, sym, ap, ◌∙◌, subst, arith}
use mathlib.Core.List.{IsPrefix, append_assoc}
use Rattle.dg_core.specs.Core.{new_core}
use Rattle.dg_transcript.specs.declared.entry.Entry.{Entry}
use Rattle.dg_world.specs.Test.{TestView}
use Rattle.dg_bench.specs.declared.call.Call.{Call}
use Rattle.dg_bench.specs.declared.work.Work.{Work}
use Rattle.dg_bench.specs.declared.refusal.BenchRefusal.{BenchRefusal}
use Rattle.dg_bench.specs.declared.refusal.BenchRefusal.TheVariants.{Shorter, HistoryFull, Edit, Memory}
use Rattle.dg_bench.specs.History.{Makes}
use Rattle.dg_bench.specs.Seen.{Seen, Told, Kept}
use Rattle.dg_bench.specs.Refusals.{SeesMore, IsRefused, never}
use Rattle.dg_bench.specs.Made.{IsMade}
use Rattle.dg_bench.specs.Work.{Lists, IsListed, Recalls, IsRecalled}

pub is_listed : (work : Work) (old : Kept) (pass back : Seen) (tests : List TestView) → Lists work old pass back tests → IsListed work pass back tests
is_listed work old pass back tests l = (
  subst (SeesMore pass) (sym l.0.1) (refl, refl, l.0.0, l.0.2, l.0.3),
  (old.core, subst (λ (q : Seen). Makes new_core q.calls old.core) (sym l.0.1) l.2, l.3),
)

pub is_recalled : (test : TestView) (old : Kept) (pass back : Seen) (sessions : Option (List (List Entry))) → Recalls test old pass back sessions → IsRecalled test pass back sessions
is_recalled test old pass back sessions l = (
  subst (SeesMore pass) (sym l.0.1) (refl, refl, l.0.0, l.0.2, l.0.3),
  (old.core, subst (λ (q : Seen). Makes new_core q.calls old.core) (sym l.0.1) l.2, l.3),
)

prefix_on : {X : Type 0} (xs ys zs : List X) → IsPrefix xs ys → IsPrefix ys zs → IsPrefix xs zs
prefix_on xs ys zs p q = (p.0 ++ q.0, sym (append_assoc xs p.0 q.0) ∙ ap (λ us. us ++ q.0) p.1 ∙ q.1)

-- seen, and then more
pub seen_on : (pass mid back : Seen) → SeesMore pass mid → SeesMore mid back → SeesMore pass back
seen_on pass mid back a b = (b.0, b.1, omega (arith, a.2, b.2), b.3, λ ours. prefix_on pass.calls mid.calls back.calls (a.4 ours) (b.4 a.0))

-- a call that is made with what was then seen
pub made_on : (pass mid later : Seen) (told : Told) (call : Call) → SeesMore pass mid → IsMade mid later told call → IsMade pass later told call
made_on pass mid later told call a m =
    record {
      before = m.before;
      within = omega (arith, a.2, m.within);
      begins = λ ours. prefix_on pass.calls mid.calls m.before (a.4 ours) (m.begins a.0);
      legal = m.legal;
      back = m.back;
      receipt = m.receipt;
    }

-- and one that is refused
pub refused_on : (pass mid back : Seen) (why : BenchRefusal) → SeesMore pass mid → IsRefused never mid back why → SeesMore pass back
refused_on pass mid back (Shorter seen found) a h = subst (SeesMore pass) (sym h.2) a
refused_on pass mid back HistoryFull a h = seen_on pass mid back a h
refused_on pass mid back (Edit why) a h = absurd h.1.2
refused_on pass mid back Memory a h = seen_on pass mid back a h
