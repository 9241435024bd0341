use Rattle.std.proofs.Common.{◌≤◌, length, ◌≡◌, ◌-◌, refl, sym, ap, ◌∙◌, subst, true}
use mathlib.Core.List.{IsPrefix}
use Rattle.dg_bench.specs.Seen.{calls_of, Seen, IsSeen}
use Rattle.dg_bench.proofs.Places.{agreed, seen_by_both}
use Rattle.dg_bench.proofs.pass.Pass.agree.Goals as goal

pub compare_at-requires-clause-known : goal.compare_at-requires-clause-known
compare_at-requires-clause-known g c =
    let mine : c.self.inside.ours ≡ true = c.if-not-ours.false in
    let seen = subst (λ n. IsSeen g.B.Room.names c.self.inside.ours c.self.inside.count n) c.in-Some.is c.self.invariant mine in
    seen_by_both g.B.Room.names c.args.notes.now.items c.args.calls.now.items c.self.inside.count c.in-Some.note (c.self.inside.count - 1) c.requires.all seen.0 refl

pub returns-in-Some-clause-begins : goal.returns-in-Some-clause-begins
returns-in-Some-clause-begins g c ours =
    let view = c.self.view_is in
    let mine : c.self.inside.ours ≡ true = ap (λ (s : Seen). s.ours) view ∙ ours in
    let seen = subst (λ n. IsSeen g.B.Room.names c.self.inside.ours c.self.inside.count n) c.in-Some.is c.self.invariant mine in
    let counts : c.self.inside.count ≡ c.args.self.count = ap (λ (s : Seen). s.count) view in
    let within : c.self.inside.count ≤ length c.args.calls.now.items = rw (counts, ← c.args.calls.now.ok.0) c.requires.within in
    let begins = agreed g.B.Room.names c.args.notes.now.items c.args.calls.now.items c.self.inside.count c.in-Some.note (c.self.inside.count - 1) c.requires.all seen.0 refl c.compare_at.ensures.agrees within in
    subst (λ xs. IsPrefix xs c.args.calls.now.items) (ap calls_of (sym c.in-Some.is) ∙ ap (λ (s : Seen). s.calls) view) begins
