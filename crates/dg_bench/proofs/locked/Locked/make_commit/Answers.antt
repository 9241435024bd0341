use Rattle.std.proofs.Common.{◌≡◌, ◌∷◌, ◌++◌, [], length, ap, ◌∙◌}
use Rattle.dg_bench.specs.Seen.{seen_all, called}
use Rattle.dg_bench.specs.declared.call.Call.TheVariants.{Commit as committed}
use Rattle.dg_bench.specs.Refusals.{never}
use Rattle.dg_bench.proofs.Making.{next_legal, kept_next, kept_stopped, enters, stops}
use Rattle.dg_bench.proofs.locked.Locked.make_commit.Goals as goal

pub conclude-requires-clause-legal : goal.conclude-requires-clause-legal
conclude-requires-clause-legal g c =
    let same : c.in-Ok-prepare.prepared.call ≡ committed c.args.newest = c.in-Ok-prepare.ensures.call.0 ∙ c.in-Ok.ensures in
    rw c.in-Ok-prepare.ensures.calls
    (next_legal c.args.self.now c.self.inside.core c.commit.new.self c.self.inside.calls.items c.self.inside.stopped c.in-Ok-prepare.prepared.call (committed c.args.newest) c.self.view_is c.requires.running same (c.verdict-lines.ensures.is_true, c.in-Ok-commit.ensures.ok))

pub invariant_of-self-in-Ok-conclude : goal.invariant_of-self-in-Ok-conclude
invariant_of-self-in-Ok-conclude g c =
    let same : c.in-Ok-prepare.prepared.call ≡ committed c.args.newest = c.in-Ok-prepare.ensures.call.0 ∙ c.in-Ok.ensures in
    kept_next g.B.Room.names c.args.self.now c.self.inside.core c.commit.new.self c.self.inside.calls.items c.conclude.new.calls.items c.conclude.new.notes.items c.self.inside.stopped c.conclude.new.stopped c.in-Ok-prepare.prepared.call (committed c.args.newest)
    c.self.view_is c.requires.running same (c.verdict-lines.ensures.is_true, c.in-Ok-commit.ensures.ok) (c.in-Ok-conclude.ensures.calls ∙ ap (λ xs. xs ++ c.in-Ok-prepare.prepared.call ∷ []) c.in-Ok-prepare.ensures.calls) c.in-Ok-conclude.ensures.all

pub invariant_of-self-in-Err-conclude : goal.invariant_of-self-in-Err-conclude
invariant_of-self-in-Err-conclude g c =
    let back = c.in-Err-conclude.ensures.refused in
    kept_stopped g.B.Room.names c.commit.new.self c.self.inside.calls.items c.conclude.new.calls.items c.conclude.new.notes.items c.conclude.new.stopped c.self.invariant.1 (back.0 ∙ c.in-Ok-prepare.ensures.calls) back.1 c.in-Err-conclude.ensures.all

pub returns-in-Ok-conclude-clause-ok : goal.returns-in-Ok-conclude-clause-ok
returns-in-Ok-conclude-clause-ok g c =
    let same : c.in-Ok-prepare.prepared.call ≡ committed c.args.newest = c.in-Ok-prepare.ensures.call.0 ∙ c.in-Ok.ensures in
    enters c.args.cells.now.limit c.args.self.now c.self.inside.core c.commit.new.self c.self.inside.calls.items c.conclude.new.calls.items c.self.inside.stopped c.conclude.new.stopped c.in-Ok-conclude.made.0 c.in-Ok-conclude.made.1 c.in-Ok-prepare.prepared.call (committed c.args.newest)
    c.self.view_is c.requires.running c.requires.room same (c.verdict-lines.ensures.is_true, c.in-Ok-commit.ensures.ok) (c.in-Ok-conclude.ensures.calls ∙ ap (λ xs. xs ++ c.in-Ok-prepare.prepared.call ∷ []) c.in-Ok-prepare.ensures.calls)
    (c.in-Ok-conclude.ensures.pass ∙ ap (λ xs. seen_all (xs ++ c.in-Ok-prepare.prepared.call ∷ [])) c.in-Ok-prepare.ensures.calls) (c.in-Ok-conclude.ensures.receipt ∙ ap (λ xs. called (length xs) c.in-Ok-prepare.prepared.call) c.in-Ok-prepare.ensures.calls) c.in-Ok-conclude.ensures.running

pub returns-in-Err-conclude-clause-refused : goal.returns-in-Err-conclude-clause-refused
returns-in-Err-conclude-clause-refused g c =
    let back = c.in-Err-conclude.ensures.refused in
    stops never c.args.self.now c.self.inside.core c.commit.new.self c.self.inside.calls.items c.conclude.new.calls.items c.self.inside.stopped c.conclude.new.stopped c.self.view_is (back.0 ∙ c.in-Ok-prepare.ensures.calls) back.1
