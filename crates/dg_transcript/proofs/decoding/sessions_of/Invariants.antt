use Rattle.std.proofs.Common.{◌≡◌, ◌++◌, ◌∷◌, cond}
use Rattle.std.specs.Vec.Iter.{into_iter_items}
use Rattle.dg_transcript.specs.Sessions.{first_entries, sessions_in}
use Rattle.dg_transcript.proofs.decoding.sessions_of.Given as goal

abbrev pub invariant-loop-line : goal.invariant-loop-line
invariant-loop-line l =
    l.done.items ++ cond l.begun ((l.open.items ++ first_entries (into_iter_items l.line-iterator)) ∷ sessions_in (into_iter_items l.line-iterator)) (sessions_in (into_iter_items l.line-iterator)) ≡ sessions_in l.fn.lines.items
