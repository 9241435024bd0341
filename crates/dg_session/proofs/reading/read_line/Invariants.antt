use Rattle.std.proofs.Common.{◌≢◌, ◌≤◌, All, vec_len, vec_items}
use Rattle.std.specs.Io.KnownBytes.{Consumes, Keeps}
use Rattle.dg_session.proofs.reading.read_line.Given as goal

abbrev pub invariant-loop : goal.invariant-loop
invariant-loop g l = (vec_len l.line ≤ l.limit) × All (λ x. x ≢ 10) (vec_items l.line)
    × Consumes (g.R.Read.remaining l.initial.reader) (g.R.Read.remaining l.reader) (vec_items l.line)
    × Keeps (g.W.Write.contents l.initial.writer) (g.W.Write.contents l.writer)
