use Rattle.std.proofs.Common.{rules, sym, subst, IfSome, ◌≡◌}
use Rattle.std.specs.Io.BufRead.{take_through}
use Rattle.std.proofs.BufReadLemmas.{Consumes_through}
use Rattle.dg_session.proofs.ReadingLemmas.{past_limit_before}
use Rattle.dg_session.proofs.reading.read_line.Goals as goal

pub returns-in_err-append_piece-clause-too_long : goal.returns-in_err-append_piece-clause-too_long
returns-in_err-append_piece-clause-too_long g c e =
    past_limit_before _ _ _ _ c.loop.invariant.2 c.loop.invariant.1 (c.append_piece.ensures.too_long (search rules))

pub returns-then-branch-clause-bytes : goal.returns-then-branch-clause-bytes
returns-then-branch-clause-bytes g c =
    let (piece, items, stops, read, more, ends, end) = c.in_ok-append_piece.ensures.read in
    let all = Consumes_through 10 _ _ _ _ piece c.loop.invariant.2 c.loop.invariant.1 read stops (ends c.if-branch.true) (end c.if-branch.true) in
    subst (λ l. IfSome (g.R.Read.remaining c.args.reader.now) (λ xs. l ≡ take_through 10 xs)) (sym items) all.0

pub returns-then-branch-clause-rest : goal.returns-then-branch-clause-rest
returns-then-branch-clause-rest g c =
    let (piece, items, stops, read, more, ends, end) = c.in_ok-append_piece.ensures.read in
    (Consumes_through 10 _ _ _ _ piece c.loop.invariant.2 c.loop.invariant.1 read stops (ends c.if-branch.true) (end c.if-branch.true)).1
