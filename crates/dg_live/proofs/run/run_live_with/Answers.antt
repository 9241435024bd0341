use Rattle.std.proofs.lemmas.Result.{IfOk-weaker}
use Rattle.dg_live.proofs.Going.{going-first, going-room, going-on, ends-kept, ends-live, live-as}
use Rattle.dg_live.proofs.run.run_live_with.Goals as goal

pub turns-init : goal.turns-init
turns-init g c =
    record {
      going = going-first g.G.Gate.step g.A.Asker.step g.G.Gate.count c.args.test c.args.gate.now c.args.asker.now c.in-Ok.job c.in-Ok.ensures;
      ready = c.requires.ready;
    }

pub take_turn-requires-clause-room : goal.take_turn-requires-clause-room
take_turn-requires-clause-room g c =
    going-room g.G.Gate.step g.A.Asker.step g.G.Gate.count c.args.test c.args.gate.now c.args.asker.now c.turns.job c.turns.gate c.turns.asker
    c.turns.invariant.going c.requires.room

pub with_transcript-requires : goal.with_transcript-requires
with_transcript-requires g c =
    ends-kept g.G.Gate.step g.A.Asker.step g.G.Gate.count c.args.test c.args.gate.now c.args.asker.now c.turns.job c.take_turn.new.job c.turns.gate
    c.take_turn.new.gate c.turns.asker c.take_turn.new.asker c.in-Some.judged c.turns.invariant.going
    (rw c.in-Some.is at c.in_ok-judged.ensures.turn)

pub returns-in-Some-clause-run : goal.returns-in-Some-clause-run
returns-in-Some-clause-run g c =
    let live =
    ends-live g.G.Gate.step g.A.Asker.step g.G.Gate.count c.args.test c.args.gate.now c.args.asker.now c.turns.job c.take_turn.new.job c.turns.gate
    c.take_turn.new.gate c.turns.asker c.take_turn.new.asker c.in-Some.judged c.turns.invariant.going
    (rw c.in-Some.is at c.in_ok-judged.ensures.turn) in
    IfOk-weaker c.with_transcript.result _ _
    (λ p h. live-as g.G.Gate.step g.A.Asker.step g.G.Gate.count c.args.test c.args.gate.now c.args.asker.now c.take_turn.new.gate c.take_turn.new.asker
    c.in-Some.judged p.0 p.1 h.0 h.1 live)
    c.with_transcript.ensures.run

pub turns-preserved : goal.turns-preserved
turns-preserved g c =
    record {
      going =
          going-on g.G.Gate.step g.A.Asker.step g.G.Gate.count c.args.test c.args.gate.now c.args.asker.now c.turns.job c.take_turn.new.job c.turns.gate
          c.take_turn.new.gate c.turns.asker c.take_turn.new.asker c.turns.invariant.going
          (rw c.in-None.is at c.in_ok-judged.ensures.turn);
      ready = c.take_turn.ensures.ready;
    }
