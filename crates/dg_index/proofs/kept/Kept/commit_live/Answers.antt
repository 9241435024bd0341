use Rattle.std.proofs.Common.{◌∙◌, ap, sym, subst}
use Rattle.dg_world.specs.World.{WorldView, recorded}
use Rattle.dg_index.specs.Kept.{IsKept, committed_live}
use Rattle.dg_index.specs.Marks.{MarkedView}
use Rattle.dg_index.proofs.KeptLemmas.{Entries, Looks, kept-more, live-committed, live-placed, Lives, transcript_topic}
use Rattle.dg_index.specs.Numbers.{HoldsMore, IsNumbered}
use Rattle.dg_index.proofs.NumbersLemmas.{holds_more-looked, is_numbered-fewer, is_numbered-looked}
use Rattle.dg_index.proofs.kept.Kept.commit_live.Goals as goal

pub invariant_of-self : goal.invariant_of-self
invariant_of-self c =
    let k = c.self.inside in
    let room = c.make_room in (
      kept-more k.world k.records.entries room.new.records.entries k.index room.new.index room.ensures.stays room.ensures.entries c.self.invariant.0,
      subst (IsNumbered room.new.contents) (sym room.ensures.entries) (room.ensures.numbered c.self.invariant.1),
    )

pub invariant_of-self-in-Err-put_transcript : goal.invariant_of-self-in-Err-put_transcript
invariant_of-self-in-Err-put_transcript c =
    let k = c.self.inside in
    let room = c.make_room in
    let e = c.in-Ok-make_room.ensures in
    let numbered = subst (IsNumbered room.new.contents) (sym room.ensures.entries) (room.ensures.numbered c.self.invariant.1) in
    let held = subst (λ (l : Entries). HoldsMore room.new.contents l c.args.newest.reads) (sym room.ensures.entries) (e.held c.self.invariant.1) in (
      subst (λ (w : WorldView). IsKept w room.new.records.entries room.new.index) (sym c.in-Err-put_transcript.ensures.err)
          (kept-more k.world k.records.entries room.new.records.entries k.index room.new.index room.ensures.stays room.ensures.entries c.self.invariant.0),
      is_numbered-fewer room.new.contents c.give_back-newest.new.contents room.new.records.entries c.in-Ok-make_room.room.1.record_of.reads c.give_back-newest.ensures.stays
          (subst (λ (m : MarkedView). HoldsMore room.new.contents room.new.records.entries m.record_of.reads) (sym e.marked) held) c.give_back-newest.ensures.fewer numbered.numbered,
    )

pub look_at_readers-self-inside-requires-clause-named : goal.look_at_readers-self-inside-requires-clause-named
look_at_readers-self-inside-requires-clause-named c =
    let k = c.self.inside in
    let room = c.make_room in
    (kept-more k.world k.records.entries room.new.records.entries k.index room.new.index room.ensures.stays room.ensures.entries c.self.invariant.0).named

pub look_at_readers-self-inside-requires-clause-numbered : goal.look_at_readers-self-inside-requires-clause-numbered
look_at_readers-self-inside-requires-clause-numbered c =
    let room = c.make_room in
    subst (IsNumbered room.new.contents) (sym room.ensures.entries) (room.ensures.numbered c.self.invariant.1)

pub invariant_of-self-2 : goal.invariant_of-self-2
invariant_of-self-2 c =
    let k = c.self.inside in
    let room = c.make_room in
    let e = c.in-Ok-make_room.ensures in
    let v = c.put_transcript.new.self in
    let l = c.look_at_readers-self-inside in
    let t = transcript_topic c.args.newest in
    let es = room.new.records.entries in
    let hs = l.new.records.entries in
    let gs = c.place-self-inside.new.records.entries in
    let lives : Lives k.world v k.records.entries es hs gs k.index room.new.index k.compared l.result c.in-Ok-make_room.room.0 c.in-Ok-make_room.room.1 c.args.newest c.args.transcript =
    record {
      stays = room.ensures.stays;
      same = room.ensures.entries;
      before = c.self.invariant.0;
      recorded_as = ap (λ x. recorded k.world x c.args.transcript) (sym e.test) ∙ ap (recorded k.world c.in-Ok-make_room.room.0) (sym c.in-Ok.ensures.copy) ∙ c.in_default-put_transcript.ensures.ok;
      looks = subst (λ x. Looks v x es hs k.compared l.result) c.in-Ok.ensures.topic (l.ensures.entries, l.ensures.count);
      test = e.test;
      whole = ap (λ (m : MarkedView). m.record_of) e.marked;
      names = e.named;
      entries = c.place-self-inside.ensures.entries;
    } in
    ((live-placed _ _ _ _ _ _ _ _ _ _ _ _ _ _ lives).0, c.place-self-inside.ensures.numbered)

pub returns-clause-ok : goal.returns-clause-ok
returns-clause-ok c =
    let k = c.self.inside in
    let room = c.make_room in
    let e = c.in-Ok-make_room.ensures in
    let v = c.put_transcript.new.self in
    let l = c.look_at_readers-self-inside in
    let es = room.new.records.entries in
    let hs = l.new.records.entries in
    let gs = c.place-self-inside.new.records.entries in
    let lives : Lives k.world v k.records.entries es hs gs k.index room.new.index k.compared l.result c.in-Ok-make_room.room.0 c.in-Ok-make_room.room.1 c.args.newest c.args.transcript =
    record {
      stays = room.ensures.stays;
      same = room.ensures.entries;
      before = c.self.invariant.0;
      recorded_as = ap (λ x. recorded k.world x c.args.transcript) (sym e.test) ∙ ap (recorded k.world c.in-Ok-make_room.room.0) (sym c.in-Ok.ensures.copy) ∙ c.in_default-put_transcript.ensures.ok;
      looks = subst (λ x. Looks v x es hs k.compared l.result) c.in-Ok.ensures.topic (l.ensures.entries, l.ensures.count);
      test = e.test;
      whole = ap (λ (m : MarkedView). m.record_of) e.marked;
      names = e.named;
      entries = c.place-self-inside.ensures.entries;
    } in
    ap (λ x. committed_live x c.args.newest c.args.transcript) (sym c.self.view_is)
    ∙ live-committed _ _ _ _ _ _ _ _ _ _ c.place-self-inside.result _ _ _ _ lives c.place-self-inside.ensures.count

-- what is held and numbered stays so as the readers of the transcript are looked at again
pub place-self-inside-requires-clause-numbered : goal.place-self-inside-requires-clause-numbered
place-self-inside-requires-clause-numbered c =
    let room = c.make_room in
    let l = c.look_at_readers-self-inside in
    is_numbered-looked c.put_transcript.new.self c.in-Ok.topic room.new.contents room.new.records.entries l.new.records.entries l.ensures.entries
    (subst (IsNumbered room.new.contents) (sym room.ensures.entries) (room.ensures.numbered c.self.invariant.1))

pub place-self-inside-requires-clause-held : goal.place-self-inside-requires-clause-held
place-self-inside-requires-clause-held c =
    let room = c.make_room in
    let e = c.in-Ok-make_room.ensures in
    let l = c.look_at_readers-self-inside in
    let reads = c.in-Ok-make_room.room.1.record_of.reads in
    let h : HoldsMore room.new.contents room.new.records.entries reads =
    subst (λ (m : MarkedView). HoldsMore room.new.contents room.new.records.entries m.record_of.reads) (sym e.marked)
    (subst (λ (x : Entries). HoldsMore room.new.contents x c.args.newest.reads) (sym room.ensures.entries) (e.held c.self.invariant.1)) in
    holds_more-looked c.put_transcript.new.self c.in-Ok.topic room.new.contents room.new.records.entries l.new.records.entries reads l.ensures.entries h
