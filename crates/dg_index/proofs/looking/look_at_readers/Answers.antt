use Rattle.dg_index.proofs.KeptLemmas.{found-nothing, found-readers, looks-found, looks-nothing, only-found}
use Rattle.dg_index.proofs.looking.look_at_readers.Goals as goal

pub look_again-requires-clause-only : goal.look_again-requires-clause-only
look_again-requires-clause-only c =
    let r = found-readers c.args.index.now c.args.topic.now _ (c.in-Some.topic, c.in-Some.places) c.find.ensures c.in-Some.is in
    only-found c.args.index.now c.args.topic.now c.in-Some.topic.now c.in-Some.places.now c.args.records.now.entries r.0 r.1 c.requires.named

pub returns-in-Some-clause-entries : goal.returns-in-Some-clause-entries
returns-in-Some-clause-entries c =
    let r = found-readers c.args.index.now c.args.topic.now _ (c.in-Some.topic, c.in-Some.places) c.find.ensures c.in-Some.is in
    (looks-found c.args.world.now c.args.topic.now c.in-Some.topic.now c.args.records.now.entries c.look_again.new.records.entries c.args.compared c.look_again.result r.0 c.look_again.ensures.entries c.look_again.ensures.count).0

pub returns-in-Some-clause-count : goal.returns-in-Some-clause-count
returns-in-Some-clause-count c =
    let r = found-readers c.args.index.now c.args.topic.now _ (c.in-Some.topic, c.in-Some.places) c.find.ensures c.in-Some.is in
    (looks-found c.args.world.now c.args.topic.now c.in-Some.topic.now c.args.records.now.entries c.look_again.new.records.entries c.args.compared c.look_again.result r.0 c.look_again.ensures.entries c.look_again.ensures.count).1

pub returns-in-None-clause-entries : goal.returns-in-None-clause-entries
returns-in-None-clause-entries c =
    let nothing = found-nothing c.args.index.now c.args.topic.now _ c.find.ensures c.in-None.is in
    (looks-nothing c.args.world.now c.args.topic.now c.args.records.now.entries c.args.index.now c.args.compared c.requires.named nothing c.ranges.compared.fits).0

pub returns-in-None-clause-count : goal.returns-in-None-clause-count
returns-in-None-clause-count c =
    let nothing = found-nothing c.args.index.now c.args.topic.now _ c.find.ensures c.in-None.is in
    (looks-nothing c.args.world.now c.args.topic.now c.args.records.now.entries c.args.index.now c.args.compared c.requires.named nothing c.ranges.compared.fits).1
