use Rattle.std.proofs.Common.{◌∙◌, ap, subst}
use Rattle.dg_world.specs.World.{look, IsAsked}
use Rattle.dg_index.specs.Kept.{after_asking}
use Rattle.dg_index.specs.Topic.{topic_of}
use Rattle.dg_index.proofs.KeptLemmas.{Looks, looks-asked, looks-kept}
use Rattle.dg_index.proofs.NumbersLemmas.{is_numbered-looked}
use Rattle.dg_index.proofs.TopicLemmas.{asked-look}
use Rattle.dg_index.proofs.kept.Kept.ask_first.Goals as goal

pub invariant_of-self-2 : goal.invariant_of-self-2
invariant_of-self-2 c =
    let k = c.self.inside in
    let q = c.args.question.now in
    let l = c.look_at_readers-self-inside in
    let looks = subst (λ t. Looks c.ask.new.self t k.records.entries l.new.records.entries k.compared l.result) c.in_ok-topic.ensures (l.ensures.entries, l.ensures.count) in (
      looks-kept k.world c.ask.new.self (topic_of q) k.records.entries l.new.records.entries k.index k.compared l.result looks
          (λ other_question other. asked-look k.world c.ask.new.self q c.in_ok-answer.answer other_question c.in_ok-answer.ensures.ok other) c.self.invariant.0,
      is_numbered-looked c.ask.new.self c.in_ok-topic.topic k.contents k.records.entries l.new.records.entries l.ensures.entries c.self.invariant.1,
    )

pub returns-clause-ok : goal.returns-clause-ok
returns-clause-ok c =
    let k = c.self.inside in
    let q = c.args.question.now in
    let l = c.look_at_readers-self-inside in
    let looks = subst (λ t. Looks c.ask.new.self t k.records.entries l.new.records.entries k.compared l.result) c.in_ok-topic.ensures (l.ensures.entries, l.ensures.count) in (
      subst (λ w. IsAsked w c.ask.new.self q c.in_ok-answer.answer) (ap (λ x. x.world) c.self.view_is) c.in_ok-answer.ensures.ok,
      looks-asked k.world c.ask.new.self q k.records.entries l.new.records.entries k.compared l.result (look k.world q) looks (ap (λ x. look x.world q) c.self.view_is ∙ c.requires)
          ∙ ap (λ x. after_asking x q (look x.world q) c.ask.new.self) c.self.view_is,
    )
