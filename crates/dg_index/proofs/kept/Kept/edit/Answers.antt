use Rattle.std.proofs.Common.{◌≡◌, ◌∙◌, Ok, ap, subst, sym}
use Rattle.dg_world.specs.World.{edited}
use Rattle.dg_index.specs.Kept.{edited_kept}
use Rattle.dg_index.specs.Numbers.{TellsOn}
use Rattle.dg_index.specs.Topic.{touched}
use Rattle.dg_index.proofs.KeptLemmas.{found-nothing, found-readers, looks-changed, looks-found, looks-kept, looks-nothing, only-found}
use Rattle.dg_index.proofs.NumbersLemmas.{is_numbered-looked}
use Rattle.dg_index.proofs.TopicLemmas.{edited-look}
use Rattle.dg_index.proofs.kept.Kept.edit.Goals as goal

pub invariant_of-self-in_default : goal.invariant_of-self-in_default
invariant_of-self-in_default c =
    let k = c.self.inside in
    let e = c.args.edit in
    let t = touched e in
    let made : edited k.world e ≡ Ok c.edit.new.self = ap (edited k.world) (sym c.find_touched-edit.ensures.back) ∙ c.in_ok-edit.ensures.ok in
    let nothing = found-nothing k.index t _ c.find_touched-edit.ensures.found c.in_default.is in (
      looks-kept k.world c.edit.new.self t k.records.entries k.records.entries k.index k.compared k.compared
          (looks-nothing c.edit.new.self t k.records.entries k.index k.compared c.self.invariant.0.named nothing c.self.ranges.1.1.1.1.0.1)
          (λ q other. edited-look k.world c.edit.new.self e q made other) c.self.invariant.0,
      c.self.invariant.1,
    )

pub returns-in_default-clause-ok : goal.returns-in_default-clause-ok
returns-in_default-clause-ok c =
    let k = c.self.inside in
    let e = c.args.edit in
    let t = touched e in
    let made : edited k.world e ≡ Ok c.edit.new.self = ap (edited k.world) (sym c.find_touched-edit.ensures.back) ∙ c.in_ok-edit.ensures.ok in
    let nothing = found-nothing k.index t _ c.find_touched-edit.ensures.found c.in_default.is in
    ap (λ x. edited_kept x e) (sym c.self.view_is)
    ∙ looks-changed k.world c.edit.new.self t k.records.entries k.records.entries k.compared k.compared (edited k.world e)
    (looks-nothing c.edit.new.self t k.records.entries k.index k.compared c.self.invariant.0.named nothing c.self.ranges.1.1.1.1.0.1) made

pub look_again-self-inside-requires-clause-only : goal.look_again-self-inside-requires-clause-only
look_again-self-inside-requires-clause-only c =
    let k = c.self.inside in
    let r = found-readers k.index (touched c.args.edit) _ (c.in-Some.topic, c.in-Some.places) c.find_touched-edit.ensures.found c.in-Some.is in
    only-found k.index (touched c.args.edit) c.in-Some.topic.now c.in-Some.places.now k.records.entries r.0 r.1 c.self.invariant.0.named

pub invariant_of-self-2 : goal.invariant_of-self-2
invariant_of-self-2 c =
    let k = c.self.inside in
    let e = c.args.edit in
    let t = touched e in
    let made : edited k.world e ≡ Ok c.edit-2.new.self = ap (edited k.world) (sym c.find_touched-edit.ensures.back) ∙ c.in_ok-edit-2.ensures.ok in
    let r = found-readers k.index t _ (c.in-Some.topic, c.in-Some.places) c.find_touched-edit.ensures.found c.in-Some.is in
    let l = c.look_again-self-inside in (
      looks-kept k.world c.edit-2.new.self t k.records.entries l.new.records.entries k.index k.compared l.result
          (looks-found c.edit-2.new.self t c.in-Some.topic.now k.records.entries l.new.records.entries k.compared l.result r.0 l.ensures.entries l.ensures.count)
          (λ q other. edited-look k.world c.edit-2.new.self e q made other) c.self.invariant.0,
      is_numbered-looked c.edit-2.new.self c.in-Some.topic.now k.contents k.records.entries l.new.records.entries l.ensures.entries c.self.invariant.1,
    )

pub returns-clause-ok : goal.returns-clause-ok
returns-clause-ok c =
    let k = c.self.inside in
    let e = c.args.edit in
    let t = touched e in
    let made : edited k.world e ≡ Ok c.edit-2.new.self = ap (edited k.world) (sym c.find_touched-edit.ensures.back) ∙ c.in_ok-edit-2.ensures.ok in
    let r = found-readers k.index t _ (c.in-Some.topic, c.in-Some.places) c.find_touched-edit.ensures.found c.in-Some.is in
    let l = c.look_again-self-inside in
    ap (λ x. edited_kept x e) (sym c.self.view_is)
    ∙ looks-changed k.world c.edit-2.new.self t k.records.entries l.new.records.entries k.compared l.result (edited k.world e)
    (looks-found c.edit-2.new.self t c.in-Some.topic.now k.records.entries l.new.records.entries k.compared l.result r.0 l.ensures.entries l.ensures.count) made

pub look_again-self-inside-requires-clause-tells : goal.look_again-self-inside-requires-clause-tells
look_again-self-inside-requires-clause-tells c =
    let k = c.self.inside in
    let e = c.args.edit in
    let r = found-readers k.index (touched e) _ (c.in-Some.topic, c.in-Some.places) c.find_touched-edit.ensures.found c.in-Some.is in
    let on : touched c.find_touched-edit.result.1 ≡ c.in-Some.topic.now = ap touched c.find_touched-edit.ensures.back ∙ sym r.0 in
    subst (λ t. TellsOn k.contents c.edit-2.new.self t c.after-now.result) on (c.after-now.ensures.tells k.world c.edit-2.new.self c.in_ok-edit-2.ensures.ok)
