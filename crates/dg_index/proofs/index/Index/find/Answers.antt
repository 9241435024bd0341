use Rattle.std.proofs.Common.{◌∙◌, None, Some, ap, sym}
use Rattle.dg_index.specs.Index.{readers_of}
use Rattle.dg_index.proofs.IndexLemmas.{readers-found, found-topic}
use Rattle.dg_index.proofs.index.Index.find.Goals as goal

pub returns-in_err-topic : goal.returns-in_err-topic
returns-in_err-topic c =
    rw c.from_residual.ensures
    (ap (λ v. readers_of v c.args.topic.now) (sym c.self.view_is) ∙ readers-found c.self.inside.readers.entries c.args.topic.now None c.in_err-topic.ensures.value)

pub returns : goal.returns
returns c = (
  found-topic c.self.inside.readers.entries c.args.topic.now c.in_ok-topic.topic.now c.in_ok-topic.ensures.key,
  c.as_slice.ensures.places
      ∙ sym (ap (λ v. readers_of v c.args.topic.now) (sym c.self.view_is) ∙ readers-found c.self.inside.readers.entries c.args.topic.now (Some c.in_ok-topic.readers.now) c.in_ok-topic.ensures.value),
  c.as_slice.ensures.distinct,
)
