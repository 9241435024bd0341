use Rattle.std.proofs.Common.{◌∙◌, ap, sym}
use Rattle.dg_language.specs.Play.{lookup}
use Rattle.dg_language.specs.Reads.{reads_held}
use Rattle.dg_language.proofs.ReadsLemmas.{lookup-found, lookup-reads}
use Rattle.dg_language.proofs.reads.Reads.answer_to.Goals as goal

pub returns-in-Few : goal.returns-in-Few
returns-in-Few c =
    let q = c.args.question.now in
    c.answer_among.ensures ∙ lookup-found c.as_slice.result.now q ∙ ap (lookup q) c.as_slice.ensures.value
    ∙ ap (λ f. lookup q (reads_held f)) (sym c.in-Few.is) ∙ ap (lookup q) c.self.view_is

pub returns-in-Many : goal.returns-in-Many
returns-in-Many c =
    let q = c.args.question.now in
    c.get.ensures.value ∙ lookup-reads c.in-Many.answers.entries q ∙ ap (λ f. lookup q (reads_held f)) (sym c.in-Many.is) ∙ ap (lookup q) c.self.view_is
