use Rattle.std.proofs.Common.{◌∙◌, ap}
use Rattle.std.specs.Prelude.{◌-◌, Option}
use Rattle.dg_contents.specs.Contents.{holders_of}
use Rattle.dg_index.specs.Marks.{MarkedView}
use Rattle.dg_index.specs.Numbers.{given_at}
use Rattle.dg_index.proofs.NumbersLemmas.{is_numbered-placed}
use Rattle.dg_index.proofs.placing.place_marked.Goals as goal

pub returns-clause-numbered : goal.returns-clause-numbered
returns-clause-numbered c =
    let es = c.args.records.now.entries in
    is_numbered-placed c.args.contents.now c.let_go.new.contents es c.insert.new.self.entries c.args.test c.args.marked c.in-Ok.ensures.entries
    c.requires.numbers c.requires.held c.requires.numbered c.let_go.ensures.stays
    (λ text. c.let_go.ensures.fewer text ∙ ap (λ (o : Option MarkedView). holders_of c.args.contents.now text - given_at text o) c.in-Ok.ensures.old)
