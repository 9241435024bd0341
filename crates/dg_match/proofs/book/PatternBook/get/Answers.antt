use Rattle.std.proofs.Common.{Option, subst, sym, ◌∙◌}
use Rattle.std.specs.Prelude.{IfSome}
use Rattle.dg_match.specs.Book.{Fits}
use Rattle.dg_match.specs.declared.reading.Reading.{Reading}
use Rattle.dg_match.proofs.BookLemmas.{reading_fits}
use Rattle.dg_match.proofs.book.PatternBook.get.Goals as goal

pub returns-clause-fits : goal.returns-clause-fits
returns-clause-fits c =
    subst (λ (o : Option Reading). IfSome o (λ r. Fits c.args.text.now r)) (sym (c.copied.ensures ∙ c.get.ensures.value))
    (reading_fits c.self.inside.map.entries c.args.text.now c.self.invariant)
