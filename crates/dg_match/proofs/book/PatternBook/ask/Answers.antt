use Rattle.std.proofs.Common.{◌≡◌, ◌∙◌, ◌++◌, ◌∷◌, [], sym, ap, is_some}
use Rattle.dg_match.proofs.BookLemmas.{insert_new, still_fit}
use Rattle.dg_match.proofs.book.PatternBook.ask.Goals as goal

pub invariant_of-self-2 : goal.invariant_of-self-2
invariant_of-self-2 c =
    let none = ap is_some (sym c.get.ensures.value ∙ c.in_default.is) in
    let added : c.insert.new.self.entries ≡ c.self.inside.map.entries ++ (c.args.text.now, c.in_ok-reading.reading) ∷ [] =
    rw (c.in_ok-insert.ensures.entries, c.in_ok-key.ensures, c.as_slice-2.ensures) (insert_new c.self.inside.map.entries c.args.text.now c.in_ok-reading.reading (rw c.self.view_is none)) in
    still_fit _ _ _ _ c.self.invariant (rw (sym c.as_slice.ensures) c.in_ok-reading.ensures) added

pub returns-clause-first : goal.returns-clause-first
returns-clause-first c = λ none.
    rw (c.in_ok-insert.ensures.entries, c.in_ok-key.ensures, c.as_slice-2.ensures, ← c.self.view_is) (insert_new c.self.inside.map.entries c.args.text.now c.in_ok-reading.reading (rw c.self.view_is none))
