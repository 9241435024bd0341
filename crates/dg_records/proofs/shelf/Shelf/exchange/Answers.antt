use Rattle.std.proofs.Common.{◌∙◌, ap, map}
use Rattle.std.specs.List.{list_all}
use Rattle.dg_records.specs.Shelf.{kept, with_record}
use Rattle.dg_records.proofs.ShelfLemmas.{keyed, lookup-kept, insert-with_record, insert-keyed}
use Rattle.dg_records.proofs.shelf.Shelf.exchange.Goals as goal

pub invariant_of-self : goal.invariant_of-self
invariant_of-self c =
    let key = c.in-Ok.ensures ∙ c.test.ensures in
    ap (list_all keyed) c.in-Ok-insert.ensures.entries ∙ insert-keyed _ _ _ key c.self.invariant

pub returns-in-Ok-insert-clause-ok : goal.returns-in-Ok-insert-clause-ok
returns-in-Ok-insert-clause-ok c =
    let key = c.in-Ok.ensures ∙ c.test.ensures in
    record {
      had = c.in-Ok-insert.ensures.old ∙ lookup-kept c.self.inside.records.entries _ c.self.invariant
          ∙ ap (kept (map (λ e. e.1) c.self.inside.records.entries)) key ∙ ap (λ s. kept s c.args.newest.test) c.self.view_is;
      shelf = ap (map (λ e. e.1)) c.in-Ok-insert.ensures.entries ∙ insert-with_record _ _ _ key c.self.invariant ∙ ap (λ s. with_record s c.args.newest) c.self.view_is;
    }
