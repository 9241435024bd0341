use Rattle.std.proofs.Common.{◌≡◌, ◌∙◌, ◌||◌, true, false, [], ap, refl, sym, subst}
use Rattle.std.proofs.lemmas.Bool.{eq-eqb}
use Rattle.dg_index.specs.Index.{is_among, readers_of}
use Rattle.dg_index.proofs.IndexLemmas.{names-updated, readers-updated}
use Rattle.dg_index.proofs.index.Index.name_first.Goals as goal

pub returns-in-Ok-clause-named : goal.returns-in-Ok-clause-named
returns-in-Ok-clause-named c =
    ap (λ t. is_among (readers_of c.insert.new.self.entries t) c.args.place) (sym c.in_ok-topic.ensures)
    ∙ ap (λ l. is_among l c.args.place) (readers-updated c.self.inside.readers.entries c.insert.new.self.entries c.in_ok-topic.topic c.one.result c.in-Ok.ensures.updates.0 ∙ c.one.ensures)
    ∙ ap (λ b. b || false) (eq-eqb c.args.place c.args.place refl)

pub returns-in-Ok-clause-stays : goal.returns-in-Ok-clause-stays
returns-in-Ok-clause-stays c q p h =
    let old = c.self.inside.readers.entries in
    let none : readers_of old c.in_ok-topic.topic ≡ [] = ap (readers_of old) c.in_ok-topic.ensures ∙ ap (λ v. readers_of v c.args.topic.now) c.self.view_is ∙ c.requires in
    names-updated old c.insert.new.self.entries c.in_ok-topic.topic c.one.result c.in-Ok.ensures.updates.0
    (λ n among. let no_place : is_among [] n ≡ true = ap (λ l. is_among l n) (sym none) ∙ among in cc)
    q p (subst (λ v. is_among (readers_of v q) p ≡ true) (sym c.self.view_is) h)
