use Rattle.std.proofs.Common.{◌≡◌, ◌∙◌, true, None, Some, ap, sym, subst}
use Rattle.std.specs.Prelude.{is_some}
use Rattle.dg_index.specs.Index.{is_among, readers_of}
use Rattle.dg_index.proofs.IndexLemmas.{among-inserted, among-stays, names-updated, readers-found, readers-updated}
use Rattle.dg_index.proofs.index.Index.name_again.Goals as goal

pub returns-in_err-insert-in-Some-clause-stays : goal.returns-in_err-insert-in-Some-clause-stays
returns-in_err-insert-in-Some-clause-stays c q p h =
    let old = c.self.inside.readers.entries in
    let t = c.args.topic.now in
    let s = c.insert.new.self in
    let found = readers-found old t (Some c.in-Some.readers.now) c.in-Some.ensures.value in
    names-updated old (c.get_mut.follows.lender s).entries t s ((c.get_mut.follows.holds s).3 (sym (ap is_some c.in-Some.ensures.value))).0
    (λ n among. ap (λ l. is_among l n) (c.in_err-insert-in-Some.ensures.same ∙ sym found) ∙ among)
    q p (subst (λ v. is_among (readers_of v q) p ≡ true) (sym c.self.view_is) h)

pub returns-in-Some-clause-named : goal.returns-in-Some-clause-named
returns-in-Some-clause-named c is =
    let s = c.insert.new.self in
    ap (λ l. is_among l c.args.place) (
    readers-updated c.self.inside.readers.entries (c.get_mut.follows.lender s).entries c.args.topic.now s ((c.get_mut.follows.holds s).3 (sym (ap is_some c.in-Some.ensures.value))).0
    ∙ c.in_ok-insert-in-Some.ensures.places
    ) ∙ among-inserted c.in-Some.readers.now c.args.place

pub returns-in-Some-clause-stays : goal.returns-in-Some-clause-stays
returns-in-Some-clause-stays c q p h =
    let old = c.self.inside.readers.entries in
    let t = c.args.topic.now in
    let s = c.insert.new.self in
    let found = readers-found old t (Some c.in-Some.readers.now) c.in-Some.ensures.value in
    names-updated old (c.get_mut.follows.lender s).entries t s ((c.get_mut.follows.holds s).3 (sym (ap is_some c.in-Some.ensures.value))).0
    (λ n among. ap (λ l. is_among l n) c.in_ok-insert-in-Some.ensures.places ∙ among-stays c.in-Some.readers.now c.args.place n (ap (λ l. is_among l n) (sym found) ∙ among))
    q p (subst (λ v. is_among (readers_of v q) p ≡ true) (sym c.self.view_is) h)

pub returns-in-None-clause-none : goal.returns-in-None-clause-none
returns-in-None-clause-none c not =
    ap (λ m. readers_of m.entries c.args.topic.now) c.get_mut.follows.holds-at-none ∙ readers-found c.self.inside.readers.entries c.args.topic.now None c.in-None.ensures.value
