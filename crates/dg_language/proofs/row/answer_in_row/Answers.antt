use Rattle.std.proofs.Common.{◌≡◌, ◌∙◌, ◌-◌, true, false, refl, ap, sym, subst, arith, length}
use Rattle.std.specs.List.{slice_get}
use Rattle.std.proofs.lemmas.Option.{slice_get_read, slice_get_within}
use Rattle.dg_world.specs.declared.question.Read.{Read}
use Rattle.dg_world.specs.declared.question.Question.TheVariants.{Entry}
use Rattle.dg_world.specs.Question.{same_question}
use Rattle.dg_language.specs.Play.{lookup}
use Rattle.dg_language.proofs.RowLemmas.{lookup-at, row-entries, row-none, row-only, some-same}
use Rattle.dg_language.proofs.row.answer_in_row.Goals as goal

pub returns-in_default : goal.returns-in_default
returns-in_default c = sym (row-entries c.args.session c.args.first c.args.row.now c.args.question.now c.in_default.not-Entry c.requires)

pub returns-then-entry-session : goal.returns-then-entry-session
returns-then-entry-session c =
    let rows = c.args.row.now in
    let e = c.in-Entry.entry in
    sym (ap (λ q. lookup q rows) c.in-Entry.is ∙ row-none c.args.session c.args.first rows e c.requires (λ i r g h. absurd (c.if-entry-session.true h.0)))

pub returns-then-entry-first : goal.returns-then-entry-first
returns-then-entry-first c =
    let rows = c.args.row.now in
    let e = c.in-Entry.entry in
    let before = c.if-entry-first.true in
    sym (ap (λ q. lookup q rows) c.in-Entry.is
    ∙ row-none c.args.session c.args.first rows e c.requires (λ i r g h. let at = h.1 in absurd (omega (arith, at, before))))

pub returns-then-place-row : goal.returns-then-place-row
returns-then-place-row c =
    let rows = c.args.row.now in
    let e = c.in-Entry.entry in
    let behind = c.if-place-row.true in
    sym (ap (λ q. lookup q rows) c.in-Entry.is
    ∙ row-none c.args.session c.args.first rows e c.requires
    (λ i r g h. let at = h.1 in let within = slice_get_within rows i r g in absurd (omega (arith, at, behind, within))))

pub returns-then-is : goal.returns-then-is
returns-then-is c =
    let rows = c.args.row.now in
    let e = c.in-Entry.entry in
    let r = c.index-row-place.result in
    let first = c.if-entry-first.false in
    let got = slice_get_read rows (length rows) (e.place - c.args.first) r refl c.if-place-row.false c.index-row-place.is in
    let same = subst (λ q. same_question r.question q ≡ true) c.in-Entry.is (sym c.is.ensures ∙ c.if-is.true) in
    sym (ap (λ q. lookup q rows) c.in-Entry.is
    ∙ lookup-at rows (Entry e) (e.place - c.args.first) r got same
    (λ j x g t. let at = (row-only c.args.session c.args.first rows j x e c.requires g t).1 in omega (arith, at, first)))

pub returns-else-is : goal.returns-else-is
returns-else-is c =
    let rows = c.args.row.now in
    let e = c.in-Entry.entry in
    let r = c.index-row-place.result in
    let first = c.if-entry-first.false in
    let got = slice_get_read rows (length rows) (e.place - c.args.first) r refl c.if-place-row.false c.index-row-place.is in
    let other = subst (λ q. same_question r.question q ≡ false) c.in-Entry.is (sym c.is.ensures ∙ c.if-is.false) in
    sym (ap (λ q. lookup q rows) c.in-Entry.is
    ∙ row-none c.args.session c.args.first rows e c.requires
    (λ i x g h.
    let at = h.1 in
    let place : e.place - c.args.first ≡ i = omega (arith, at, first) in
    let same = some-same r x (sym got ∙ ap (slice_get rows) place ∙ g) in
    subst (λ (y : Read). same_question y.question (Entry e) ≡ false) same other))
