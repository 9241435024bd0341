use Rattle.std.proofs.Common.{◌≡◌, ◌≤◌, ◌∙◌, ◌+◌, ◌++◌, ◌∷◌, [], None, true, length, drop, ap, sym, subst, arith}
use Rattle.std.proofs.lemmas.List.{drop-append-le, length-append, length-drop}
use Rattle.std.proofs.lemmas.Bool.{and_from, eq-eqb}
use Rattle.dg_world.specs.declared.question.Read.{Read}
use Rattle.dg_language.specs.Play.{lookup}
use Rattle.dg_language.specs.Row.{are_in_row, are_new, asks_at}
use Rattle.dg_language.proofs.ReadsLemmas.{are_new-push}
use Rattle.dg_language.proofs.RowLemmas.{row-more}
use Rattle.dg_language.proofs.row.Row.add.Goals as goal

pub invariant_of-self-2 : goal.invariant_of-self-2
invariant_of-self-2 c =
    let old = c.self.inside.reads.items in
    let before = c.self.inside.before in
    let read : Read = record { question = c.args.question; answer = c.args.answer } in
    let items : c.push.new.self.items ≡ old ++ read ∷ [] = c.in_ok-push.ensures.items in
    let within : before ≤ length old = c.self.invariant.0 in
    let new : lookup c.args.question old ≡ None = ap (lookup c.args.question) c.self.view_is ∙ c.requires in
    let length_of = length-drop before old in
    let next : c.in-Entry.entry.place ≡ c.self.inside.first + length (drop before old) = omega (arith, c.if-entry-next.false, c.len.ensures, length_of) in
    let asks : asks_at c.self.inside.session (c.self.inside.first + length (drop before old)) c.args.question ≡ true =
    ap (asks_at c.self.inside.session (c.self.inside.first + length (drop before old))) c.in-Entry.is
    ∙ and_from _ _ (eq-eqb _ _ c.if-entry-self.false) (eq-eqb _ _ next) in (
      subst (λ l. before ≤ length l) (sym items) (omega (arith, within, length-append old (read ∷ []))),
      ap (λ l. are_in_row c.self.inside.session c.self.inside.first (drop before l)) items
          ∙ ap (are_in_row c.self.inside.session c.self.inside.first) (drop-append-le before old (read ∷ []) within)
          ∙ row-more c.self.inside.session c.self.inside.first (drop before old) read c.self.invariant.1 asks,
      ap (are_new []) items ∙ are_new-push [] old read c.self.invariant.2 new,
    )
