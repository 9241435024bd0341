use Rattle.std.proofs.Common.{◌∙◌, ◌++◌, ap, sym}
use Rattle.std.specs.Option.{option_copied}
use Rattle.std.proofs.lemmas.List.{take-append-drop}
use Rattle.dg_language.specs.Play.{lookup}
use Rattle.dg_language.proofs.Asking.{lookup-more}
use Rattle.dg_language.proofs.ReadsLemmas.{lookup-found}
use Rattle.dg_language.proofs.RowLemmas.{lookup-behind}
use Rattle.dg_language.proofs.row.Row.answer_to.Goals as goal

pub returns-in-Some : goal.returns-in-Some
returns-in-Some c =
    let q = c.args.question.now in
    let front = c.split_at.result.0.now in
    let back = c.split_at.result.1.now in
    let found = sym (lookup-found front q) ∙ sym c.answer_among.ensures ∙ ap option_copied c.in-Some.is in
    let whole = (λ i. c.split_at.ensures.front i ++ c.split_at.ensures.back i) ∙ take-append-drop c.self.inside.before c.deref.result.now ∙ c.deref.ensures.value ∙ c.self.view_is in
    sym (lookup-more q front back c.in-Some.answer.now found) ∙ ap (lookup q) whole

pub returns-in-None : goal.returns-in-None
returns-in-None c =
    let q = c.args.question.now in
    let front = c.split_at.result.0.now in
    let back = c.split_at.result.1.now in
    let none = sym (lookup-found front q) ∙ sym c.answer_among.ensures ∙ ap option_copied c.in-None.is in
    let whole = (λ i. c.split_at.ensures.front i ++ c.split_at.ensures.back i) ∙ take-append-drop c.self.inside.before c.deref.result.now ∙ c.deref.ensures.value ∙ c.self.view_is in
    c.answer_in_row.ensures ∙ sym (lookup-behind q front back none) ∙ ap (lookup q) whole
