use Rattle.std.proofs.Common.{◌≡◌, ◌-◌, ◌∙◌, ap, sym, length, List, [], true}
use Rattle.std.specs.Prelude.{Option, Some, None, IfSome}
use Rattle.std.specs.Borrow.{Bor}
use Rattle.std.specs.List.{slice_get}
use Rattle.std.specs.Map as entries
use Rattle.dg_world.specs.declared.question.Question.{Question}
use Rattle.dg_world.specs.declared.question.Answer.{Answer}
use Rattle.dg_world.specs.declared.question.Read.{Read}
use Rattle.dg_world.specs.contracts.question.QuestionPartialEq.TheImpl as derived
use Rattle.dg_language.specs.Play.{lookup}
use Rattle.dg_language.specs.Row.{are_new}
use Rattle.dg_language.specs.Reads.{is_once, reads_held, reads_of}
use Rattle.dg_language.proofs.ReadsLemmas.{lookup-new, lookup-reads}
use Rattle.dg_language.proofs.reads.Reads.last.Goals as goal

pub returns-in_ok-last-in-Few : goal.returns-in_ok-last-in-Few
returns-in_ok-last-in-Few c =
    let reads = c.in-Few.reads.items in
    let r = c.in_ok-last-in-Few.last.now in
    let new : are_new [] reads ≡ true = ap is_once (sym c.in-Few.is) ∙ c.self.invariant in
    let get : slice_get reads (length c.deref.result.now - 1) ≡ Some r = ap (λ l. slice_get l (length c.deref.result.now - 1)) (sym c.deref.ensures.value) ∙ sym c.in_ok-last-in-Few.ensures.value in
    ap (lookup r.question) (sym c.self.view_is) ∙ ap (λ f. lookup r.question (reads_held f)) c.in-Few.is ∙ lookup-new [] reads _ r new get

pub returns-in_ok-last-in-Row : goal.returns-in_ok-last-in-Row
returns-in_ok-last-in-Row c =
    let reads = c.in-Row.row in
    let r = c.in_ok-last-in-Row.last.now in
    let get : slice_get reads (length c.as_slice.result.now - 1) ≡ Some r = ap (λ l. slice_get l (length c.as_slice.result.now - 1)) (sym c.as_slice.ensures.reads) ∙ sym c.in_ok-last-in-Row.ensures.value in
    ap (lookup r.question) (sym c.self.view_is) ∙ ap (λ f. lookup r.question (reads_held f)) c.in-Row.is ∙ lookup-new [] reads _ r c.as_slice.ensures.once get

last-known : (es : List (Question × Answer)) (reads : List Read) (o : Option (Bor Question × Bor Answer)) → reads_of es ≡ reads
    → IfSome o (λ p. entries.lookup (derived.ghosts.eq p.0.now) es ≡ Some p.1.now) → IfSome o (λ p. lookup p.0.now reads ≡ Some p.1.now)
last-known es reads None same h = tt
last-known es reads (Some p) same h = ap (lookup p.0.now) (sym same) ∙ sym (lookup-reads es p.0.now) ∙ h

pub returns-in-Many : goal.returns-in-Many
returns-in-Many c =
    last-known c.in-Many.answers.entries c.args.self.now c.get_index.result (ap reads_held (sym c.in-Many.is) ∙ c.self.view_is) c.get_index.ensures.value
