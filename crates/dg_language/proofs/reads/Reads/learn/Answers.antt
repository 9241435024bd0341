use Rattle.std.proofs.Common.{◌≡◌, ◌∙◌, [], ap, sym, true}
use Rattle.dg_language.specs.Play.{lookup}
use Rattle.dg_language.specs.Row.{are_new}
use Rattle.dg_language.specs.Reads.{is_once, reads_held}
use Rattle.dg_language.proofs.ReadsLemmas.{are_new-push}
use Rattle.dg_language.proofs.reads.Reads.learn.Goals as goal

pub invariant_of-self-then-len-lt-NEAR : goal.invariant_of-self-then-len-lt-NEAR
invariant_of-self-then-len-lt-NEAR c =
    let reads = c.in-Few.reads.items in
    let q = c.args.question in
    let new : are_new [] reads ≡ true = ap is_once (sym c.in-Few.is) ∙ c.self.invariant in
    let none = ap (λ f. lookup q (reads_held f)) (sym c.in-Few.is) ∙ ap (lookup q) c.self.view_is ∙ c.requires in
    ap (are_new []) c.in_ok-push-in-Few.ensures.ok ∙ are_new-push [] reads (record { question = q; answer = c.args.answer }) new none
