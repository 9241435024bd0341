use Rattle.std.proofs.Common.{◌≡◌, ◌∙◌, true, false, get_or, refl, sym}
use Rattle.dg_transcript.specs.Fields.{keyword, kind_of, kinds}
use Rattle.dg_bytes.specs.Same.{same_bytes}
use Rattle.dg_transcript.specs.declared.line.Kind.TheVariants.{Session}
use Rattle.dg_transcript.proofs.Finding.{found_here, found_behind, found_nowhere}
use Rattle.dg_transcript.proofs.line.Kind.named.Goals as goal

pub loop-kind-init : goal.loop-kind-init
unfolding kind_of
loop-kind-init c = refl

pub loop-kind-preserved : goal.loop-kind-preserved
loop-kind-preserved c =
    let no : same_bytes (keyword (get_or kinds c.loop-kind.kind-index Session)) c.args.word.now ≡ false = rw c.keyword.ensures at (sym c.eq.ensures ∙ c.if-eq.false) in
    sym (found_behind (λ k. same_bytes (keyword k) c.args.word.now) kinds c.loop-kind.kind-index Session c.loop-kind-test.true no) ∙ c.loop-kind.invariant

pub returns-then-eq : goal.returns-then-eq
returns-then-eq c =
    let yes : same_bytes (keyword (get_or kinds c.loop-kind.kind-index Session)) c.args.word.now ≡ true = rw c.keyword.ensures at (sym c.eq.ensures ∙ c.if-eq.true) in
    sym (found_here (λ k. same_bytes (keyword k) c.args.word.now) kinds c.loop-kind.kind-index Session c.loop-kind-test.true yes) ∙ c.loop-kind.invariant

pub returns : goal.returns
returns c = sym (found_nowhere (λ k. same_bytes (keyword k) c.args.word.now) kinds c.loop-kind.kind-index c.loop-kind-test.false) ∙ c.loop-kind.invariant
