use Rattle.std.proofs.Common.{◌∙◌, sym}
use Rattle.std.specs.Option.{option_copied}
use Rattle.dg_forms.proofs.SessionLemmas.{expect-timeout, expect-id}
use Rattle.dg_forms.proofs.expect.expect_words.Goals as goal

pub flags-preserved-then-is : goal.flags-preserved-then-is
flags-preserved-then-is c =
    sym (expect-timeout (option_copied c.flags.timeout) (option_copied c.flags.id) c.flags.left.now c.in-Some.word.now c.in-Some-split.value.now c.in-Some.behind.now c.in-Some-split.others.now
    c.in-Some.ensures c.in-Some-split.ensures (sym c.is.ensures ∙ c.if-is.true))
    ∙ c.flags.invariant

pub flags-preserved : goal.flags-preserved
flags-preserved c =
    sym (expect-id (option_copied c.flags.timeout) (option_copied c.flags.id) c.flags.left.now c.in-Some.word.now c.in-Some-split-2.value.now c.in-Some.behind.now c.in-Some-split-2.others.now
    c.in-Some.ensures c.in-Some-split-2.ensures (sym c.is.ensures ∙ c.if-is.false) (sym c.is-else-is.ensures ∙ c.if-is-2.true))
    ∙ c.flags.invariant
