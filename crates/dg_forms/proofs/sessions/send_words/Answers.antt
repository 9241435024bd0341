use Rattle.std.proofs.Common.{◌∙◌, sym}
use Rattle.std.specs.Option.{option_copied}
use Rattle.dg_forms.proofs.SessionLemmas.{send-more}
use Rattle.dg_forms.proofs.sessions.send_words.Goals as goal

pub flags-preserved : goal.flags-preserved
flags-preserved c =
    sym (send-more (option_copied c.flags.id) c.flags.left.now c.in-Some.word.now c.in-Some-split.value.now c.in-Some.behind.now c.in-Some-split.others.now
    c.in-Some.ensures c.in-Some-split.ensures (sym c.is_flag.ensures ∙ c.if-not-is_flag.false) (sym c.is.ensures ∙ c.if-is.false)
    (sym c.is-in-flags.ensures ∙ c.if-not-is.false))
    ∙ c.flags.invariant
