use Rattle.std.proofs.Common.{◌∙◌, ap, sym, length}
use Rattle.dg_words.specs.Machine.{Draft}
use Rattle.dg_words.proofs.Framing.{length-contexts}
use Rattle.dg_words.proofs.draft.Draft.open.Goals as goal

pub returns : goal.returns
returns c = c.len.ensures ∙ sym (length-contexts c.self.inside.frames) ∙ ap (λ (d : Draft). length d.indices) c.self.view_is
