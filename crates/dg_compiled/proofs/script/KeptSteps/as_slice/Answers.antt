use Rattle.std.proofs.Common.{◌∙◌}
use Rattle.std.specs.Arc.{arc_value}
use Rattle.dg_compiled.proofs.TextLemmas.{kept-at}
use Rattle.dg_compiled.proofs.script.KeptSteps.as_slice.Goals as goal

pub returns : goal.returns
returns c =
    let all = c.as_slice.ensures ∙ c.behind-self.view_is ∙ c.deref.ensures in
    c.steps.ensures ∙ kept-at (arc_value c.self.inside.commands) c.self.inside.at _ c.self.invariant (rw all at c.index-as_slice-self.is) ∙ c.self.view_is
