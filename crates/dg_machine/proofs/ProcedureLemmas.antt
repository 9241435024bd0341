-- Procedures: the fields of their parameters, and what their calls bind, one after another.
use Rattle.std.proofs.Common.{◌≡◌, ◌+◌, List, ◌∷◌, refl, arith}
use Rattle.dg_language.specs.declared.procedure.Binding.{Binding}
use Rattle.dg_language.specs.State.{State, entered}
use Rattle.dg_machine.specs.declared.frame.Frame.{Frame}
use Rattle.dg_machine.specs.declared.frame.Control.TheVariants.{Go}
use Rattle.dg_machine.specs.Meaning.{weight, stack_weight, frame_weight}

pub known-entered : (bs : List Binding) (s : State) → (entered bs s).known ≡ s.known
unfolding entered
known-entered bs s = refl

pub weight-entered : (bs : List Binding) (s : State) (f : Frame) (fs : List Frame) → weight Go (entered bs s) (f ∷ fs) ≡ weight Go s fs + frame_weight f
unfolding weight stack_weight entered
weight-entered bs s f fs = omega arith
