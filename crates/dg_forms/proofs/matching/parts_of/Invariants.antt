use Rattle.std.proofs.Common.{◌≡◌, ◌∷◌, map, take, slice_range}
use Rattle.dg_language.specs.Expecting.{group_text}
use Rattle.dg_forms.proofs.matching.parts_of.Given as goal

abbrev pub invariant-loop-group : goal.invariant-loop-group
invariant-loop-group l = l.parts ≡ slice_range l.fn.text l.fn.found.start l.fn.found.end ∷ map (group_text l.fn.text) (take l.group-index l.groups)
