use Rattle.std.proofs.Common.{◌≡◌, ◌++◌, drop}
use Rattle.dg_language.specs.WordSteps.{substitutions}
use Rattle.dg_forms.proofs.substitute.substitutions_of.Given as goal

abbrev pub invariant-loop-word : goal.invariant-loop-word
invariant-loop-word l = l.steps ++ substitutions (drop l.word-index l.words) ≡ substitutions l.words
