-- No kind before this one is named.
use Rattle.std.proofs.Common.{◌≡◌, drop}
use Rattle.std.specs.Prelude.{find}
use Rattle.dg_transcript.specs.Fields.{keyword, kind_of, kinds}
use Rattle.dg_bytes.specs.Same.{same_bytes}
use Rattle.dg_transcript.proofs.line.Kind.named.Given as goal

abbrev pub invariant-loop-kind : goal.invariant-loop-kind
invariant-loop-kind l = find (λ k. same_bytes (keyword k) l.word) (drop l.kind-index kinds) ≡ kind_of l.word
