use Rattle.std.proofs.Common.{◌-◌, ℕ, ap, ◌∙◌}
use Rattle.dg_match.specs.Held.{held_output, without_nulls}
use Rattle.dg_match.proofs.ChunkLemmas.{chunk_within, chunk_passed, chunk_fits, chunk_added}
use Rattle.dg_match.proofs.buffer.Buffer.add.Goals as goal

pub invariant_of-self : goal.invariant_of-self
invariant_of-self c = rw c.in_err-extend.ensures.err c.self.invariant

pub invariant_of-self-2 : goal.invariant_of-self-2
invariant_of-self-2 c =
    let excess = c.saturating_sub-excess.ensures ∙ ap (λ (n : ℕ). n - c.self.inside.front - c.self.inside.max) (c.len.ensures ∙ c.extend.new.bytes.ok.0) in (
      chunk_within _ _ c.self.inside.max _ _ _ c.in_ok-extend.ensures.ok c.self.invariant.0 excess,
      chunk_passed _ _ c.self.inside.max _ _ _ c.in_ok-extend.ensures.ok c.self.invariant.0 excess _ _ c.self.invariant.1 c.cut.ensures.passed,
      chunk_passed _ _ c.self.inside.max _ _ _ c.in_ok-extend.ensures.ok c.self.invariant.0 excess _ _ c.self.invariant.2 c.cut-2.ensures,
      chunk_fits _ _ c.self.inside.max _ _ _ c.in_ok-extend.ensures.ok c.self.invariant.0 excess,
    )

pub returns-clause-ok : goal.returns-clause-ok
returns-clause-ok c =
    chunk_added c.self.inside.front c.saturating_sub-excess.result c.self.inside.max c.self.inside.bytes.items (without_nulls c.args.chunk.now) c.extend.new.bytes.items
    c.in_ok-extend.ensures.ok c.self.invariant.0 (c.saturating_sub-excess.ensures ∙ ap (λ (n : ℕ). n - c.self.inside.front - c.self.inside.max) (c.len.ensures ∙ c.extend.new.bytes.ok.0))
    c.self.inside.compared c.self.inside.starts c.cut.new.self c.args.self.now c.cut.ensures.value (c.self.view_is ∙ c.close_up.ensures)

pub returns-clause-output : goal.returns-clause-output
returns-clause-output c = ap held_output (returns-clause-ok c)
