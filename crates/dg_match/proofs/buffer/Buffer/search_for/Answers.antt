use Rattle.std.proofs.Common.{List, ℕ, subst, sym}
use Rattle.dg_match.specs.Starts.{AllKept}
use Rattle.dg_match.proofs.NeedsLemmas.{behind}
use Rattle.dg_match.proofs.buffer.Buffer.search_for.Goals as goal

pub search_for-requires-clause-kept : goal.search_for-requires-clause-kept
search_for-requires-clause-kept c =
    subst (λ (bytes : List ℕ). AllKept bytes c.self.inside.starts)
    (sym (behind c.self.inside.front c.deref.result.now c.self.inside.bytes.items c.deref.ensures.value)) c.self.invariant.1

pub invariant_of-self : goal.invariant_of-self
invariant_of-self c = (
  c.self.invariant.0,
  subst (λ (bytes : List ℕ). AllKept bytes c.search_for.new.self)
      (behind c.self.inside.front c.deref.result.now c.self.inside.bytes.items c.deref.ensures.value) c.search_for.ensures.kept,
  c.self.invariant.2,
  c.self.invariant.3,
)

pub invariant_of-self-2 : goal.invariant_of-self-2
invariant_of-self-2 c = (
  c.self.invariant.0,
  subst (λ (bytes : List ℕ). AllKept bytes c.search_for.new.self)
      (behind c.self.inside.front c.deref.result.now c.self.inside.bytes.items c.deref.ensures.value) c.search_for.ensures.kept,
  c.self.invariant.2,
  c.self.invariant.3,
)
