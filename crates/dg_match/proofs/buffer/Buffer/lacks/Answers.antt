use Rattle.std.proofs.Common.{◌≡◌, ◌∙◌, List, ℕ, None, ap, subst, sym}
use Rattle.dg_match.specs.Groups.{regex_match}
use Rattle.dg_match.specs.Starts.{AllKept}
use Rattle.dg_match.proofs.NeedsLemmas.{behind, if_ok}
use Rattle.dg_match.proofs.buffer.Buffer.lacks.Goals as goal

pub lacks-requires : goal.lacks-requires
lacks-requires c =
    subst (λ (bytes : List ℕ). AllKept bytes c.self.inside.watch)
    (sym (behind c.self.inside.front c.deref.result.now c.self.inside.bytes.items c.deref.ensures.value)) c.self.invariant.2

pub invariant_of-self : goal.invariant_of-self
invariant_of-self c = (
  c.self.invariant.0,
  c.self.invariant.1,
  subst (λ (bytes : List ℕ). AllKept bytes c.lacks.new.self)
      (behind c.self.inside.front c.deref.result.now c.self.inside.bytes.items c.deref.ensures.value) c.lacks.ensures.passed,
  c.self.invariant.3,
)

pub returns-clause-none : goal.returns-clause-none
returns-clause-none c =
    let bytes = behind c.self.inside.front c.deref.result.now c.self.inside.bytes.items c.deref.ensures.value ∙ ap (λ h. h.bytes) c.self.view_is in
    if_ok _ _ c.lacks.result
    (λ r h yes. subst (λ (bs : List ℕ). regex_match c.args.built.now bs ≡ None) bytes (h yes c.args.built.now c.needs.ensures))
    c.lacks.ensures.none
