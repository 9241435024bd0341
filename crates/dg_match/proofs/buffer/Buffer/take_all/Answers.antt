use Rattle.std.proofs.Common.{◌∙◌, ap, sym, length, arith, subst, List, ℕ, drop}
use Rattle.std.proofs.lemmas.List.{drop_all}
use Rattle.dg_match.specs.Starts.{AllKept}
use Rattle.dg_match.proofs.buffer.Buffer.take_all.Goals as goal

pub invariant_of-self : goal.invariant_of-self
invariant_of-self c =
    let none = ap (λ v. v.items) c.replace-bytes.ensures.after ∙ c.new.ensures.items in
    let held = ap (λ h. h.bytes) c.self.view_is in
    let count = ap length (c.as_slice-len.ensures ∙ sym held) in
    let passed : AllKept (drop (length c.as_slice-len.result.now) (drop c.self.inside.front c.self.inside.bytes.items)) c.cut.new.self =
    c.cut.ensures.passed (drop c.self.inside.front c.self.inside.bytes.items) (omega arith) c.self.invariant.1 in
    let watched : AllKept (drop (length c.as_slice-len.result.now) (drop c.self.inside.front c.self.inside.bytes.items)) c.cut-2.new.self =
    c.cut-2.ensures (drop c.self.inside.front c.self.inside.bytes.items) (omega arith) c.self.invariant.2 in
    let gone = drop_all (length c.as_slice-len.result.now) (drop c.self.inside.front c.self.inside.bytes.items) (omega arith) in
    let size = ap length none in (
      omega arith,
      subst (λ (bytes : List ℕ). AllKept bytes c.cut.new.self) (gone ∙ sym none) passed,
      subst (λ (bytes : List ℕ). AllKept bytes c.cut-2.new.self) (gone ∙ sym none) watched,
      omega arith,
    )
