use Rattle.std.proofs.Common.{◌∙◌, ◌≤◌, ap, subst, sym}
use Rattle.dg_language.specs.Procedures.{longest}
use Rattle.dg_language.specs.State.{bound}
use Rattle.dg_language.proofs.StateLemmas.{bound-last, longest-last}
use Rattle.dg_language.proofs.state.write_all.Goals as goal

pub write-requires : goal.write-requires
write-requires c =
    (longest-last c.pop.new.self.items c.in-Some.field-0 1048576 (subst (λ xs. longest xs ≤ 1048576) c.in-Some.ensures.items c.loop-name.invariant.short)).0

pub loop-name-preserved : goal.loop-name-preserved
loop-name-preserved c =
    let i = c.loop-name.invariant in
    record {
      bound = rw (c.in_ok-write.ensures, c.as_slice.ensures) (sym (bound-last c.pop.new.self.items c.in-Some.field-0 c.loop-name.variables) ∙ ap (λ xs. bound xs c.loop-name.variables) (sym c.in-Some.ensures.items) ∙ i.bound);
      short = (longest-last c.pop.new.self.items c.in-Some.field-0 1048576 (subst (λ xs. longest xs ≤ 1048576) c.in-Some.ensures.items i.short)).1;
    }
