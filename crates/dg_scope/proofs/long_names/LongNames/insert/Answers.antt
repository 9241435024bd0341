use Rattle.std.proofs.Common.{ap, ◌∙◌, refl}
use Rattle.std.specs.Ordering.{nat_cmp}
use Rattle.std.specs.Cmp.Lexicographic.{slice_cmp}
use Rattle.std.specs.FinMap as map
use Rattle.dg_scope.specs.Table.{bytes_of}
use Rattle.dg_scope.proofs.Trees.{seen, written}
use Rattle.dg_scope.proofs.long_names.LongNames.insert.Goals as goal

pub returns-clause-ok : goal.returns-clause-ok
returns-clause-ok g c =
    let v = c.exchange.new.value in
    let name = c.in_ok-name.name in
    let stays = c.exchange.ensures.absent c.if-exchange.false in
    written bytes_of (λ x y. slice_cmp nat_cmp x.items y.items) (λ _ _. refl) (λ k. slice_cmp nat_cmp name.items k.items) name.items (λ _. refl) c.self.inside.entries c.insert.new.self v c.in_ok-insert.ensures.updates
    ∙ ap (λ n. map.insert (seen bytes_of c.self.inside.entries.entries) n v) c.in_ok-name.ensures.items
    ∙ ap (λ m. map.insert m c.args.name.now v) (c.self.view_is ∙ stays.0)
    ∙ ap (λ x. map.insert c.args.self.now c.args.name.now x) stays.1
