use Rattle.std.proofs.Common.{ap, ◌∙◌, refl, is_some}
use Rattle.std.specs.BTreeMap.{is_at}
use Rattle.std.specs.Ordering.{nat_cmp}
use Rattle.std.specs.Cmp.Lexicographic.{slice_cmp}
use Rattle.std.specs.FinMap as map
use Rattle.dg_scope.specs.Table.{bytes_of}
use Rattle.dg_scope.proofs.Trees.{found, removed}
use Rattle.dg_scope.proofs.long_names.LongNames.remove.Goals as goal

pub returns-clause-found : goal.returns-clause-found
returns-clause-found g c =
    let name = c.args.name.now in
    c.is_some.ensures
    ∙ ap is_some (c.remove.ensures.value ∙ found bytes_of (is_at (λ k. slice_cmp nat_cmp name k.items)) name (λ _. refl) c.self.inside.entries.entries)
    ∙ ap (λ m. map.contains_key m name) c.self.view_is

pub returns-clause-gone : goal.returns-clause-gone
returns-clause-gone g c =
    let name = c.args.name.now in
    removed bytes_of (λ x y. slice_cmp nat_cmp x.items y.items) (λ _ _. refl) (λ k. slice_cmp nat_cmp name k.items) name (λ _. refl) c.self.inside.entries c.remove.new.self c.remove.ensures.updates
    ∙ ap (λ m. map.remove m name) c.self.view_is
