use Rattle.std.proofs.Common.{ap, ◌∙◌, refl}
use Rattle.std.specs.BTreeMap.{is_at}
use Rattle.std.specs.Ordering.{nat_cmp}
use Rattle.std.specs.Cmp.Lexicographic.{slice_cmp}
use Rattle.std.specs.FinMap as map
use Rattle.dg_scope.specs.Table.{bytes_of}
use Rattle.dg_scope.proofs.Trees.{found}
use Rattle.dg_scope.proofs.long_names.LongNames.get.Goals as goal

pub returns : goal.returns
returns g c =
    let name = c.args.name.now in
    c.get.ensures.value
    ∙ found bytes_of (is_at (λ k. slice_cmp nat_cmp name k.items)) name (λ _. refl) c.self.inside.entries.entries
    ∙ ap (λ m. map.get m name) c.self.view_is
