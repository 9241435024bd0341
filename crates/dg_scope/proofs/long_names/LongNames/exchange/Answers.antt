use Rattle.std.proofs.Common.{◌≡◌, ap, sym, ◌∙◌, is_some, Some, subst, refl}
use Rattle.std.specs.Bool.{IsTrue}
use Rattle.std.specs.BTreeMap.{is_at}
use Rattle.std.specs.Option.{IsSome, option_copied_mut}
use Rattle.std.specs.Ordering.{nat_cmp}
use Rattle.std.specs.Cmp.Lexicographic.{slice_cmp}
use Rattle.std.specs.FinMap as map
use Rattle.dg_scope.specs.Table.{bytes_of}
use Rattle.dg_scope.proofs.Trees.{found, seen, written}
use Rattle.dg_scope.proofs.long_names.LongNames.exchange.Goals as goal
use Rattle.dg_scope.proofs.long_names.LongNames.exchange.Goals.{in-Some, in-None}

pub returns-clause-found : goal.returns-clause-found
returns-clause-found g c =
    let name = c.args.name.now in
    let got : option_copied_mut c.get_mut.result ≡ map.get c.args.self.now name =
    c.get_mut.ensures.value
    ∙ found bytes_of (is_at (λ k. slice_cmp nat_cmp name k.items)) name (λ _. refl) c.self.inside.entries.entries
    ∙ ap (λ m. map.get m name) c.self.view_is in
    elim c.match-get_mut.branch [
      | in-Some w ↦ w.result-is ∙ ap (λ r. is_some (option_copied_mut r)) (sym w.in-Some.is) ∙ ap is_some got
      | in-None w ↦ w.result-is ∙ ap (λ r. is_some (option_copied_mut r)) (sym w.in-None.is) ∙ ap is_some got
    ]

pub returns-clause-exchanged : goal.returns-clause-exchanged
returns-clause-exchanged g c =
    let name = c.args.name.now in
    let got : option_copied_mut c.get_mut.result ≡ map.get c.args.self.now name =
    c.get_mut.ensures.value
    ∙ found bytes_of (is_at (λ k. slice_cmp nat_cmp name k.items)) name (λ _. refl) c.self.inside.entries.entries
    ∙ ap (λ m. map.get m name) c.self.view_is in
    elim c.match-get_mut.branch [
      | in-Some w ↦ λ yes.
          let m = c.self.inside.entries in
          let n = c.get_mut.follows.lender w.swap.new.x in
          let here = sym c.get_mut.ensures.value ∙ ap option_copied_mut w.in-Some.is in (
            sym got ∙ ap option_copied_mut w.in-Some.is ∙ ap (λ v. Some v) (sym (w.value-is ∙ w.swap.ensures.y_after)),
            ap (λ i. seen bytes_of i.entries.entries) w.self-inside-is
                ∙ written bytes_of (λ x y. slice_cmp nat_cmp x.items y.items) (λ _ _. refl) (λ k. slice_cmp nat_cmp name k.items) name (λ _. refl) m n w.swap.new.x ((c.get_mut.follows.holds w.swap.new.x).3 (subst IsSome (sym here) refl))
                ∙ ap (λ v. map.insert (seen bytes_of m.entries) name v) w.swap.ensures.x_after
                ∙ ap (λ t. map.insert t name c.args.value.now) c.self.view_is,
          )
      | in-None w ↦ λ yes. let no = subst IsTrue w.result-is yes in absurd cc
    ]
