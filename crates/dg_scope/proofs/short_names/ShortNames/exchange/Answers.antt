use Rattle.std.proofs.Common.{◌≡◌, ap, sym, ◌∙◌, is_some, Some, subst, refl}
use Rattle.std.specs.Bool.{IsTrue}
use Rattle.std.specs.BTreeMap.{is_at}
use Rattle.std.specs.Option.{IsSome, option_copied_mut}
use Rattle.std.specs.Ordering.{nat_cmp}
use Rattle.std.specs.FinMap as map
use Rattle.dg_scope.specs.Table.{name_of}
use Rattle.dg_scope.proofs.Numbers.{alike}
use Rattle.dg_scope.proofs.Trees.{found, seen, written}
use Rattle.dg_scope.proofs.short_names.ShortNames.exchange.Goals as goal
use Rattle.dg_scope.proofs.short_names.ShortNames.exchange.Goals.{in-Some, in-None}

pub returns-clause-found : goal.returns-clause-found
returns-clause-found g c =
    let number = c.number_of.result in
    let got : option_copied_mut c.get_mut.result ≡ map.get c.args.self.now c.args.name.now =
    c.get_mut.ensures.value
    ∙ found name_of (is_at (nat_cmp number)) (name_of number) (alike number) c.self.inside.entries.entries
    ∙ ap (map.get (seen name_of c.self.inside.entries.entries)) c.number_of.ensures
    ∙ ap (λ m. map.get m c.args.name.now) c.self.view_is in
    elim c.match-get_mut.branch [
      | in-Some w ↦ w.result-is ∙ ap (λ r. is_some (option_copied_mut r)) (sym w.in-Some.is) ∙ ap is_some got
      | in-None w ↦ w.result-is ∙ ap (λ r. is_some (option_copied_mut r)) (sym w.in-None.is) ∙ ap is_some got
    ]

pub returns-clause-exchanged : goal.returns-clause-exchanged
returns-clause-exchanged g c =
    let number = c.number_of.result in
    let got : option_copied_mut c.get_mut.result ≡ map.get c.args.self.now c.args.name.now =
    c.get_mut.ensures.value
    ∙ found name_of (is_at (nat_cmp number)) (name_of number) (alike number) c.self.inside.entries.entries
    ∙ ap (map.get (seen name_of c.self.inside.entries.entries)) c.number_of.ensures
    ∙ ap (λ m. map.get m c.args.name.now) c.self.view_is in
    elim c.match-get_mut.branch [
      | in-Some w ↦ λ yes.
          let m = c.self.inside.entries in
          let n = c.get_mut.follows.lender w.swap.new.x in
          let here = sym c.get_mut.ensures.value ∙ ap option_copied_mut w.in-Some.is in (
            sym got ∙ ap option_copied_mut w.in-Some.is ∙ ap (λ v. Some v) (sym (w.value-is ∙ w.swap.ensures.y_after)),
            ap (λ i. seen name_of i.entries.entries) w.self-inside-is
                ∙ written name_of nat_cmp alike (nat_cmp number) (name_of number) (alike number) m n w.swap.new.x ((c.get_mut.follows.holds w.swap.new.x).3 (subst IsSome (sym here) refl))
                ∙ ap (λ k. map.insert (seen name_of m.entries) k w.swap.new.x) c.number_of.ensures
                ∙ ap (λ v. map.insert (seen name_of m.entries) c.args.name.now v) w.swap.ensures.x_after
                ∙ ap (λ t. map.insert t c.args.name.now c.args.value.now) c.self.view_is,
          )
      | in-None w ↦ λ yes. let no = subst IsTrue w.result-is yes in absurd cc
    ]
