use Rattle.std.proofs.Common.{◌∙◌, IfSome, refl, ap, sym, subst}
use Rattle.dg_core.specs.Lineup.{AllLeadBack, LeadBack}
use Rattle.dg_core.proofs.lineup.Lineup.closed.Goals as goal
use Rattle.dg_core.proofs.lineup.Lineup.closed.Goals.{in-Some, in-None+in_ok-openings-in-None}

pub returns : goal.returns
returns c =
    let places = c.args.self.places in
    record {
      tests = refl;
      places_stay = refl;
      lead = elim c.match-openings.branch [
        | in-Some w ↦ subst (AllLeadBack places) (sym (ap (λ o. o.positions) w.openings-is ∙ w.close.ensures.positions)) (subst (λ x. IfSome x (LeadBack places)) w.in-Some.is c.requires)
        | in-None+in_ok-openings-in-None w ↦ subst (LeadBack places) (sym w.openings-is) (subst (λ ps. LeadBack ps w.in_ok-openings-in-None.openings) w.as_slice.ensures w.in_ok-openings-in-None.ensures.lead)
      ];
      none_open = elim c.match-openings.branch [
        | in-Some w ↦ ap (λ o. o.opened.keys) w.openings-is ∙ w.close.ensures.none_open
        | in-None+in_ok-openings-in-None w ↦ ap (λ o. o.opened.keys) w.openings-is ∙ w.in_ok-openings-in-None.ensures.none_open
      ];
    }
