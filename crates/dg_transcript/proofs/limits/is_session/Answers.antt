use Rattle.std.proofs.Common.{◌≡◌, true, false, ap, sym, subst, ◌∙◌, get_or, take}
use Rattle.dg_transcript.specs.declared.line.Place.TheVariants as place
use Rattle.dg_transcript.specs.Order.{admits, role_of, after_role}
use Rattle.dg_transcript.specs.Limits.{EntryFits}
use Rattle.dg_transcript.proofs.Lists.{All-more, All-at}
use Rattle.dg_transcript.proofs.Limiting.{refused, one_more, place_more, place_from}
use Rattle.dg_transcript.proofs.limits.is_session.Goals as goal

pub returns-then-not-admits : goal.returns-then-not-admits
returns-then-not-admits c =
    let e = c.entry-item.result in
    let es = c.args.entries.now in
    let i = c.loop-entry.entry-index in
    let here : admits (place_from place.Opened (take i es)) (role_of (get_or es i e)) ≡ false =
    rw (← c.loop-entry.invariant.here, ← c.entry-item.is, ← c.role-role.ensures, ← c.admits.ensures) c.if-not-admits.true in
    (λ no_way. absurd cc, λ session. absurd (refused place.Opened es i e c.loop-entry-test.true here session.1))

pub returns-then-not-entry_fits : goal.returns-then-not-entry_fits
returns-then-not-entry_fits c =
    let e = c.entry-item.result in
    let es = c.args.entries.now in
    let i = c.loop-entry.entry-index in (
      λ no_way. absurd cc,
      λ session. let fits : EntryFits e = subst EntryFits (sym c.entry-item.is) (All-at EntryFits es i e c.loop-entry-test.true session.2) in
          let yes = c.entry_fits.ensures.1 fits in absurd cc,
    )

pub loop-entry-preserved : goal.loop-entry-preserved
loop-entry-preserved c =
    let e = c.entry-item.result in
    let es = c.args.entries.now in
    let i = c.loop-entry.entry-index in
    let here : admits (place_from place.Opened (take i es)) (role_of (get_or es i e)) ≡ true =
    rw (← c.loop-entry.invariant.here, ← c.entry-item.is, ← c.role-role.ensures, ← c.admits.ensures) c.if-not-admits.false in
    record {
      fits = All-more EntryFits es i e c.loop-entry-test.true c.loop-entry.invariant.fits (subst EntryFits c.entry-item.is (c.entry_fits.ensures.0 c.if-not-entry_fits.false));
      ordered = one_more place.Opened es i e c.loop-entry-test.true c.loop-entry.invariant.ordered here;
      here = c.after-place.ensures ∙ ap after_role (c.role-role.ensures ∙ ap role_of c.entry-item.is) ∙ place_more place.Opened es i e c.loop-entry-test.true;
    }
