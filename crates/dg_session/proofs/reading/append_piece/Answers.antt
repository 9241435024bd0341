use Rattle.std.proofs.Common.{rules, arith, ◌≡◌, ◌≢◌, ◌-◌, [], All, take, sym, ap, subst, ◌∙◌, eq-eqb, eqb-true, get_or, get_or-take, length-take-le}
use Rattle.std.proofs.lemmas.List.{append-nil}
use Rattle.std.proofs.lemmas.List.Elements.{All-more, All-nil}
use Rattle.std.specs.Io.BufRead.{FillKeeps, DropsConsumable}
use Rattle.std.proofs.KnownBytes.{Consumes-nil, Consumes-kept}
use Rattle.std.proofs.BufReadLemmas.{Consumes_shown, zero_unless_positive}
use Rattle.std.proofs.Transfers.{StopsAt-take}
use Rattle.dg_session.proofs.ReadingLemmas.{past_limit}
use Rattle.dg_session.proofs.reading.append_piece.Goals.{then-end-eq0, else-end-eq0}
use Rattle.dg_session.proofs.reading.append_piece.Goals as goal

pub returns-then-eq-clause-read : goal.returns-then-eq-clause-read
returns-then-eq-clause-read g c =
    ([], sym (append-nil _), All-nil (λ x. x ≢ 10), Consumes-kept _ _ _ [] (Consumes-nil _) c.fill_buf.follows.holds-at-none.0, λ _. All-nil (λ x. x ≢ 10), λ e. cc, λ e. cc)

pub returns-then-end-limit-clause-too_long : goal.returns-then-end-limit-clause-too_long
returns-then-end-limit-clause-too_long g c _ =
    let end = c.length_through-end in
    past_limit _ c.in-Ok.available.now end.result _ c.args.limit end.ensures.bound end.ensures.before c.in-Ok.ensures.front (search (rules, arith))

pub returns-clause-read : goal.returns-clause-read
returns-clause-read g c =
    let items = c.in_ok-extend_from_slice.ensures.items in
    let end = c.length_through-end in
    let rested = c.fill_buf.follows.lender-at-none in
    let filled = subst (FillKeeps _ (g.R.Read.remaining rested) (g.R.BufRead.consumable_len rested)) c.in-Ok.is c.fill_buf.follows.holds-at-none in
    let same : c.if-end-eq0.reader ≡ rested = search rules in
    let drops = subst (λ r. DropsConsumable (g.R.Read.remaining r) (g.R.Read.remaining c.consume.new.self) (g.R.BufRead.consumable_len r) end.result) same c.consume.ensures.bytes in
    let moved = Consumes_shown _ _ _ _ c.in-Ok.available.now end.result end.ensures.bound c.in-Ok.ensures.front c.in-Ok.ensures.end filled.0 filled.1 drops in (
      take end.result c.in-Ok.available.now,
      items,
      StopsAt-take _ _ _ end.ensures.bound end.ensures.before,
      moved.0,
      λ more. elim c.if-end-eq0.branch [
        | then-end-eq0 w ↦ absurd (more (search rules))
        | else-end-eq0 w ↦ subst (λ k. All (λ x. x ≢ 10) (take k c.in-Ok.available.now)) (omega (arith, w.if-end-eq0.false))
            (All-more (λ x. x ≢ 10) _ (end.result - 1) 0 (omega (arith, w.if-end-eq0.false, end.ensures.bound)) end.ensures.before (λ e. more (w.is_done-is ∙ eq-eqb _ _ e)))
      ],
      λ done some.
          let long = length-take-le end.result c.in-Ok.available.now end.ensures.bound in
          elim c.if-end-eq0.branch [
            | then-end-eq0 w ↦ absurd (omega (arith, w.if-end-eq0.true))
            | else-end-eq0 w ↦ ap (λ n. get_or (take end.result c.in-Ok.available.now) (n - 1) 0) long
                ∙ get_or-take end.result c.in-Ok.available.now (end.result - 1) 0 (omega arith) ∙ eqb-true _ _ (sym w.is_done-is ∙ done)
          ],
      λ _ none.
          let zero : end.result ≡ 0 = sym (length-take-le end.result c.in-Ok.available.now end.ensures.bound) ∙ none in
          moved.1 (zero_unless_positive _ _ end.ensures.some zero),
    )
