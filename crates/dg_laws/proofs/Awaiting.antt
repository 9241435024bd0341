-- Which match `expect` takes.
use Rattle.std.proofs.Common.{◌≡◌, ℕ, List, [], ◌∷◌, refl, ap, ◌∙◌, subst}
use Rattle.std.specs.Prelude.{Option, Some, None}
use Rattle.dg_match.specs.Hits.{hit_of}
use Rattle.dg_match.specs.declared.hit.Hit.{Hit}
use Rattle.dg_transcript.specs.declared.cursor.Action.TheVariants as action
use Rattle.dg_transcript.specs.Output.{output_of}
use Rattle.dg_transcript.specs.Replay.{Left, Outcome, answered, timed_out, departed, replay}
use Rattle.dg_sessions.specs.Steps.{with_chunk}
use Rattle.dg_language.specs.Play.{Play, Source, run}
use Rattle.dg_language.specs.State.{State}
use Rattle.dg_language.specs.Evaluation.{Ending, Then, Nested}
use Rattle.dg_language.specs.Sessions.{Told, Late, perform}
use Rattle.dg_language.specs.ExpectWords.{patterns_in, is_for_end}
use Rattle.dg_language.specs.Expecting.{Waiting, bytes_at, bytes_of, with_match, with_end, act, action_at, first_action, taking, tries, after_read, after_limit, one_round}
use Rattle.dg_laws.specs.Replays.{Stands, OnlySessions, ComesTo}
use Rattle.dg_laws.specs.Awaiting.{Awaits, ReadsChunk, Ends, ExpectTakesTheFirstHit}
use Rattle.dg_laws.proofs.Replaying.{actions_replayed, only-only}

module _ (look : Source) (max : ℕ) (nested : Nested) (w : Waiting) (again : State → Play Ending) (k : Then) where
  told : Told
  told e t more = after_read nested w again k (output_of e) t more

  late : Late
  late = after_limit nested w again k

  awaits : ℕ → State → Play Ending
  awaits limit s = perform w.session (action.Read limit) told late s

  stands-bytes : (s : State) (l : Left) → Stands look w.session max s l → bytes_of w.session s ≡ l.buffer
  stands-bytes s l st = ap bytes_at st.there ∙ st.buffer

  tried-none : (s : State) (l : Left) (more : Play Ending) → Stands look w.session max s l → hit_of (patterns_in w.pairs) l.buffer ≡ None
      → tries nested w again s k more ≡ more
  tried-none s l more st none =
      ap (λ o. taking nested w o again s k more) (ap (hit_of (patterns_in w.pairs)) (stands-bytes s l st) ∙ none)

  -- a read that is answered with a chunk goes on with a try
  record Reads (limit less : ℕ) (s : State) (r : Left) : Type 0 where
    then : State
    only : OnlySessions s then
    stands : Stands look w.session max then r
    runs : run look (awaits limit s) ≡ run look (tries nested w again then k (awaits less then))

  reads-chunk : (limit less : ℕ) (s : State) (l r : Left) (chunk : List ℕ) → Stands look w.session max s l → ReadsChunk max limit l chunk less r
      → Reads limit less s r
  unfolding told awaits
  reads-chunk limit less s l r chunk st c =
      let come = subst (λ o. ComesTo look w.session max told late s (awaits limit s) o) c.comes
      (actions_replayed look w.session max (action.Read limit) told late s l st) in
      record {
        then = come.0;
        only = come.2;
        stands = come.3;
        runs = come.1 ∙ ap (λ o. run look (after_read nested w again k o come.0 (awaits less come.0))) c.output;
      }

  -- once chunks were read, the last of them is tried
  record Tried (less : ℕ) (s : State) (r : Left) (play : Play Ending) : Type 0 where
    then : State
    only : OnlySessions s then
    stands : Stands look w.session max then r
    runs : run look play ≡ run look (tries nested w again then k (awaits less then))

  tried : (chunks : List (List ℕ)) (limit less : ℕ) (s : State) (l r : Left) → Stands look w.session max s l
      → Awaits (patterns_in w.pairs) max limit l chunks less r → Tried less s r (tries nested w again s k (awaits limit s))
  tried [] limit less s l r st (same, here) = record {
    then = s;
    only = refl;
    stands = subst (Stands look w.session max s) here st;
    runs = ap (λ m. run look (tries nested w again s k (awaits m s))) same;
  }
  tried (chunk ∷ chunks) limit less s l r st (none, (m, q, c, more)) =
      let one = reads-chunk limit m s l q chunk st c in
      let others = tried chunks m less one.then q r one.stands more in
      record {
        then = others.then;
        only = only-only s one.then others.then one.only others.only;
        stands = others.stands;
        runs = ap (run look) (tried-none s l (awaits limit s) st none) ∙ one.runs ∙ others.runs;
      }

  ends : (less : ℕ) (s : State) (r : Left) (play : Play Ending) (t : Tried less s r play) (h : Option Hit) → hit_of (patterns_in w.pairs) r.buffer ≡ h
      → (next : Outcome) → ComesTo look w.session max told late t.then (awaits less t.then) next
      → Ends look max nested w again k s play r h next
  unfolding told late
  ends less s r play t (Some hit) is next come =
      let bytes = stands-bytes t.then r t.stands in (
        t.then,
        t.only,
        t.stands,
        t.runs
            ∙ ap (λ o. run look (taking nested w o again t.then k (awaits less t.then))) (ap (hit_of (patterns_in w.pairs)) bytes ∙ is)
            ∙ ap (λ b. run look (act nested w.session (action_at hit.index w.pairs) again (with_match w.session b hit t.then) k)) bytes,
      )
  ends less s r play t None is (answered e q a) come =
      λ over. (
        come.0,
        only-only s t.then come.0 t.only come.2,
        come.3,
        t.runs ∙ ap (run look) (tried-none t.then r (awaits less t.then) t.stands is) ∙ come.1
            ∙ ap (λ o. run look (after_read nested w again k o come.0 (perform w.session a told late come.0))) over
            ∙ ap (λ b. run look (act nested w.session (first_action is_for_end w.pairs) again (with_end w.session b come.0) k)) (stands-bytes come.0 q come.3),
      )
  ends less s r play t None is (timed_out q) come = (
    come.0,
    only-only s t.then come.0 t.only come.2,
    come.3,
    t.runs ∙ ap (run look) (tried-none t.then r (awaits less t.then) t.stands is) ∙ come.1,
  )
  ends less s r play t None is departed come = (
    come.0,
    only-only s t.then come.0 t.only come.2,
    t.runs ∙ ap (run look) (tried-none t.then r (awaits less t.then) t.stands is) ∙ come.1,
  )

pub first_hit : ExpectTakesTheFirstHit
unfolding one_round told late awaits
first_hit look max less nested w again k s l r chunks st read =
    let t = tried look max nested w again k chunks w.limit less s l r st read in
    ends look max nested w again k less s r (one_round nested w again s k) t (hit_of (patterns_in w.pairs) r.buffer) refl
    (replay (with_chunk max) (action.Read less) r)
    (actions_replayed look w.session max (action.Read less) (told look max nested w again k) (late look max nested w again k) t.then r t.stands)
