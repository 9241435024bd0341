-- The command expect.
use Rattle.std.proofs.Common.{◌≡◌, ℕ, ◌≤◌, suc, zero, List, [], refl, sym, subst, ◌∙◌, arith}
use Rattle.std.specs.Prelude.{ℤ, pos, negsuc, Option, Some, None, Result, Ok, Err, codes}
use Rattle.dg_words.specs.Reading.{words_of}
use Rattle.dg_lists.specs.declared.fault.WordFault.{WordFault}
use Rattle.dg_words.specs.declared.word.Word.{Word}
use Rattle.dg_expr.specs.Number.{number_of}
use Rattle.dg_match.specs.Hits.{hit_of}
use Rattle.dg_match.specs.declared.hit.Hit.{Hit}
use Rattle.dg_transcript.specs.declared.cursor.Action.TheVariants as action
use Rattle.dg_transcript.specs.Output.{output_of}
use Rattle.dg_sessions.specs.Views.{session_at}
use Rattle.dg_sessions.specs.Phases.{is_open}
use Rattle.dg_language.specs.declared.code.Code.{Code}
use Rattle.dg_language.specs.declared.code.Code.TheVariants.{Done, Failed, Returned, Broken, Continued, ExpContinued}
use Rattle.dg_language.specs.Play.{Play}
use Rattle.dg_language.specs.State.{State, in_action, out_of_action}
use Rattle.dg_language.specs.Evaluation.{Ending, Then, Nested}
use Rattle.dg_language.specs.Sessions.{is_session_open}
use Rattle.dg_language.specs.ExpectWords.{expect_words, patterns_in, regexes_in, is_for_timeout, is_for_end, listed}
use Rattle.dg_language.specs.Expecting.{Waiting, with_match, with_end, bytes_of, action_at, first_action, after_action, act, taking, tries, after_read, after_limit, reading, one_round, rounds, milliseconds, with_number, or_ten, with_limit, expect_with, expect_list, expect_args, do_expect}
use Rattle.dg_living.proofs.Changes.{in_action-same, out_of_action-same, with_match-same, with_end-same}
use Rattle.dg_living.proofs.SessionWords.{Fit, open-phase, open-fit}
use Rattle.dg_living.proofs.Steps.{Lives, LivesInside, completes, along, ends_out, either_known, fail-lives, one_after_another}
use Rattle.dg_living.proofs.WordMaking.{words-lives}
use Rattle.dg_living.proofs.Performing.{perform-lives}
use Rattle.dg_living.proofs.SessionCommands.{at_open, seek-lives, on_session-lives, on_words-lives}
use Rattle.dg_living.proofs.Matching.{with_patterns-lives}

within_hour : (z : ℤ) → milliseconds z ≤ 3600000
within_hour (pos n) = omega arith
within_hour (negsuc n) = omega arith

with_number-lives : (text : List ℕ) (z : Option ℤ) (s : State) {f : ℕ → Then → Play Ending}
    → ((limit : ℕ) → limit ≤ 3600000 → Lives s (f limit)) → Lives s (λ k. with_number text z s k (λ limit. f limit k))
with_number-lives text None s more = fail-lives _ s
with_number-lives text (Some z) s more = more (milliseconds z) (within_hour z)

with_limit-lives : (text : Option (List ℕ)) (s : State) {f : ℕ → State → Then → Play Ending}
    → ((limit : ℕ) (u : State) → limit ≤ 3600000 → u.sessions ≡ s.sessions → Lives u (f limit u)) → Lives s (λ k. with_limit text s k (λ limit t. f limit t k))
unfolding with_limit
with_limit-lives (Some text) s more = with_number-lives text (number_of text) s (λ limit le. more limit s le refl)
with_limit-lives None s more =
    seek-lives (codes "timeout") s (λ text t same. with_number-lives (or_ten text) (number_of (or_ten text)) t (λ limit le. more limit t le same))

module _ (nested : Nested) (inside : LivesInside nested) where
  module _ (w : Waiting) (number : 1 ≤ w.session) (short_limit : w.limit ≤ 3600000) (again : State → Then → Play Ending)
      (goes_on : (s : State) → Fit is_open w.session s.sessions → Lives s (again s)) where
    after_action-at : (c : Code) (v : List ℕ) (s : State) → Lives s (λ k. after_action w.session (λ t. again t k) k c v s)
    unfolding after_action
    after_action-at ExpContinued v s =
        along (out_of_action-same s)
        (either_known (is_session_open (session_at w.session (out_of_action s).sessions))
        (λ is_so. goes_on (out_of_action s) (open-fit w.session (out_of_action s).sessions (session_at w.session (out_of_action s).sessions) number refl is_so))
        (λ _. fail-lives _ (out_of_action s)))
    after_action-at Done v s = along (out_of_action-same s) (completes Done v (out_of_action s))
    after_action-at Failed v s = along (out_of_action-same s) (completes Failed v (out_of_action s))
    after_action-at Returned v s = along (out_of_action-same s) (completes Returned v (out_of_action s))
    after_action-at Broken v s = along (out_of_action-same s) (completes Broken v (out_of_action s))
    after_action-at Continued v s = along (out_of_action-same s) (completes Continued v (out_of_action s))

    act-lives : (text : Option (List ℕ)) (s : State) → Lives s (λ k. act nested w.session text (λ t. again t k) s k)
    act-lives None s = completes Done [] s
    act-lives (Some text) s = along (in_action-same s) (one_after_another (inside text (in_action s)) after_action-at)

    taking-lives : (h : Option Hit) (s : State) (more : Then → Play Ending) → Lives s more
        → Lives s (λ k. taking nested w h (λ t. again t k) s k (more k))
    taking-lives None s more g = g
    taking-lives (Some h) s more g =
        along (with_match-same w.session (bytes_of w.session s) h s)
        (act-lives (action_at h.index w.pairs) (with_match w.session (bytes_of w.session s) h s))

    tries-lives : (s : State) (more : Then → Play Ending) → Lives s more → Lives s (λ k. tries nested w (λ t. again t k) s k (more k))
    tries-lives s more g = taking-lives (hit_of (patterns_in w.pairs) (bytes_of w.session s)) s more g

    after_read-lives : (o : Option (ℕ × List ℕ)) (s : State) (more : Then → Play Ending) → ((x : ℕ × List ℕ) → o ≡ Some x → Lives s more)
        → Lives s (λ k. after_read nested w (λ t. again t k) k o s (more k))
    after_read-lives (Some output) s more g = tries-lives s more (g output refl)
    after_read-lives None s more g =
        along (with_end-same w.session (bytes_of w.session s) s)
        (act-lives (first_action is_for_end w.pairs) (with_end w.session (bytes_of w.session s) s))

    reading-lives : (s : State) → Fit is_open w.session s.sessions → Lives s (λ k. reading nested w (λ t. again t k) s k)
    reading-lives s fit =
        perform-lives (λ e t k m. after_read nested w (λ u. again u k) k (output_of e) t m) (λ t k. after_limit nested w (λ u. again u k) k t)
        w.session fit.view.phase number (λ e. Unit {0})
        (λ e u v told there phase more goes. after_read-lives (output_of e) u more goes)
        (action.Read w.limit) s fit.view fit.there refl (λ q at. (open-phase fit.view.phase fit.fits, at_open fit.view.phase q fit.fits at))
        short_limit (λ e made. tt) (λ reads e. tt) (λ reads u. act-lives (first_action is_for_timeout w.pairs) u)

    one_round-lives : (s : State) → Fit is_open w.session s.sessions → Lives s (λ k. one_round nested w (λ t. again t k) s k)
    unfolding one_round
    one_round-lives s fit = tries-lives s (λ k. reading nested w (λ t. again t k) s k) (reading-lives s fit)

  rounds-lives : (r : ℕ) (w : Waiting) (s : State) → w.limit ≤ 3600000 → Fit is_open w.session s.sessions → Lives s (rounds r nested w s)
  unfolding rounds
  rounds-lives zero w s le fit = ends_out s
  rounds-lives (suc r) w s le fit =
      one_round-lives w fit.number le (λ t k. rounds r nested w t k) (λ t now. rounds-lives r w t le now) s fit

  expect_with-lives : (words : List (List ℕ)) (s : State) → Lives s (expect_with nested words s)
  unfolding expect_with
  expect_with-lives words s =
      on_words-lives (expect_words None None words) s (λ e _. on_session-lives is_open e.id s (λ n t fit.
      with_limit-lives e.timeout t (λ limit u le same.
      with_patterns-lives (regexes_in e.pairs) u (λ v still.
      rounds-lives 100001 (record { session = n; pairs = e.pairs; limit = limit }) v le (subst (Fit is_open n) (sym (still ∙ same)) fit)))))

  expect_list-lives : (r : Result (List Word) WordFault) (s : State) → Lives s (expect_list nested r s)
  expect_list-lives (Err fault) s = fail-lives _ s
  expect_list-lives (Ok words) s =
      words-lives nested inside (expect_with nested) (λ made u short. expect_with-lives made u) words s

  expect_args-lives : (text : Option (List ℕ)) (args : List (List ℕ)) (s : State) → Lives s (expect_args nested text args s)
  expect_args-lives None args s = expect_with-lives args s
  expect_args-lives (Some text) args s = expect_list-lives (words_of text) s

  pub do_expect-lives : (args : List (List ℕ)) (s : State) → Lives s (do_expect nested args s)
  unfolding do_expect
  do_expect-lives args s = expect_args-lives (listed args) args s
