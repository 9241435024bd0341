-- The command expect.
use Rattle.std.proofs.Common.{ℕ, suc, zero, List, []}
use Rattle.std.specs.Prelude.{ℤ, Option, Some, None, Result, Ok, Err, codes}
use Rattle.dg_words.specs.Reading.{words_of}
use Rattle.dg_lists.specs.declared.fault.WordFault.{WordFault}
use Rattle.dg_words.specs.declared.word.Word.{Word}
use Rattle.dg_expr.specs.Number.{number_of}
use Rattle.dg_match.specs.Hits.{hit_of}
use Rattle.dg_match.specs.declared.hit.Hit.{Hit}
use Rattle.dg_transcript.specs.declared.cursor.Action.TheVariants as action
use Rattle.dg_transcript.specs.Output.{output_of}
use Rattle.dg_sessions.specs.Views.{session_at}
use Rattle.dg_sessions.specs.Phases.{is_open}
use Rattle.dg_language.specs.declared.code.Code.{Code}
use Rattle.dg_language.specs.declared.code.Code.TheVariants.{Done, Failed, Returned, Broken, Continued, ExpContinued}
use Rattle.dg_language.specs.Play.{Play}
use Rattle.dg_language.specs.State.{State, in_action, out_of_action}
use Rattle.dg_language.specs.Evaluation.{Ending, Then, Nested}
use Rattle.dg_language.specs.Sessions.{is_session_open}
use Rattle.dg_language.specs.ExpectWords.{expect_words, patterns_in, regexes_in, is_for_timeout, is_for_end, listed}
use Rattle.dg_language.specs.Expecting.{Waiting, with_match, with_end, bytes_of, action_at, first_action, after_action, act, taking, tries, after_read, after_limit, reading, one_round, rounds, milliseconds, with_number, or_ten, with_limit, expect_with, expect_list, expect_args, do_expect}
use Rattle.dg_laws.specs.Grafting.{Grafted}
use Rattle.dg_laws.proofs.Trees.{one_after_another}
use Rattle.dg_laws.proofs.Steps.{IsGraftedInside, completes, stops, either, fail-grafted}
use Rattle.dg_laws.proofs.WordMaking.{words-grafted}
use Rattle.dg_laws.proofs.SessionCommands.{perform-grafted, seek-grafted, on_session-grafted, on_words-grafted}
use Rattle.dg_laws.proofs.Matching.{with_patterns-grafted}

with_number-grafted : (text : List ℕ) (z : Option ℤ) (s : State) {f : ℕ → Then → Play Ending}
    → ((limit : ℕ) → Grafted (f limit)) → Grafted (λ k. with_number text z s k (λ limit. f limit k))
with_number-grafted text None s more = fail-grafted _ s
with_number-grafted text (Some z) s more = more (milliseconds z)

with_limit-grafted : (text : Option (List ℕ)) (s : State) {f : ℕ → State → Then → Play Ending}
    → ((limit : ℕ) (t : State) → Grafted (f limit t)) → Grafted (λ k. with_limit text s k (λ limit t. f limit t k))
unfolding with_limit
with_limit-grafted (Some text) s more = with_number-grafted text (number_of text) s (λ limit. more limit s)
with_limit-grafted None s more =
    seek-grafted (codes "timeout") s (λ text t. with_number-grafted (or_ten text) (number_of (or_ten text)) t (λ limit. more limit t))

module _ (nested : Nested) (inside : IsGraftedInside nested) where
  module _ (w : Waiting) (again : State → Then → Play Ending) (goes_on : (s : State) → Grafted (again s)) where
    after_action-at : (c : Code) (v : List ℕ) (s : State) → Grafted (λ k. after_action w.session (λ t. again t k) k c v s)
    unfolding after_action
    after_action-at ExpContinued v s =
        either (is_session_open (session_at w.session (out_of_action s).sessions)) (goes_on (out_of_action s)) (fail-grafted _ (out_of_action s))
    after_action-at Done v s = completes Done v (out_of_action s)
    after_action-at Failed v s = completes Failed v (out_of_action s)
    after_action-at Returned v s = completes Returned v (out_of_action s)
    after_action-at Broken v s = completes Broken v (out_of_action s)
    after_action-at Continued v s = completes Continued v (out_of_action s)

    act-grafted : (text : Option (List ℕ)) (s : State) → Grafted (λ k. act nested w.session text (λ t. again t k) s k)
    act-grafted None s = completes Done [] s
    act-grafted (Some text) s = one_after_another (inside text (in_action s)) after_action-at

    taking-grafted : (h : Option Hit) (s : State) (more : Then → Play Ending) → Grafted more
        → Grafted (λ k. taking nested w h (λ t. again t k) s k (more k))
    taking-grafted None s more g = g
    taking-grafted (Some h) s more g = act-grafted (action_at h.index w.pairs) (with_match w.session (bytes_of w.session s) h s)

    tries-grafted : (s : State) (more : Then → Play Ending) → Grafted more → Grafted (λ k. tries nested w (λ t. again t k) s k (more k))
    tries-grafted s more g = taking-grafted (hit_of (patterns_in w.pairs) (bytes_of w.session s)) s more g

    after_read-grafted : (o : Option (ℕ × List ℕ)) (s : State) (more : Then → Play Ending) → Grafted more
        → Grafted (λ k. after_read nested w (λ t. again t k) k o s (more k))
    after_read-grafted (Some output) s more g = tries-grafted s more g
    after_read-grafted None s more g = act-grafted (first_action is_for_end w.pairs) (with_end w.session (bytes_of w.session s) s)

    reading-grafted : (s : State) → Grafted (λ k. reading nested w (λ t. again t k) s k)
    reading-grafted s =
        perform-grafted (λ e t k m. after_read nested w (λ u. again u k) k (output_of e) t m) (λ t k. after_limit nested w (λ u. again u k) k t)
        (λ e t m g. after_read-grafted (output_of e) t m g) (λ t. act-grafted (first_action is_for_timeout w.pairs) t)
        w.session (action.Read w.limit) s

    one_round-grafted : (s : State) → Grafted (λ k. one_round nested w (λ t. again t k) s k)
    unfolding one_round
    one_round-grafted s = tries-grafted s (λ k. reading nested w (λ t. again t k) s k) (reading-grafted s)

  rounds-grafted : (r : ℕ) (w : Waiting) (s : State) → Grafted (rounds r nested w s)
  unfolding rounds
  rounds-grafted zero w s = stops _
  rounds-grafted (suc r) w s = one_round-grafted w (λ t k. rounds r nested w t k) (λ t. rounds-grafted r w t) s

  expect_with-grafted : (words : List (List ℕ)) (s : State) → Grafted (expect_with nested words s)
  unfolding expect_with
  expect_with-grafted words s =
      on_words-grafted (expect_words None None words) s (λ e. on_session-grafted is_open e.id s (λ n t.
      with_limit-grafted e.timeout t (λ limit u.
      with_patterns-grafted (regexes_in e.pairs) u (λ v.
      rounds-grafted 100001 (record { session = n; pairs = e.pairs; limit = limit }) v))))

  expect_list-grafted : (r : Result (List Word) WordFault) (s : State) → Grafted (expect_list nested r s)
  expect_list-grafted (Err fault) s = fail-grafted _ s
  expect_list-grafted (Ok words) s = words-grafted nested inside (expect_with nested) expect_with-grafted words s

  expect_args-grafted : (text : Option (List ℕ)) (args : List (List ℕ)) (s : State) → Grafted (expect_args nested text args s)
  expect_args-grafted None args s = expect_with-grafted args s
  expect_args-grafted (Some text) args s = expect_list-grafted (words_of text) s

  pub do_expect-grafted : (args : List (List ℕ)) (s : State) → Grafted (do_expect nested args s)
  unfolding do_expect
  do_expect-grafted args s = expect_args-grafted (listed args) args s
