-- What `expect` and `exp_continue` mean, by expect(1).
use Rattle.std.specs.Prelude.{ℕ, ℤ, pos, negsuc, zero, suc, ◌+◌, ◌*◌, min, Bool, true, false, Option, Some, None, List, [], ◌∷◌, ◌++◌, take, slice_get, slice_range, codes, decimal, Result, Ok, Err}
use Rattle.dg_lists.specs.Faults.{fault_text}
use Rattle.dg_words.specs.Reading.{words_of}
use Rattle.dg_lists.specs.declared.fault.WordFault.{WordFault}
use Rattle.dg_words.specs.declared.word.Word.{Word}
use Rattle.dg_expr.specs.Number.{number_of}
use Rattle.dg_glob.specs.declared.glob.Span.{Span}
use Rattle.dg_match.specs.Hits.{hit_of}
use Rattle.dg_match.specs.declared.hit.Hit.{Hit}
use Rattle.dg_transcript.specs.declared.cursor.Action.TheVariants as action
use Rattle.dg_transcript.specs.Output.{output_of}
use Rattle.dg_sessions.specs.Views.{SessionView, id_of, session_at}
use Rattle.dg_sessions.specs.Phases.{is_open}
use Rattle.dg_sessions.specs.Steps.{changed, emptied, taken}
use Rattle.dg_language.specs.declared.code.Code.TheVariants.{Done, Failed, Returned, Broken, Continued, ExpContinued}
use Rattle.dg_language.specs.declared.expect.Pair.{Pair}
use Rattle.dg_language.specs.declared.expect.Awaited.{Awaited}
use Rattle.dg_language.specs.declared.state.TheConstants.{STEPS}
use Rattle.dg_language.specs.Play.{Play, Ends}
use Rattle.dg_language.specs.State.{State, assigned, with_sessions, in_action, out_of_action, stands_in_action}
use Rattle.dg_language.specs.Evaluation.{Ending, Then, Nested, out_of_steps, fail, wrong_count, outside_of_expect}
use Rattle.dg_language.specs.Completing.{Immediately, completes}
use Rattle.dg_language.specs.Variables.{expected_integer}
use Rattle.dg_language.specs.Words.{element, words_made}
use Rattle.dg_language.specs.Sessions.{perform, on_session, on_words, seek, not_open, is_session_open}
use Rattle.dg_language.specs.ExpectWords.{expect_words, listed, patterns_in, regexes_in, output_pairs, is_for_timeout, is_for_end}
use Rattle.dg_language.specs.Patterns.{with_patterns}
use Rattle.dg_transcript.specs.declared.limits.TheConstants.{MAX_WAIT}

-- What is waited for: output of this session, by these pairs, for so many milliseconds.
pub record Waiting : Type 0 where
  pub session : ℕ
  pub pairs : List Pair
  pub limit : ℕ

-- ---- what a match, an end and a timeout leave

-- a variable of `expect_out`
abbrev pub out_name : List ℕ → List ℕ
out_name index = element (codes "expect_out") index

abbrev pub group_text : List ℕ → Option Span → List ℕ
group_text bytes None = []
group_text bytes (Some g) = slice_range bytes g.start g.end

-- the groups from the n-th on are written, up to the ninth
unfoldable pub with_groups : ℕ → ℕ → List ℕ → List (Option Span) → State → State
with_groups zero n bytes gs s = s
with_groups (suc r) n bytes [] s = s
with_groups (suc r) n bytes (g ∷ gs) s =
    with_groups r (n + 1) bytes gs (assigned (out_name (decimal n ++ codes ",string")) (group_text bytes g) s)

-- what was removed, and the session's name, are written
abbrev pub with_removed : ℕ → List ℕ → State → State
with_removed n bytes s = assigned (out_name (codes "spawn_id")) (id_of n) (assigned (out_name (codes "buffer")) bytes s)

-- a match is written, and all bytes up to its end are removed
unfoldable pub with_match : ℕ → List ℕ → Hit → State → State
with_match n bytes h s =
    with_removed n (take h.end bytes)
    (with_groups 9 1 bytes h.groups
    (assigned (out_name (codes "0,string")) (slice_range bytes h.start h.end)
    (with_sessions (changed n (taken h.end) s.sessions) s)))

-- the output has ended: all bytes are removed
unfoldable pub with_end : ℕ → List ℕ → State → State
with_end n bytes s = with_removed n bytes (with_sessions (changed n emptied s.sessions) s)

abbrev pub bytes_at : Option SessionView → List ℕ
bytes_at None = []
bytes_at (Some v) = v.buffer

-- the bytes of a session that were read and not yet taken
abbrev pub bytes_of : ℕ → State → List ℕ
bytes_of n s = bytes_at (session_at n s.sessions)

-- ---- actions

abbrev pub action_in : Option Pair → Option (List ℕ)
action_in None = None
action_in (Some p) = p.action

-- the action of the pair whose pattern has this index
abbrev pub action_at : ℕ → List Pair → Option (List ℕ)
action_at i ps = action_in (slice_get (output_pairs ps) i)

-- the action of the first pair that passes a test
unfoldable pub first_action : (Awaited → Bool) → List Pair → Option (List ℕ)
first_action test [] = None
first_action test (p ∷ ps) = elim (test p.awaited) [ true ↦ p.action | false ↦ first_action test ps ]

-- the session is waited for once more, if it is still open
abbrev pub if_open : ℕ → (State → Play Ending) → State → Then → Play Ending
if_open n again s k = elim (is_session_open (session_at n s.sessions)) [ true ↦ again s | false ↦ fail (not_open (id_of n)) s k ]

-- what comes after an action, where the evaluation stands in it no more: `exp_continue` waits once more
unfoldable pub after_action : ℕ → (State → Play Ending) → Then → Then
after_action n again k ExpContinued v s = if_open n again (out_of_action s) k
after_action n again k Done v s = k Done v (out_of_action s)
after_action n again k Failed v s = k Failed v (out_of_action s)
after_action n again k Returned v s = k Returned v (out_of_action s)
after_action n again k Broken v s = k Broken v (out_of_action s)
after_action n again k Continued v s = k Continued v (out_of_action s)

-- an action is evaluated in the caller's scope; one that was left out is nothing
abbrev pub act : Nested → ℕ → Option (List ℕ) → (State → Play Ending) → State → Then → Play Ending
act nested n None again s k = k Done [] s
act nested n (Some text) again s k = nested text (in_action s) (after_action n again k)

-- ---- the wait

-- the first pattern that has a match in the bytes is taken; or nothing, and the wait goes on
abbrev pub taking : Nested → Waiting → Option Hit → (State → Play Ending) → State → Then → Play Ending → Play Ending
taking nested w None again s k more = more
taking nested w (Some h) again s k more =
    act nested w.session (action_at h.index w.pairs) again (with_match w.session (bytes_of w.session s) h s) k

abbrev pub tries : Nested → Waiting → (State → Play Ending) → State → Then → Play Ending → Play Ending
tries nested w again s k more = taking nested w (hit_of (patterns_in w.pairs) (bytes_of w.session s)) again s k more

-- what is done with an entry: output is tried, and anything else has ended the output
abbrev pub after_read : Nested → Waiting → (State → Play Ending) → Then → Option (ℕ × List ℕ) → State → Play Ending → Play Ending
after_read nested w again k (Some output) s more = tries nested w again s k more
after_read nested w again k None s more =
    act nested w.session (first_action is_for_end w.pairs) again (with_end w.session (bytes_of w.session s) s) k

-- the limit has passed
abbrev pub after_limit : Nested → Waiting → (State → Play Ending) → Then → State → Play Ending
after_limit nested w again k s = act nested w.session (first_action is_for_timeout w.pairs) again s k

-- the session is read until a pattern has a match, the output ends or the limit passes
abbrev pub reading : Nested → Waiting → (State → Play Ending) → State → Then → Play Ending
reading nested w again s k =
    perform w.session (action.Read w.limit) (λ e t more. after_read nested w again k (output_of e) t more) (after_limit nested w again k) s

-- One round: the bytes are tried once, then after each chunk.
unfoldable pub one_round : Nested → Waiting → (State → Play Ending) → State → Then → Play Ending
one_round nested w again s k = tries nested w again s k (reading nested w again s k)

-- The rounds of an `expect`, which are at most this many, since each `exp_continue` took a step.
unfoldable pub rounds : ℕ → Nested → Waiting → State → Then → Play Ending
rounds zero nested w s k = Ends (out_of_steps s)
rounds (suc r) nested w s k = one_round nested w (λ t. rounds r nested w t k) s k

-- ---- expect

-- so many seconds, at most an hour; less than none is an hour
abbrev pub milliseconds : ℤ → ℕ
milliseconds (pos n) = 1000 * min n 3600
milliseconds (negsuc n) = MAX_WAIT

abbrev pub with_number : List ℕ → Option ℤ → State → Then → (ℕ → Play Ending) → Play Ending
with_number text None s k f = fail (expected_integer text) s k
with_number text (Some z) s k f = f (milliseconds z)

abbrev pub or_ten : Option (List ℕ) → List ℕ
or_ten None = codes "10"
or_ten (Some text) = text

-- the limit: a flag's, or that of `timeout`, which is 10 where it is unset
unfoldable pub with_limit : Option (List ℕ) → State → Then → (ℕ → State → Play Ending) → Play Ending
with_limit (Some text) s k f = with_number text (number_of text) s k (λ limit. f limit s)
with_limit None s k f =
    seek (codes "timeout") s (λ text t. with_number (or_ten text) (number_of (or_ten text)) t k (λ limit. f limit t))

-- `expect` with these words: the session, then the limit, then the `-re` patterns, then the wait
unfoldable pub expect_with : Nested → List (List ℕ) → State → Then → Play Ending
expect_with nested words s k =
    on_words (expect_words None None words) s k (λ e. on_session is_open e.id s k (λ n t. with_limit e.timeout t k (λ limit u.
    with_patterns (regexes_in e.pairs) u k (λ v. rounds (STEPS + 1) nested (record { session = n; pairs = e.pairs; limit = limit }) v k))))

-- ---- exp_continue

unfoldable pub do_exp_continue : List (List ℕ) → State → Immediately
do_exp_continue [] s = elim (stands_in_action s.actions) [ true ↦ completes ExpContinued [] | false ↦ Err outside_of_expect ]
do_exp_continue (_ ∷ _) s = Err (wrong_count (codes "exp_continue"))

-- ---- the words of expect

abbrev pub expect_list : Nested → Result (List Word) WordFault → State → Then → Play Ending
expect_list nested (Err fault) s k = fail (fault_text fault) s k
expect_list nested (Ok words) s k = words_made nested (expect_with nested) words s k

abbrev pub expect_args : Nested → Option (List ℕ) → List (List ℕ) → State → Then → Play Ending
expect_args nested None args s k = expect_with nested args s k
expect_args nested (Some text) args s k = expect_list nested (words_of text) s k

-- `expect`: its words, or a list of them in one argument, which are substituted first
unfoldable pub do_expect : Nested → List (List ℕ) → State → Then → Play Ending
do_expect nested args s k = expect_args nested (listed args) args s k
