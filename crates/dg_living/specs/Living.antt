-- Evaluations that live on whatever children and the world answer them: an entry is asked for where the last one of its session
-- stands, and each entry that a gate may make of the action is taken.
use Rattle.std.specs.Prelude.{◌≡◌, ◌≢◌, ℕ, zero, suc, ◌+◌, ◌-◌, ◌<◌, ◌≤◌, Bool, true, false, List, [], ◌∷◌, ◌++◌, length, Option, Some, None}
use Rattle.std.specs.List.{AllByRecursion, sum_by}
use Rattle.hex.specs.Hex.{IsBytes}
use Rattle.dg_scope.specs.declared.scopes.TheConstants.{LONGEST_VALUE}
use Rattle.dg_sessions.specs.declared.sessions.TheConstants.{MAX_USED}
use Rattle.dg_transcript.specs.declared.entry.Entry.{Entry}
use Rattle.dg_transcript.specs.declared.entry.Entry.TheVariants as entry
use Rattle.dg_transcript.specs.declared.cursor.Action.{Action}
use Rattle.dg_transcript.specs.declared.cursor.Action.TheVariants as action
use Rattle.dg_transcript.specs.Limits.{IsTranscript}
use Rattle.dg_gate.specs.Made.{Made}
use Rattle.dg_world.specs.declared.question.Question.{Question}
use Rattle.dg_world.specs.declared.question.Question.TheVariants as question
use Rattle.dg_world.specs.declared.question.Answer.{Answer}
use Rattle.dg_world.specs.declared.question.Answer.TheVariants as answer
use Rattle.dg_world.specs.declared.test_id.TestId.{TestId}
use Rattle.dg_world.specs.Question.{fits}
use Rattle.dg_language.specs.declared.close.Close.TheVariants.{Departed}
use Rattle.dg_language.specs.Play.{Play, Ends, Asks}
use Rattle.dg_language.specs.Evaluation.{Ending}
use Rattle.dg_transcript.specs.declared.limits.TheConstants.{MAX_WAIT, MAX_WORDS}

-- the texts of an entry are bytes
abbrev pub IsOfBytes : Entry → Type 0
IsOfBytes (entry.Started words) = AllByRecursion IsBytes words
IsOfBytes (entry.NoStart code words) = AllByRecursion IsBytes words
IsOfBytes (entry.Sent bytes) = IsBytes bytes
IsOfBytes (entry.NoSend code bytes) = IsBytes bytes
IsOfBytes (entry.Chunk wait bytes) = IsBytes bytes
IsOfBytes (entry.Exited status) = status ≤ 255
IsOfBytes e = Unit {0}

-- what is asked of a child keeps the limits of a transcript: 1 to 64 words, 1 to 1,048,576 bytes, at most an hour
abbrev pub ActionFits : Action → Type 0
ActionFits (action.Spawn words) = (0 < length words) × (length words ≤ MAX_WORDS)
ActionFits (action.Send bytes) = (0 < length bytes) × (length bytes ≤ LONGEST_VALUE)
ActionFits (action.Read limit) = limit ≤ MAX_WAIT
ActionFits action.Close = Unit {0}
ActionFits action.Wait = Unit {0}

-- the entries of the session with i sessions in front of it; none where there is no such session yet
abbrev pub entries_at : ℕ → List (List Entry) → List Entry
entries_at i [] = []
entries_at zero (es ∷ ss) = es
entries_at (suc i) (es ∷ ss) = entries_at i ss

-- the same sessions with one more entry there, or with a new session that begins with it
abbrev pub with_entry : ℕ → Entry → List (List Entry) → List (List Entry)
with_entry i e [] = (e ∷ []) ∷ []
with_entry zero e (es ∷ ss) = (es ++ e ∷ []) ∷ ss
with_entry (suc i) e (es ∷ ss) = es ∷ with_entry i e ss

-- whether a question is about an entry
abbrev pub is_about_entry : Question → Bool
is_about_entry (question.Entry place) = true
is_about_entry q = false

-- The question of an action is for the next entry of a session of the test, or for the first of the next session, and there are
-- fewer than 65,536 entries so far. Where no action stands beside a question, it is not about an entry.
abbrev pub AsksNext : TestId → List (List Entry) → Question → ℕ → Type 0
AsksNext t ss q n =
    (1 ≤ n) × (n ≤ length ss + 1) × (q ≡ question.Entry (record { test = t; session = n; place = length (entries_at (n - 1) ss) }))

abbrev pub LivesAsked : TestId → List (List Entry) → Question → Option Action → (Answer → List (List Entry) → Type 0) → Type 0
LivesAsked t ss q None lives_on = (is_about_entry q ≡ false) × ((a : Answer) → fits q a ≡ true → lives_on a ss)
LivesAsked t ss q (Some a) lives_on =
    (n : ℕ) × AsksNext t ss q n × (sum_by length ss < MAX_USED) × ActionFits a
    × ((e : Entry) → Made a e → IsOfBytes e → lives_on (answer.Entry e) (with_entry (n - 1) e ss))

-- What is left of the judging of a test lives on, where the sessions have these entries so far: it ends without a departure and
-- with a transcript, and goes on so after each answer that a gate or an asker may give.
abbrev pub LivesOn : TestId → Play Ending → List (List Entry) → Type 0
LivesOn t (Ends e) ss = (e.close ≢ Departed) × IsTranscript ss
LivesOn t (Asks ask f) ss = LivesAsked t ss ask.question ask.action (λ a next. LivesOn t (f a) next)
