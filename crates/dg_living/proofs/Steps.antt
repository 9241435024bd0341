-- The ends, questions, steps and limits of an evaluation that lives on, and what comes after a part of it.
use Rattle.std.proofs.Common.{◌≡◌, ◌≢◌, ℕ, Bool, true, false, List, [], length, refl}
use Rattle.std.specs.Prelude.{Option, Some, None, nat_lt, if◌then◌else◌}
use Rattle.dg_transcript.specs.declared.entry.Entry.{Entry}
use Rattle.dg_world.specs.declared.question.Question.{Question}
use Rattle.dg_world.specs.declared.question.Answer.{Answer}
use Rattle.dg_world.specs.declared.test_id.TestId.{TestId}
use Rattle.dg_language.specs.declared.close.Close.TheVariants.{Finished, Aborted, OutOfSteps, Departed}
use Rattle.dg_language.specs.declared.code.Code.{Code}
use Rattle.dg_language.specs.declared.code.Code.TheVariants.{Done, Failed, Returned, Broken, Continued, ExpContinued}
use Rattle.dg_language.specs.Play.{Play, Ends, Asks, plain, lookup}
use Rattle.dg_language.specs.State.{State, stepped, learn}
use Rattle.dg_language.specs.Evaluation.{Ending, Then, Nested, aborted, out_of_steps, cut, hear, ask, tick, within, fail, if_done, loop_after, outside}
use Rattle.dg_language.specs.Arguments.{on}
use Rattle.dg_living.specs.Living.{is_about_entry, LivesOn}
use Rattle.dg_living.proofs.Holding.{Holds, Same, moved, learned, transcript}

-- what comes after lives on, wherever the sessions then stand
abbrev pub LivesAfter : TestId → Then → Type 0
LivesAfter t k = (c : Code) (v : List ℕ) (u : State) (ss : List (List Entry)) → Holds t u ss → LivesOn t (k c v u) ss

-- An evaluation from a state lives on, if what comes after it does.
pub record Lives (s : State) (p : Then → Play Ending) : Type 0 where
  pub lives : (t : TestId) (ss : List (List Entry)) (k : Then) → Holds t s ss → LivesAfter t k → LivesOn t (p k) ss

-- the evaluations of texts inside of this one live on
abbrev pub LivesInside : Nested → Type 0
LivesInside nested = (text : List ℕ) (s : State) → Lives s (nested text s)

pub completes : (c : Code) (v : List ℕ) (s : State) → Lives s (λ k. k c v s)
completes c v s = record { lives = λ t ss k h after. after c v s ss h }

-- a state of another shape that agrees with the same entries
pub along : {s u : State} {p : Then → Play Ending} → Same s u → Lives u p → Lives s p
along {s} {u} same l = record { lives = λ t ss k h after. l.lives t ss k (moved t s u ss same h) after }

pub stops : (e : Ending) (s : State) → e.close ≢ Departed → Lives s (λ k. Ends e)
stops e s stays = record { lives = λ t ss k h after. (stays, transcript t s ss h) }

not-aborted : Aborted ≢ Departed
not-aborted e = cc

not-out : OutOfSteps ≢ Departed
not-out e = cc

pub not-finished : Finished ≢ Departed
not-finished e = cc

pub aborted-stays : (why : List ℕ) (s : State) → (aborted why s).close ≢ Departed
unfolding aborted
aborted-stays why s = not-aborted

pub out-stays : (s : State) → (out_of_steps s).close ≢ Departed
unfolding out_of_steps
out-stays s = not-out

pub cut-lives : (why : List ℕ) (s : State) → Lives s (λ k. cut why s)
unfolding cut
cut-lives why s = stops (aborted why s) s (aborted-stays why s)

pub ends_out : (s : State) → Lives s (λ k. Ends (out_of_steps s))
ends_out s = stops (out_of_steps s) s (out-stays s)

pub either : (b : Bool) {s : State} {p q : Then → Play Ending} → Lives s p → Lives s q
    → Lives s (λ k. elim b as (λ _. Play Ending) [ true ↦ p k | false ↦ q k ])
either true p q = p
either false p q = q

pub either_if : (b : Bool) {s : State} {p q : Then → Play Ending} → Lives s p → Lives s q → Lives s (λ k. if b then p k else q k)
either_if true p q = p
either_if false p q = q

-- the same, where which of them it is is known
pub either_known : (b : Bool) {s : State} {p q : Then → Play Ending} → (b ≡ true → Lives s p) → (b ≡ false → Lives s q)
    → Lives s (λ k. elim b as (λ _. Play Ending) [ true ↦ p k | false ↦ q k ])
either_known true p q = p refl
either_known false p q = q refl

pub on-lives : {A : Type 0} (o : Option A) {s : State} {p : Then → Play Ending} {f : A → Then → Play Ending} → Lives s p
    → ((a : A) → Lives s (f a)) → Lives s (λ k. on o (p k) (λ a. f a k))
on-lives None p f = p
on-lives (Some a) p f = f a

pub on-known : {A : Type 0} (o : Option A) {s : State} {p : Then → Play Ending} {f : A → Then → Play Ending} → Lives s p
    → ((a : A) → o ≡ Some a → Lives s (f a)) → Lives s (λ k. on o (p k) (λ a. f a k))
on-known None p f = p
on-known (Some a) p f = f a refl

asks : (q : Question) (s : State) → is_about_entry q ≡ false → {f : Answer → Then → Play Ending} → ((a : Answer) → Lives (learn q a s) (f a))
    → Lives s (λ k. Asks (plain q) (λ a. f a k))
asks q s plainly more =
    record { lives = λ t ss k h after. (plainly, λ a fit. (more a).lives t ss k (learned t q a s ss plainly h) after) }

learn-sessions : (q : Question) (a : Answer) (s : State) → (learn q a s).sessions ≡ s.sessions
unfolding learn
learn-sessions q a s = refl

-- a question that is not about an entry leaves the sessions
pub ask-lives : (q : Question) (s : State) → is_about_entry q ≡ false → {f : Answer → State → Then → Play Ending}
    → ((a : Answer) (u : State) → u.sessions ≡ s.sessions → Lives u (f a u)) → Lives s (λ k. ask q s (λ a u. f a u k))
unfolding ask
ask-lives q s plainly {f} more = heard (lookup q s.known)
  where
    heard : (o : Option Answer) → Lives s (λ k. hear o q s (λ a u. f a u k))
    heard (Some a) = more a s refl
    heard None = asks q s plainly (λ a. more a (learn q a s) (learn-sessions q a s))

stepped-same : (s : State) → Same s (stepped s)
unfolding stepped
stepped-same s = record { test = refl; known = refl; used = refl; agree = λ ss h. h }

pub tick-lives : (s : State) {f : State → Then → Play Ending} → ((u : State) → Lives u (f u)) → Lives s (λ k. tick s (λ u. f u k))
unfolding tick
tick-lives s more = either (nat_lt s.steps 100000) (along (stepped-same s) (more (stepped s))) (ends_out s)

-- a value of so many bytes is made, if that is no more than a value may have
pub within-known : (n : ℕ) (s : State) {p : Then → Play Ending} → (nat_lt 1048576 n ≡ false → Lives s p) → Lives s (λ k. within n s (p k))
unfolding within
within-known n s p = either_known (nat_lt 1048576 n) (λ long. cut-lives _ s) p

pub within-lives : (n : ℕ) (s : State) {p : Then → Play Ending} → Lives s p → Lives s (λ k. within n s (p k))
within-lives n s p = within-known n s (λ short. p)

pub fail-lives : (message : List ℕ) (s : State) → Lives s (fail message s)
unfolding fail
fail-lives message s = either (nat_lt 1048576 (length message)) (cut-lives _ s) (completes Failed message s)

-- one evaluation after another
pub one_after_another : {s : State} {f : Then → Play Ending} {g : Code → List ℕ → State → Then → Play Ending} → Lives s f
    → ((c : Code) (v : List ℕ) (u : State) → Lives u (g c v u)) → Lives s (λ k. f (λ c v u. g c v u k))
one_after_another {g = g} first second =
    record {
      lives = λ t ss k h after. first.lives t ss (λ c v u. g c v u k) h (λ c v u us now. (second c v u).lives t us k now after);
    }

pub if_done-at : {f : List ℕ → State → Then → Play Ending} → ((v : List ℕ) (s : State) → Lives s (f v s)) → (c : Code) (v : List ℕ) (s : State)
    → Lives s (λ k. if_done (λ v' s'. f v' s' k) k c v s)
if_done-at f Done v s = f v s
if_done-at f Failed v s = completes Failed v s
if_done-at f Returned v s = completes Returned v s
if_done-at f Broken v s = completes Broken v s
if_done-at f Continued v s = completes Continued v s
if_done-at f ExpContinued v s = completes ExpContinued v s

-- what comes after a part that ended well
pub if_done-lives : {s : State} {p : Then → Play Ending} {f : List ℕ → State → Then → Play Ending} → Lives s p
    → ((v : List ℕ) (u : State) → Lives u (f v u)) → Lives s (λ k. p (if_done (λ v u. f v u k) k))
if_done-lives p f = one_after_another p (if_done-at f)

loop_after-at : {f : State → Then → Play Ending} → ((s : State) → Lives s (f s)) → (c : Code) (v : List ℕ) (s : State)
    → Lives s (λ k. loop_after (λ s'. f s' k) k c v s)
loop_after-at f Done v s = f s
loop_after-at f Continued v s = f s
loop_after-at f Broken v s = completes Done [] s
loop_after-at f Failed v s = completes Failed v s
loop_after-at f Returned v s = completes Returned v s
loop_after-at f ExpContinued v s = completes ExpContinued v s

-- what comes after the body of a loop
pub loop_after-lives : {s : State} {p : Then → Play Ending} {f : State → Then → Play Ending} → Lives s p → ((u : State) → Lives u (f u))
    → Lives s (λ k. p (loop_after (λ u. f u k) k))
loop_after-lives p f = one_after_another p (loop_after-at f)

pub outside-at : (c : Code) (v : List ℕ) (s : State) → Lives s (λ k. outside k c v s)
outside-at Done v s = completes Done v s
outside-at Returned v s = completes Done v s
outside-at Failed v s = completes Failed v s
outside-at Broken v s = completes Failed _ s
outside-at Continued v s = completes Failed _ s
outside-at ExpContinued v s = completes Failed _ s
