-- The ends, questions, steps and limits of an evaluation, and what comes after a part of it.
use Rattle.std.proofs.Common.{ℕ, Bool, true, false, List, [], length, refl, ap}
use Rattle.std.specs.Prelude.{Option, Some, None, nat_lt, if◌then◌else◌}
use Rattle.dg_world.specs.declared.question.Question.{Question}
use Rattle.dg_language.specs.declared.ask.Ask.{Ask}
use Rattle.dg_world.specs.declared.question.Answer.{Answer}
use Rattle.dg_language.specs.declared.code.Code.{Code}
use Rattle.dg_language.specs.declared.code.Code.TheVariants.{Done, Failed, Returned, Broken, Continued, ExpContinued}
use Rattle.dg_language.specs.Play.{Play, Ends, Asks, plain, lookup}
use Rattle.dg_language.specs.State.{State, stepped, learn}
use Rattle.dg_language.specs.Evaluation.{Ending, Then, Nested, aborted, out_of_steps, cut, hear, ask, tick, within, fail, if_done, loop_after, outside}
use Rattle.dg_language.specs.Arguments.{on}
use Rattle.dg_laws.specs.Grafting.{Completes, Stops, Grafted}
use Rattle.dg_laws.proofs.Trees.{one_after_another}

-- the evaluations of texts inside of this one are grafted
abbrev pub IsGraftedInside : Nested → Type 0
IsGraftedInside nested = (text : List ℕ) (s : State) → Grafted (nested text s)

pub completes : (c : Code) (v : List ℕ) (s : State) → Grafted (λ k. k c v s)
completes c v s = record { alone = Ends (Completes c v s); grows = λ k. refl }

pub stops : (e : Ending) → Grafted (λ k. Ends e)
stops e = record { alone = Ends (Stops e); grows = λ k. refl }

pub asks : (q : Ask) {f : Answer → Then → Play Ending} → ((a : Answer) → Grafted (f a)) → Grafted (λ k. Asks q (λ a. f a k))
asks q f = record { alone = Asks q (λ a. (f a).alone); grows = λ k. ap (Asks q) (λ i a. (f a).grows k i) }

pub cut-grafted : (why : List ℕ) (s : State) → Grafted (λ k. cut why s)
unfolding cut
cut-grafted why s = stops (aborted why s)

pub either : (b : Bool) {p q : Then → Play Ending} → Grafted p → Grafted q
    → Grafted (λ k. elim b as (λ _. Play Ending) [ true ↦ p k | false ↦ q k ])
either true p q = p
either false p q = q

pub either_if : (b : Bool) {p q : Then → Play Ending} → Grafted p → Grafted q → Grafted (λ k. if b then p k else q k)
either_if true p q = p
either_if false p q = q

pub on-grafted : {A : Type 0} (o : Option A) {p : Then → Play Ending} {f : A → Then → Play Ending} → Grafted p
    → ((a : A) → Grafted (f a)) → Grafted (λ k. on o (p k) (λ a. f a k))
on-grafted None p f = p
on-grafted (Some a) p f = f a

pub ask-grafted : (q : Question) (s : State) {f : Answer → State → Then → Play Ending}
    → ((a : Answer) (s' : State) → Grafted (f a s')) → Grafted (λ k. ask q s (λ a s'. f a s' k))
unfolding ask
ask-grafted q s {f} more = heard (lookup q s.known)
  where
    heard : (o : Option Answer) → Grafted (λ k. hear o q s (λ a s'. f a s' k))
    heard (Some a) = more a s
    heard None = asks (plain q) (λ a. more a (learn q a s))

pub tick-grafted : (s : State) {f : State → Then → Play Ending} → ((s' : State) → Grafted (f s')) → Grafted (λ k. tick s (λ s'. f s' k))
unfolding tick
tick-grafted s more = either (nat_lt s.steps 100000) (more (stepped s)) (stops (out_of_steps s))

pub within-grafted : (n : ℕ) (s : State) {p : Then → Play Ending} → Grafted p → Grafted (λ k. within n s (p k))
unfolding within
within-grafted n s p = either (nat_lt 1048576 n) (cut-grafted _ s) p

pub fail-grafted : (message : List ℕ) (s : State) → Grafted (fail message s)
unfolding fail
fail-grafted message s = either (nat_lt 1048576 (length message)) (cut-grafted _ s) (completes Failed message s)

pub if_done-at : {f : List ℕ → State → Then → Play Ending} → ((v : List ℕ) (s : State) → Grafted (f v s)) → (c : Code) (v : List ℕ) (s : State)
    → Grafted (λ k. if_done (λ v' s'. f v' s' k) k c v s)
if_done-at f Done v s = f v s
if_done-at f Failed v s = completes Failed v s
if_done-at f Returned v s = completes Returned v s
if_done-at f Broken v s = completes Broken v s
if_done-at f Continued v s = completes Continued v s
if_done-at f ExpContinued v s = completes ExpContinued v s

-- what comes after a part that ended well
pub if_done-grafted : {p : Then → Play Ending} {f : List ℕ → State → Then → Play Ending} → Grafted p
    → ((v : List ℕ) (s : State) → Grafted (f v s)) → Grafted (λ k. p (if_done (λ v s. f v s k) k))
if_done-grafted p f = one_after_another p (if_done-at f)

loop_after-at : {f : State → Then → Play Ending} → ((s : State) → Grafted (f s)) → (c : Code) (v : List ℕ) (s : State)
    → Grafted (λ k. loop_after (λ s'. f s' k) k c v s)
loop_after-at f Done v s = f s
loop_after-at f Continued v s = f s
loop_after-at f Broken v s = completes Done [] s
loop_after-at f Failed v s = completes Failed v s
loop_after-at f Returned v s = completes Returned v s
loop_after-at f ExpContinued v s = completes ExpContinued v s

-- what comes after the body of a loop
pub loop_after-grafted : {p : Then → Play Ending} {f : State → Then → Play Ending} → Grafted p → ((s : State) → Grafted (f s))
    → Grafted (λ k. p (loop_after (λ s. f s k) k))
loop_after-grafted p f = one_after_another p (loop_after-at f)

pub outside-at : (c : Code) (v : List ℕ) (s : State) → Grafted (λ k. outside k c v s)
outside-at Done v s = completes Done v s
outside-at Returned v s = completes Done v s
outside-at Failed v s = completes Failed v s
outside-at Broken v s = completes Failed _ s
outside-at Continued v s = completes Failed _ s
outside-at ExpContinued v s = completes Failed _ s
