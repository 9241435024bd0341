-- Ends, errors and limits.
use Rattle.std.proofs.Common.{◌≡◌, ◌≢◌, Bool, ℕ, suc, zero, ◌+◌, ◌-◌, ◌*◌, ◌^◌, ◌<◌, ◌≤◌, true, false, List, [], ◌∷◌, ◌++◌, length, ap, sym, ◌∙◌, refl, subst, arith}
use Rattle.std.proofs.lemmas.Bool.{lt-ltb}
use Rattle.std.specs.Prelude.{nat_lt, codes}
use Rattle.dg_results.specs.declared.verdict.Line.{Line}
use Rattle.dg_results.specs.Lines.{lines_of, abort_lines}
use Rattle.dg_language.specs.declared.code.Code.{Code}
use Rattle.dg_language.specs.declared.code.Code.TheVariants.{Done, Failed, Returned, Broken, Continued, ExpContinued}
use Rattle.dg_language.specs.declared.close.Close.TheVariants.{Aborted, OutOfSteps}
use Rattle.dg_language.specs.Play.{Play, Ends}
use Rattle.dg_language.specs.State.{State, stepped}
use Rattle.dg_words.specs.declared.word.Word.{Word}
use Rattle.dg_lists.specs.declared.fault.WordFault.{WordFault}
use Rattle.dg_world.specs.declared.question.Read.{Read}
use Rattle.dg_language.specs.declared.command.Command.{Command}
use Rattle.dg_language.specs.declared.substitution.Purpose.TheVariants.{Run}
use Rattle.dg_language.specs.declared.command.Command.TheVariants.{Words, Unreadable}
use Rattle.dg_lists.specs.Faults.{fault_text}
use Rattle.dg_language.specs.Evaluation.{Ending, Then, cut, aborted, out_of_steps, fail, tick, if_done}
use Rattle.dg_language.specs.Language.{command, sequence, evaluate, commands_at}
use Rattle.dg_language.specs.Words.{words_made}
use Rattle.dg_language.specs.WordSteps.{substitutions}
use Rattle.dg_compiled.proofs.WordParts.{words-made}
use Rattle.dg_compiled.specs.Gathering.{gather}
use Rattle.dg_machine.specs.declared.frame.Frame.{Frame}
use Rattle.dg_machine.specs.declared.frame.Frame.TheVariants.{Sequence}
use Rattle.dg_machine.specs.declared.frame.Control.TheVariants.{Go}
use Rattle.dg_machine.specs.declared.frame.Pace.{Pace}
use Rattle.dg_machine.specs.declared.frame.Pace.TheVariants.{Moved, Stands, Over, Lost}
use Rattle.dg_machine.specs.declared.machine.Machine.{Machine}
use Rattle.dg_machine.specs.Lost.{HasReadPattern}
use Rattle.dg_machine.specs.Meaning.{ends_with, budget, Goes, Comes, weight_of, weight, stack_weight, frame_weight, all_back, back}

pub cut-ends : (why : List ℕ) (s : State) (v : List Line) → v ≡ lines_of s.calls ++ abort_lines s.test.script why
    → cut why s ≡ ends_with (record { verdict = v; close = Aborted }) s
unfolding cut aborted
cut-ends why s v e = rw e refl

pub steps-end : (s : State) (v : List Line) → v ≡ lines_of s.calls ++ abort_lines s.test.script (codes "step limit reached")
    → Ends (out_of_steps s) ≡ ends_with (record { verdict = v; close = OutOfSteps }) s
unfolding out_of_steps
steps-end s v e = rw e refl

pub nat_lt-false : (a b : ℕ) → b ≤ a → nat_lt a b ≡ false
nat_lt-false a b h = grind arith

pub fail-long : (message : List ℕ) (s : State) (k : Then) → 1048576 < length message → fail message s k ≡ cut (codes "value too long") s
unfolding fail
fail-long message s k h =
    ap (λ b. elim b as (λ _. Play Ending) [ true ↦ cut (codes "value too long") s | false ↦ k Failed message s ]) (lt-ltb 1048576 (length message) h)

pub fail-short : (message : List ℕ) (s : State) (k : Then) → length message ≤ 1048576 → fail message s k ≡ k Failed message s
unfolding fail
fail-short message s k h =
    ap (λ b. elim b as (λ _. Play Ending) [ true ↦ cut (codes "value too long") s | false ↦ k Failed message s ]) (nat_lt-false 1048576 (length message) h)

-- whether a step is left
pub step-left : (s : State) (b : Bool) → b ≡ nat_lt s.steps 100000 → b ≡ true → s.steps < 100000
step-left s b e h = grind arith

pub no-step : (s : State) (b : Bool) → b ≡ nat_lt s.steps 100000 → b ≡ false → 100000 ≤ s.steps
no-step s b e h = grind arith

pub tick-step : (s : State) (f : State → Play Ending) → s.steps < 100000 → tick s f ≡ f (stepped s)
unfolding tick
tick-step s f h = ap (λ b. elim b as (λ _. Play Ending) [ true ↦ f (stepped s) | false ↦ Ends (out_of_steps s) ]) (lt-ltb s.steps 100000 h)

pub tick-none : (s : State) (f : State → Play Ending) → 100000 ≤ s.steps → tick s f ≡ Ends (out_of_steps s)
unfolding tick
tick-none s f h = ap (λ b. elim b as (λ _. Play Ending) [ true ↦ f (stepped s) | false ↦ Ends (out_of_steps s) ]) (nat_lt-false s.steps 100000 h)

-- no command is left
pub sequence-done : (d : ℕ) (cs : List Command) (v : List ℕ) (s : State) (k : Then) → cs ≡ [] → sequence (evaluate d) cs v s k ≡ k Done v s
unfolding sequence
sequence-done d cs v s k e = rw e refl

through-done : (d : ℕ) (k : Then) (c : Code) (v : List ℕ) (s : State) → if_done (λ w t. sequence (evaluate d) [] w t k) k c v s ≡ k c v s
unfolding sequence
through-done d k Done v s = refl
through-done d k Failed v s = refl
through-done d k Returned v s = refl
through-done d k Broken v s = refl
through-done d k Continued v s = refl
through-done d k ExpContinued v s = refl

-- commands that are all taken change nothing of what ends inside of them
pub all_back-over : (d : ℕ) (cs : List Command) (fs : List Frame) → cs ≡ [] → all_back (Sequence cs d ∷ fs) ≡ all_back fs
unfolding all_back back
all_back-over d cs fs e = rw e (λ i c v s. through-done d (all_back fs) c v s i)

-- the next command can't be read
pub sequence-unreadable : (d : ℕ) (fault : WordFault) (cs more : List Command) (v : List ℕ) (s : State) (k : Then) → cs ≡ Unreadable fault ∷ more
    → sequence (evaluate d) cs v s k ≡ fail (fault_text fault) s k
unfolding sequence
sequence-unreadable d fault cs more v s k e = rw e refl

-- the next command begins
pub sequence-next : (d : ℕ) (ws : List Word) (cs more : List Command) (v : List ℕ) (s : State) (fs : List Frame) → cs ≡ Words ws ∷ more → s.steps < 100000
    → sequence (evaluate d) cs v s (all_back fs) ≡ gather (evaluate d) (command (evaluate d)) [] [] [] (substitutions ws) (stepped s) (all_back (Sequence more d ∷ fs))
unfolding sequence all_back back
sequence-next d ws cs more v s fs e h =
    rw e
    (tick-step s (λ s'. words_made (evaluate d) (command (evaluate d)) ws s' (if_done (λ v' s''. sequence (evaluate d) more v' s'' (all_back fs)) (all_back fs))) h
    ∙ sym (words-made (evaluate d) (command (evaluate d)) (if_done (λ v' s''. sequence (evaluate d) more v' s'' (all_back fs)) (all_back fs)) ws (stepped s)))

-- no step is left for the next command
pub sequence-cut : (d : ℕ) (ws : List Word) (cs more : List Command) (v : List ℕ) (s : State) (k : Then) → cs ≡ Words ws ∷ more → 100000 ≤ s.steps
    → sequence (evaluate d) cs v s k ≡ Ends (out_of_steps s)
unfolding sequence
sequence-cut d ws cs more v s k e h =
    rw e (tick-none s (λ s'. words_made (evaluate d) (command (evaluate d)) ws s' (if_done (λ v' s''. sequence (evaluate d) more v' s'' k) k)) h)

-- a step that is taken pays for a command, whose words are made in so many steps
pub weight-stepped : (s : State) (more : List Command) (d n : ℕ) (fs : List Frame) → s.steps < 100000 → n < 2 ^ 64
    → weight Go (stepped s) (Sequence more d ∷ fs) + budget Run + 4 + 4 * n ≤ weight Go s fs + 3
unfolding weight stack_weight stepped budget
weight-stepped s more d n fs h g = omega arith

pub weight-cons : (s : State) (f : Frame) (fs : List Frame) → weight Go s (f ∷ fs) ≡ weight Go s fs + frame_weight f
unfolding weight stack_weight
weight-cons s f fs = omega arith

-- the reads under another name
pub Comes-known : (p : Pace) (play : Play Ending) (known known' : List Read) (w : ℕ) (m : Machine) → Comes play known w m p → known ≡ known' → Comes play known' w m p
Comes-known p play known known' w m h e = subst (λ (r : List Read). Comes play r w m p) e h

pub known-stepped : (s : State) → (stepped s).known ≡ s.known
unfolding stepped
known-stepped s = refl

-- what goes on from here goes on from an equal meaning with more weight
pub Goes-along : (p : Pace) (play play' : Play Ending) (known known' : List Read) (w w' : ℕ) (m : Machine) → Goes play known w m p
    → play' ≡ play → known ≡ known' → w ≤ w' → Goes play' known' w' m p
Goes-along Moved play play' known known' w w' m h e f l = (h.0 ∙ sym e, h.1 ∙ f, (let g : weight_of m < w = h.2 in omega arith))
Goes-along (Stands q) play play' known known' w w' m h e f l = absurd h
Goes-along (Over v) play play' known known' w w' m h e f l = (e ∙ h.0, h.1 ∙ f)
Goes-along Lost play play' known known' w w' m h e f l = subst HasReadPattern f h

pub Goes-comes : (p : Pace) (play play' : Play Ending) (known : List Read) (w w' : ℕ) (m : Machine) → Goes play known w m p
    → play' ≡ play → w ≤ w' → Comes play' known w' m p
Goes-comes Moved play play' known w w' m h e l = (h.0 ∙ sym e, h.1, (let g : weight_of m < w = h.2 in omega arith))
Goes-comes (Stands q) play play' known w w' m h e l = absurd h
Goes-comes (Over v) play play' known w w' m h e l = (e ∙ h.0, h.1)
Goes-comes Lost play play' known w w' m h e l = h

-- a step that is taken pays for a test
pub weight-tick : (s : State) (fs : List Frame) (n : ℕ) → s.steps < 100000 → n ≤ 2 ^ 249 → weight Go (stepped s) fs + n ≤ weight Go s fs + 5
unfolding weight stepped
weight-tick s fs n h g = omega arith

evaluate-zero : (t : List ℕ) (s : State) (k : Then) → evaluate 0 t s k ≡ cut (codes "too many nested evaluations") s
unfolding evaluate
evaluate-zero t s k = refl

pub evaluate-none : (d : ℕ) (t : List ℕ) (s : State) (k : Then) → d ≡ 0 → evaluate d t s k ≡ cut (codes "too many nested evaluations") s
evaluate-none d t s k e = rw e (evaluate-zero t s k)

pub evaluate-inside : (d : ℕ) (t : List ℕ) (s : State) (k : Then) → d ≢ 0 → sequence (evaluate (d - 1)) (commands_at t 0) [] s k ≡ evaluate d t s k
unfolding evaluate
evaluate-inside zero t s k n = absurd (n refl)
evaluate-inside (suc d) t s k n = let e : suc d - 1 ≡ d = omega arith in rw e refl
