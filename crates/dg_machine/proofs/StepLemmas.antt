-- The moves of a machine, one frame at a time.
use Rattle.std.proofs.Common.{◌≡◌, ℕ, ◌+◌, ◌^◌, ◌<◌, ◌≤◌, List, ◌∷◌, ◌++◌, ap, sym, ◌∙◌, refl, subst, arith}
use Rattle.std.specs.Prelude.{Option, Some, None}
use Rattle.dg_world.specs.declared.question.Question.{Question}
use Rattle.dg_world.specs.declared.question.Answer.{Answer}
use Rattle.dg_world.specs.declared.question.Read.{Read}
use Rattle.std.specs.FinMap as names
use Rattle.dg_results.specs.declared.verdict.Line.{Line}
use Rattle.dg_results.specs.Lines.{lines_of, abort_lines}
use Rattle.dg_language.specs.declared.procedure.Procedure.{Procedure}
use Rattle.dg_language.specs.declared.code.Code.{Code}
use Rattle.dg_language.specs.declared.code.Code.TheVariants.{Done, Failed, Returned, Broken, Continued, ExpContinued}
use Rattle.dg_language.specs.declared.close.Close.TheVariants.{Finished, Aborted}
use Rattle.dg_language.specs.Play.{Play, Asks}
use Rattle.dg_language.specs.State.{State, learn, with_begun}
use Rattle.dg_language.specs.Evaluation.{Ending, Then, outside, ended, aborted}
use Rattle.dg_language.specs.Procedures.{bindings, call, call_bound}
use Rattle.dg_language.specs.declared.command.Builtin.{Builtin}
use Rattle.dg_language.specs.Builtins.{builtin_of, usable}
use Rattle.dg_language.specs.Language.{by_name, known_command, command, evaluate}
use Rattle.dg_language.specs.Judge.{close, finish}
use Rattle.dg_machine.specs.declared.frame.Pace.{Pace}
use Rattle.dg_machine.specs.declared.frame.Pace.TheVariants.{Moved, Stands, Over, Lost}
use Rattle.dg_machine.specs.declared.machine.Machine.{Machine}
use Rattle.dg_machine.specs.Lost.{HasReadPattern}
use Rattle.dg_machine.specs.Meaning.{all_back, weight_of, ends_with, outside_code, outside_value, Goes, Tries, command_weight, RunsAs}

-- a command that asks nothing has run
pub Goes-runs : (p : Pace) (play play' : Play Ending) (again : State → Play Ending) (known : List Read) (w : ℕ) (old new : Machine) → Goes play known w new p
    → play' ≡ play → known ≡ old.state.known → w ≤ weight_of old + 2 ^ 250 → Tries play' again (2 ^ 250) old new p
Goes-runs Moved play play' again known w old new h e f l = (h.0 ∙ sym e, h.1 ∙ f, (let g : weight_of new < w = h.2 in omega arith))
Goes-runs (Stands q) play play' again known w old new h e f l = absurd h
Goes-runs (Over v) play play' again known w old new h e f l = (e ∙ h.0, h.1 ∙ f)
Goes-runs Lost play play' again known w old new h e f l = subst HasReadPattern f h

-- a command that is another one has run as it
pub runs-as : (old new : Machine) (f g : State → Then → Play Ending) (p : Pace) → RunsAs g command_weight old new p → f ≡ g → RunsAs f command_weight old new p
runs-as old new f g p h e = subst (λ x. RunsAs x command_weight old new p) (sym e) h

-- how an end reads outside
pub outside-reads : (k : Then) (c : Code) (v : List ℕ) (s : State) → outside k c v s ≡ k (outside_code c) (outside_value c v) s
outside-reads k Done v s = refl
outside-reads k Failed v s = refl
outside-reads k Returned v s = refl
outside-reads k Broken v s = refl
outside-reads k Continued v s = refl
outside-reads k ExpContinued v s = refl

-- what runs to here runs to here from an equal meaning, now and at another try
pub Tries-along : (p : Pace) (play play' : Play Ending) (again again' : State → Play Ending) (w w' : ℕ) (old new : Machine) → Tries play again w old new p
    → play' ≡ play
    → ((q : Question) (a : Answer) (s : State) → again' (learn q a (with_begun old.state s)) ≡ again (learn q a (with_begun old.state s)))
    → w ≤ w' → Tries play' again' w' old new p
Tries-along Moved play play' again again' w w' old new h e g l =
    (h.0 ∙ sym e, h.1, (let m : weight_of new < weight_of old + w = h.2 in omega arith))
Tries-along (Stands ask) play play' again again' w w' old new h e g l =
    let begun : new.state ≡ with_begun old.state new.state = ap (λ (m : Machine). m.state) h.1 in
    let same : (a : Answer) → again (learn ask.question a new.state) ≡ again' (learn ask.question a new.state) =
    λ a. ap (λ (s : State). again (learn ask.question a s)) begun ∙ sym (g ask.question a new.state) ∙ sym (ap (λ (s : State). again' (learn ask.question a s)) begun) in
    (e ∙ h.0 ∙ ap (Asks ask) (λ i a. same a i), h.1, h.2)
Tries-along (Over c) play play' again again' w w' old new h e g l = (e ∙ h.0, h.1)
Tries-along Lost play play' again again' w w' old new h e g l = h

-- a command that no procedure hides
abbrev pub by_table : ℕ → List ℕ → List (List ℕ) → State → Then → Play Ending
by_table d n args s k = known_command (evaluate d) (usable s.on_board (builtin_of n)) n args s k

pub command-known : (d : ℕ) (words : List (List ℕ)) (n : List ℕ) (args : List (List ℕ)) (s : State) (k : Then) → words ≡ n ∷ args → names.get s.procedures n ≡ None
    → command (evaluate d) words s k ≡ by_table d n args s k
unfolding command
command-known d words n args s k e h = rw e (ap (λ o. by_name (evaluate d) o n args s k) h)

procedures-learned : (q : Question) (a : Answer) (s t : State) → (learn q a (with_begun s t)).procedures ≡ s.procedures
unfolding learn
procedures-learned q a s t = refl

on_board-learned : (q : Question) (a : Answer) (s t : State) → (learn q a (with_begun s t)).on_board ≡ s.on_board
unfolding learn
on_board-learned q a s t = refl

-- a command that was looked up by its name
pub by-table-as : (d : ℕ) (n : List ℕ) (args : List (List ℕ)) (o : Option Builtin) (old new : Machine) (p : Pace) → o ≡ usable old.state.on_board (builtin_of n)
    → RunsAs (known_command (evaluate d) o n args) command_weight old new p → RunsAs (by_table d n args) command_weight old new p
by-table-as d n args o old new p e g =
    let k = all_back old.stack in
    Tries-along p (known_command (evaluate d) o n args old.state k) (by_table d n args old.state k)
    (λ s. known_command (evaluate d) o n args s k) (λ s. by_table d n args s k) (2 ^ 250) (2 ^ 250) old new g (ap (λ x. known_command (evaluate d) x n args old.state k) (sym e))
    (λ q a s. ap (λ x. known_command (evaluate d) x n args (learn q a (with_begun old.state s)) k) (ap (λ b. usable b (builtin_of n)) (on_board-learned q a old.state s) ∙ sym e))
    (omega arith)

pub command-known-as : (d : ℕ) (words : List (List ℕ)) (n : List ℕ) (args : List (List ℕ)) (old new : Machine) (p : Pace) → words ≡ n ∷ args
    → names.get old.state.procedures n ≡ None → RunsAs (by_table d n args) command_weight old new p
    → RunsAs (command (evaluate d) words) command_weight old new p
command-known-as d words n args old new p e h g =
    let k = all_back old.stack in
    Tries-along p (by_table d n args old.state k) (command (evaluate d) words old.state k)
    (λ s. by_table d n args s k) (λ s. command (evaluate d) words s k) (2 ^ 250) (2 ^ 250) old new g (command-known d words n args old.state k e h)
    (λ q a s. command-known d words n args (learn q a (with_begun old.state s)) k e (ap (λ ps. names.get ps n) (procedures-learned q a old.state s) ∙ h))
    (omega arith)

-- the call of a procedure
pub command-calls : (d : ℕ) (words : List (List ℕ)) (n : List ℕ) (args : List (List ℕ)) (p : Procedure) (s : State) (k : Then) → words ≡ n ∷ args
    → names.get s.procedures n ≡ Some p → command (evaluate d) words s k ≡ call_bound (evaluate d) (bindings p.parameters args) n p.body s k
unfolding command call
command-calls d words n args p s k e h = rw e (ap (λ o. by_name (evaluate d) o n args s k) h)

-- a file that has failed, and one that has not
pub finish-failed : (c : Code) (v w : List ℕ) (s : State) (lines : List Line) → Failed ≡ outside_code c → w ≡ outside_value c v
    → lines ≡ lines_of s.calls ++ abort_lines s.test.script w → finish c v s ≡ ends_with (record { verdict = lines; close = Aborted }) s
unfolding finish aborted
finish-failed c v w s lines e g h = outside-reads close c v s ∙ rw (← e, ← g, h) refl

pub finish-well : (c d : Code) (v : List ℕ) (s : State) (lines : List Line) → (d ≡ Failed → ⊥) → d ≡ outside_code c
    → lines ≡ lines_of s.calls → finish c v s ≡ ends_with (record { verdict = lines; close = Finished }) s
unfolding finish ended
finish-well Done d v s lines n e h = rw h refl
finish-well Returned d v s lines n e h = rw h refl
finish-well Failed d v s lines n e h = absurd (n e)
finish-well Broken d v s lines n e h = absurd (n e)
finish-well Continued d v s lines n e h = absurd (n e)
finish-well ExpContinued d v s lines n e h = absurd (n e)
