-- What is left of an evaluation, as frames, and what a move does to it.
use Rattle.std.specs.Prelude.{◌≡◌, ℕ, ◌+◌, ◌-◌, ◌*◌, ◌^◌, ◌<◌, List, [], ◌∷◌, drop, length, codes, Option, Some, None}
use Rattle.dg_world.specs.declared.question.Question.{Question}
use Rattle.dg_world.specs.declared.question.Answer.{Answer}
use Rattle.dg_world.specs.declared.question.Read.{Read}
use Rattle.dg_language.specs.declared.code.Code.{Code}
use Rattle.dg_language.specs.declared.code.Code.TheVariants.{Done, Failed, Returned, Broken, Continued, ExpContinued}
use Rattle.dg_language.specs.declared.state.TheConstants.{STEPS}
use Rattle.dg_sessions.specs.declared.sessions.TheConstants.{MAX_USED}
use Rattle.dg_language.specs.Play.{Play, Ends, Asks, lookup}
use Rattle.dg_language.specs.State.{State, learn, departed, with_begun}
use Rattle.dg_language.specs.Evaluation.{Ending, Then, closed, if_done, loop_after, outside, outside_of_a_loop, outside_of_expect}
use Rattle.dg_language.specs.Variables.{touch, given, unset_all}
use Rattle.dg_scope.specs.Scopes.{value_of}
use Rattle.dg_language.specs.Control.{caught, each, give_each}
use Rattle.dg_language.specs.Language.{command, used, sequence, evaluate}
use Rattle.dg_language.specs.Words.{longer}
use Rattle.dg_compiled.specs.Gathering.{gather}
use Rattle.dg_language.specs.declared.substitution.Purpose.{Purpose}
use Rattle.dg_language.specs.declared.substitution.Purpose.TheVariants.{Run, Load, Expect}
use Rattle.dg_language.specs.Boards.{after_library}
use Rattle.dg_language.specs.Judge.{after_file, finish}
use Rattle.dg_language.specs.Expressions.{written}
use Rattle.dg_compiled.specs.Making.{making_on}
use Rattle.dg_machine.specs.Opening.{open_next, opening_weight}
use Rattle.dg_machine.specs.Choosing.{choosing, repeating, stage_weight}
use Rattle.dg_compiled.specs.Calculating.{calculating, calculating_with}
use Rattle.dg_language.specs.Expecting.{after_action, expect_with}
use Rattle.dg_machine.specs.Acting.{acting, after_weight, naming, limiting, compiling_on, awaiting, again, reach_weight}
use Rattle.dg_machine.specs.Giving.{giving}
use Rattle.dg_machine.specs.Lost.{HasReadPattern}
use Rattle.dg_machine.specs.declared.frame.Frame.{Frame}
use Rattle.dg_machine.specs.declared.frame.Frame.TheVariants.{Opening, Preceding, Sequence, Gathering, Running, Catching, Calling, Loading, Looping, Unsetting, Calculating, Writing, Choosing, Repeating, Acting, Naming, Expecting, Limiting, Compiling, Awaiting, Giving}
use Rattle.dg_compiled.specs.declared.making.Making.{Making}
use Rattle.dg_machine.specs.declared.frame.Rounds.{Rounds}
use Rattle.dg_machine.specs.declared.frame.Control.{Control}
use Rattle.dg_machine.specs.declared.frame.Control.TheVariants.{Go, Ended}
use Rattle.dg_machine.specs.declared.frame.Closing.{Closing}
use Rattle.dg_machine.specs.declared.frame.Pace.{Pace}
use Rattle.dg_machine.specs.declared.frame.Pace.TheVariants.{Moved, Stands, Over, Lost}
use Rattle.dg_machine.specs.declared.frame.Stop.{Stop}
use Rattle.dg_machine.specs.declared.frame.Stop.TheVariants.{AtQuestion, AtEnd, Lost as LostStop}
use Rattle.dg_machine.specs.declared.machine.Machine.{Machine}

-- a value is added to what is made of a word, and the words go on being made
abbrev pub making_with : Making → ℕ → List ℕ → State → Then → Play Ending
making_with m depth v s k =
    longer m.text v s (λ u. gather (evaluate depth) (used (evaluate depth) m.purpose) m.made m.outer u m.left s k)

-- the value of a variable, which can be used, is added
abbrev pub reading : Making → ℕ → List ℕ → State → Then → Play Ending
reading m depth n s k =
    given (value_of s.variables n) n s (if_done (λ v s'. making_with m depth v s' k) k)

-- what stood before an index is gone on with
abbrev pub outside_index : Making → List ℕ → Making
outside_index m before = record m { text = before }

-- the next round of a loop
abbrev pub next_round : Rounds → List (List ℕ) → State → Then → Play Ending
next_round r values s k = each (evaluate r.depth) r.left r.names r.body values s k

-- the body of a loop, with these values left for later rounds
abbrev pub round_body : Rounds → List (List ℕ) → State → Then → Play Ending
round_body r values s k = evaluate r.depth r.body s (loop_after (λ u. next_round r values u k) k)

-- a loop between two rounds, or one whose names from this place on are to get their values
abbrev pub looping : Rounds → Option ℕ → State → Then → Play Ending
looping r None s k = next_round r r.values s k
looping r (Some i) s k = give_each (drop i r.names) r.values s (λ values t. round_body r values t k)

-- what a frame does when it is to go on
unfoldable pub go : Frame → State → Then → Play Ending
go (Opening what) s k = open_next what s k
go (Preceding next) s k = k Done [] s
go (Sequence commands depth) s k = sequence (evaluate depth) commands [] s k
go (Gathering m depth) s k = making_on m depth s k
go (Running words depth) s k = command (evaluate depth) words s k
go (Catching name) s k = k Done [] s
go Calling s k = k Done [] s
go Loading s k = k Done [] s
go (Looping r) s k = looping r r.given s k
go (Unsetting complains names) s k = unset_all complains names s k
go (Calculating c) s k = calculating c s k
go Writing s k = k Done [] s
go (Choosing c) s k = k Done [] s
go (Repeating r) s k = k Done [] s
go (Acting a) s k = acting a s k
go (Naming n) s k = naming n s k
go (Expecting words depth) s k = expect_with (evaluate depth) words s k
go (Limiting l) s k = limiting l s k
go (Compiling c) s k = compiling_on c s k
go (Giving names values) s k = giving names values s k
go (Awaiting reach w) s k = awaiting reach w s k

-- what a frame does with what has ended inside of it
unfoldable pub back : Frame → Then → Then
back (Opening what) k = k
back (Preceding next) k = after_file (open_next next) k
back (Sequence commands depth) k = if_done (λ v s. sequence (evaluate depth) commands v s k) k
back (Gathering m depth) k = if_done (λ v s. making_with m depth v s k) k
back (Running words depth) k = k
back (Catching name) k = caught name k
back Calling k = λ c v s. outside k c v (departed s)
back Loading k = after_library k
back (Looping r) k = loop_after (λ s. next_round r r.values s k) k
back (Unsetting complains names) k = k
back (Calculating c) k = if_done (λ v s. calculating_with c v s k) k
back Writing k = written k
back (Choosing c) k = choosing c k
back (Repeating r) k = repeating r r.stage k
back (Acting a) k = k
back (Naming n) k = k
back (Expecting words depth) k = k
back (Limiting l) k = k
back (Compiling c) k = k
back (Giving names values) k = k
back (Awaiting reach w) k = after_action w.session (again w k) k

-- what all the frames do with what has ended inside of them
unfoldable pub all_back : List Frame → Then
all_back [] = finish
all_back (f ∷ fs) = back f (all_back fs)

abbrev pub what_is_left : Control → State → List Frame → Play Ending
what_is_left Go s [] = finish Done [] s
what_is_left Go s (f ∷ fs) = go f s (all_back fs)
what_is_left (Ended c v) s fs = all_back fs c v s

-- what is left of an evaluation
unfoldable pub rest : Machine → Play Ending
rest m = what_is_left m.control m.state m.stack

abbrev pub names_left : Rounds → Option ℕ → ℕ
names_left r None = 0
names_left r (Some i) = 4 + 4 * (length r.names - i)

-- what is set aside for what is done with words once they are made
unfoldable pub budget : Purpose → ℕ
budget Run = 2 ^ 250
budget Load = 0
budget Expect = 2 ^ 200

abbrev pub frame_weight : Frame → ℕ
frame_weight (Opening what) = opening_weight what
frame_weight (Preceding next) = opening_weight next + 1
frame_weight (Sequence commands depth) = 3
frame_weight (Gathering m depth) = budget m.purpose + 4 + 4 * length m.left
frame_weight (Running words depth) = 2 ^ 250
frame_weight (Catching name) = 3
frame_weight Calling = 3
frame_weight Loading = 3
frame_weight (Looping r) = 5 + names_left r r.given
frame_weight (Unsetting complains names) = 5 + 4 * length names
frame_weight (Calculating c) = 8 + 2 ^ 67 * length c.left
frame_weight Writing = 4
frame_weight (Choosing c) = 2 ^ 140 + 2 ^ 140 * length c.left
frame_weight (Repeating r) = stage_weight r.stage
frame_weight (Acting a) = after_weight a.after
frame_weight (Naming n) = 6
frame_weight (Expecting words depth) = 2 ^ 200
frame_weight (Limiting l) = 2 ^ 100
frame_weight (Compiling c) = 2 ^ 55
frame_weight (Giving names values) = 5 + 4 * length names
frame_weight (Awaiting reach w) = 256 * w.left + reach_weight reach

unfoldable pub stack_weight : List Frame → ℕ
stack_weight [] = 0
stack_weight (f ∷ fs) = frame_weight f + stack_weight fs

abbrev pub control_weight : Control → ℕ
control_weight Go = 0
control_weight (Ended c v) = 1

-- it falls with each move
unfoldable pub weight : Control → State → List Frame → ℕ
weight c s fs = (STEPS - s.steps) * 2 ^ 251 + (MAX_USED - s.sessions.used) * 2 ^ 64 + stack_weight fs + control_weight c

abbrev pub weight_of : Machine → ℕ
weight_of m = weight m.control m.state m.stack

-- the machine that was told the answer to a question
abbrev pub told : Question → Answer → Machine → Machine
told q a m = record m { state = learn q a m.state }

-- the end in this state
abbrev pub ends_with : Closing → State → Play Ending
ends_with c s = Ends (closed c.verdict c.close s)

-- From this, with these reads and weight, a move came to that machine, or a pattern that is read could not be built.
abbrev pub Comes : Play Ending → List Read → ℕ → Machine → Pace → Type 0
Comes play known w m Moved = (rest m ≡ play) × (m.state.known ≡ known) × (weight_of m < w)
Comes play known w m (Stands ask) =
    (play ≡ Asks ask (λ a. rest (told ask.question a m))) × (m.state.known ≡ known) × (lookup ask.question known ≡ None)
Comes play known w m (Over c) = (play ≡ ends_with c m.state) × (m.state.known ≡ known)
Comes play known w m Lost = HasReadPattern known

-- the same, where no question can stand
abbrev pub Goes : Play Ending → List Read → ℕ → Machine → Pace → Type 0
Goes play known w m Moved = (rest m ≡ play) × (m.state.known ≡ known) × (weight_of m < w)
Goes play known w m (Stands ask) = ⊥
Goes play known w m (Over c) = (play ≡ ends_with c m.state) × (m.state.known ≡ known)
Goes play known w m Lost = HasReadPattern known

-- what a machine came to run, which asks no question: it has gone on with so much weight more
abbrev pub GoesAs : (State → Then → Play Ending) → ℕ → Machine → Machine → Pace → Type 0
GoesAs f w old new p = Goes (f old.state (all_back old.stack)) old.state.known (weight_of old + w) new p

-- From this, with what is done at another try, and with so much weight more, a machine came to that one. Where a question
-- stands, globals may have begun, and nothing else has changed: the other try goes on from there.
abbrev pub Tries : Play Ending → (State → Play Ending) → ℕ → Machine → Machine → Pace → Type 0
Tries play again w old new Moved =
    (rest new ≡ play) × (new.state.known ≡ old.state.known) × (weight_of new < weight_of old + w)
Tries play again w old new (Stands ask) =
    (play ≡ Asks ask (λ a. again (learn ask.question a new.state)))
    × (new ≡ record old { state = with_begun old.state new.state })
    × (lookup ask.question old.state.known ≡ None)
Tries play again w old new (Over c) = (play ≡ ends_with c new.state) × (new.state.known ≡ old.state.known)
Tries play again w old new Lost = HasReadPattern old.state.known

-- the weight of a command whose words are made
abbrev pub command_weight : ℕ
command_weight = 2 ^ 250

-- What a machine came to run: it has gone on with so much weight more, or a question stands.
abbrev pub RunsAs : (State → Then → Play Ending) → ℕ → Machine → Machine → Pace → Type 0
RunsAs f w old new p = Tries (f old.state (all_back old.stack)) (λ s. f s (all_back old.stack)) w old new p

-- how the code and the value with which a procedure or a file ends read outside of it
abbrev pub outside_code : Code → Code
outside_code Done = Done
outside_code Failed = Failed
outside_code Returned = Done
outside_code Broken = Failed
outside_code Continued = Failed
outside_code ExpContinued = Failed

abbrev pub outside_value : Code → List ℕ → List ℕ
outside_value Done v = v
outside_value Failed v = v
outside_value Returned v = v
outside_value Broken v = outside_of_a_loop (codes "break")
outside_value Continued v = outside_of_a_loop (codes "continue")
outside_value ExpContinued v = outside_of_expect

-- What comes before the use of a variable: nothing more, and it may have begun; or a question that stands, or a limit, and
-- nothing has changed.
abbrev pub Readies : List ℕ → Machine → Machine → Option Pace → Type 0
Readies n old new None =
    ((k : State → Play Ending) → touch n old.state k ≡ k new.state) × (new ≡ record old { state = with_begun old.state new.state })
Readies n old new (Some Moved) = ⊥
Readies n old new (Some (Stands ask)) =
    ((k : State → Play Ending) → touch n old.state k ≡ Asks ask (λ a. touch n (learn ask.question a old.state) k)) × (new ≡ old)
    × (lookup ask.question old.state.known ≡ None)
Readies n old new (Some (Over c)) =
    ((k : State → Play Ending) → touch n old.state k ≡ ends_with c new.state) × (new ≡ old)
Readies n old new (Some Lost) = ⊥

-- where a machine comes to by itself: to a question that has no answer yet, or to the end
abbrev pub ComesTo : Machine → Machine → Stop → Type 0
ComesTo old new (AtQuestion ask) =
    (rest old ≡ Asks ask (λ a. rest (told ask.question a new))) × (new.state.known ≡ old.state.known)
    × (lookup ask.question old.state.known ≡ None)
ComesTo old new (AtEnd c) = (rest old ≡ ends_with c new.state) × (new.state.known ≡ old.state.known)
ComesTo old new LostStop = HasReadPattern old.state.known
