-- What is left of an `if` and of a loop over a condition, as frames keep it.
use Rattle.std.specs.Prelude.{ℕ, Bool, true, false}
use Rattle.dg_language.specs.Play.{Play}
use Rattle.dg_language.specs.State.{State}
use Rattle.dg_language.specs.Evaluation.{Ending, Then, if_done, loop_after}
use Rattle.dg_language.specs.Expressions.{decided}
use Rattle.dg_language.specs.Choosing.{choose, next_after, between, body_if, repeat}
use Rattle.dg_language.specs.Language.{evaluate}
use Rattle.dg_machine.specs.declared.frame.Choice.{Choice}
use Rattle.dg_machine.specs.declared.frame.Repetition.{Repetition}
use Rattle.dg_machine.specs.declared.frame.LoopPart.{LoopPart}
use Rattle.dg_machine.specs.declared.frame.LoopPart.TheVariants.{Start, Test, Body, Next}

-- an `if` goes on, once it is known whether a condition holds
abbrev pub choosing : Choice → Then → Then
choosing c k =
    decided
    (λ holds s. elim holds [ true ↦ evaluate c.depth c.body s k | false ↦ choose (evaluate c.depth) c.left c.otherwise s k ])
    k

-- the next test of a loop
abbrev pub next_test : Repetition → State → Then → Play Ending
next_test r s k = repeat (evaluate r.depth) r.left r.test r.next r.body s k

-- the body of a loop, if its condition holds
abbrev pub repeat_if : Repetition → Bool → State → Then → Play Ending
repeat_if r holds s k = body_if holds (evaluate r.depth) r.body r.next (λ t. next_test r t k) s k

-- what comes between a body and the next test
abbrev pub next_script : Repetition → State → Then → Play Ending
next_script r s k = between (evaluate r.depth) r.next (λ t. next_test r t k) s k

-- a loop goes on, by what of it has ended
abbrev pub repeating : Repetition → LoopPart → Then → Then
repeating r Start k = if_done (λ v s. next_test r s k) k
repeating r Test k = decided (λ holds s. repeat_if r holds s k) k
repeating r Body k = loop_after (λ s. next_script r s k) k
repeating r Next k = next_after (λ s. next_test r s k) k

abbrev pub stage_weight : LoopPart → ℕ
stage_weight Start = 8
stage_weight Test = 32
stage_weight Body = 16
stage_weight Next = 8
