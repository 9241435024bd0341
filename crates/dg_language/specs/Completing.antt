-- What commands come to that evaluate nothing inside and ask nothing, and what comes after them.
use Rattle.std.specs.Prelude.{ℕ, Option, Some, None, List, [], Result, Ok, Err}
use Rattle.dg_language.specs.declared.code.Code.{Code}
use Rattle.dg_language.specs.declared.code.Code.TheVariants.{Done}
use Rattle.dg_language.specs.declared.completion.Change.{Change}
use Rattle.dg_language.specs.declared.completion.Change.TheVariants.{Nothing, Calls, Sets, Unsets, Defines}
use Rattle.dg_language.specs.declared.completion.Completion.{Completion}
use Rattle.dg_language.specs.Play.{Play}
use Rattle.dg_language.specs.State.{State, with_call, with_setting, without_setting, defined}
use Rattle.dg_language.specs.Evaluation.{Ending, Then, fail, wrong_count}

-- a completion, or the message of an error
abbrev pub Immediately : Type 0
Immediately = Result Completion (List ℕ)

-- it completes with this code and value, and nothing changes
abbrev pub completes : Code → List ℕ → Immediately
completes code v = Ok (record { code = code; value = v; change = Nothing })

-- it has a value, and nothing changes
abbrev pub gives : List ℕ → Immediately
gives v = completes Done v

-- it changes this, and has the empty value
abbrev pub does : Change → Immediately
does change = Ok (record { code = Done; value = []; change = change })

-- what is done with the arguments of a command of this name; where there are none that it takes, their count is wrong
abbrev pub counted : {A : Type 0} → List ℕ → Option A → (A → Immediately) → Immediately
counted name None f = Err (wrong_count name)
counted name (Some a) f = f a

-- what has changed
abbrev pub performed : Change → State → State
performed Nothing s = s
performed (Calls c) s = with_call c s
performed (Sets key value) s = with_setting key value s
performed (Unsets key) s = without_setting key s
performed (Defines name p) s = defined name p s

-- what comes after a command that was completed, or has failed
abbrev pub completed : Immediately → State → Then → Play Ending
completed (Err message) s k = fail message s k
completed (Ok c) s k = k c.code c.value (performed c.change s)
