-- What a call of a bench comes to, where it isn't refused.
use Rattle.std.specs.Prelude.{◌≡◌, ◌<◌, ◌≤◌, ℕ, false, List, [], ◌∷◌, ◌++◌, length, Some}
use Rattle.dg_core.specs.Core.{CoreView, new_core}
use Rattle.dg_world.specs.World.{look}
use Rattle.dg_world.specs.declared.question.Question.{Question}
use Rattle.dg_world.specs.declared.question.Answer.{Answer}
use Rattle.dg_bench.specs.declared.call.Call.{Call}
use Rattle.dg_bench.specs.History.{IsLegal, Makes, Steps}
use Rattle.dg_bench.specs.Seen.{Seen, Told, Kept, seen_all, HasSeenBeginningOf, called, front}

-- A call enters a history of at most `limit` calls: it is a step of the core, it stands last among the calls, which are legal, and the pass has then seen them all.
pub record Enters (limit : ℕ) (old new : Kept) (pass later : Seen) (told : Told) (call : Call) : Type 0 where
  pub within : pass.count ≤ length old.calls
  pub begins : HasSeenBeginningOf pass old.calls
  pub room : length old.calls < limit
  pub running : old.stopped ≡ false
  pub goes_on : new.stopped ≡ false
  pub step : Steps old.core call new.core
  pub calls : new.calls ≡ old.calls ++ call ∷ []
  pub legal : IsLegal new.calls
  pub back : later ≡ seen_all new.calls
  pub receipt : told ≡ called (length old.calls) call

-- A question that has an answer is no call of the history: nothing changes, and the answer is that of the world which the calls make that the pass has then seen.
pub record Looks (old new : Kept) (pass later : Seen) (told : Told) (question : Question) (said : Answer) : Type 0 where
  pub within : pass.count ≤ length old.calls
  pub begins : HasSeenBeginningOf pass old.calls
  pub same : new ≡ old
  pub legal : IsLegal old.calls
  pub makes : Makes new_core old.calls old.core
  pub answer : look old.core.world question ≡ Some said
  pub back : later ≡ seen_all old.calls
  pub receipt : told ≡ front (length old.calls)

-- What a caller knows of a call that entered the history: the pass has then seen a legal list, which begins with all that it had seen and ends with this call, and the receipt is of that place.
pub record IsMade (pass later : Seen) (told : Told) (call : Call) : Type 0 where
  pub before : List Call
  pub within : pass.count ≤ length before
  pub begins : HasSeenBeginningOf pass before
  pub legal : IsLegal (before ++ call ∷ [])
  pub back : later ≡ seen_all (before ++ call ∷ [])
  pub receipt : told ≡ called (length before) call

-- And of a look: the pass has then seen a legal list, which begins with all that it had seen, and the answer is that of the world which that list makes.
pub record IsLook (pass later : Seen) (told : Told) (question : Question) (said : Answer) : Type 0 where
  pub calls : List Call
  pub within : pass.count ≤ length calls
  pub begins : HasSeenBeginningOf pass calls
  pub legal : IsLegal calls
  pub core : CoreView
  pub makes : Makes new_core calls core
  pub answer : look core.world question ≡ Some said
  pub back : later ≡ seen_all calls
  pub receipt : told ≡ front (length calls)
