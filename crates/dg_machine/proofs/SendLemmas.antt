-- A text that is not empty is sent by an action.
use Rattle.std.proofs.Common.{◌≡◌, ℕ, false, true≢false, List, [], ◌∷◌, length, refl}
use Rattle.std.specs.Prelude.{◌==◌}
use Rattle.dg_transcript.specs.declared.cursor.Action.TheVariants as action
use Rattle.dg_language.specs.State.{State}
use Rattle.dg_language.specs.Evaluation.{Then}
use Rattle.dg_language.specs.Sessions.{send_to}
use Rattle.dg_machine.specs.declared.frame.After.TheVariants.{Reported}
use Rattle.dg_machine.specs.Acting.{acting}

pub send-acts : (n : ℕ) (text : List ℕ) (s : State) (k : Then) → (length text == 0) ≡ false
    → send_to n text s k ≡ acting (record { session = n; action = action.Send text; after = Reported }) s k
unfolding send_to
send-acts n [] s k e = absurd (true≢false e)
send-acts n (b ∷ bs) s k e = refl
