-- The commands of a text, one after another.
use Rattle.std.proofs.Common.{◌≡◌, ℕ, suc, zero, ◌-◌, ◌<◌, ◌≤◌, List, [], ◌∷◌, length, refl, ap, arith}
use Rattle.std.specs.Prelude.{Result, Ok, Err}
use Rattle.dg_words.specs.declared.word.Word.{Word}
use Rattle.dg_lists.specs.declared.fault.WordFault.{WordFault}
use Rattle.dg_words.specs.Reading.{command_at}
use Rattle.dg_words.proofs.Advance.{next_within, next_onward}
use Rattle.dg_language.specs.declared.command.Command.TheVariants.{Words}
use Rattle.dg_language.specs.Language.{first_commands, and_commands, commands_at}

-- a bound above the bytes that are left is as good as any other
first_commands-bound : (n m : ℕ) (text : List ℕ) (at : ℕ) → at ≤ length text → length text - at < n → length text - at < m
    → first_commands n text at ≡ first_commands m text at
first_commands-bound zero m text at l h g = absurd (omega arith)
first_commands-bound (suc n) zero text at l h g = absurd (omega arith)
first_commands-bound (suc n) (suc m) text at l h g = step (first_commands-bound n m text) (command_at text at) refl
  where
    step : ((next : ℕ) → next ≤ length text → length text - next < n → length text - next < m → first_commands n text next ≡ first_commands m text next)
        → (r : Result (List Word × ℕ) WordFault) → command_at text at ≡ r
        → and_commands r (λ next. first_commands n text next) ≡ and_commands r (λ next. first_commands m text next)
    step ih (Err fault) e = refl
    step ih (Ok ([], next)) e = refl
    step ih (Ok (w ∷ ws, next)) e =
        let within : next ≤ length text = next_within text at next (w ∷ ws) l e in
        let more : at < next = next_onward text at next (w ∷ ws) e (λ h. cc) in
        ap (λ cs. Words (w ∷ ws) ∷ cs) (ih next within (omega arith) (omega arith))

-- the first command and those behind it
pub commands_at-step : (text : List ℕ) (at : ℕ) → at ≤ length text → commands_at text at ≡ and_commands (command_at text at) (λ next. commands_at text next)
unfolding commands_at
commands_at-step text at l = step (command_at text at) refl
  where
    step : (r : Result (List Word × ℕ) WordFault) → command_at text at ≡ r
        → and_commands r (λ next. first_commands (length text - at) text next) ≡ and_commands r (λ next. first_commands (suc (length text - next)) text next)
    step (Err fault) e = refl
    step (Ok ([], next)) e = refl
    step (Ok (w ∷ ws, next)) e =
        let within : next ≤ length text = next_within text at next (w ∷ ws) l e in
        let more : at < next = next_onward text at next (w ∷ ws) e (λ h. cc) in
        ap (λ cs. Words (w ∷ ws) ∷ cs) (first_commands-bound (length text - at) (suc (length text - next)) text next within (omega arith) (omega arith))
