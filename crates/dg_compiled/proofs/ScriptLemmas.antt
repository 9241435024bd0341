-- What is taken off the commands that are left.
use Rattle.std.proofs.Common.{◌≡◌, ◌≢◌, ◌≤◌, ℕ, List, [], ◌∷◌, length, ap, ◌∙◌, refl, Ok, Err}
use Rattle.dg_words.specs.declared.word.Word.{Word}
use Rattle.dg_lists.specs.declared.fault.WordFault.{WordFault}
use Rattle.dg_words.specs.Reading.{command_at}
use Rattle.dg_language.specs.declared.command.Command.TheVariants.{Words, Unreadable}
use Rattle.dg_language.specs.Language.{commands_at, and_commands}
use Rattle.dg_language.proofs.Commands.{commands_at-step}

pub commands_at-none : (text : List ℕ) (at next : ℕ) (ws : List Word) → at ≤ length text → command_at text at ≡ Ok (ws, next) → ws ≡ [] → commands_at text at ≡ []
commands_at-none text at next ws l e h =
    commands_at-step text at l ∙ ap (λ r. and_commands r (λ n. commands_at text n)) (e ∙ ap (λ w. Ok (w, next)) h)

pub commands_at-words : (text : List ℕ) (at next : ℕ) (ws : List Word) → at ≤ length text → command_at text at ≡ Ok (ws, next) → ws ≢ []
    → commands_at text at ≡ Words ws ∷ commands_at text next
commands_at-words text at next [] l e h = absurd (h refl)
commands_at-words text at next (w ∷ ws) l e h =
    commands_at-step text at l ∙ ap (λ r. and_commands r (λ n. commands_at text n)) e

pub commands_at-fault : (text : List ℕ) (at : ℕ) (fault : WordFault) → at ≤ length text → command_at text at ≡ Err fault → commands_at text at ≡ Unreadable fault ∷ []
commands_at-fault text at fault l e = commands_at-step text at l ∙ ap (λ r. and_commands r (λ n. commands_at text n)) e
