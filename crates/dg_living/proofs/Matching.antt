-- `-re` patterns, which are asked for, and the command regexp.
use Rattle.std.proofs.Common.{◌≡◌, ℕ, List, [], ◌∷◌, refl, ◌∙◌}
use Rattle.std.specs.Prelude.{Option, Some, None, codes}
use Rattle.dg_match.specs.Groups.{regex_match}
use Rattle.dg_match.specs.declared.found.Found.{Found}
use Rattle.dg_world.specs.declared.question.Question.TheVariants.{Pattern}
use Rattle.dg_language.specs.declared.code.Code.TheVariants.{Done}
use Rattle.dg_language.specs.declared.search.Search.{Search}
use Rattle.dg_language.specs.Play.{Play}
use Rattle.dg_language.specs.State.{State}
use Rattle.dg_language.specs.Evaluation.{Ending, Then}
use Rattle.dg_language.specs.Patterns.{is_read, with_pattern, with_patterns}
use Rattle.dg_language.specs.Matching.{regexp_words, parts_of, write_found, match_text, do_regexp}
use Rattle.dg_living.proofs.Steps.{Lives, completes, either, ask-lives, fail-lives}
use Rattle.dg_living.proofs.CourseCommands.{give_each-lives}
use Rattle.dg_living.proofs.SessionCommands.{on_words-lives}

with_pattern-lives : (text : List ℕ) (s : State) {f : State → Then → Play Ending} → ((u : State) → u.sessions ≡ s.sessions → Lives u (f u))
    → Lives s (λ k. with_pattern text s k (λ u. f u k))
unfolding with_pattern
with_pattern-lives text s more = ask-lives (Pattern text) s refl (λ a u same. either (is_read a) (more u same) (fail-lives _ u))

pub with_patterns-lives : (texts : List (List ℕ)) (s : State) {f : State → Then → Play Ending}
    → ((u : State) → u.sessions ≡ s.sessions → Lives u (f u)) → Lives s (λ k. with_patterns texts s k (λ u. f u k))
unfolding with_patterns
with_patterns-lives [] s more = more s refl
with_patterns-lives (text ∷ texts) s more =
    with_pattern-lives text s (λ u same. with_patterns-lives texts u (λ v still. more v (still ∙ same)))

write_found-lives : (m : Search) (found : Option Found) (s : State) → Lives s (write_found m found s)
write_found-lives m None s = completes Done (codes "0") s
write_found-lives m (Some found) s = give_each-lives m.names (parts_of m.text found) s (λ left t. completes Done (codes "1") t)

match_text-lives : (m : Search) (s : State) → Lives s (match_text m s)
match_text-lives m s = with_pattern-lives m.pattern s (λ u _. write_found-lives m (regex_match m.pattern m.text) u)

pub do_regexp-lives : (args : List (List ℕ)) (s : State) → Lives s (do_regexp args s)
unfolding do_regexp
do_regexp-lives args s = on_words-lives (regexp_words args) s (λ m _. match_text-lives m s)
