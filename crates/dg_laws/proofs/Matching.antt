-- `-re` patterns, which are asked for, and the command regexp.
use Rattle.std.proofs.Common.{ℕ, List, [], ◌∷◌}
use Rattle.std.specs.Prelude.{Option, Some, None, codes}
use Rattle.dg_match.specs.Groups.{regex_match}
use Rattle.dg_match.specs.declared.found.Found.{Found}
use Rattle.dg_world.specs.declared.question.Question.TheVariants.{Pattern}
use Rattle.dg_language.specs.declared.code.Code.TheVariants.{Done}
use Rattle.dg_language.specs.declared.search.Search.{Search}
use Rattle.dg_language.specs.Play.{Play}
use Rattle.dg_language.specs.State.{State}
use Rattle.dg_language.specs.Evaluation.{Ending, Then}
use Rattle.dg_language.specs.Patterns.{is_read, with_pattern, with_patterns}
use Rattle.dg_language.specs.Matching.{regexp_words, parts_of, write_found, match_text, do_regexp}
use Rattle.dg_laws.specs.Grafting.{Grafted}
use Rattle.dg_laws.proofs.Steps.{completes, either, ask-grafted, fail-grafted}
use Rattle.dg_laws.proofs.CourseCommands.{give_each-grafted}
use Rattle.dg_laws.proofs.SessionCommands.{on_words-grafted}

with_pattern-grafted : (text : List ℕ) (s : State) {f : State → Then → Play Ending} → ((t : State) → Grafted (f t))
    → Grafted (λ k. with_pattern text s k (λ t. f t k))
unfolding with_pattern
with_pattern-grafted text s more = ask-grafted (Pattern text) s (λ a t. either (is_read a) (more t) (fail-grafted _ t))

pub with_patterns-grafted : (texts : List (List ℕ)) (s : State) {f : State → Then → Play Ending} → ((t : State) → Grafted (f t))
    → Grafted (λ k. with_patterns texts s k (λ t. f t k))
unfolding with_patterns
with_patterns-grafted [] s more = more s
with_patterns-grafted (text ∷ texts) s more = with_pattern-grafted text s (λ t. with_patterns-grafted texts t more)

write_found-grafted : (m : Search) (found : Option Found) (s : State) → Grafted (write_found m found s)
write_found-grafted m None s = completes Done (codes "0") s
write_found-grafted m (Some found) s = give_each-grafted m.names (parts_of m.text found) s (λ left t. completes Done (codes "1") t)

match_text-grafted : (m : Search) (s : State) → Grafted (match_text m s)
match_text-grafted m s = with_pattern-grafted m.pattern s (λ t. write_found-grafted m (regex_match m.pattern m.text) t)

pub do_regexp-grafted : (args : List (List ℕ)) (s : State) → Grafted (do_regexp args s)
unfolding do_regexp
do_regexp-grafted args s = on_words-grafted (regexp_words args) s (λ m. match_text-grafted m s)
