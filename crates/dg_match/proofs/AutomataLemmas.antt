-- From a run of a pattern's automaton to the pattern.
use Rattle.std.proofs.Common.{◌≡◌, ℕ, ◌<◌, ◌≤◌, List, false, length, None, sym, subst, ◌∙◌, arith}
use Rattle.std.proofs.lemmas.List.Elements.{All-from_get_or}
use Rattle.regex_compile.specs.Implements.{Implements, HasPaths}
use Rattle.regex_dfa.specs.Search.{end_from}
use Rattle.regex_extract.specs.Bounds.{IsAnchored}
use Rattle.regex_hir.specs.Find.{find}
use Rattle.regex_hir.specs.Meaning.{meaning}
use Rattle.regex_hir.specs.Re.{Re}
use Rattle.regex_hir.specs.declared.hir.Hir.{Hir}
use Rattle.regex_hir.proofs.FindLemmas.{find_sound, first_between_cong}
use Rattle.regex_hir.proofs.OptionLemmas.{none_of_no_value}
use Rattle.regex_literal.specs.Find.{AreBytes}
use Rattle.regex_meta.proofs.LeftmostLemmas.{find_first}
use Rattle.regex_meta.proofs.ProgramLemmas.{none_of_option_map}
use Rattle.regex_nfa.specs.Paths.{Accepts}
use Rattle.regex_nfa.specs.Run.{find_in}
use Rattle.regex_nfa.specs.declared.nfa.Nfa.{Nfa}
use Rattle.regex_nfa.proofs.SearchLemmas.{run_unanchored}
use Rattle.regex_syntax.specs.Grammar.{Names}
use Rattle.regex_syntax.specs.Verdict.{Reads}
use Rattle.dg_match.specs.Automata.{IsToldForwards, IsToldBackwards}
use Rattle.dg_match.specs.Regexes.{bytes_config}
use Rattle.dg_match.proofs.NeedsLemmas.{none_of_tree}

module _ (nfa : Nfa) (re : Re) where
  found_by : Implements nfa re → (hay : List ℕ) → find_in nfa hay (length hay) 0 ≡ find re hay 0
  unfolding find find_in
  found_by implements hay = first_between_cong _ _ 0 (length hay) (λ i _ _. implements hay i)

  -- where no path goes to a match there is none
  none_forwards : Implements nfa re → (hay : List ℕ) → AreBytes hay → end_from nfa hay (length hay) nfa.unanchored 0 ≡ None → find re hay 0 ≡ None
  none_forwards implements hay bytes none =
      let below = All-from_get_or (λ b. b < 256) hay 0 (λ i _. bytes i) in
      let ran = none_of_option_map _ _ none in
      sym (found_by implements hay)
      ∙ none_of_option_map _ _ (sym (run_unanchored nfa hay (length hay) 0 below (omega arith) (omega arith)) ∙ ran)

  -- nor where none goes to the end, and each match ends there
  none_backwards : HasPaths nfa re → IsAnchored false re → (hay : List ℕ) →
      ((i : ℕ) → i ≤ length hay → Accepts nfa hay (length hay) (length hay) nfa.start i → ⊥) → find re hay 0 ≡ None
  none_backwards paths anchored hay none = none_of_no_value _ (λ m e.
      let there = (find_sound re hay 0 m e).1 in
      let inside : m.start ≤ length hay = (find_first re hay 0 m e).to in
      let ends : m.trace.end ≡ length hay = anchored.at hay m.start m.trace.end inside there in
      none m.start inside (subst (λ j. Accepts nfa hay (length hay) j nfa.start m.start) ends (paths hay m.start m.trace.end there)))

-- the automaton of a text's tree tells of the text's pattern
pub told_forwards : (text : List ℕ) (hir : Hir) (names : Names) (nfa : Nfa) → Reads bytes_config text hir names →
    Implements nfa (meaning hir) → IsToldForwards text nfa
told_forwards text hir names nfa reads implements = λ hay bytes none.
    none_of_tree text hir names reads hay bytes (none_forwards nfa (meaning hir) implements hay bytes none)

pub told_backwards : (text : List ℕ) (hir : Hir) (names : Names) (nfa : Nfa) → Reads bytes_config text hir names →
    HasPaths nfa (meaning hir) → IsAnchored false (meaning hir) → IsToldBackwards text nfa
told_backwards text hir names nfa reads paths anchored = λ hay bytes none.
    none_of_tree text hir names reads hay bytes (none_backwards nfa (meaning hir) paths anchored hay none)
