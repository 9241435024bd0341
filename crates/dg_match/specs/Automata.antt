-- The answers of the automaton of a `-re` pattern.
use Rattle.std.specs.Prelude.{◌≡◌, ◌≤◌, List, ℕ, None, length}
use Rattle.regex_dfa.specs.Search.{end_from, IsForwardFor, IsReverseFor}
use Rattle.regex_dfa.specs.declared.dfa.Dfa.{Dfa}
use Rattle.regex_literal.specs.Find.{AreBytes}
use Rattle.regex_nfa.specs.Paths.{Accepts}
use Rattle.regex_nfa.specs.declared.nfa.Nfa.{Nfa}
use Rattle.dg_match.specs.Groups.{regex_match}
use Rattle.dg_match.specs.declared.automata.Walk.{Walk}
use Rattle.dg_match.specs.declared.automata.Walk.TheVariants.{Forwards, Backwards}

-- in bytes of which no part leads the automaton to a match, the pattern has none
abbrev pub IsToldForwards : List ℕ → Nfa → Type 0
IsToldForwards pattern nfa = (bytes : List ℕ) → AreBytes bytes → end_from nfa bytes (length bytes) nfa.unanchored 0 ≡ None → regex_match pattern bytes ≡ None

-- in bytes of which no part that ends with the last leads it to a match, the pattern has none
abbrev pub IsToldBackwards : List ℕ → Nfa → Type 0
IsToldBackwards pattern nfa =
    (bytes : List ℕ) → AreBytes bytes → ((i : ℕ) → i ≤ length bytes → Accepts nfa bytes (length bytes) (length bytes) nfa.start i → ⊥) →
    regex_match pattern bytes ≡ None

-- the states are those of this automaton, which tells of the pattern in that way
abbrev pub IsWalkOf : List ℕ → Dfa → Walk → Type 0
IsWalkOf pattern dfa (Forwards f) = IsForwardFor f dfa × IsToldForwards pattern dfa.nfa
IsWalkOf pattern dfa (Backwards r) = IsReverseFor r dfa × IsToldBackwards pattern dfa.nfa
