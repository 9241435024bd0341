-- What the functions answer, the grammar says of their texts.
use Rattle.std.specs.Prelude.{◌≡◌, ℕ, ◌+◌, ◌∷◌, List, Result, Ok, Err, MatchResult, IfOk, IfErr, drop}
use Rattle.std.proofs.Common.{inl, inr}
use Rattle.dg_lists.specs.declared.fault.WordFault.{WordFault}
use Rattle.dg_words.specs.declared.word.Parsed.{Parsed}
use Rattle.dg_words.specs.Reading.{command_at, operand_at, words_of}
use Rattle.dg_lists.specs.Grammar.Continuing.{IsNot}
use Rattle.dg_words.proofs.GrammarLemmas.Reads.{HasCommand, HasOperand, IsWords}
use Rattle.dg_words.specs.Grammar.Continuing.{HasNoCommand, HasNoOperand, IsNoWords}
use Rattle.dg_words.specs.Grammar.Spelling.{BeginsCommand, BeginsOperand, IsCommandFault, IsOperandFault, IsWordsFault, SpellsCommand, SpellsOperand, SpellsWords}
use Rattle.dg_words.proofs.GrammarLemmas.CommandSpelled.{read_command_is_spelled, read_operand_is_spelled, read_words_are_spelled}
use Rattle.dg_lists.proofs.GrammarLemmas.Answered.{MemoryOr, goes_as, stops_as}
use Rattle.dg_words.proofs.GrammarLemmas.Faults.{command_fault_has_its_place, open_as, open_command_misses_its_inmost_end, open_operand_misses_its_inmost_end, open_words_miss_their_inmost_end, operand_fault_has_its_place, what_is_wrong_in_a_command_is_told, what_is_wrong_in_an_operand_is_told, what_is_wrong_in_words_is_told, words_fault_has_its_place, wrong_as}
use Rattle.dg_words.specs.Grammar.Ends.{missing, Open}
use Rattle.dg_words.specs.Grammar.Saying.{IsWrong}
use Rattle.dg_lists.specs.Grammar.Continuing.{GoesOn, StopsAt}
use Rattle.dg_words.proofs.GrammarLemmas.OperandRead.{spelled_operand_is_read}
use Rattle.dg_words.proofs.GrammarLemmas.WordRead.{spelled_command_is_read, spelled_words_are_read}

-- commands
command_begins : (text : List ℕ) → HasCommand text → BeginsCommand text
command_begins text (ws, next, e) = let x = read_command_is_spelled text 0 next ws e in (ws, x.0, x.2)

command_begun : (text : List ℕ) → BeginsCommand text → HasCommand text
command_begun text (ws, n, h) = (ws, 0 + n, spelled_command_is_read text 0 n ws h)

no_command : (fault : WordFault) (text : List ℕ) → HasNoCommand fault text → IsNot BeginsCommand text
no_command fault text h (ws, n, b) = h.1 ws n b

pub command_fault_is_placed : (text : List ℕ) (at : ℕ) (fault : WordFault) → command_at text at ≡ Err fault → (place : ℕ) × GoesOn BeginsCommand (drop at text) place × StopsAt (HasNoCommand fault) (drop at text) place × IsWrong BeginsCommand fault (drop at text) place
command_fault_is_placed text at fault e = let (place, x, y, z) = command_fault_has_its_place text at fault e in (place, goes_as HasCommand BeginsCommand (drop at text) place command_begins x, y, wrong_as HasCommand BeginsCommand (drop at text) place fault command_begins command_begun z)

pub command_fault_is_told : (text : List ℕ) (at place : ℕ) (fault : WordFault) → GoesOn BeginsCommand (drop at text) place → StopsAt (IsNot BeginsCommand) (drop at text) place → IsWrong BeginsCommand fault (drop at text) place → command_at text at ≡ Err fault
command_fault_is_told text at place fault x y z =
    what_is_wrong_in_a_command_is_told text at place fault (goes_as BeginsCommand HasCommand (drop at text) place command_begun x) (stops_as (IsNot BeginsCommand) (IsNot HasCommand) (drop at text) place (λ t no h. no (command_begins t h)) y) (wrong_as BeginsCommand HasCommand (drop at text) place fault command_begun command_begins z)

pub open_command_misses : (text : List ℕ) (at k : ℕ) (ks : List ℕ) → Open BeginsCommand (drop at text) (k ∷ ks) → command_at text at ≡ Err (missing k)
open_command_misses text at k ks o = open_command_misses_its_inmost_end text at k ks (open_as BeginsCommand HasCommand (drop at text) (k ∷ ks) command_begun command_begins o)

first_command_fault : (text : List ℕ) (at : ℕ) (fault : WordFault) → command_at text at ≡ Err fault → IsCommandFault fault (drop at text)
first_command_fault text at fault e = let (place, x, y, z) = command_fault_is_placed text at fault e in (place, x, stops_as (HasNoCommand fault) (IsNot BeginsCommand) (drop at text) place (no_command fault) y, z)

pub command_spelled : (text : List ℕ) (at : ℕ) (r : Result Parsed WordFault) →
    MatchResult r (λ p. command_at text at ≡ Ok (p.words, p.next)) (MemoryOr (λ f. command_at text at ≡ Err f)) → IfOk r (λ p. SpellsCommand text at p.words p.next)
command_spelled text at (Ok p) e = read_command_is_spelled text at p.next p.words e
command_spelled text at (Err f) e = tt

pub command_fault : (text : List ℕ) (at : ℕ) (r : Result Parsed WordFault) →
    MatchResult r (λ p. command_at text at ≡ Ok (p.words, p.next)) (MemoryOr (λ f. command_at text at ≡ Err f)) → IfErr r (MemoryOr (λ f. IsCommandFault f (drop at text)))
command_fault text at (Ok p) e = tt
command_fault text at (Err f) (inl m) = inl m
command_fault text at (Err f) (inr e) = inr (first_command_fault text at f e)

-- operands
operand_begins : (text : List ℕ) → HasOperand text → BeginsOperand text
operand_begins text (ws, next, e) = let x = read_operand_is_spelled text 0 next ws e in (x.0, x.1, x.4)

operand_begun : (text : List ℕ) → BeginsOperand text → HasOperand text
operand_begun text (ps, n, h) = (_, 0 + n, spelled_operand_is_read text 0 n ps h)

no_operand : (fault : WordFault) (text : List ℕ) → HasNoOperand fault text → IsNot BeginsOperand text
no_operand fault text h (ps, n, b) = h.1 ps n b

pub operand_fault_is_placed : (text : List ℕ) (at : ℕ) (fault : WordFault) → operand_at text at ≡ Err fault → (place : ℕ) × GoesOn BeginsOperand (drop at text) place × StopsAt (HasNoOperand fault) (drop at text) place × IsWrong BeginsOperand fault (drop at text) place
operand_fault_is_placed text at fault e = let (place, x, y, z) = operand_fault_has_its_place text at fault e in (place, goes_as HasOperand BeginsOperand (drop at text) place operand_begins x, y, wrong_as HasOperand BeginsOperand (drop at text) place fault operand_begins operand_begun z)

pub operand_fault_is_told : (text : List ℕ) (at place : ℕ) (fault : WordFault) → GoesOn BeginsOperand (drop at text) place → StopsAt (IsNot BeginsOperand) (drop at text) place → IsWrong BeginsOperand fault (drop at text) place → operand_at text at ≡ Err fault
operand_fault_is_told text at place fault x y z =
    what_is_wrong_in_an_operand_is_told text at place fault (goes_as BeginsOperand HasOperand (drop at text) place operand_begun x) (stops_as (IsNot BeginsOperand) (IsNot HasOperand) (drop at text) place (λ t no h. no (operand_begins t h)) y) (wrong_as BeginsOperand HasOperand (drop at text) place fault operand_begun operand_begins z)

pub open_operand_misses : (text : List ℕ) (at k : ℕ) (ks : List ℕ) → Open BeginsOperand (drop at text) (k ∷ ks) → operand_at text at ≡ Err (missing k)
open_operand_misses text at k ks o = open_operand_misses_its_inmost_end text at k ks (open_as BeginsOperand HasOperand (drop at text) (k ∷ ks) operand_begun operand_begins o)

first_operand_fault : (text : List ℕ) (at : ℕ) (fault : WordFault) → operand_at text at ≡ Err fault → IsOperandFault fault (drop at text)
first_operand_fault text at fault e = let (place, x, y, z) = operand_fault_is_placed text at fault e in (place, x, stops_as (HasNoOperand fault) (IsNot BeginsOperand) (drop at text) place (no_operand fault) y, z)

pub operand_spelled : (text : List ℕ) (at : ℕ) (r : Result Parsed WordFault) →
    MatchResult r (λ p. operand_at text at ≡ Ok (p.words, p.next)) (MemoryOr (λ f. operand_at text at ≡ Err f)) → IfOk r (λ p. SpellsOperand text at p.words p.next)
operand_spelled text at (Ok p) e = read_operand_is_spelled text at p.next p.words e
operand_spelled text at (Err f) e = tt

pub operand_fault : (text : List ℕ) (at : ℕ) (r : Result Parsed WordFault) →
    MatchResult r (λ p. operand_at text at ≡ Ok (p.words, p.next)) (MemoryOr (λ f. operand_at text at ≡ Err f)) → IfErr r (MemoryOr (λ f. IsOperandFault f (drop at text)))
operand_fault text at (Ok p) e = tt
operand_fault text at (Err f) (inl m) = inl m
operand_fault text at (Err f) (inr e) = inr (first_operand_fault text at f e)

-- words
words_spelled : (text : List ℕ) → IsWords text → SpellsWords text
words_spelled text (ws, e) = (ws, read_words_are_spelled text ws e)

words_read : (text : List ℕ) → SpellsWords text → IsWords text
words_read text (ws, h) = (ws, spelled_words_are_read text ws h)

no_words : (fault : WordFault) (text : List ℕ) → IsNoWords fault text → IsNot SpellsWords text
no_words fault text h (ws, b) = h.1 ws b

pub words_fault_is_placed : (text : List ℕ) (fault : WordFault) → words_of text ≡ Err fault → (place : ℕ) × GoesOn SpellsWords text place × StopsAt (IsNoWords fault) text place × IsWrong SpellsWords fault text place
words_fault_is_placed text fault e = let (place, x, y, z) = words_fault_has_its_place text fault e in (place, goes_as IsWords SpellsWords text place words_spelled x, y, wrong_as IsWords SpellsWords text place fault words_spelled words_read z)

pub words_fault_is_told : (text : List ℕ) (place : ℕ) (fault : WordFault) → GoesOn SpellsWords text place → StopsAt (IsNot SpellsWords) text place → IsWrong SpellsWords fault text place → words_of text ≡ Err fault
words_fault_is_told text place fault x y z =
    what_is_wrong_in_words_is_told text place fault (goes_as SpellsWords IsWords text place words_read x) (stops_as (IsNot SpellsWords) (IsNot IsWords) text place (λ t no h. no (words_spelled t h)) y) (wrong_as SpellsWords IsWords text place fault words_read words_spelled z)

pub open_words_misses : (text : List ℕ) (k : ℕ) (ks : List ℕ) → Open SpellsWords text (k ∷ ks) → words_of text ≡ Err (missing k)
open_words_misses text k ks o = open_words_miss_their_inmost_end text k ks (open_as SpellsWords IsWords text (k ∷ ks) words_read words_spelled o)

first_words_fault : (text : List ℕ) (fault : WordFault) → words_of text ≡ Err fault → IsWordsFault fault text
first_words_fault text fault e = let (place, x, y, z) = words_fault_is_placed text fault e in (place, x, stops_as (IsNoWords fault) (IsNot SpellsWords) text place (no_words fault) y, z)

pub words_fault : (text : List ℕ) (f : WordFault) → MemoryOr (λ f. words_of text ≡ Err f) f → MemoryOr (λ f. IsWordsFault f text) f
words_fault text f (inl m) = inl m
words_fault text f (inr e) = inr (first_words_fault text f e)
