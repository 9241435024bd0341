-- What the functions answer, the grammar says of their texts.
use Rattle.std.specs.Prelude.{◌≡◌, ℕ, ◌∷◌, ◌++◌, List, Result, Ok, Err, ◌⊎◌, MatchResult, IfOk, IfErr}
use Rattle.std.proofs.Common.{inl, inr}
use Rattle.dg_lists.specs.declared.fault.WordFault.{WordFault}
use Rattle.dg_lists.specs.declared.fault.WordFault.TheVariants.{Memory}
use Rattle.dg_lists.specs.Elements.{elements_of}
use Rattle.dg_lists.specs.Grammar.Continuing.{GoesOn, StopsAt, IsList, IsNoList, IsNot}
use Rattle.dg_lists.specs.Grammar.Lists.{ListOf}
use Rattle.dg_lists.specs.Grammar.Spelling.{IsListFault}
use Rattle.dg_lists.proofs.GrammarLemmas.ListKinds.{list_fault_has_its_place}
use Rattle.dg_lists.proofs.GrammarLemmas.ListSpelled.{read_list_is_spelled}

-- What is so of a text is so of it under another name.
pub stops_as : (Is Such : List ℕ → Type 0) (text : List ℕ) (place : ℕ) → ((t : List ℕ) → Is t → Such t) → StopsAt Is text place → StopsAt Such text place
stops_as Is Such text place f s = record {
  front = s.front;
  place_is = s.place_is;
  why = elim s.why [
    | inl (e, h) ↦ inl (e, f text h)
    | inr (b, rest, e, h) ↦ inr (b, rest, e, λ more. f (s.front ++ b ∷ more) (h more))
  ];
}

pub goes_as : (Is Such : List ℕ → Type 0) (text : List ℕ) (place : ℕ) → ((t : List ℕ) → Is t → Such t) → GoesOn Is text place → GoesOn Such text place
goes_as Is Such text place f g = record {
  front = g.front;
  rest = g.rest;
  split = g.split;
  place_is = g.place_is;
  closing = g.closing;
  is_such = f (g.front ++ g.closing) g.is_such;
}

-- this fault is want of memory, or it is so of it
abbrev pub MemoryOr : (WordFault → Type 0) → WordFault → Type 0
MemoryOr P f = (f ≡ Memory) ⊎ P f

-- lists
no_list : (fault : WordFault) (text : List ℕ) → IsNoList fault text → IsNot IsList text
no_list fault text h (xs, b) = h.1 xs b

first_list_fault : (text : List ℕ) (fault : WordFault) → elements_of text ≡ Err fault → IsListFault fault text
first_list_fault text fault e = let (place, x, y, z) = list_fault_has_its_place text fault e in (place, x, stops_as (IsNoList fault) (IsNot IsList) text place (no_list fault) y, z)

pub list_spelled : (text : List ℕ) (r : Result (List (List ℕ)) WordFault) →
    MatchResult r (λ xs. elements_of text ≡ Ok xs) (MemoryOr (λ f. elements_of text ≡ Err f)) → IfOk r (λ xs. ListOf text xs)
list_spelled text (Ok xs) e = read_list_is_spelled text xs e
list_spelled text (Err f) e = tt

pub list_fault : (text : List ℕ) (r : Result (List (List ℕ)) WordFault) →
    MatchResult r (λ xs. elements_of text ≡ Ok xs) (MemoryOr (λ f. elements_of text ≡ Err f)) → IfErr r (MemoryOr (λ f. IsListFault f text))
list_fault text (Ok xs) e = tt
list_fault text (Err f) (inl m) = inl m
list_fault text (Err f) (inr e) = inr (first_list_fault text f e)
