-- A text that gets more elements as a list.
use Rattle.std.specs.Prelude.{◌≡◌, ℕ, ◌<◌, ◌≤◌, ⊤, List, ◌++◌, length, Ok, Err}
use Rattle.dg_lists.specs.declared.fault.ListFault.{ListFault}
use Rattle.dg_lists.specs.declared.fault.ListFault.TheVariants.{Memory, TooLong, NoList}
use Rattle.dg_lists.specs.Canonical.{text_of_list}
use Rattle.dg_lists.specs.Elements.{elements_of}

-- it is the canonical text of its elements and these, which has at most so many bytes
abbrev pub Appends : List ℕ → List (List ℕ) → ℕ → List ℕ → Type 0
Appends old more longest new = (xs : List (List ℕ)) × ((elements_of old ≡ Ok xs) × (new ≡ text_of_list (xs ++ more)) × (length new ≤ longest))

-- why it gets none
abbrev pub Refuses : List ℕ → List (List ℕ) → ℕ → ListFault → Type 0
Refuses old more longest Memory = ⊤
Refuses old more longest TooLong = (xs : List (List ℕ)) × ((elements_of old ≡ Ok xs) × (longest < length (text_of_list (xs ++ more))))
Refuses old more longest (NoList fault) = elements_of old ≡ Err fault
