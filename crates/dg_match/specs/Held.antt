-- The content of a buffer.
use Rattle.std.specs.Prelude.{ℕ, ◌-◌, ◌==◌, ◌++◌, not, List, [], ◌∷◌, length, drop, filter, map, refl}
use Rattle.std.specs.Coded.{Coded, code_by, coded×, coded_list, coded_ℕ}
use Rattle.std.specs.Prelude.{◌≡◌, ◌⊎◌}
use Rattle.std.proofs.Common.{inl, inr}
use Rattle.std.specs.Coded.{coded⊎}
use Rattle.dg_match.specs.declared.starts.Sought.{Sought}
use Rattle.dg_match.specs.declared.starts.Sought.TheVariants.{Text, Glob}
use Rattle.dg_match.specs.declared.starts.Progress.{Progress}

-- A buffer as the crates above see it: the bytes, and how many are kept at most.
pub record Output : Type 0 where
  pub bytes : List ℕ
  pub max : ℕ

-- and what its own tries of patterns see: how many bytes its literals and globs have compared, and what is remembered of the
-- patterns tried last, in their order: what each looks for, how many parts of a glob are found, and how many of the first
-- places it, or the next part, has passed
pub record Held : Type 0 where
  pub bytes : List ℕ
  pub max : ℕ
  pub compared : ℕ
  pub starts : List Progress

-- the buffer as the crates above see it
abbrev pub held_output : Held → Output
held_output h = record { bytes = h.bytes; max = h.max }

abbrev pub sides : Sought → List ℕ ⊎ List ℕ
sides (Text t) = inl t
sides (Glob p) = inr p

abbrev pub of_side : List ℕ ⊎ List ℕ → Sought
of_side (inl t) = Text t
of_side (inr p) = Glob p

pub sides_back : (k : Sought) → of_side (sides k) ≡ k
sides_back (Text t) = refl
sides_back (Glob p) = refl

abbrev pub sought_code : Coded Sought
sought_code = code_by (List ℕ ⊎ List ℕ) (coded⊎ (coded_list coded_ℕ) (coded_list coded_ℕ)) sides of_side sides_back

abbrev pub start_code : Coded Progress
start_code =
    code_by ((Sought × ℕ) × ℕ) (coded× (coded× sought_code coded_ℕ) coded_ℕ) (λ s. ((s.sought, s.found), s.passed))
    (λ p. record { sought = p.0.0; found = p.0.1; passed = p.1 }) (λ _. refl)

abbrev pub held_code : Coded Held
held_code =
    code_by (((List ℕ × ℕ) × ℕ) × List Progress) (coded× (coded× (coded× (coded_list coded_ℕ) coded_ℕ) coded_ℕ) (coded_list start_code))
    (λ h. (((h.bytes, h.max), h.compared), h.starts)) (λ p. record { bytes = p.0.0.0; max = p.0.0.1; compared = p.0.1; starts = p.1 }) (λ _. refl)

-- what has passed n places fewer
abbrev pub later : ℕ → Progress → Progress
later n s = record { sought = s.sought; found = s.found; passed = s.passed - n }

-- the buffer without its first n bytes
abbrev pub without_first : ℕ → Held → Held
without_first n h = record h { bytes = drop n h.bytes; starts = map (later n) h.starts }

-- and with its last n bytes alone
abbrev pub with_last : ℕ → Held → Held
with_last n h = without_first (length h.bytes - n) h

-- the bytes that are no nulls
abbrev pub without_nulls : List ℕ → List ℕ
without_nulls = filter (λ b. not (b == 0))

-- the last n bytes
abbrev pub last_bytes : ℕ → List ℕ → List ℕ
last_bytes n bytes = drop (length bytes - n) bytes

-- an output once a chunk was added to it: the last bytes of both without nulls, as many as are kept at most
abbrev pub heard : List ℕ → Output → Output
heard chunk o = record o { bytes = last_bytes o.max (o.bytes ++ without_nulls chunk) }

-- and once all of these chunks were added, one after the other
abbrev pub heard_all : List (List ℕ) → Output → Output
heard_all [] o = o
heard_all (chunk ∷ chunks) o = heard_all chunks (heard chunk o)

-- an output without bytes
abbrev pub emptied : Output → Output
emptied o = record o { bytes = [] }
