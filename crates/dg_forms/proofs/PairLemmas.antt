-- The pairs of `expect`, one after another.
use Rattle.std.proofs.Common.{◌≡◌, ℕ, List, [], ◌∷◌, ◌++◌, append_assoc, ap, refl}
use Rattle.std.specs.Prelude.{Result, Ok, Err}
use Rattle.dg_language.specs.declared.expect.Pair.{Pair}
use Rattle.dg_language.specs.ExpectWords.{with_pair}

-- pairs that were read, before those that are read now
abbrev pub behind_pairs : List Pair → Result (List Pair) (List ℕ) → Result (List Pair) (List ℕ)
behind_pairs read (Ok ps) = Ok (read ++ ps)
behind_pairs read (Err why) = Err why

pub behind_pair : (read : List Pair) (p : Pair) (r : Result (List Pair) (List ℕ)) → behind_pairs (read ++ p ∷ []) r ≡ behind_pairs read (with_pair p r)
behind_pair read p (Ok ps) = ap (λ x. Ok x) (append_assoc read (p ∷ []) ps)
behind_pair read p (Err why) = refl
