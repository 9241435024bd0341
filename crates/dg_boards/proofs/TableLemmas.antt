-- What an insertion of a new key leaves.
use Rattle.std.proofs.Common.{◌≡◌, true, false, cond, List, [], ◌∷◌, ◌++◌, Some, IsNone, refl, ap, rules}
use Rattle.indexmap.specs.IndexMap.{insert_entry}
use Rattle.dg_boards.specs.Table.{Text, setting}
use Rattle.dg_bytes.specs.Same.{same_bytes}

-- a new key goes last
pub insert_new : (es : List (Text × Text)) (k v : Text) → IsNone (setting es k) → insert_entry same_bytes es k v ≡ es ++ (k, v) ∷ []
insert_new [] k v h = refl
insert_new (e ∷ es) k v h = elim (same_bytes k e.0) as (λ b. IsNone (cond b (Some e.1) (setting es k)) → cond b ((e.0, v) ∷ es) (e ∷ insert_entry same_bytes es k v) ≡ e ∷ (es ++ (k, v) ∷ []))
    [ true ↦ λ n. absurd (search rules) | false ↦ λ n. ap (λ l. e ∷ l) (insert_new es k v n) ] h
