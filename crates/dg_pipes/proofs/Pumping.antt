-- What was pushed, and what was read.
use Rattle.std.proofs.Common.{ℕ, ◌≡◌, true, false, List, [], ◌∷◌, ◌++◌, refl, sym, ap, ◌∙◌, subst}
use Rattle.std.proofs.lemmas.List.{append_assoc, append-nil}
use Rattle.std.specs.declared.option.Option.{Option}
use Rattle.std.specs.declared.option.Option.TheVariants.{None, Some}
use Rattle.std.specs.Io.KnownBytes.{Consumes, Keeps, IsAtEnd}
use Rattle.dg_pipes.specs.declared.item.Item.{Item}
use Rattle.dg_pipes.specs.declared.item.Item.TheVariants.{Chunk, End, Fault}
use Rattle.dg_pipes.specs.Items.{bytes_of, AllChunks, is_chunk, PumpedSome, PumpedAll, Pumping}
use Rattle.dg_transcript.specs.declared.code.ErrorCode.{ErrorCode}

pub consumes_again : (a b c : Option (List ℕ)) (xs ys : List ℕ) → Consumes a b xs → Consumes b c ys → Consumes a c (xs ++ ys)
consumes_again None b c xs ys p q = tt
consumes_again (Some os) None c xs ys p q = absurd p
consumes_again (Some os) (Some bs) None xs ys p q = q
consumes_again (Some os) (Some bs) (Some cs) xs ys p q = p ∙ ap (λ zs. xs ++ zs) q ∙ sym (append_assoc xs ys cs)

pub keeps_nothing : (b c : Option (List ℕ)) → Keeps b c → Consumes b c []
keeps_nothing None c k = tt
keeps_nothing (Some bs) None k = k
keeps_nothing (Some bs) (Some cs) k = sym k

pub consumes_none : (b : Option (List ℕ)) → Consumes b b []
consumes_none None = tt
consumes_none (Some bs) = refl

pub bytes_next : (items : List Item) (v : List ℕ) → bytes_of (items ++ Chunk v ∷ []) ≡ bytes_of items ++ v
bytes_next [] v = append-nil v
bytes_next (Chunk u ∷ xs) v = ap (λ bs. u ++ bs) (bytes_next xs v) ∙ sym (append_assoc u (bytes_of xs) v)
bytes_next (End ∷ xs) v = bytes_next xs v
bytes_next (Fault c ∷ xs) v = bytes_next xs v

pub chunks_next : (items : List Item) (x : Item) → AllChunks items → is_chunk x ≡ true → AllChunks (items ++ x ∷ [])
chunks_next [] x all is = (is, tt)
chunks_next (y ∷ ys) x all is = (all.0, chunks_next ys x all.1 is)

pub stopped : (start ring next : List Item) (old b c : Option (List ℕ)) (ys : List ℕ) → Pumping start ring old b → Consumes b c ys → next ≡ ring → (items : List Item) × (next ≡ start ++ items) × PumpedSome old c items
stopped start ring next old b c ys p q same = (p.0, same ∙ p.1, (bytes_of p.0 ++ ys, consumes_again old b c (bytes_of p.0) ys p.2 q, (ys, refl), p.3))

pub ended : (start ring next : List Item) (old b c : Option (List ℕ)) (last : Item) → Pumping start ring old b → Consumes b c [] → next ≡ ring ++ last ∷ [] → is_chunk last ≡ false → (last ≡ End → IsAtEnd c) → (items : List Item) × (next ≡ start ++ items) × PumpedAll old c items
ended start ring next old b c last p q put is at = (
  p.0 ++ last ∷ [],
  put ∙ ap (λ xs. xs ++ last ∷ []) p.1 ∙ append_assoc start p.0 (last ∷ []),
  (p.0, last, refl, p.3, is, subst (λ bs. Consumes old c bs) (append-nil (bytes_of p.0)) (consumes_again old b c (bytes_of p.0) [] p.2 q), at),
)

pub went_on : (start ring next : List Item) (old b c : Option (List ℕ)) (v : List ℕ) → Pumping start ring old b → Consumes b c v → next ≡ ring ++ Chunk v ∷ [] → Pumping start next old c
went_on start ring next old b c v p q put = (
  p.0 ++ Chunk v ∷ [],
  put ∙ ap (λ xs. xs ++ Chunk v ∷ []) p.1 ∙ append_assoc start p.0 (Chunk v ∷ []),
  subst (λ bs. Consumes old c bs) (sym (bytes_next p.0 v)) (consumes_again old b c (bytes_of p.0) v p.2 q),
  chunks_next p.0 (Chunk v) p.3 refl,
)

abbrev Faulty : Item → Type 0
Faulty (Chunk v) = ⊥
Faulty End = ⊥
Faulty (Fault c) = Unit {0}

pub fault_not_end : (c : ErrorCode) → Fault c ≡ End → ⊥
fault_not_end c is = subst Faulty is tt
