-- Lists that are empty, and those that aren't.
use Rattle.std.proofs.Common.{◌≡◌, ◌≢◌, ◌==◌, true, false, List, [], ◌∷◌, length}
use Rattle.std.proofs.lemmas.Bool.{eqb-true}
use Rattle.std.proofs.lemmas.List.{nil_from_length}

pub empty-if : {A : Type 0} (xs : List A) → (length xs == 0) ≡ true → xs ≡ []
empty-if xs h = nil_from_length xs (eqb-true (length xs) 0 h)

pub some-if : {A : Type 0} (xs : List A) → (length xs == 0) ≡ false → xs ≢ []
some-if [] h e = cc
some-if (x ∷ xs) h e = cc
