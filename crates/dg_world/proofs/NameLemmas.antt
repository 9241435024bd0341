-- A board is a name.
use Rattle.std.proofs.Common.{◌≡◌, ℕ, ◌≤◌, true, false, ◌==◌, List, [], ◌∷◌, length, cond, refl, ap, sym, ◌∙◌, arith, nat_le}
use Rattle.std.specs.List.{list_all, onto_first}
use Rattle.std.proofs.lemmas.Bool.{and_parts, and_from, leb-true, le-leb, eqb-true}
use Rattle.dg_bytes.specs.Portable.{is_portable}
use Rattle.dg_world.specs.Name.{is_name, is_part, is_single_part, parts_of}

-- a byte of a part is no slash
no_slash : (b : ℕ) → is_portable b ≡ true → (b == 47) ≡ false
no_slash b h = elim (b == 47) as (λ t. (b == 47) ≡ t → t ≡ false) [ true ↦ λ e. sym h ∙ ap is_portable (eqb-true b 47 e) | false ↦ λ e. refl ] refl

-- a part has no slash, and so is its own only part
one_part : (p : List ℕ) → list_all is_portable p ≡ true → parts_of p ≡ p ∷ []
one_part [] h = refl
one_part (b ∷ p) h =
    let parts = and_parts (is_portable b) (list_all is_portable p) h in
    ap (λ t. cond t ([] ∷ parts_of p) (onto_first b (parts_of p))) (no_slash b parts.0) ∙ ap (onto_first b) (one_part p parts.1)

-- the bytes of a part
part_bytes : (p : List ℕ) → is_part p ≡ true → list_all is_portable p ≡ true
part_bytes p h =
    (and_parts (nat_le 1 (length p)) (list_all is_portable p) (and_parts _ _ (and_parts _ _ h).0).0).1

-- a board or a tool is a name
pub name_from_single_part : (p : List ℕ) → is_single_part p ≡ true → is_name p ≡ true
unfolding is_single_part is_name
name_from_single_part p h =
    let parts = and_parts (nat_le (length p) 64) (is_part p) h in
    let few : length p ≤ 255 = omega (arith, leb-true (length p) 64 parts.0) in
    let all : list_all is_part (parts_of p) ≡ true = ap (list_all is_part) (one_part p (part_bytes p parts.1)) ∙ and_from (is_part p) true parts.1 refl in
    and_from (nat_le (length p) 255) (list_all is_part (parts_of p)) (le-leb (length p) 255 few) all
