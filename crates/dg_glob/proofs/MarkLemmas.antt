-- A write of one mark.
use Rattle.std.proofs.Common.{◌≡◌, ◌≢◌, ◌<◌, ◌/◌, ◌%◌, ⊎_elim, ℕ, Bool, true, false, List, length, get_or, set, sym, ap, ◌∙◌, arith, ◌==◌, eq-eqb}
use Rattle.std.specs.Int.{bit_at}
use Rattle.std.proofs.lemmas.Bool.{cases_eq}
use Rattle.std.proofs.lemmas.List.{get_or-set_same, get_or-set_other}
use Rattle.dg_glob.specs.Marks.{marked}

pub marked_same : (ws : List ℕ) (i v : ℕ) → i / 64 < length ws → marked (set ws (i / 64) v) i ≡ (bit_at v (i % 64) == 1)
marked_same ws i v h = ap (λ x. bit_at x (i % 64) == 1) (get_or-set_same ws (i / 64) v 0 h)

-- another mark stays, if the word that is written keeps its other bits
pub marked_other : (ws : List ℕ) (p i v : ℕ) → p / 64 < length ws → ((k : ℕ) → k < 64 → k ≢ p % 64 → bit_at v k ≡ bit_at (get_or ws (p / 64) 0) k) → i ≢ p → marked (set ws (p / 64) v) i ≡ marked ws i
marked_other ws p i v h keeps other = ⊎_elim
    (λ same.
    let bit : i % 64 ≢ p % 64 = λ e. other (omega arith) in
    let word : get_or (set ws (p / 64) v) (i / 64) 0 ≡ v = ap (λ k. get_or (set ws (p / 64) v) k 0) same ∙ get_or-set_same ws (p / 64) v 0 h in
    ap (λ x. bit_at x (i % 64) == 1) word ∙ ap (λ x. x == 1) (keeps (i % 64) (omega arith) bit ∙ ap (λ k. bit_at (get_or ws k 0) (i % 64)) (sym same)))
    (λ different. ap (λ x. bit_at x (i % 64) == 1) (get_or-set_other ws (p / 64) (i / 64) v 0 different))
    (cases_eq (i / 64) (p / 64))

pub one_is_on : (x : ℕ) (on : Bool) → x ≡ 1 → on ≡ true → (x == 1) ≡ on
one_is_on x on h e = eq-eqb x 1 h ∙ sym e

pub zero_is_off : (x : ℕ) (on : Bool) → x ≡ 0 → on ≡ false → (x == 1) ≡ on
zero_is_off x on h e = ap (λ y. y == 1) h ∙ sym e
