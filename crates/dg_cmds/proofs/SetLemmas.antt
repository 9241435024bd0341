-- The marks of a set of bytes.
use Rattle.std.proofs.Common.{◌≡◌, ℕ, zero, suc, ◌+◌, ◌<◌, Bool, true, false, ◌||◌, ◌==◌, List, length, get_or, set, drop, replicate, refl, sym, ap, ◌∙◌, inl, inr}
use Rattle.std.proofs.lemmas.Bool.{cases_Bool, eqb-true, eqb-false}
use Rattle.std.proofs.lemmas.List.{get_or-set_same, get_or-set_other, drop_more}
use Rattle.dg_cmds.specs.Bytes.{member}

unmarked : (n b : ℕ) → get_or (replicate n false) b false ≡ false
unmarked zero b = refl
unmarked (suc n) zero = refl
unmarked (suc n) (suc b) = unmarked n b

pub marks-none : (n b : ℕ) (r : Bool) → (get_or (replicate n false) b false || r) ≡ r
marks-none n b r = ap (λ (v : Bool). v || r) (unmarked n b)

or-true : (a : Bool) → (a || true) ≡ true
or-true true = refl
or-true false = refl

mark : (marks : List Bool) (x b : ℕ) (r : Bool) → x < length marks → (get_or (set marks x true) b false || r) ≡ (get_or marks b false || ((x == b) || r))
mark marks x b r l =
    elim (cases_Bool (x == b)) [
      | inl hit ↦ ap (λ (v : Bool). v || r) (ap (λ (k : ℕ). get_or (set marks x true) k false) (sym (eqb-true x b hit)) ∙ get_or-set_same marks x true false l)
          ∙ sym (ap (λ (v : Bool). get_or marks b false || (v || r)) hit ∙ or-true (get_or marks b false))
      | inr miss ↦ ap (λ (v : Bool). v || r) (get_or-set_other marks x b true false (λ e. eqb-false x b miss (sym e)))
          ∙ sym (ap (λ (v : Bool). get_or marks b false || (v || r)) miss)
    ]

pub marks-more : (marks : List Bool) (bytes : List ℕ) (i b : ℕ) → i < length bytes → get_or bytes i 0 < length marks
    → (get_or marks b false || member (drop i bytes) b) ≡ member bytes b
    → (get_or (set marks (get_or bytes i 0) true) b false || member (drop (i + 1) bytes) b) ≡ member bytes b
marks-more marks bytes i b l fits h =
    mark marks (get_or bytes i 0) b (member (drop (i + 1) bytes) b) fits
    ∙ (ap (λ (rest : List ℕ). get_or marks b false || member rest b) (sym (drop_more bytes i 0 l)) ∙ h)
