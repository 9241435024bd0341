-- A text many times.
use Rattle.std.proofs.Common.{◌≡◌, ℕ, zero, suc, ◌+◌, ◌-◌, ◌*◌, ◌/◌, ◌<◌, ◌≤◌, List, [], ◌++◌, length, length-append, refl, sym, ap, ◌∙◌, Ok, Err, ⊎_elim, arith}
use Rattle.std.proofs.lemmas.Bool.{cond-true, cond-false, le-leb, lt-leb, cases_lt}
use Rattle.std.proofs.lemmas.List.{append_assoc, append-nil}
use Rattle.std.proofs.Math.Nat.{le-div_iff_mul-le}
use Rattle.std.specs.List.{repeat}
use Rattle.dg_cmds.specs.declared.fault.CmdFault.TheVariants.{TooLong}
use Rattle.dg_cmds.specs.Answers.{limited}

pub repeat-nil : (n : ℕ) → repeat {A = ℕ} n [] ≡ []
repeat-nil zero = refl
repeat-nil (suc n) = repeat-nil n

length-repeat : (n : ℕ) (t : List ℕ) → length (repeat n t) ≡ n * length t
length-repeat zero t = omega arith
length-repeat (suc n) t = length-append t (repeat n t) ∙ (ap (λ (k : ℕ). length t + k) (length-repeat n t) ∙ omega arith)

pub repeat-more : (n i : ℕ) (v t w : List ℕ) → i < n → v ++ repeat (n - i) t ≡ w → (v ++ t) ++ repeat (n - (i + 1)) t ≡ w
repeat-more n i v t w l h =
    append_assoc v t _ ∙ (ap (λ (k : ℕ). v ++ repeat k t) (let e : suc (n - (i + 1)) ≡ n - i = omega arith in e) ∙ h)

pub repeat-end : (n i : ℕ) (v t w : List ℕ) → n ≤ i → v ++ repeat (n - i) t ≡ w → v ≡ w
repeat-end n i v t w l h = sym (append-nil v) ∙ (ap (λ (k : ℕ). v ++ repeat k t) (let e : 0 ≡ n - i = omega arith in e) ∙ h)

pub repeat-fits : (n : ℕ) (t v : List ℕ) → 0 < length t → n ≤ 1048576 / length t → v ≡ repeat n t → limited (repeat n t) ≡ Ok v
unfolding limited
repeat-fits n t v some l e =
    let fits : length (repeat n t) ≤ 1048576 = omega (arith, length-repeat n t, (le-div_iff_mul-le some).0 l) in
    cond-true _ _ _ (le-leb _ _ fits) ∙ ap (λ (x : List ℕ). Ok x) (sym e)

pub repeat-past : (n : ℕ) (t : List ℕ) → 0 < length t → 1048576 / length t < n → limited (repeat n t) ≡ Err TooLong
unfolding limited
repeat-past n t some l =
    let past : 1048576 < length (repeat n t) = omega (arith, length-repeat n t, over) in
    cond-false _ _ _ (lt-leb _ _ past)
  where
    over : 1048576 < n * length t
    over = ⊎_elim (λ h. h) (λ h. let fits : n ≤ 1048576 / length t = (le-div_iff_mul-le some).1 h in absurd (omega arith)) (cases_lt 1048576 (n * length t))

pub limited-nil : limited [] ≡ Ok []
unfolding limited
limited-nil = refl
