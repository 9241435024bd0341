-- Values past the limit.
use Rattle.std.proofs.Common.{◌≡◌, ℕ, ◌≤◌, ◌<◌, false, List, [], ◌∷◌, ◌++◌, ◌+◌, get_or, drop, length, length-append, Ok, Err, sym, ap, ◌∙◌, inl, inr, nat_le, arith}
use Rattle.std.proofs.lemmas.Bool.{cases_Bool, cond-true, cond-false, leb-false, lt-leb}
use Rattle.dg_cmds.specs.declared.fault.CmdFault.{CmdFault}
use Rattle.std.proofs.lemmas.List.{append_assoc, drop_more}
use Rattle.std.specs.List.{flat_map}
use Rattle.dg_cmds.specs.Answers.{Answer, limited}
use Rattle.dg_cmds.specs.Lists.{joined}

ok_err : (v : List ℕ) (f : CmdFault) → (let a : Answer = Ok v in a ≡ Err f) → ⊥
ok_err v f e = cc

pub limited-more : (a b : List ℕ) (f : CmdFault) → limited a ≡ Err f → limited (a ++ b) ≡ Err f
unfolding limited
limited-more a b f e =
    elim (cases_Bool (nat_le (length a) 1048576)) [
      | inl fits ↦ absurd (ok_err a f (sym (cond-true _ _ _ fits) ∙ e))
      | inr past ↦
          let more : nat_le (length (a ++ b)) 1048576 ≡ false = lt-leb _ _ (omega (arith, length-append a b, leb-false _ _ past)) in
          cond-false _ _ _ more ∙ (sym (cond-false _ _ _ past) ∙ e)
    ]

module _ (text between whole : List ℕ) (texts : List (List ℕ)) (i : ℕ) (f : CmdFault) (d : List ℕ) (l : i < length texts) (h : text ++ flat_map (λ y. between ++ y) (drop i texts) ≡ whole) where
  opened : (text ++ between) ++ (get_or texts i d ++ flat_map (λ y. between ++ y) (drop (i + 1) texts)) ≡ whole
  opened =
      append_assoc text between _
      ∙ (ap (λ (t : List ℕ). text ++ t) (sym (append_assoc between (get_or texts i d) _))
      ∙ (ap (λ (ts : List (List ℕ)). text ++ flat_map (λ y. between ++ y) ts) (sym (drop_more texts i d l)) ∙ h))

  pub further-between : limited (text ++ between) ≡ Err f → limited whole ≡ Err f
  further-between e = ap limited (sym opened) ∙ limited-more (text ++ between) _ f e

  pub further-one : limited ((text ++ between) ++ get_or texts i d) ≡ Err f → limited whole ≡ Err f
  further-one e = ap limited (sym opened ∙ sym (append_assoc (text ++ between) (get_or texts i d) _)) ∙ limited-more ((text ++ between) ++ get_or texts i d) _ f e

pub all-first : (text between : List ℕ) (texts : List (List ℕ)) (f : CmdFault) (d : List ℕ) → 1 ≤ length texts → limited (text ++ get_or texts 0 d) ≡ Err f → limited (text ++ joined between texts) ≡ Err f
all-first text between [] f d some e = absurd (omega arith)
all-first text between (x ∷ xs) f d some e = ap limited (sym (append_assoc text x _)) ∙ limited-more (text ++ x) _ f e
