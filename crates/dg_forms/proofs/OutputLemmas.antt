-- The groups of a match, one after another.
use Rattle.std.proofs.Common.{◌≡◌, ℕ, zero, suc, ◌+◌, ◌-◌, ◌<◌, ◌≤◌, List, [], ◌++◌, ◌⊎◌, inl, inr, drop, get_or, length, ap, ◌∙◌, refl, arith}
use Rattle.std.proofs.lemmas.List.{drop_more, drop_all}
use Rattle.std.specs.Prelude.{Option, codes, decimal}
use Rattle.dg_glob.specs.declared.glob.Span.{Span}
use Rattle.dg_language.specs.State.{State, assigned}
use Rattle.dg_language.specs.Expecting.{group_text, out_name, with_groups}

pub groups-next : (bytes : List ℕ) (gs : List (Option Span)) (n : ℕ) (d : Option Span) (s : State) → n < 9 → n < length gs
    → with_groups (9 - n) (n + 1) bytes (drop n gs) s
    ≡ with_groups (9 - (n + 1)) (n + 1 + 1) bytes (drop (n + 1) gs)
    (assigned (out_name (decimal (n + 1) ++ codes ",string")) (group_text bytes (get_or gs n d)) s)
unfolding with_groups
groups-next bytes gs n d s few more =
    let left : 9 - n ≡ suc (9 - (n + 1)) = omega arith in
    ap (λ r. with_groups r (n + 1) bytes (drop n gs) s) left
    ∙ ap (λ xs. with_groups (suc (9 - (n + 1))) (n + 1) bytes xs s) (drop_more gs n d more)

pub groups-past : (bytes : List ℕ) (gs : List (Option Span)) (n : ℕ) (s : State) → (9 ≤ n) ⊎ (length gs ≤ n)
    → with_groups (9 - n) (n + 1) bytes (drop n gs) s ≡ s
unfolding with_groups
groups-past bytes gs n s (inl all) = let none : 9 - n ≡ 0 = omega arith in ap (λ r. with_groups r (n + 1) bytes (drop n gs) s) none
groups-past bytes gs n s (inr past) = ap (λ xs. with_groups (9 - n) (n + 1) bytes xs s) (drop_all n gs past) ∙ empty (9 - n)
  where
    empty : (m : ℕ) → with_groups m (n + 1) bytes [] s ≡ s
    empty zero = refl
    empty (suc m) = refl
