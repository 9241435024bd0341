-- A run between braces goes on by one byte.
use Rattle.std.specs.Prelude.{◌≡◌, ℕ, suc, ◌+◌, ◌-◌, ◌≤◌, List, get_or, refl}
use Rattle.std.proofs.Common.{arith, subst}
use Rattle.dg_lists.specs.declared.kinds.Class.{Class}
use Rattle.dg_lists.specs.declared.kinds.Class.TheVariants as class
use Rattle.dg_lists.specs.Braces.{Continues, IsBracedRun}
use Rattle.dg_lists.specs.Classes.{class_of}

pub one_more : (text : List ℕ) (from n i k m : ℕ) (c : Class) → from ≤ i → IsBracedRun text from n (i - from) k → c ≡ class_of (get_or text i 0) → Continues c k m → IsBracedRun text from n (i + 1 - from) m
one_more text from n i k m c le run e x =
    let there : i ≡ from + (i - from) = omega (arith, le) in
    let more : suc (i - from) ≡ i + 1 - from = omega (arith, le) in
    subst (λ count. IsBracedRun text from n count m) more (k, run, subst (λ j. Continues (class_of (get_or text j 0)) k m) there (subst (λ d. Continues d k m) e x))

pub continues_plain : (c : Class) (k m : ℕ) → m ≡ k → (c ≡ class.Open → ⊥) → (c ≡ class.Close → ⊥) → (c ≡ class.Backslash → ⊥) → Continues c k m
continues_plain class.Open k m e n0 n1 n2 = absurd (n0 refl)
continues_plain class.Close k m e n0 n1 n2 = absurd (n1 refl)
continues_plain class.Backslash k m e n0 n1 n2 = absurd (n2 refl)
continues_plain c k m e n0 n1 n2 = e
