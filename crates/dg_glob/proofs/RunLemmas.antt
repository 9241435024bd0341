-- A run of items, one item further, and where it stops.
use Rattle.std.proofs.Common.{◌≡◌, ◌+◌, ℕ, Bool, true, IsTrue, ◌&&◌, List, [], ◌∷◌, Option, Some, None, IfNone, IfSome, drop, sym, ap, ◌∙◌, subst, arith}
use Rattle.std.proofs.lemmas.List.{drop-drop}
use Rattle.dg_glob.specs.Items.{after_item, IsSteady}
use Rattle.dg_glob.specs.Search.{Leaves, IsRun}
use Rattle.dg_glob.proofs.ItemLemmas.{after_item_shorter}
use Rattle.dg_glob.proofs.LeavesLemmas.{IsAtItem, item_goes, leaves_item, item_passes, item_stops, item_wants}

pub if_none : {A : Type 0} (o : Option A) (P : Type 0) → P → IfNone o P
if_none None P h = h
if_none (Some a) P h = tt

both_true : (a b : Bool) → a && b ≡ true → (a ≡ true) × (b ≡ true)
both_true a b e = grind arith

module _ (P T p t : List ℕ) (s : Bool) (run : IsRun P T s p t) (at : IsAtItem p) where
  pub run_goes : (q u : List ℕ) (c : ℕ) (b : Bool) → t ≡ c ∷ u → after_item p c ≡ Some q → (IsTrue b → IsSteady p) → IsRun P T (s && b) q u
  run_goes q u c b split step steady = record {
    passed = run.passed + 1;
    left = ap (drop 1) (sym split ∙ run.left) ∙ drop-drop 1 run.passed T;
    shorter = let h = after_item_shorter p q c step in let g = run.shorter in omega arith;
    forward = λ r l. item_goes p q c u r at step (subst (λ x. Leaves p x r) split (run.forward r l));
    back = λ r l. run.back r (subst (λ x. Leaves p x r) (sym split) (leaves_item p q c u r step l));
    steadily = λ holds x r l.
        let parts = both_true s b holds in
        subst (λ y. Leaves q y r) (drop-drop 1 run.passed x) (item_passes p q c at (steady parts.1) step (drop run.passed x) r (run.steadily parts.0 x r l));
  }

  pub run_stops : (u : List ℕ) (c : ℕ) → t ≡ c ∷ u → after_item p c ≡ None → (r : List ℕ) → Leaves P T r → ⊥
  run_stops u c split step r l = item_stops p c u r at step (subst (λ x. Leaves p x r) split (run.forward r l))

  pub run_wants : t ≡ [] → (r : List ℕ) → Leaves P T r → ⊥
  run_wants split r l = item_wants p r at (subst (λ x. Leaves p x r) split (run.forward r l))

-- a pattern that is not at its end nor at a star is at an item
pub at_item : (p q : List ℕ) (x : ℕ) → p ≡ x ∷ q → (x ≡ 42 → ⊥) → IsAtItem p
at_item p q x is other = subst IsAtItem (sym is) other

pub if_some : {A : Type 0} (o : Option A) (P Q : A → Type 0) → ((x : A) → P x → Q x) → IfSome o P → IfSome o Q
if_some None P Q f h = tt
if_some (Some x) P Q f h = f x h

pub if_none_so : {A : Type 0} (o : Option A) (P Q : Type 0) → (P → Q) → IfNone o P → IfNone o Q
if_none_so None P Q f h = f h
if_none_so (Some x) P Q f h = tt
