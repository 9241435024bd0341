-- Bindings and links, one after another.
use Rattle.std.proofs.Common.{◌≡◌, ℕ, ◌+◌, ◌<◌, ◌≤◌, Bool, true, false, List, [], ◌∷◌, ◌++◌, drop, get_or, length, ap, sym, ◌∙◌, refl, arith}
use Rattle.std.proofs.lemmas.Bool.Decides.{nat_tests}
use Rattle.std.proofs.lemmas.List.{drop_more, drop_all}
use Rattle.std.specs.Prelude.{nat_lt}
use Rattle.dg_scope.specs.Scopes.{Variables, with_value}
use Rattle.dg_language.specs.declared.procedure.Binding.{Binding}
use Rattle.dg_language.specs.Procedures.{longest}
use Rattle.dg_language.specs.State.{State, bound, linked}
use Rattle.dg_language.specs.Variables.{all_linked}

-- the last binding is the first that is made
pub bound-last : (bs : List Binding) (b : Binding) (v : Variables) → bound (bs ++ b ∷ []) v ≡ bound bs (with_value v b.name b.value)
bound-last [] b v = refl
bound-last (c ∷ bs) b v = ap (λ u. with_value u c.name c.value) (bound-last bs b v)

pub linked-next : (ns : List (List ℕ)) (i : ℕ) (n : List ℕ) (s : State) → i < length ns → n ≡ get_or ns i n → all_linked (drop i ns) s ≡ all_linked (drop (i + 1) ns) (linked n s)
linked-next ns i n s l e = ap (λ xs. all_linked xs s) (drop_more ns i n l) ∙ ap (λ x. all_linked (drop (i + 1) ns) (linked x s)) (sym e)

pub linked-past : (ns : List (List ℕ)) (i : ℕ) (s : State) → length ns ≤ i → all_linked (drop i ns) s ≡ s
linked-past ns i s l = ap (λ xs. all_linked xs s) (drop_all i ns l)

within-both : (t : Bool) (a l n : ℕ) → nat_lt l a ≡ t → elim t as (λ _. ℕ) [ true ↦ a | false ↦ l ] ≤ n → (a ≤ n) × (l ≤ n)
within-both true a l n e h = (h, grind (arith, nat_tests))
within-both false a l n e h = (grind (arith, nat_tests), h)

within-longer : (t : Bool) (a l n : ℕ) → a ≤ n → l ≤ n → elim t as (λ _. ℕ) [ true ↦ a | false ↦ l ] ≤ n
within-longer true a l n h g = h
within-longer false a l n h g = g

-- where no value is longer than this, neither are the last one and those before it
pub longest-last : (bs : List Binding) (b : Binding) (n : ℕ) → longest (bs ++ b ∷ []) ≤ n → (length b.value ≤ n) × (longest bs ≤ n)
longest-last [] b n h = within-both (nat_lt 0 (length b.value)) (length b.value) 0 n refl h
longest-last (c ∷ bs) b n h =
    let both = within-both (nat_lt (longest (bs ++ b ∷ [])) (length c.value)) (length c.value) (longest (bs ++ b ∷ [])) n refl h in
    let last = longest-last bs b n both.1 in
    (last.0, within-longer (nat_lt (longest bs) (length c.value)) (length c.value) (longest bs) n both.0 last.1)
