-- Procedures: the fields of their parameters, and what their calls bind, one after another.
use Rattle.std.proofs.Common.{◌≡◌, ℕ, ◌+◌, ◌<◌, ◌≤◌, Bool, true, false, List, [], ◌∷◌, ◌++◌, ◌||◌, append_assoc, ◌≢◌, get_or, drop, length, ap, sym, refl, ◌∙◌, arith}
use Rattle.std.proofs.lemmas.List.{drop_more, drop_all, append-nil}
use Rattle.std.proofs.lemmas.Bool.Decides.{nat_tests}
use Rattle.std.specs.Prelude.{Option, Some, None, Result, Ok, Err, nat_lt, codes}
use Rattle.std.specs.List.{list_any}
use Rattle.dg_lists.specs.Canonical.{text_of_list}
use Rattle.dg_language.specs.declared.procedure.Binding.{Binding}
use Rattle.dg_language.specs.declared.procedure.Parameter.{Parameter}
use Rattle.dg_language.specs.Play.{Play}
use Rattle.dg_language.specs.State.{State}
use Rattle.dg_language.specs.Evaluation.{Ending, cut, within, list_in}
use Rattle.dg_language.specs.Procedures.{parameters, read_parameter, parameter_of, and_parameter, bindings, binding, bind_next, and_binding, value_for, collects, longest}

-- parameters that were read, before those that are read now
abbrev pub behind_parameters : List Parameter → Result (List Parameter) (List ℕ) → Result (List Parameter) (List ℕ)
behind_parameters made (Err why) = Err why
behind_parameters made (Ok ps) = Ok (made ++ ps)

-- what was bound, before what is bound now
abbrev pub behind_bindings : List Binding → Option (List Binding) → Option (List Binding)
behind_bindings made None = None
behind_bindings made (Some bs) = Some (made ++ bs)

behind-parameter : (made : List Parameter) (p : Parameter) (r : Result (List Parameter) (List ℕ))
    → behind_parameters (made ++ p ∷ []) r ≡ behind_parameters made (and_parameter (Ok p) r)
behind-parameter made p (Err why) = refl
behind-parameter made p (Ok ps) = ap (λ x. Ok x) (append_assoc made (p ∷ []) ps)

parameters-at : (texts : List (List ℕ)) (i : ℕ) (t : List ℕ) → i < length texts → t ≡ get_or texts i t
    → parameters (drop i texts) ≡ and_parameter (read_parameter t (list_in t)) (parameters (drop (i + 1) texts))
unfolding parameters
parameters-at texts i t l e = ap parameters (drop_more texts i t l) ∙ ap (λ x. and_parameter (read_parameter x (list_in x)) (parameters (drop (i + 1) texts))) (sym e)

pub parameters-past : (made : List Parameter) (texts : List (List ℕ)) (i : ℕ) → length texts ≤ i
    → behind_parameters made (parameters (drop i texts)) ≡ Ok made
unfolding parameters
parameters-past made texts i l = ap (λ x. behind_parameters made (parameters x)) (drop_all i texts l) ∙ ap (λ x. Ok x) (append-nil made)

module _ (made : List Parameter) (texts : List (List ℕ)) (i : ℕ) (t : List ℕ) (l : i < length texts) (e : t ≡ get_or texts i t) where
  -- a text is no list
  pub parameters-unreadable : (why : List ℕ) → list_in t ≡ Err why → behind_parameters made (parameters (drop i texts)) ≡ Err why
  parameters-unreadable why h =
      ap (behind_parameters made) (parameters-at texts i t l e)
      ∙ ap (λ r. behind_parameters made (and_parameter (read_parameter t r) (parameters (drop (i + 1) texts)))) h

  -- a text is a list, but no parameter
  pub parameters-bad : (fields : List (List ℕ)) (why : List ℕ) → list_in t ≡ Ok fields → parameter_of t fields ≡ Err why
      → behind_parameters made (parameters (drop i texts)) ≡ Err why
  parameters-bad fields why h g =
      ap (behind_parameters made) (parameters-at texts i t l e)
      ∙ ap (λ r. behind_parameters made (and_parameter (read_parameter t r) (parameters (drop (i + 1) texts)))) h
      ∙ ap (λ r. behind_parameters made (and_parameter r (parameters (drop (i + 1) texts)))) g

  -- a text is a parameter
  pub parameters-next : (fields : List (List ℕ)) (p : Parameter) → list_in t ≡ Ok fields → parameter_of t fields ≡ Ok p
      → behind_parameters (made ++ p ∷ []) (parameters (drop (i + 1) texts)) ≡ behind_parameters made (parameters (drop i texts))
  parameters-next fields p h g =
      behind-parameter made p (parameters (drop (i + 1) texts))
      ∙ sym
      (ap (behind_parameters made) (parameters-at texts i t l e)
      ∙ ap (λ r. behind_parameters made (and_parameter (read_parameter t r) (parameters (drop (i + 1) texts)))) h
      ∙ ap (λ r. behind_parameters made (and_parameter r (parameters (drop (i + 1) texts)))) g)

behind-binding : (made : List Binding) (b : Binding) (o : Option (List Binding))
    → behind_bindings (made ++ b ∷ []) o ≡ behind_bindings made (and_binding b o)
behind-binding made b None = refl
behind-binding made b (Some bs) = ap (λ x. Some x) (append_assoc made (b ∷ []) bs)

bindings-at : (p : Parameter) (ps : List Parameter) (args : List (List ℕ)) (b : Bool) → collects p ps ≡ b
    → bindings (p ∷ ps) args
    ≡ elim b [ true ↦ Some (binding p.name (text_of_list args) ∷ []) | false ↦ bind_next p (value_for p args) (λ more. bindings ps more) ]
unfolding bindings
bindings-at p ps args b e =
    ap (λ c. elim c as (λ _. Option (List Binding)) [ true ↦ Some (binding p.name (text_of_list args) ∷ []) | false ↦ bind_next p (value_for p args) (λ more. bindings ps more) ]) e

module _ (made : List Binding) (left : List Parameter) (args : List (List ℕ)) (p : Parameter) (ps : List Parameter) (e : left ≡ p ∷ ps) where
  -- the last parameter takes all
  pub bindings-collected : collects p ps ≡ true → behind_bindings made (bindings left args) ≡ Some (made ++ binding p.name (text_of_list args) ∷ [])
  bindings-collected h =
      ap (λ x. behind_bindings made (bindings x args)) e ∙ ap (behind_bindings made) (bindings-at p ps args true h)

  -- a parameter has no value
  pub bindings-without : collects p ps ≡ false → value_for p args ≡ None → behind_bindings made (bindings left args) ≡ None
  bindings-without h g =
      ap (λ x. behind_bindings made (bindings x args)) e
      ∙ ap (behind_bindings made) (bindings-at p ps args false h ∙ ap (λ o. bind_next p o (λ more. bindings ps more)) g)

  -- a parameter has a value
  pub bindings-next : (v : List ℕ) (more : List (List ℕ)) → collects p ps ≡ false → value_for p args ≡ Some (v, more)
      → behind_bindings (made ++ binding p.name v ∷ []) (bindings ps more) ≡ behind_bindings made (bindings left args)
  bindings-next v more h g =
      behind-binding made (binding p.name v) (bindings ps more)
      ∙ sym
      (ap (λ x. behind_bindings made (bindings x args)) e
      ∙ ap (behind_bindings made) (bindings-at p ps args false h ∙ ap (λ o. bind_next p o (λ m. bindings ps m)) g))

-- no parameter is left, and no argument
pub bindings-done : (made : List Binding) (left : List Parameter) (args : List (List ℕ)) → left ≡ [] → args ≡ []
    → behind_bindings made (bindings left args) ≡ Some made
unfolding bindings
bindings-done made left args l h = rw (l, h) (ap (λ x. Some x) (append-nil made))

bindings-more : (made : List Binding) (args : List (List ℕ)) → args ≢ [] → behind_bindings made (bindings [] args) ≡ None
unfolding bindings
bindings-more made [] h = absurd (h refl)
bindings-more made (a ∷ args) h = refl

-- no parameter is left, but an argument
pub bindings-over : (made : List Binding) (left : List Parameter) (args : List (List ℕ)) → left ≡ [] → args ≢ []
    → behind_bindings made (bindings left args) ≡ None
bindings-over made left args l h = rw l (bindings-more made args h)

or-longer : (limit a l : ℕ) (b : Bool) → nat_lt l a ≡ b → (nat_lt limit a || nat_lt limit l) ≡ nat_lt limit (elim b as (λ _. ℕ) [ true ↦ a | false ↦ l ])
or-longer limit a l true e = grind (arith, nat_tests)
or-longer limit a l false e = grind (arith, nat_tests)

-- a value is too long
pub longest-any : (bs : List Binding) → list_any (λ b. nat_lt 1048576 (length b.value)) bs ≡ nat_lt 1048576 (longest bs)
longest-any [] = refl
longest-any (b ∷ bs) =
    ap (λ r. nat_lt 1048576 (length b.value) || r) (longest-any bs)
    ∙ or-longer 1048576 (length b.value) (longest bs) (nat_lt (longest bs) (length b.value)) refl

-- a value of so many bytes is too long
pub within-true : (n : ℕ) (s : State) (p : Play Ending) → nat_lt 1048576 n ≡ true → within n s p ≡ cut (codes "value too long") s
unfolding within
within-true n s p h = ap (λ b. elim b as (λ _. Play Ending) [ true ↦ cut (codes "value too long") s | false ↦ p ]) h

-- and of so many not
pub within-false : (n : ℕ) (s : State) (p : Play Ending) → nat_lt 1048576 n ≡ false → within n s p ≡ p
unfolding within
within-false n s p h = ap (λ b. elim b as (λ _. Play Ending) [ true ↦ cut (codes "value too long") s | false ↦ p ]) h
