-- The clauses of `if`, and the tests of loops.
use Rattle.std.proofs.Common.{◌≡◌, ◌≢◌, ℕ, suc, zero, ◌-◌, ◌<◌, ◌≤◌, ◌⊎◌, inl, inr, true, false, List, [], ◌∷◌, length, refl, arith}
use Rattle.std.specs.Prelude.{Option}
use Rattle.dg_language.specs.declared.clause.Clause.{Clause}
use Rattle.dg_language.specs.Play.{Ends}
use Rattle.dg_language.specs.State.{State, stepped}
use Rattle.dg_language.specs.Evaluation.{Then, Nested, out_of_steps}
use Rattle.dg_language.specs.Expressions.{calculate, condition, decided}
use Rattle.dg_language.specs.Choosing.{body_if, choose, do_otherwise, repeat}
use Rattle.dg_machine.proofs.MachineLemmas.{tick-step, tick-none}

empty : (xs : List Clause) → length xs ≡ 0 → xs ≡ []
empty [] h = refl
empty (x ∷ xs) h = absurd (omega (arith, h))

-- no clause is left, and one is
module _ (nested : Nested) (left : List Clause) (otherwise : Option (List ℕ)) (s : State) (k : Then) where
  pub choose-none : left ≡ [] → choose nested left otherwise s k ≡ do_otherwise nested otherwise s k
  unfolding choose
  choose-none e = rw e refl

  pub choose-over : length left ≡ 0 → choose nested left otherwise s k ≡ do_otherwise nested otherwise s k
  choose-over h = choose-none (empty left h)

  pub choose-next : (c : Clause) (cs : List Clause) → left ≡ c ∷ cs
      → choose nested left otherwise s k
      ≡ calculate nested c.condition s (decided (λ holds t. elim holds [ true ↦ nested c.body t k | false ↦ choose nested cs otherwise t k ]) k)
  unfolding choose condition
  choose-next c cs e = rw e refl

module _ (nested : Nested) (test : List ℕ) (next : Option (List ℕ)) (body : List ℕ) (s : State) (k : Then) where
  repeat-late : (left : ℕ) → 100000 ≤ s.steps → repeat nested left test next body s k ≡ Ends (out_of_steps s)
  unfolding repeat
  repeat-late zero l = refl
  repeat-late (suc r) l =
      tick-none s (λ t. condition nested test t (λ holds u. body_if holds nested body next (λ w. repeat nested r test next body w k) u k) k) l

  repeat-zero : repeat nested 0 test next body s k ≡ Ends (out_of_steps s)
  unfolding repeat
  repeat-zero = refl

  -- no test is left, or no step
  pub repeat-cut : (left : ℕ) → (left ≡ 0) ⊎ (100000 ≤ s.steps) → repeat nested left test next body s k ≡ Ends (out_of_steps s)
  repeat-cut left (inl e) = rw e repeat-zero
  repeat-cut left (inr l) = repeat-late left l

  -- a test begins
  pub repeat-next : (left : ℕ) → left ≢ 0 → s.steps < 100000
      → repeat nested left test next body s k
      ≡ calculate nested test (stepped s) (decided (λ holds u. body_if holds nested body next (λ w. repeat nested (left - 1) test next body w k) u k) k)
  unfolding repeat condition
  repeat-next zero n l = absurd (n refl)
  repeat-next (suc r) n l =
      let e : suc r - 1 ≡ r = omega arith in
      rw e (tick-step s (λ t. condition nested test t (λ holds u. body_if holds nested body next (λ w. repeat nested r test next body w k) u k) k) l)
