-- What comes before the use of a variable.
use Rattle.std.proofs.Common.{◌≡◌, ℕ, ◌<◌, ◌≤◌, Bool, true, false, List, length, ap, sym, ◌∙◌, refl, arith}
use Rattle.std.specs.Prelude.{Option, Some, None, codes, nat_lt}
use Rattle.dg_scope.specs.Scopes.{value_of}
use Rattle.dg_scope.specs.Names.{global_name}
use Rattle.dg_world.specs.declared.question.Question.{Question}
use Rattle.dg_world.specs.declared.question.Question.TheVariants.{Variable}
use Rattle.dg_world.specs.declared.question.Answer.{Answer}
use Rattle.dg_language.specs.Play.{Play, Asks, plain, lookup}
use Rattle.dg_language.specs.State.{State, learn, began, began_with}
use Rattle.dg_language.specs.Evaluation.{Ending, ask, cut, within}
use Rattle.dg_language.specs.Touch.{value_in_use}
use Rattle.dg_language.specs.Variables.{touch, is_to_begin, begin, first_value}
use Rattle.dg_language.proofs.Asking.{ask-known, ask-asks}
use Rattle.std.proofs.lemmas.Bool.{lt-ltb}

nat_lt-false : (a b : ℕ) → b ≤ a → nat_lt a b ≡ false
nat_lt-false a b h = grind arith

pub within-short : (n : ℕ) (s : State) (p : Play Ending) → n ≤ 1048576 → within n s p ≡ p
unfolding within
within-short n s p h =
    ap (λ b. elim b as (λ _. Play Ending) [ true ↦ cut (codes "value too long") s | false ↦ p ]) (nat_lt-false 1048576 n h)

pub within-long : (n : ℕ) (s : State) (p : Play Ending) → 1048576 < n → within n s p ≡ cut (codes "value too long") s
unfolding within
within-long n s p h =
    ap (λ b. elim b as (λ _. Play Ending) [ true ↦ cut (codes "value too long") s | false ↦ p ]) (lt-ltb 1048576 n h)

module _ (n m : List ℕ) (s : State) (e : m ≡ global_name n) where
  pub touch-free : (b : Bool) → b ≡ is_to_begin n s → b ≡ false → (k : State → Play Ending) → touch n s k ≡ k s
  unfolding touch
  touch-free b h f k =
      ap (λ c. elim c as (λ _. Play Ending) [ true ↦ ask (Variable (global_name n)) s (λ a s'. begin (global_name n) (first_value (global_name n) a) s' k) | false ↦ k s ]) (sym h ∙ f)

  touch-asking : (b : Bool) → b ≡ is_to_begin n s → b ≡ true → (k : State → Play Ending)
      → touch n s k ≡ ask (Variable (global_name n)) s (λ a s'. begin (global_name n) (first_value (global_name n) a) s' k)
  unfolding touch
  touch-asking b h f k =
      ap (λ c. elim c as (λ _. Play Ending) [ true ↦ ask (Variable (global_name n)) s (λ a s'. begin (global_name n) (first_value (global_name n) a) s' k) | false ↦ k s ]) (sym h ∙ f)

  touch-asked : (b : Bool) → b ≡ is_to_begin n s → b ≡ true → (q : Question) (a : Answer) (k : State → Play Ending)
      → touch n (learn q a s) k ≡ ask (Variable (global_name n)) (learn q a s) (λ a' s'. begin (global_name n) (first_value (global_name n) a') s' k)
  unfolding touch learn
  touch-asked b h f q a k =
      ap (λ c. elim c as (λ _. Play Ending) [ true ↦ ask (Variable (global_name n)) (learn q a s) (λ a' s'. begin (global_name n) (first_value (global_name n) a') s' k) | false ↦ k (learn q a s) ]) (sym h ∙ f)

  pub touch-asks : (b : Bool) → b ≡ is_to_begin n s → b ≡ true → lookup (Variable m) s.known ≡ None → (k : State → Play Ending)
      → touch n s k ≡ Asks (plain (Variable m)) (λ a. touch n (learn (Variable m) a s) k)
  touch-asks b h f none k =
      rw e
      (touch-asking b h f k
      ∙ ask-asks (Variable (global_name n)) s (λ a s'. begin (global_name n) (first_value (global_name n) a) s' k) (rw e at none)
      ∙ ap (Asks (plain (Variable (global_name n)))) (λ i a. sym (touch-asked b h f (Variable (global_name n)) a k) i))

  pub touch-known : (b : Bool) → b ≡ is_to_begin n s → b ≡ true → (a : Answer) → lookup (Variable m) s.known ≡ Some a → (k : State → Play Ending)
      → touch n s k ≡ begin m (first_value m a) s k
  touch-known b h f a some k =
      rw e
      (touch-asking b h f k
      ∙ ask-known (Variable (global_name n)) a s (λ a' s'. begin (global_name n) (first_value (global_name n) a') s' k) (rw e at some))

  -- it begins without a value
  pub touch-begins : (b : Bool) → b ≡ is_to_begin n s → b ≡ true → (a : Answer) → lookup (Variable m) s.known ≡ Some a → (g : List ℕ) → g ≡ m → first_value g a ≡ None
      → (k : State → Play Ending) → touch n s k ≡ k (began g s)
  touch-begins b h f a some g ge none k = rw ge (touch-known b h f a some k ∙ ap (λ o. begin m o s k) (rw ge at none))

  -- it begins with a value
  pub touch-begins-with : (b : Bool) → b ≡ is_to_begin n s → b ≡ true → (a : Answer) → lookup (Variable m) s.known ≡ Some a → (g : List ℕ) → g ≡ m
      → (v : List ℕ) → first_value g a ≡ Some v → length v ≤ 1048576 → (k : State → Play Ending) → touch n s k ≡ k (began_with g v s)
  touch-begins-with b h f a some g ge v is short k =
      rw ge (touch-known b h f a some k ∙ ap (λ o. begin m o s k) (rw ge at is) ∙ within-short (length v) s (k (began_with m v s)) short)

  -- its value is too long
  pub touch-too-long : (b : Bool) → b ≡ is_to_begin n s → b ≡ true → (a : Answer) → lookup (Variable m) s.known ≡ Some a → (g : List ℕ) → g ≡ m
      → (v : List ℕ) → first_value g a ≡ Some v → 1048576 < length v → (k : State → Play Ending) → touch n s k ≡ cut (codes "value too long") s
  touch-too-long b h f a some g ge v is long k =
      touch-known b h f a some k ∙ ap (λ o. begin m o s k) (rw ge at is) ∙ within-long (length v) s (k (began_with m v s)) long

-- a variable whose value is in use is ready as it stands
pub in-use : (n : List ℕ) (s : State) (v : List ℕ) → value_in_use n s ≡ Some v
    → ((k : State → Play Ending) → touch n s k ≡ k s) × (value_of s.variables n ≡ Some v)
in-use n s v e = step (is_to_begin n s) refl e
  where
    step : (b : Bool) → b ≡ is_to_begin n s → elim b as (λ _. Option (List ℕ)) [ true ↦ None | false ↦ value_of s.variables n ] ≡ Some v
        → ((k : State → Play Ending) → touch n s k ≡ k s) × (value_of s.variables n ≡ Some v)
    step true b h = cc
    step false b h = (touch-free n (global_name n) s refl false b refl, h)
