-- The commands on the systems' triplets, and on the flags that they decide.
use Rattle.std.proofs.Common.{◌≡◌, ◌≢◌, ℕ, Bool, true, false, List, [], ◌∷◌, ◌++◌, ◌&&◌, ap, sym, ◌∙◌, refl}
use Rattle.std.specs.Prelude.{Some, None, codes, nat_eq}
use Rattle.std.specs.Cmp.Lexicographic.{pointwise}
use Rattle.std.specs.List.{list_any}
use Rattle.dg_world.specs.declared.question.System.{System}
use Rattle.dg_world.specs.declared.question.System.TheVariants.{Target, Build}
use Rattle.dg_world.specs.declared.question.Question.{Question}
use Rattle.dg_world.specs.declared.question.Question.TheVariants.{Triplet}
use Rattle.dg_world.specs.declared.question.Answer.{Answer}
use Rattle.dg_cmds.specs.Places.{glob_matches}
use Rattle.dg_results.specs.declared.call.ResultCall.{ResultCall}
use Rattle.dg_language.specs.declared.code.Code.TheVariants.{Done}
use Rattle.dg_language.specs.declared.command.FlagCommand.{FlagCommand}
use Rattle.dg_language.specs.Play.{Play, Asks, plain, lookup}
use Rattle.dg_language.specs.State.{State, learn, with_call}
use Rattle.dg_language.specs.Evaluation.{Ending, Then, ask, fail, wrong_count}
use Rattle.dg_language.specs.Arguments.{on, only}
use Rattle.dg_expr.specs.Truth.{truth_text}
use Rattle.dg_language.specs.Boards.{do_flag, do_is, do_is_native, flag_call, flagged, is_pattern, triplet_of}
use Rattle.dg_language.proofs.Asking.{ask-known, ask-asks, lookup-more}
use Rattle.dg_asking.specs.Attempts.{SpendsNothing}

-- a command that asks a question first
module _ (q : Question) (g : Answer → State → Then → Play Ending) (f : State → Then → Play Ending) (e : f ≡ (λ s k. ask q s (λ a t. g a t k))) (s : State) (k : Then) where
  pub asks-first : lookup q s.known ≡ None → f s k ≡ Asks (plain q) (λ a. f (learn q a s) k)
  asks-first n = rw e (ask-asks q s (λ a t. g a t k) n)

  pub goes-with : (a : Answer) → lookup q s.known ≡ Some a → f s k ≡ g a s k
  goes-with a h = rw e (ask-known q a s (λ b t. g b t k) h)

-- what is told of a system's triplet
abbrev pub told_place : List ℕ → Answer → State → Then → Play Ending
told_place p a s k = k Done (truth_text (glob_matches p (triplet_of a))) s

pub is-of : (m : System) (name : List ℕ) (args : List (List ℕ)) (p : List ℕ) → Some p ≡ only args
    → do_is m name args ≡ (λ s k. ask (Triplet m) s (λ a t. told_place p a t k))
unfolding do_is
is-of m name args p e =
    ap (λ o. λ s k. on o (fail (wrong_count name) s k) (λ x. ask (Triplet m) s (λ a t. told_place x a t k))) (sym e)

pub is-miscounted : (m : System) (name : List ℕ) (args : List (List ℕ)) → only args ≡ None → do_is m name args ≡ fail (wrong_count name)
unfolding do_is
is-miscounted m name args e =
    ap (λ o. λ (s : State) (k : Then). on o (fail (wrong_count name) s k) (λ x. ask (Triplet m) s (λ a t. told_place x a t k))) e

pub native-miscounted : (args : List (List ℕ)) → args ≢ [] → do_is_native args ≡ fail (wrong_count (codes "isnative"))
unfolding do_is_native
native-miscounted [] some = absurd (some refl)
native-miscounted (a ∷ args) some = refl

-- whether the tests run where they were built
abbrev pub told_native : Answer → Answer → State → Then → Play Ending
told_native b t s k = k Done (truth_text (pointwise nat_eq (triplet_of b) (triplet_of t))) s

abbrev pub native_on : Answer → State → Then → Play Ending
native_on b s k = ask (Triplet Target) s (λ t s'. told_native b t s' k)

pub native-of : (args : List (List ℕ)) → args ≡ [] → do_is_native args ≡ (λ s k. ask (Triplet Build) s (λ b t. native_on b t k))
unfolding do_is_native
native-of args e = rw e refl

known-learned : (q : Question) (a : Answer) (s : State) → (learn q a s).known ≡ s.known ++ record { question = q; answer = a } ∷ []
unfolding learn
known-learned q a s = refl

module _ (args : List (List ℕ)) (e : args ≡ []) (b : Answer) (s : State) (k : Then) where
  pub native-asks : lookup (Triplet Build) s.known ≡ Some b → lookup (Triplet Target) s.known ≡ None
      → do_is_native args s k ≡ Asks (plain (Triplet Target)) (λ a. do_is_native args (learn (Triplet Target) a s) k)
  native-asks h n =
      let known : (a : Answer) → lookup (Triplet Build) (learn (Triplet Target) a s).known ≡ Some b =
      λ a. ap (lookup (Triplet Build)) (known-learned (Triplet Target) a s) ∙ lookup-more (Triplet Build) s.known (record { question = Triplet Target; answer = a } ∷ []) b h in
      goes-with (Triplet Build) native_on (do_is_native args) (native-of args e) s k b h
      ∙ ask-asks (Triplet Target) s (λ t u. told_native b t u k) n
      ∙ ap (Asks (plain (Triplet Target))) (λ i a. sym (goes-with (Triplet Build) native_on (do_is_native args) (native-of args e) (learn (Triplet Target) a s) k b (known a)) i)

  pub native-known : (t : Answer) → lookup (Triplet Build) s.known ≡ Some b → lookup (Triplet Target) s.known ≡ Some t
      → do_is_native args s k ≡ told_native b t s k
  native-known t h g =
      goes-with (Triplet Build) native_on (do_is_native args) (native-of args e) s k b h
      ∙ ask-known (Triplet Target) t s (λ c u. told_native b c u k) g

-- flags
abbrev pub flag_on : FlagCommand → List (List ℕ) → Answer → State → Then → Play Ending
flag_on c args a s k = k Done [] (flagged c (triplet_of a) args s)

pub flag-of : (c : FlagCommand) (args : List (List ℕ)) → list_any is_pattern args ≡ true
    → do_flag c args ≡ (λ s k. ask (Triplet Target) s (λ a t. flag_on c args a t k))
unfolding do_flag
flag-of c args e =
    ap (λ b. λ s k. elim b as (λ _. Play Ending) [ true ↦ ask (Triplet Target) s (λ a t. flag_on c args a t k) | false ↦ k Done [] s ]) e

pub flag-none : (c : FlagCommand) (args : List (List ℕ)) (s : State) (k : Then) → list_any is_pattern args ≡ false → do_flag c args s k ≡ k Done [] s
unfolding do_flag
flag-none c args s k e =
    ap (λ b. elim b as (λ _. Play Ending) [ true ↦ ask (Triplet Target) s (λ a t. flag_on c args a t k) | false ↦ k Done [] s ]) e

pub keeps-called : (c : ResultCall) (s : State) → SpendsNothing s (with_call c s)
unfolding with_call
keeps-called c s = (refl, refl, refl)

-- whether one of the arguments is a pattern that matches
abbrev pub is_flagged : List ℕ → List (List ℕ) → Bool
is_flagged target args = list_any (λ p. is_pattern p && glob_matches p target) args

module _ (c : FlagCommand) (args : List (List ℕ)) (a : Answer) (target : List ℕ) (g : target ≡ triplet_of a) (s : State) (k : Then) where
  pub flag-misses : is_flagged target args ≡ false → flag_on c args a s k ≡ k Done [] s
  flag-misses e =
      ap (λ t. k Done [] (flagged c t args s)) (sym g)
      ∙ ap (λ b. k Done [] (elim b as (λ _. State) [ true ↦ with_call (flag_call c) s | false ↦ s ])) e

  pub flag-hits : is_flagged target args ≡ true → flag_on c args a s k ≡ k Done [] (with_call (flag_call c) s)
  flag-hits e =
      ap (λ t. k Done [] (flagged c t args s)) (sym g)
      ∙ ap (λ b. k Done [] (elim b as (λ _. State) [ true ↦ with_call (flag_call c) s | false ↦ s ])) e
