-- Questions that were answered, and those that were not.
use Rattle.std.proofs.Common.{◌≡◌, Bool, true, false, List, [], ◌∷◌, ◌++◌, refl, ap, sym, ◌∙◌}
use Rattle.std.specs.Prelude.{Option, Some, None}
use Rattle.std.specs.Cmp.Lexicographic.{nat_list_eq_equiv, same_text}
use Rattle.dg_world.specs.declared.question.Question.{Question}
use Rattle.dg_world.specs.declared.question.Question.TheVariants.{File, Tool, Triplet, Variable, Entry, Pattern}
use Rattle.dg_world.specs.declared.question.System.{System}
use Rattle.dg_world.specs.declared.question.System.TheVariants.{Target, Host, Build}
use Rattle.dg_world.specs.declared.question.Answer.{Answer}
use Rattle.dg_world.specs.declared.question.Read.{Read}
use Rattle.dg_world.specs.Question.{same_system, same_question}
use Rattle.dg_language.proofs.Places.{same_place-refl, same_place-true}
use Rattle.dg_language.specs.Play.{Play, Asks, plain, lookup}
use Rattle.dg_language.specs.State.{State, learn}
use Rattle.dg_language.specs.Evaluation.{Ending, ask, hear}

same_system-refl : (m : System) → same_system m m ≡ true
same_system-refl Target = refl
same_system-refl Host = refl
same_system-refl Build = refl

same_system-true : (m n : System) → same_system m n ≡ true → m ≡ n
same_system-true Target Target e = refl
same_system-true Host Host e = refl
same_system-true Build Build e = refl
same_system-true _ _ e = cc

pub same_question-refl : (q : Question) → same_question q q ≡ true
same_question-refl (File n) = nat_list_eq_equiv.refl n
same_question-refl Tool = refl
same_question-refl (Triplet m) = same_system-refl m
same_question-refl (Variable n) = nat_list_eq_equiv.refl n
same_question-refl (Entry p) = same_place-refl p
same_question-refl (Pattern t) = nat_list_eq_equiv.refl t

pub same_question-true : (p q : Question) → same_question p q ≡ true → p ≡ q
same_question-true (File m) (File n) e = ap File (same_text m n (sym e))
same_question-true Tool Tool e = refl
same_question-true (Triplet m) (Triplet n) e = ap Triplet (same_system-true m n e)
same_question-true (Variable m) (Variable n) e = ap Variable (same_text m n (sym e))
same_question-true (Entry p) (Entry q) e = ap Entry (same_place-true p q e)
same_question-true (Pattern m) (Pattern n) e = ap Pattern (same_text m n (sym e))
same_question-true _ _ e = cc

pub lookup-learned : (q : Question) (a : Answer) (rs : List Read) → lookup q rs ≡ None
    → lookup q (rs ++ record { question = q; answer = a } ∷ []) ≡ Some a
unfolding lookup
lookup-learned q a [] e = ap (λ b. elim b [ true ↦ Some a | false ↦ None ]) (same_question-refl q)
lookup-learned q a (r ∷ rs) e = go (same_question r.question q) e (lookup-learned q a rs)
  where
    go : (b : Bool) → (elim b as (λ _. Option Answer) [ true ↦ Some r.answer | false ↦ lookup q rs ]) ≡ None
        → (lookup q rs ≡ None → lookup q (rs ++ record { question = q; answer = a } ∷ []) ≡ Some a)
        → (elim b as (λ _. Option Answer) [ true ↦ Some r.answer | false ↦ lookup q (rs ++ record { question = q; answer = a } ∷ []) ]) ≡ Some a
    go true h ih = cc
    go false h ih = ih h

pub lookup-more : (q : Question) (rs ts : List Read) (a : Answer) → lookup q rs ≡ Some a → lookup q (rs ++ ts) ≡ Some a
unfolding lookup
lookup-more q [] ts a h = cc
lookup-more q (r ∷ rs) ts a h = go (same_question r.question q) h (lookup-more q rs ts a)
  where
    go : (b : Bool) → (elim b as (λ _. Option Answer) [ true ↦ Some r.answer | false ↦ lookup q rs ]) ≡ Some a
        → (lookup q rs ≡ Some a → lookup q (rs ++ ts) ≡ Some a)
        → (elim b as (λ _. Option Answer) [ true ↦ Some r.answer | false ↦ lookup q (rs ++ ts) ]) ≡ Some a
    go true e ih = e
    go false e ih = ih e

pub ask-known : (q : Question) (a : Answer) (s : State) (k : Answer → State → Play Ending) → lookup q s.known ≡ Some a → ask q s k ≡ k a s
unfolding ask
ask-known q a s k e = ap (λ o. hear o q s k) e

pub ask-asks : (q : Question) (s : State) (k : Answer → State → Play Ending) → lookup q s.known ≡ None
    → ask q s k ≡ Asks (plain q) (λ a. ask q (learn q a s) k)
unfolding ask learn
ask-asks q s k e =
    ap (λ o. hear o q s k) e
    ∙ ap (Asks (plain q)) (λ i a. sym (ap (λ o. hear o q (learn q a s) k) (lookup-learned q a s.known e)) i)
