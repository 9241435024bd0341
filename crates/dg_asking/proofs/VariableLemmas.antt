-- The commands on variables.
use Rattle.std.proofs.Common.{◌≡◌, ◌≢◌, ◌<◌, ◌≤◌, ℕ, ◌+◌, length, take, get_or, append_assoc, List, [], ◌∷◌, ◌++◌, ap, sym, ◌∙◌, refl, true≢false}
use Rattle.std.proofs.lemmas.List.{take_more, append-nil}
use Rattle.std.proofs.lemmas.List.Folds.{concat-append}
use Rattle.std.specs.Prelude.{Bool, true, false, Some, None, Ok, is_some, nat_eq, not, codes}
use Rattle.std.specs.Cmp.Lexicographic.{pointwise}
use Rattle.std.specs.List.{concat}
use Rattle.dg_lists.specs.Canonical.{text_of_list}
use Rattle.dg_lists.specs.Elements.{elements_of}
use Rattle.dg_expr.specs.Truth.{truth_text}
use Rattle.dg_scope.specs.Scopes.{value_of}
use Rattle.dg_language.specs.declared.code.Code.TheVariants.{Done}
use Rattle.dg_language.specs.Play.{Play}
use Rattle.dg_language.specs.State.{State, assigned, linked, unassigned}
use Rattle.dg_language.specs.Evaluation.{Ending, Then, fail, list_in, or_message, wrong_count}
use Rattle.dg_language.specs.Arguments.{on, only}
use Rattle.dg_language.specs.Variables.{touch, all_linked, unset_one, read_variable, set_of, store, given, cannot_read, cannot_unset, append_elements, add_number, addend, info_of, or_empty, with_appended, do_set, do_append, do_info, do_lappend, do_incr}
use Rattle.dg_language.proofs.TouchLemmas.{within-short}
use Rattle.dg_asking.specs.declared.attempt.AttemptEnd.TheVariants.{Value, Fails}
use Rattle.dg_asking.specs.Attempts.{EndsAs, SpendsNothing}

-- ---- the words of the commands

pub set-none : (args : List (List ℕ)) → args ≡ [] → do_set args ≡ fail (wrong_count (codes "set"))
unfolding do_set
set-none args e = rw e refl

pub append-none : (args : List (List ℕ)) → args ≡ [] → do_append args ≡ fail (wrong_count (codes "append"))
unfolding do_append
append-none args e = rw e refl

pub lappend-none : (args : List (List ℕ)) → args ≡ [] → do_lappend args ≡ fail (wrong_count (codes "lappend"))
unfolding do_lappend
lappend-none args e = rw e refl

pub incr-none : (args : List (List ℕ)) → args ≡ [] → do_incr args ≡ fail (wrong_count (codes "incr"))
unfolding do_incr
incr-none args e = rw e refl

pub info-none : (args : List (List ℕ)) → args ≡ [] → do_info args ≡ fail (wrong_count (codes "info"))
unfolding do_info
info-none args e = rw e refl

-- the value of a variable, or the error that there is none
abbrev pub given_of : List ℕ → State → Then → Play Ending
given_of n s k = given (value_of s.variables n) n s k

-- whether a variable is set
abbrev pub told_set : List ℕ → State → Then → Play Ending
told_set n s k = k Done (truth_text (is_some (value_of s.variables n))) s

-- a variable gets a value once it can be used
abbrev pub written : List ℕ → List ℕ → State → Then → Play Ending
written n v s k = touch n s (λ t. store n v t k)

miscounted-set : (n : List ℕ) (vs : List (List ℕ)) → vs ≢ [] → only vs ≡ None → set_of n vs ≡ fail (wrong_count (codes "set"))
miscounted-set n [] some e = absurd (some refl)
miscounted-set n (v ∷ []) some e = absurd (cc)
miscounted-set n (v ∷ w ∷ ws) some e = refl

written-set : (n : List ℕ) (vs : List (List ℕ)) (v : List ℕ) → Some v ≡ only vs → set_of n vs ≡ written n v
written-set n [] v e = absurd (cc)
written-set n (w ∷ []) v e = let same : w ≡ v = cc in ap (written n) same
written-set n (w ∷ x ∷ ws) v e = absurd (cc)

is-other : (b : Bool) → true ≡ not b → b ≡ false
is-other true h = h
is-other false h = refl

is-same : (b : Bool) → false ≡ not b → b ≡ true
is-same true h = refl
is-same false h = h

module _ (args : List (List ℕ)) (n : List ℕ) (vs : List (List ℕ)) (e : args ≡ n ∷ vs) where
  pub set-reads : vs ≡ [] → do_set args ≡ read_variable n
  unfolding do_set
  set-reads h = rw (e, h) refl

  pub set-miscounted : vs ≢ [] → only vs ≡ None → do_set args ≡ fail (wrong_count (codes "set"))
  unfolding do_set
  set-miscounted some h = rw e (miscounted-set n vs some h)

  pub set-writes : (v : List ℕ) → Some v ≡ only vs → do_set args ≡ written n v
  unfolding do_set
  set-writes v h = rw e (written-set n vs v h)

  pub append-of : do_append args ≡ (λ s k. touch n s (λ t. store n (or_empty (value_of t.variables n) ++ concat vs) t k))
  unfolding do_append
  append-of = rw e refl

  pub lappend-of : do_lappend args ≡ (λ s k. touch n s (λ t. append_elements n (or_empty (value_of t.variables n)) vs t k))
  unfolding do_lappend
  lappend-of = rw e refl

  pub incr-miscounted : addend vs ≡ None → do_incr args ≡ fail (wrong_count (codes "incr"))
  unfolding do_incr
  incr-miscounted h = rw e (ap (λ o. λ (s : State) (k : Then). on o (fail (wrong_count (codes "incr")) s k) (λ x. touch n s (λ t. add_number n x t k))) h)

  pub incr-of : (by : List ℕ) → addend vs ≡ Some by → do_incr args ≡ (λ s k. touch n s (λ t. add_number n by t k))
  unfolding do_incr
  incr-of by h = rw e (ap (λ o. λ (s : State) (k : Then). on o (fail (wrong_count (codes "incr")) s k) (λ x. touch n s (λ t. add_number n x t k))) h)

  pub info-unknown : true ≡ not (pointwise nat_eq n (codes "exists")) → do_info args ≡ fail (codes "unknown subcommand")
  unfolding do_info
  info-unknown h = rw e (ap (λ b. λ (s : State) (k : Then). info_of b vs s k) (is-other (pointwise nat_eq n (codes "exists")) h))

  pub info-miscounted : false ≡ not (pointwise nat_eq n (codes "exists")) → only vs ≡ None → do_info args ≡ fail (wrong_count (codes "info"))
  unfolding do_info
  info-miscounted h g =
      rw e
      (ap (λ b. λ (s : State) (k : Then). info_of b vs s k) (is-same (pointwise nat_eq n (codes "exists")) h)
      ∙ ap (λ o. λ (s : State) (k : Then). on o (fail (wrong_count (codes "info")) s k) (λ x. touch x s (λ t. told_set x t k))) g)

  pub info-tells : (v : List ℕ) → false ≡ not (pointwise nat_eq n (codes "exists")) → only vs ≡ Some v → do_info args ≡ (λ s k. touch v s (λ t. told_set v t k))
  unfolding do_info
  info-tells v h g =
      rw e
      (ap (λ b. λ (s : State) (k : Then). info_of b vs s k) (is-same (pointwise nat_eq n (codes "exists")) h)
      ∙ ap (λ o. λ (s : State) (k : Then). on o (fail (wrong_count (codes "info")) s k) (λ x. touch x s (λ t. told_set x t k))) g)

-- ---- what they come to

pub given-none : (n message : List ℕ) (s : State) → value_of s.variables n ≡ None → message ≡ cannot_read n → EndsAs (given_of n) s s (Fails message)
given-none n message s e h = ((λ k. ap (λ o. given o n s k) e ∙ ap (λ m. fail m s k) (sym h)), (refl, refl, refl))

pub given-some : (n v : List ℕ) (s : State) → value_of s.variables n ≡ Some v → EndsAs (given_of n) s s (Value v)
given-some n v s e = ((λ k. ap (λ o. given o n s k) e), (refl, refl, refl))

pub told-set : (n v : List ℕ) (s : State) → v ≡ truth_text (is_some (value_of s.variables n)) → EndsAs (told_set n) s s (Value v)
told-set n v s e = ((λ k. ap (λ w. k Done w s) (sym e)), (refl, refl, refl))

-- one text more
pub concat-more : (old : List ℕ) (xs : List (List ℕ)) (i : ℕ) (x : List ℕ) → i < length xs → x ≡ get_or xs i x
    → (old ++ concat (take i xs)) ++ x ≡ old ++ concat (take (i + 1) xs)
concat-more old xs i x l e =
    append_assoc old (concat (take i xs)) x
    ∙ ap (λ t. old ++ t)
    (ap (λ t. concat (take i xs) ++ t) (sym (append-nil x)) ∙ sym (concat-append (take i xs) (x ∷ []))
    ∙ ap concat (ap (λ y. take i xs ++ y ∷ []) e ∙ sym (take_more xs i x l)))

-- elements that go behind those of a list, where the whole is not too long
pub elements-stored : (n old : List ℕ) (vs xs : List (List ℕ)) (s : State) (k : Then) → vs ≢ [] → elements_of old ≡ Ok xs
    → length (text_of_list (xs ++ vs)) ≤ 1048576
    → append_elements n old vs s k ≡ k Done (text_of_list (xs ++ vs)) (assigned n (text_of_list (xs ++ vs)) s)
unfolding append_elements list_in store
elements-stored n old [] xs s k some e l = absurd (some refl)
elements-stored n old (v ∷ vs) xs s k some e l =
    ap (λ r. with_appended n old (v ∷ vs) (or_message r) s k) e
    ∙ within-short (length (text_of_list (xs ++ v ∷ vs))) s (k Done (text_of_list (xs ++ v ∷ vs)) (assigned n (text_of_list (xs ++ v ∷ vs)) s)) l

-- a value that is given keeps what is left
pub keeps-assigned : (n v : List ℕ) (s : State) → SpendsNothing s (assigned n v s)
unfolding assigned
keeps-assigned n v s = (refl, refl, refl)

pub elements-grown : (n w : List ℕ) (vs xs : List (List ℕ)) (s t : State) → vs ≢ [] → elements_of (or_empty (value_of s.variables n)) ≡ Ok xs
    → t ≡ assigned n (text_of_list (xs ++ vs)) s → w ≡ text_of_list (xs ++ vs) → length (text_of_list (xs ++ vs)) ≤ 1048576
    → EndsAs (λ u k. append_elements n (or_empty (value_of u.variables n)) vs u k) s t (Value w)
elements-grown n w vs xs s t some e new same short =
    rw (same, new) ((λ k. elements-stored n (or_empty (value_of s.variables n)) vs xs s k some e short), keeps-assigned n (text_of_list (xs ++ vs)) s)

-- and so do names that are linked
pub keeps-linked : (ns : List (List ℕ)) (s : State) → SpendsNothing s (all_linked ns s)
unfolding linked
keeps-linked [] s = (refl, refl, refl)
keeps-linked (n ∷ ns) s = keeps-linked ns (linked n s)

module _ (n : List ℕ) (s t : State) where
  -- a name that is set, or that none misses
  pub unset-passes : (complains was : Bool) (more : State → Play Ending) (k : Then) → (was ≡ true → t ≡ unassigned n s) → (was ≡ false → t ≡ s)
      → (complains ≡ true → was ≡ true) → unset_one complains was n s more k ≡ more t
  unset-passes true true more k set unset p = ap more (sym (set refl))
  unset-passes false true more k set unset p = ap more (sym (set refl))
  unset-passes true false more k set unset p = absurd (true≢false (sym (p refl)))
  unset-passes false false more k set unset p = ap more (sym (unset refl))

  -- a name that is missed
  pub unset-fails : (message : List ℕ) (complains was : Bool) (more : Then → State → Play Ending) → complains ≡ true → was ≡ false
      → was ≡ is_some (value_of s.variables n) → (was ≡ false → t ≡ s) → message ≡ cannot_unset n
      → (k : Then) → unset_one complains (is_some (value_of s.variables n)) n s (more k) k ≡ fail message t k
  unset-fails message complains was more c w is unset e k =
      ap (λ a. unset_one a (is_some (value_of s.variables n)) n s (more k) k) c
      ∙ ap (λ b. unset_one true b n s (more k) k) (sym is ∙ w)
      ∙ ap (λ m. fail m s k) (sym e) ∙ ap (λ u. fail message u k) (sym (unset w))

  pub keeps-unset : (was : Bool) → (was ≡ true → t ≡ unassigned n s) → (was ≡ false → t ≡ s) → SpendsNothing s t
  unfolding unassigned
  keeps-unset true set unset =
      (ap (λ (x : State). x.known) (set refl), ap (λ (x : State). x.steps) (set refl), ap (λ (x : State). x.sessions.used) (set refl))
  keeps-unset false set unset =
      (ap (λ (x : State). x.known) (unset refl), ap (λ (x : State). x.steps) (unset refl), ap (λ (x : State). x.sessions.used) (unset refl))
