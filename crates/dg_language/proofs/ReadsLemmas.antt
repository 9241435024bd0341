-- A map from questions to their answers, as the list of what was read.
use Rattle.std.proofs.Common.{◌≡◌, ◌∙◌, ℕ, zero, suc, Bool, true, false, cond, List, [], ◌∷◌, ◌++◌, append_assoc, append-nil, refl, ap, sym, subst, map}
use Rattle.std.proofs.lemmas.Bool.{and_parts, and_from}
use Rattle.std.specs.Prelude.{Option, Some, None, is_none}
use Rattle.std.specs.List.{find, slice_get}
use Rattle.std.specs.Option.{option_map}
use Rattle.std.specs.Map as entries
use Rattle.std.specs.Cmp.Lexicographic.{nat_list_eq_equiv}
use Rattle.dg_world.specs.declared.question.Question.{Question}
use Rattle.dg_world.specs.declared.question.Question.TheVariants.{File, Tool, Triplet, Variable, Entry, Pattern}
use Rattle.dg_world.specs.declared.question.System.{System}
use Rattle.dg_world.specs.declared.question.System.TheVariants.{Target, Host, Build}
use Rattle.dg_world.specs.declared.question.Answer.{Answer}
use Rattle.dg_world.specs.declared.question.Read.{Read}
use Rattle.dg_world.specs.contracts.question.SystemPartialEq.TheImpl as derived_of_system
use Rattle.dg_world.specs.contracts.question.QuestionPartialEq.TheImpl as derived
use Rattle.dg_world.specs.Question.{same_system, same_question}
use Rattle.indexmap.specs.IndexMap.{insert_entry}
use Rattle.dg_language.specs.Play.{lookup}
use Rattle.dg_language.specs.Row.{are_new}
use Rattle.dg_language.proofs.Asking.{lookup-learned, lookup-more}
use Rattle.dg_language.proofs.Places.{equal_place}

-- a question and its answer are a read
abbrev pub read_of : Question × Answer → Read
read_of e = record { question = e.0; answer = e.1 }

equal_system : (m n : System) → (derived_of_system.ghosts).eq m n ≡ same_system n m
equal_system Target Target = refl
equal_system Host Host = refl
equal_system Build Build = refl
equal_system _ _ = refl

-- the map's keys are equal where they are the same question
equal_same : (p q : Question) → (derived.ghosts).eq p q ≡ same_question q p
equal_same (File m) (File n) = nat_list_eq_equiv.symm m n
equal_same Tool Tool = refl
equal_same (Triplet m) (Triplet n) = equal_system m n
equal_same (Variable m) (Variable n) = nat_list_eq_equiv.symm m n
equal_same (Entry p) (Entry q) = equal_place p q
equal_same (Pattern m) (Pattern n) = nat_list_eq_equiv.symm m n
equal_same _ _ = refl

-- what the map has at a question is the first answer to it
pub lookup-reads : (es : List (Question × Answer)) (q : Question) → entries.lookup ((derived.ghosts).eq q) es ≡ lookup q (map read_of es)
unfolding lookup
lookup-reads [] q = refl
lookup-reads (e ∷ es) q = go ((derived.ghosts).eq q e.0) (same_question e.0 q) (equal_same q e.0) (lookup-reads es q)
  where
    go : (b c : Bool) → b ≡ c → entries.lookup ((derived.ghosts).eq q) es ≡ lookup q (map read_of es)
        → cond b (Some e.1) (entries.lookup ((derived.ghosts).eq q) es) ≡ (elim c as (λ _. Option Answer) [ true ↦ Some e.1 | false ↦ lookup q (map read_of es) ])
    go true true k ih = refl
    go false false k ih = ih
    go true false k ih = cc
    go false true k ih = cc

-- the answer to a question that had none goes last
pub insert-reads : (es : List (Question × Answer)) (q : Question) (a : Answer) → lookup q (map read_of es) ≡ None
    → map read_of (insert_entry (derived.ghosts).eq es q a) ≡ map read_of es ++ read_of (q, a) ∷ []
unfolding lookup
insert-reads [] q a h = refl
insert-reads (e ∷ es) q a h = go ((derived.ghosts).eq q e.0) (same_question e.0 q) (equal_same q e.0) h (insert-reads es q a)
  where
    go : (b c : Bool) → b ≡ c → (elim c as (λ _. Option Answer) [ true ↦ Some e.1 | false ↦ lookup q (map read_of es) ]) ≡ None
        → (lookup q (map read_of es) ≡ None → map read_of (insert_entry (derived.ghosts).eq es q a) ≡ map read_of es ++ read_of (q, a) ∷ [])
        → map read_of (cond b ((e.0, a) ∷ es) (e ∷ insert_entry (derived.ghosts).eq es q a)) ≡ read_of e ∷ (map read_of es ++ read_of (q, a) ∷ [])
    go false false k h ih = ap (λ l. read_of e ∷ l) (ih h)
    go true true k h ih = cc
    go true false k h ih = cc
    go false true k h ih = cc

-- the first answer that is found among reads
pub lookup-found : (rs : List Read) (q : Question) → option_map (λ (r : Read). r.answer) (find (λ (r : Read). same_question r.question q) rs) ≡ lookup q rs
unfolding lookup
lookup-found [] q = refl
lookup-found (r ∷ rs) q = go (same_question r.question q) (lookup-found rs q)
  where
    go : (b : Bool) → option_map (λ (x : Read). x.answer) (find (λ (x : Read). same_question x.question q) rs) ≡ lookup q rs
        → option_map (λ (x : Read). x.answer) (cond b (Some r) (find (λ (x : Read). same_question x.question q) rs)) ≡ (elim b as (λ _. Option Answer) [ true ↦ Some r.answer | false ↦ lookup q rs ])
    go true ih = refl
    go false ih = ih

none-found : (o : Option Answer) → is_none o ≡ true → o ≡ None
none-found None h = refl
none-found (Some a) h = cc

-- each of reads that ask something new has the answer to its question
pub lookup-new : (before rs : List Read) (i : ℕ) (r : Read) → are_new before rs ≡ true → slice_get rs i ≡ Some r → lookup r.question (before ++ rs) ≡ Some r.answer
lookup-new before [] i r new get = cc
lookup-new before (x ∷ xs) zero r new get =
    let parts = and_parts (is_none (lookup x.question before)) (are_new (before ++ x ∷ []) xs) new in
    let none = none-found (lookup x.question before) parts.0 in
    let first : lookup x.question ((before ++ x ∷ []) ++ xs) ≡ Some x.answer =
    lookup-more x.question (before ++ x ∷ []) xs x.answer (lookup-learned x.question x.answer before none) in
    let here : lookup x.question (before ++ x ∷ xs) ≡ Some x.answer = rw append_assoc at first in
    let same : x ≡ r = cc in
    subst (λ (y : Read). lookup y.question (before ++ x ∷ xs) ≡ Some y.answer) same here
lookup-new before (x ∷ xs) (suc i) r new get =
    let parts = and_parts (is_none (lookup x.question before)) (are_new (before ++ x ∷ []) xs) new in
    rw append_assoc at (lookup-new (before ++ x ∷ []) xs i r parts.1 get)

-- a read whose question none of them asked goes last
pub are_new-push : (before rs : List Read) (r : Read) → are_new before rs ≡ true → lookup r.question (before ++ rs) ≡ None → are_new before (rs ++ r ∷ []) ≡ true
are_new-push before [] r new none =
    and_from (is_none (lookup r.question before)) true (ap is_none (ap (lookup r.question) (sym (append-nil before)) ∙ none)) refl
are_new-push before (x ∷ xs) r new none =
    let parts = and_parts (is_none (lookup x.question before)) (are_new (before ++ x ∷ []) xs) new in
    and_from (is_none (lookup x.question before)) (are_new (before ++ x ∷ []) (xs ++ r ∷ [])) parts.0
    (are_new-push (before ++ x ∷ []) xs r parts.1 (rw append_assoc none))

-- the next read of those that ask something new
pub next-new : (before rest all rs : List Read) (r : Read) → rest ≡ r ∷ rs → before ++ rest ≡ all → are_new before rest ≡ true
    → (lookup r.question before ≡ None) × ((before ++ r ∷ []) ++ rs ≡ all) × (are_new (before ++ r ∷ []) rs ≡ true)
next-new before rest all rs r is whole new =
    let new' : are_new before (r ∷ rs) ≡ true = subst (λ l. are_new before l ≡ true) is new in
    let whole' : before ++ r ∷ rs ≡ all = subst (λ l. before ++ l ≡ all) is whole in
    let parts = and_parts (is_none (lookup r.question before)) (are_new (before ++ r ∷ []) rs) new' in
    (none-found (lookup r.question before) parts.0, rw append_assoc whole', parts.1)
