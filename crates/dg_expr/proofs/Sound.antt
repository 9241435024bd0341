-- What is read is spelled.
use Rattle.std.proofs.Common.{◌≡◌, ℕ, suc, ◌≤◌, ◌<◌, List, [], ◌∷◌, ◌++◌, Bool, true, false, Option, None, Some, refl, sym, ap, ◌∙◌, subst, arith, append_assoc, inl, inr}
use Rattle.std.proofs.lemmas.Bool.{leb-true, leb-false, eqb-true}
use Rattle.std.proofs.lemmas.List.{append-nil}
use Rattle.std.specs.Prelude.{◌⊎◌, if◌then◌else◌}
use Rattle.dg_expr.specs.declared.frame.Frame.{Frame}
use Rattle.dg_expr.specs.declared.frame.Frame.TheVariants as frame
use Rattle.dg_expr.specs.declared.operator.Infix.{Infix}
use Rattle.dg_expr.specs.declared.operator.Infix.TheVariants as between
use Rattle.dg_expr.specs.declared.operator.Prefix.{Prefix}
use Rattle.dg_expr.specs.declared.operator.Prefix.TheVariants as before
use Rattle.dg_expr.specs.declared.token.Token.{Token}
use Rattle.dg_expr.specs.declared.token.Token.TheVariants as token
use Rattle.dg_expr.specs.Grammar.{Phrase, operand, parens, one, two, choice, level_of, infix_of, prefix_of}
use Rattle.dg_expr.specs.Reading.{Place, at_operand, at_operator, behind_paren, branch_ends, condition_taken, finish, is_low, joined, onward, opened, paren_closed, parens_end, read, reduce, step, takes, whole, with_branch}
use Rattle.dg_expr.specs.Tree.{Tree, Operand, One, Two, Choice}
use Rattle.dg_expr.proofs.Levels.{level-le, level-positive, loosen}

-- The tokens that were read are what is open, and a phrase of this level may come.
pub data Open : List Frame → List Token → ℕ → Type 0 where
  nothing : Open [] [] 0
  in_parens : (fs : List Frame) (pre : List Token) (n : ℕ) → Open fs pre n → Open (frame.Paren ∷ fs) (pre ++ token.LeftParen ∷ []) 0
  behind_prefix : (fs : List Frame) (pre : List Token) (n : ℕ) (t : Token) (op : Prefix) → prefix_of t ≡ Some op → Open fs pre n
      → Open (frame.Prefix op ∷ fs) (pre ++ t ∷ []) 13
  behind_infix : (fs : List Frame) (pre ls : List Token) (n : ℕ) (t : Token) (op : Infix) (a : Tree) → infix_of t ≡ Some op → n ≤ level_of op
      → Phrase (level_of op) ls a → Open fs pre n → Open (frame.Infix op a ∷ fs) (pre ++ (ls ++ t ∷ [])) (suc (level_of op))
  behind_condition : (fs : List Frame) (pre cs : List Token) (c : Tree) → Phrase 1 cs c → Open fs pre 0
      → Open (frame.Condition c ∷ fs) (pre ++ (cs ++ token.Question ∷ [])) 0
  behind_branch : (fs : List Frame) (pre cs ls : List Token) (c a : Tree) → Phrase 1 cs c → Phrase 0 ls a → Open fs pre 0
      → Open (frame.Branch c a ∷ fs) (pre ++ (cs ++ token.Question ∷ (ls ++ token.Colon ∷ []))) 0

open-le : (fs : List Frame) (pre : List Token) (n : ℕ) → Open fs pre n → n ≤ 13
open-le _ _ _ nothing = omega arith
open-le _ _ _ (in_parens fs pre n o) = omega arith
open-le _ _ _ (behind_prefix fs pre n t op e o) = omega arith
open-le _ _ _ (behind_infix fs pre ls n t op a e h p o) = omega (arith, level-le op)
open-le _ _ _ (behind_condition fs pre cs c p o) = omega arith
open-le _ _ _ (behind_branch fs pre cs ls c a p q o) = omega arith

-- what takes no operator's tree may hold any phrase
open-loose : (fs : List Frame) (pre : List Token) (n : ℕ) → Open fs pre n → n ≤ 1 → n ≡ 0
open-loose _ _ _ nothing h = refl
open-loose _ _ _ (in_parens fs pre n o) h = refl
open-loose _ _ _ (behind_prefix fs pre n t op e o) h = absurd (omega arith)
open-loose _ _ _ (behind_infix fs pre ls n t op a e l p o) h = absurd (omega (arith, level-positive op))
open-loose _ _ _ (behind_condition fs pre cs c p o) h = refl
open-loose _ _ _ (behind_branch fs pre cs ls c a p q o) h = refl

abbrev Pair : Type 0
Pair = List Frame × Tree

abbrev some_tree : List Frame → Tree → Option (List Frame × Tree)
some_tree fs a = Some (fs, a)

abbrev some_place : List Frame → Option Tree → Option Place
some_place fs a = Some (fs, a)

some-injective : {A : Type 0} (x y : A) → Some x ≡ Some y → x ≡ y
some-injective x y e = cc

same_frames : (fs gs : List Frame) (a b : Tree) → some_tree fs a ≡ some_tree gs b → fs ≡ gs
same_frames fs gs a b e = let p : Pair = (fs, a) in let q : Pair = (gs, b) in ap (λ (x : Pair). x.0) (some-injective p q e)

same_tree : (fs gs : List Frame) (a b : Tree) → some_tree fs a ≡ some_tree gs b → a ≡ b
same_tree fs gs a b e = let p : Pair = (fs, a) in let q : Pair = (gs, b) in ap (λ (x : Pair). x.1) (some-injective p q e)

-- what is open once all that takes a tree has done so
record Reduced (k : ℕ) (gs : List Frame) (b : Tree) (seen : List Token) : Type 0 where
  level : ℕ
  pre : List Token
  ts : List Token
  is_open : Open gs pre level
  low : level ≤ k
  phrase : Phrase k ts b
  is_seen : seen ≡ pre ++ ts

Step : ℕ → Frame → List Frame → Tree → List Frame → Tree → Type 0
Step k f fs a gs b = ((takes k f ≡ true) × (reduce k fs (joined f a) ≡ some_tree gs b)) ⊎ ((takes k f ≡ false) × (some_tree (f ∷ fs) a ≡ some_tree gs b))

reduce-step : (k : ℕ) (f : Frame) (fs : List Frame) (a : Tree) (gs : List Frame) (b : Tree) → reduce k (f ∷ fs) a ≡ some_tree gs b → Step k f fs a gs b
unfolding reduce Step
reduce-step k f fs a gs b e = by_test (takes k f) (is_low (joined f a)) refl e
  where
    by_test : (t u : Bool) → takes k f ≡ t
        → (if t then (if u then reduce k fs (joined f a) else None) else some_tree (f ∷ fs) a) ≡ some_tree gs b → Step k f fs a gs b
    by_test true true h e = inl (h, e)
    by_test true false h e = cc
    by_test false u h e = inr (h, e)

-- nothing takes the tree
stays : (k n j : ℕ) (f : Frame) (fs gs : List Frame) (pre ts : List Token) (a b : Tree) → Open (f ∷ fs) pre n → n ≤ k → k ≤ j → Phrase j ts a
    → some_tree (f ∷ fs) a ≡ some_tree gs b → Reduced k gs b (pre ++ ts)
stays k n j f fs gs pre ts a b o l h p e =
    let q : (f ∷ fs) ≡ gs = same_frames (f ∷ fs) gs a b e in
    let r : a ≡ b = same_tree (f ∷ fs) gs a b e in
    let P : List Frame → Type 0 = λ x. Open x pre n in
    let Q : Tree → Type 0 = λ x. Phrase k ts x in
    record { level = n; pre = pre; ts = ts; is_open = subst P q o; low = l; phrase = subst Q r (loosen j k ts a h p); is_seen = refl }

moved : (k : ℕ) (gs : List Frame) (b : Tree) (s t : List Token) → s ≡ t → Reduced k gs b s → Reduced k gs b t
moved k gs b s t e r = let P : List Token → Type 0 = Reduced k gs b in subst P e r

sound_reduce : (k : ℕ) (fs : List Frame) (pre : List Token) (n : ℕ) (ts : List Token) (a : Tree) (j : ℕ) (gs : List Frame) (b : Tree)
    → Open fs pre n → n ≤ j → k ≤ j → k ≤ 13 → Phrase j ts a → reduce k fs a ≡ some_tree gs b → Reduced k gs b (pre ++ ts)
unfolding reduce Step
sound_reduce k _ _ _ ts a j gs b nothing l h m p e =
    let q : [] ≡ gs = same_frames [] gs a b e in
    let r : a ≡ b = same_tree [] gs a b e in
    let P : List Frame → Type 0 = λ x. Open x [] 0 in
    let Q : Tree → Type 0 = λ x. Phrase k ts x in
    record { level = 0; pre = []; ts = ts; is_open = subst P q nothing; low = omega arith; phrase = subst Q r (loosen j k ts a h p); is_seen = refl }
sound_reduce k _ _ _ ts a j gs b (in_parens fs pre n o) l h m p e =
    elim (reduce-step k frame.Paren fs a gs b e) [
      | inl s ↦ cc
      | inr s ↦ stays k 0 j frame.Paren fs gs (pre ++ token.LeftParen ∷ []) ts a b (in_parens fs pre n o) (omega arith) h p s.1
    ]
sound_reduce k _ _ _ ts a j gs b (behind_prefix fs pre n t op i o) l h m p e =
    elim (reduce-step k (frame.Prefix op) fs a gs b e) [
      | inl s ↦ moved k gs b (pre ++ (t ∷ ts)) ((pre ++ t ∷ []) ++ ts) (sym (append_assoc pre (t ∷ []) ts))
          (sound_reduce k fs pre n (t ∷ ts) (One op a) 13 gs b o (open-le fs pre n o) m m (one t op ts a i (loosen j 13 ts a l p)) s.1)
      | inr s ↦ cc
    ]
sound_reduce k _ _ _ ts a j gs b (behind_infix fs pre ls n t op c i d q o) l h m p e =
    elim (reduce-step k (frame.Infix op c) fs a gs b e) [
      | inl s ↦
          let le : k ≤ level_of op = leb-true k (level_of op) s.0 in
          moved k gs b (pre ++ (ls ++ t ∷ ts)) ((pre ++ (ls ++ t ∷ [])) ++ ts)
          (sym (append_assoc pre (ls ++ t ∷ []) ts ∙ ap (λ x. pre ++ x) (append_assoc ls (t ∷ []) ts)))
          (sound_reduce k fs pre n (ls ++ t ∷ ts) (Two op c a) (level_of op) gs b o d le m (two ls t op ts c a i q (loosen j (suc (level_of op)) ts a l p)) s.1)
      | inr s ↦
          let below : level_of op < k = leb-false k (level_of op) s.0 in
          let lt : suc (level_of op) ≤ k = omega arith in
          stays k (suc (level_of op)) j (frame.Infix op c) fs gs (pre ++ (ls ++ t ∷ [])) ts a b (behind_infix fs pre ls n t op c i d q o) lt h p s.1
    ]
sound_reduce k _ _ _ ts a j gs b (behind_condition fs pre cs c q o) l h m p e =
    elim (reduce-step k (frame.Condition c) fs a gs b e) [
      | inl s ↦ cc
      | inr s ↦ stays k 0 j (frame.Condition c) fs gs (pre ++ (cs ++ token.Question ∷ [])) ts a b (behind_condition fs pre cs c q o) (omega arith) h p s.1
    ]
sound_reduce k _ _ _ ts a j gs b (behind_branch fs pre cs ls c d q r o) l h m p e =
    elim (reduce-step k (frame.Branch c d) fs a gs b e) [
      | inl s ↦
          let z : k ≡ 0 = eqb-true k 0 s.0 in
          moved k gs b (pre ++ (cs ++ token.Question ∷ (ls ++ token.Colon ∷ ts))) ((pre ++ (cs ++ token.Question ∷ (ls ++ token.Colon ∷ []))) ++ ts)
          (sym (append_assoc pre (cs ++ token.Question ∷ (ls ++ token.Colon ∷ [])) ts ∙ ap (λ x. pre ++ x) (append_assoc cs (token.Question ∷ (ls ++ token.Colon ∷ [])) ts)
          ∙ ap (λ x. pre ++ (cs ++ token.Question ∷ x)) (append_assoc ls (token.Colon ∷ []) ts)))
          (sound_reduce k fs pre 0 (cs ++ token.Question ∷ (ls ++ token.Colon ∷ ts)) (Choice c d a) 0 gs b o (omega arith) (omega arith) m
          (choice cs ls ts c d a q r (loosen j 0 ts a (omega arith) p)) s.1)
      | inr s ↦ stays k 0 j (frame.Branch c d) fs gs (pre ++ (cs ++ token.Question ∷ (ls ++ token.Colon ∷ []))) ts a b (behind_branch fs pre cs ls c d q r o) (omega arith) h p s.1
    ]

-- where the reader stands
abbrev Stands : List Frame → Option Tree → List Token → Type 0
Stands fs None seen = (n : ℕ) × Open fs seen n
Stands fs (Some a) seen = (n : ℕ) × (pre : List Token) × (ts : List Token) × Open fs pre n × Phrase 13 ts a × (seen ≡ pre ++ ts)

step_to : (fs gs : List Frame) (a b : Option Tree) (seen : List Token) → some_place fs a ≡ some_place gs b → Stands fs a seen → Stands gs b seen
step_to fs gs a b seen e h =
    let p : Place = (fs, a) in
    let q : Place = (gs, b) in
    let P : Place → Type 0 = λ x. Stands x.0 x.1 seen in
    subst P (some-injective p q e) h

sound_operand : (fs : List Frame) (t : Token) (seen : List Token) (n : ℕ) (gs : List Frame) (b : Option Tree)
    → Open fs seen n → at_operand fs t ≡ some_place gs b → Stands gs b (seen ++ t ∷ [])
sound_operand fs (token.Operand pieces) seen n gs b o e =
    step_to fs gs (Some (Operand pieces)) b (seen ++ token.Operand pieces ∷ []) e (n, seen, token.Operand pieces ∷ [], o, operand pieces, refl)
sound_operand fs (token.Infix op) seen n gs b o e = cc
sound_operand fs (token.Prefix op) seen n gs b o e =
    step_to (frame.Prefix op ∷ fs) gs None b (seen ++ token.Prefix op ∷ []) e (13, behind_prefix fs seen n (token.Prefix op) op refl o)
sound_operand fs token.Plus seen n gs b o e =
    step_to (frame.Prefix before.Keep ∷ fs) gs None b (seen ++ token.Plus ∷ []) e (13, behind_prefix fs seen n token.Plus before.Keep refl o)
sound_operand fs token.Minus seen n gs b o e =
    step_to (frame.Prefix before.Negate ∷ fs) gs None b (seen ++ token.Minus ∷ []) e (13, behind_prefix fs seen n token.Minus before.Negate refl o)
sound_operand fs token.LeftParen seen n gs b o e =
    step_to (frame.Paren ∷ fs) gs None b (seen ++ token.LeftParen ∷ []) e (0, in_parens fs seen n o)
sound_operand fs token.RightParen seen n gs b o e = cc
sound_operand fs token.Question seen n gs b o e = cc
sound_operand fs token.Colon seen n gs b o e = cc

-- an operator between two trees
sound_infix : (op : Infix) (t : Token) (fs : List Frame) (pre : List Token) (n : ℕ) (ts : List Token) (a : Tree) (seen : List Token) (gs : List Frame) (b : Option Tree)
    → infix_of t ≡ Some op → Open fs pre n → Phrase 13 ts a → seen ≡ pre ++ ts
    → (r : Option (List Frame × Tree)) → reduce (level_of op) fs a ≡ r → opened (frame.Infix op) r ≡ some_place gs b → Stands gs b (seen ++ t ∷ [])
sound_infix op t fs pre n ts a seen gs b i o p s None h e = cc
sound_infix op t fs pre n ts a seen gs b i o p s (Some (hs, c)) h e =
    let r : Reduced (level_of op) hs c (pre ++ ts) =
    sound_reduce (level_of op) fs pre n ts a 13 hs c o (open-le fs pre n o) (omega (arith, level-le op)) (omega (arith, level-le op)) p h in
    let w : seen ++ t ∷ [] ≡ r.pre ++ (r.ts ++ t ∷ []) = ap (λ x. x ++ t ∷ []) (s ∙ r.is_seen) ∙ append_assoc r.pre r.ts (t ∷ []) in
    step_to (frame.Infix op c ∷ hs) gs None b (seen ++ t ∷ []) e (
      suc (level_of op),
      (let P : List Token → Type 0 = λ x. Open (frame.Infix op c ∷ hs) x (suc (level_of op)) in
          subst P (sym w) (behind_infix hs r.pre r.ts r.level t op c i r.low r.phrase r.is_open)),
    )

-- a question mark
sound_question : (fs : List Frame) (pre : List Token) (n : ℕ) (ts : List Token) (a : Tree) (seen : List Token) (gs : List Frame) (b : Option Tree)
    → Open fs pre n → Phrase 13 ts a → seen ≡ pre ++ ts
    → (r : Option (List Frame × Tree)) → reduce 1 fs a ≡ r → opened frame.Condition r ≡ some_place gs b → Stands gs b (seen ++ token.Question ∷ [])
sound_question fs pre n ts a seen gs b o p s None h e = cc
sound_question fs pre n ts a seen gs b o p s (Some (hs, c)) h e =
    let r : Reduced 1 hs c (pre ++ ts) = sound_reduce 1 fs pre n ts a 13 hs c o (open-le fs pre n o) (omega arith) (omega arith) p h in
    let w : seen ++ token.Question ∷ [] ≡ r.pre ++ (r.ts ++ token.Question ∷ []) =
    ap (λ x. x ++ token.Question ∷ []) (s ∙ r.is_seen) ∙ append_assoc r.pre r.ts (token.Question ∷ []) in
    let z : r.level ≡ 0 = open-loose hs r.pre r.level r.is_open r.low in
    let N : ℕ → Type 0 = λ x. Open hs r.pre x in
    let P : List Token → Type 0 = λ x. Open (frame.Condition c ∷ hs) x 0 in
    step_to (frame.Condition c ∷ hs) gs None b (seen ++ token.Question ∷ []) e
    (0, subst P (sym w) (behind_condition hs r.pre r.ts c r.phrase (subst N z r.is_open)))

-- a colon
with_branch-open : (hs : List Frame) (c : Tree) (pre ts seen : List Token) (n : ℕ) (gs : List Frame) (b : Option Tree)
    → Open hs pre n → Phrase 0 ts c → seen ≡ pre ++ ts → with_branch (condition_taken hs) c ≡ some_place gs b → Stands gs b (seen ++ token.Colon ∷ [])
with_branch-open _ c _ ts seen n gs b nothing p s e = cc
with_branch-open _ c _ ts seen n gs b (in_parens fs pre m o) p s e = cc
with_branch-open _ c _ ts seen n gs b (behind_prefix fs pre m t op i o) p s e = cc
with_branch-open _ c _ ts seen n gs b (behind_infix fs pre ls m t op a i h q o) p s e = cc
with_branch-open _ c _ ts seen n gs b (behind_branch fs pre cs ls d a q r o) p s e = cc
with_branch-open _ c _ ts seen n gs b (behind_condition fs pre cs d q o) p s e =
    let w : seen ++ token.Colon ∷ [] ≡ pre ++ (cs ++ token.Question ∷ (ts ++ token.Colon ∷ [])) =
    ap (λ x. x ++ token.Colon ∷ []) (s ∙ append_assoc pre (cs ++ token.Question ∷ []) ts ∙ ap (λ x. pre ++ x) (append_assoc cs (token.Question ∷ []) ts))
    ∙ append_assoc pre (cs ++ token.Question ∷ ts) (token.Colon ∷ []) ∙ ap (λ x. pre ++ x) (append_assoc cs (token.Question ∷ ts) (token.Colon ∷ [])) in
    let P : List Token → Type 0 = λ x. Open (frame.Branch d c ∷ fs) x 0 in
    step_to (frame.Branch d c ∷ fs) gs None b (seen ++ token.Colon ∷ []) e (0, subst P (sym w) (behind_branch fs pre cs ts d c q p o))

sound_colon : (fs : List Frame) (pre : List Token) (n : ℕ) (ts : List Token) (a : Tree) (seen : List Token) (gs : List Frame) (b : Option Tree)
    → Open fs pre n → Phrase 13 ts a → seen ≡ pre ++ ts
    → (r : Option (List Frame × Tree)) → reduce 0 fs a ≡ r → branch_ends r ≡ some_place gs b → Stands gs b (seen ++ token.Colon ∷ [])
sound_colon fs pre n ts a seen gs b o p s None h e = cc
sound_colon fs pre n ts a seen gs b o p s (Some (hs, c)) h e =
    let r : Reduced 0 hs c (pre ++ ts) = sound_reduce 0 fs pre n ts a 13 hs c o (open-le fs pre n o) (omega arith) (omega arith) p h in
    with_branch-open hs c r.pre r.ts seen r.level gs b r.is_open r.phrase (s ∙ r.is_seen) e

-- a right parenthesis
behind_paren-open : (hs : List Frame) (c : Tree) (pre ts seen : List Token) (n : ℕ) (gs : List Frame) (b : Option Tree)
    → Open hs pre n → Phrase 0 ts c → seen ≡ pre ++ ts → behind_paren (paren_closed hs) c ≡ some_place gs b → Stands gs b (seen ++ token.RightParen ∷ [])
behind_paren-open _ c _ ts seen n gs b nothing p s e = cc
behind_paren-open _ c _ ts seen n gs b (behind_condition fs pre cs d q o) p s e = cc
behind_paren-open _ c _ ts seen n gs b (behind_prefix fs pre m t op i o) p s e = cc
behind_paren-open _ c _ ts seen n gs b (behind_infix fs pre ls m t op a i h q o) p s e = cc
behind_paren-open _ c _ ts seen n gs b (behind_branch fs pre cs ls d a q r o) p s e = cc
behind_paren-open _ c _ ts seen n gs b (in_parens fs pre m o) p s e =
    let w : seen ++ token.RightParen ∷ [] ≡ pre ++ (token.LeftParen ∷ (ts ++ token.RightParen ∷ [])) =
    ap (λ x. x ++ token.RightParen ∷ []) (s ∙ append_assoc pre (token.LeftParen ∷ []) ts) ∙ append_assoc pre (token.LeftParen ∷ ts) (token.RightParen ∷ []) in
    step_to fs gs (Some c) b (seen ++ token.RightParen ∷ []) e (m, pre, token.LeftParen ∷ (ts ++ token.RightParen ∷ []), o, parens ts c p, w)

sound_paren : (fs : List Frame) (pre : List Token) (n : ℕ) (ts : List Token) (a : Tree) (seen : List Token) (gs : List Frame) (b : Option Tree)
    → Open fs pre n → Phrase 13 ts a → seen ≡ pre ++ ts
    → (r : Option (List Frame × Tree)) → reduce 0 fs a ≡ r → parens_end r ≡ some_place gs b → Stands gs b (seen ++ token.RightParen ∷ [])
sound_paren fs pre n ts a seen gs b o p s None h e = cc
sound_paren fs pre n ts a seen gs b o p s (Some (hs, c)) h e =
    let r : Reduced 0 hs c (pre ++ ts) = sound_reduce 0 fs pre n ts a 13 hs c o (open-le fs pre n o) (omega arith) (omega arith) p h in
    behind_paren-open hs c r.pre r.ts seen r.level gs b r.is_open r.phrase (s ∙ r.is_seen) e

sound_operator : (fs : List Frame) (a : Tree) (t : Token) (pre : List Token) (n : ℕ) (ts seen : List Token) (gs : List Frame) (b : Option Tree)
    → Open fs pre n → Phrase 13 ts a → seen ≡ pre ++ ts → at_operator fs a t ≡ some_place gs b → Stands gs b (seen ++ t ∷ [])
sound_operator fs a (token.Operand pieces) pre n ts seen gs b o p s e = cc
sound_operator fs a (token.Prefix op) pre n ts seen gs b o p s e = cc
sound_operator fs a token.LeftParen pre n ts seen gs b o p s e = cc
sound_operator fs a (token.Infix op) pre n ts seen gs b o p s e = sound_infix op (token.Infix op) fs pre n ts a seen gs b refl o p s (reduce (level_of op) fs a) refl e
sound_operator fs a token.Plus pre n ts seen gs b o p s e = sound_infix between.Plus token.Plus fs pre n ts a seen gs b refl o p s (reduce 11 fs a) refl e
sound_operator fs a token.Minus pre n ts seen gs b o p s e = sound_infix between.Minus token.Minus fs pre n ts a seen gs b refl o p s (reduce 11 fs a) refl e
sound_operator fs a token.Question pre n ts seen gs b o p s e = sound_question fs pre n ts a seen gs b o p s (reduce 1 fs a) refl e
sound_operator fs a token.Colon pre n ts seen gs b o p s e = sound_colon fs pre n ts a seen gs b o p s (reduce 0 fs a) refl e
sound_operator fs a token.RightParen pre n ts seen gs b o p s e = sound_paren fs pre n ts a seen gs b o p s (reduce 0 fs a) refl e

sound_step : (fs : List Frame) (a : Option Tree) (t : Token) (seen : List Token) (gs : List Frame) (b : Option Tree)
    → Stands fs a seen → step fs a t ≡ some_place gs b → Stands gs b (seen ++ t ∷ [])
unfolding step
sound_step fs None t seen gs b (n, o) e = sound_operand fs t seen n gs b o e
sound_step fs (Some a) t seen gs b (n, pre, ts, o, p, s) e = sound_operator fs a t pre n ts seen gs b o p s e

-- the end
whole-open : (hs : List Frame) (c : Tree) (pre ts seen : List Token) (n : ℕ) (b : Tree)
    → Open hs pre n → Phrase 0 ts c → seen ≡ pre ++ ts → whole (Some (hs, c)) ≡ Some b → Phrase 0 seen b
whole-open _ c _ ts seen n b nothing p s e =
    let q : c ≡ b = cc in
    let P : List Token → Type 0 = λ x. Phrase 0 x b in
    let Q : Tree → Type 0 = λ x. Phrase 0 ts x in
    subst P (sym s) (subst Q q p)
whole-open _ c _ ts seen n b (in_parens fs pre m o) p s e = cc
whole-open _ c _ ts seen n b (behind_condition fs pre cs d q o) p s e = cc
whole-open _ c _ ts seen n b (behind_prefix fs pre m t op i o) p s e = cc
whole-open _ c _ ts seen n b (behind_infix fs pre ls m t op a i h q o) p s e = cc
whole-open _ c _ ts seen n b (behind_branch fs pre cs ls d a q r o) p s e = cc

sound_whole : (fs : List Frame) (pre : List Token) (n : ℕ) (ts : List Token) (a : Tree) (seen : List Token) (b : Tree)
    → Open fs pre n → Phrase 13 ts a → seen ≡ pre ++ ts
    → (r : Option (List Frame × Tree)) → reduce 0 fs a ≡ r → whole r ≡ Some b → Phrase 0 seen b
sound_whole fs pre n ts a seen b o p s None h e = cc
sound_whole fs pre n ts a seen b o p s (Some (hs, c)) h e =
    let r : Reduced 0 hs c (pre ++ ts) = sound_reduce 0 fs pre n ts a 13 hs c o (open-le fs pre n o) (omega arith) (omega arith) p h in
    whole-open hs c r.pre r.ts seen r.level b r.is_open r.phrase (s ∙ r.is_seen) e

sound_finish : (fs : List Frame) (a : Option Tree) (seen : List Token) (b : Tree) → Stands fs a seen → finish fs a ≡ Some b → Phrase 0 seen b
unfolding finish
sound_finish fs None seen b h e = cc
sound_finish fs (Some a) seen b (n, pre, ts, o, p, s) e = sound_whole fs pre n ts a seen b o p s (reduce 0 fs a) refl e

sound_onward : (t : Token) (ts : List Token) (fs : List Frame) (a : Option Tree) (seen : List Token) (b : Tree) → Stands fs a seen
    → ((gs : List Frame) (c : Option Tree) → Stands gs c (seen ++ t ∷ []) → read ts gs c ≡ Some b → Phrase 0 ((seen ++ t ∷ []) ++ ts) b)
    → (p : Option Place) → step fs a t ≡ p → onward p (λ gs c. read ts gs c) ≡ Some b → Phrase 0 (seen ++ t ∷ ts) b
sound_onward t ts fs a seen b h more None s e = cc
sound_onward t ts fs a seen b h more (Some (gs, c)) s e =
    let P : List Token → Type 0 = λ x. Phrase 0 x b in
    subst P (append_assoc seen (t ∷ []) ts) (more gs c (sound_step fs a t seen gs c h s) e)

sound_read : (ts : List Token) (fs : List Frame) (a : Option Tree) (seen : List Token) (b : Tree) → Stands fs a seen → read ts fs a ≡ Some b → Phrase 0 (seen ++ ts) b
unfolding read
sound_read [] fs a seen b h e = let P : List Token → Type 0 = λ x. Phrase 0 x b in subst P (sym (append-nil seen)) (sound_finish fs a seen b h e)
sound_read (t ∷ ts) fs a seen b h e = sound_onward t ts fs a seen b h (λ gs c s i. sound_read ts gs c (seen ++ t ∷ []) b s i) (step fs a t) refl e

-- the tokens that are read are a phrase
pub sound : (ts : List Token) (b : Tree) → read ts [] None ≡ Some b → Phrase 0 ts b
sound ts b e = sound_read ts [] None [] b (0, nothing) e
