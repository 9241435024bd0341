-- What is spelled is read.
use Rattle.std.proofs.Common.{◌≡◌, ℕ, zero, suc, ◌≤◌, List, [], ◌∷◌, ◌++◌, true, false, Option, None, Some, refl, sym, ap, ◌∙◌, subst, arith, append_assoc}
use Rattle.std.proofs.lemmas.Bool.{le-leb, lt-leb, ne_eqb}
use Rattle.std.proofs.lemmas.List.{append-nil}
use Rattle.std.specs.Prelude.{nat_le}
use Rattle.dg_expr.specs.declared.frame.Frame.{Frame}
use Rattle.dg_expr.specs.declared.frame.Frame.TheVariants as frame
use Rattle.dg_expr.specs.declared.operator.Infix.{Infix}
use Rattle.dg_expr.specs.declared.operator.Infix.TheVariants as between
use Rattle.dg_expr.specs.declared.operator.Prefix.{Prefix}
use Rattle.dg_expr.specs.declared.operator.Prefix.TheVariants as before
use Rattle.dg_expr.specs.declared.token.Token.{Token}
use Rattle.dg_expr.specs.declared.token.Token.TheVariants as token
use Rattle.dg_expr.specs.Grammar.{Phrase, operand, parens, one, two, choice, tighter, level_of, infix_of, prefix_of}
use Rattle.dg_expr.specs.Reading.{Place, at_operand, at_operator, branch_ends, finish, is_low, joined, opened, parens_end, read, reduce, step, takes, whole}
use Rattle.dg_expr.specs.Tree.{Tree, Operand, One, Two, Choice, height}
use Rattle.dg_expr.proofs.Levels.{level-le, level-positive}

abbrev some_tree : List Frame → Tree → Option (List Frame × Tree)
some_tree fs a = Some (fs, a)

abbrev some_place : List Frame → Option Tree → Option Place
some_place fs a = Some (fs, a)

-- the level of the phrases that may come behind what is open
abbrev room : List Frame → ℕ
room [] = 0
room (frame.Prefix op ∷ fs) = 13
room (frame.Infix op a ∷ fs) = suc (level_of op)
room (frame.Paren ∷ fs) = 0
room (frame.Condition c ∷ fs) = 0
room (frame.Branch c a ∷ fs) = 0

-- what doesn't take the tree
takes-no : (k : ℕ) (f : Frame) (fs : List Frame) (a : Tree) → takes k f ≡ false → reduce k (f ∷ fs) a ≡ some_tree (f ∷ fs) a
unfolding reduce
takes-no k f fs a t = rw t refl

suc-positive : (k : ℕ) → suc k ≡ 0 → ⊥
suc-positive k q = omega arith

-- nothing takes the tree of a phrase before an operator of its level
stable : (k : ℕ) (fs : List Frame) (a : Tree) → room fs ≤ suc k → suc k ≤ 12 → reduce (suc k) fs a ≡ some_tree fs a
unfolding reduce
stable k [] a h m = refl
stable k (frame.Prefix op ∷ fs) a h m = absurd (omega arith)
stable k (frame.Infix op b ∷ fs) a h m = let e : nat_le (suc k) (level_of op) ≡ false = lt-leb (suc k) (level_of op) (omega arith) in rw e refl
stable k (frame.Paren ∷ fs) a h m = refl
stable k (frame.Condition c ∷ fs) a h m = refl
stable k (frame.Branch c b ∷ fs) a h m = takes-no (suc k) (frame.Branch c b) fs a (ne_eqb (suc k) 0 (suc-positive k))

stable-at : (k : ℕ) (fs : List Frame) (a : Tree) → 1 ≤ k → room fs ≤ k → k ≤ 12 → reduce k fs a ≡ some_tree fs a
stable-at zero fs a p h m = absurd (omega arith)
stable-at (suc k) fs a p h m = stable k fs a h m

-- what takes the tree
takes-reduce : (k : ℕ) (f : Frame) (fs : List Frame) (a : Tree) → takes k f ≡ true → is_low (joined f a) ≡ true → reduce k (f ∷ fs) a ≡ reduce k fs (joined f a)
unfolding reduce
takes-reduce k f fs a t l = rw (t, l) refl

low : (a : Tree) → height a ≤ 200 → is_low a ≡ true
low a h = le-leb (height a) 200 h

at_operand-prefix : (t : Token) (op : Prefix) (fs : List Frame) → prefix_of t ≡ Some op → at_operand fs t ≡ some_place (frame.Prefix op ∷ fs) None
at_operand-prefix (token.Operand pieces) op fs e = cc
at_operand-prefix (token.Infix o) op fs e = cc
at_operand-prefix (token.Prefix o) op fs e = let q : o ≡ op = cc in rw q refl
at_operand-prefix token.Plus op fs e = let q : before.Keep ≡ op = cc in rw (← q) refl
at_operand-prefix token.Minus op fs e = let q : before.Negate ≡ op = cc in rw (← q) refl
at_operand-prefix token.LeftParen op fs e = cc
at_operand-prefix token.RightParen op fs e = cc
at_operand-prefix token.Question op fs e = cc
at_operand-prefix token.Colon op fs e = cc

at_operator-infix : (t : Token) (op : Infix) (fs : List Frame) (a : Tree) → infix_of t ≡ Some op → at_operator fs a t ≡ opened (frame.Infix op) (reduce (level_of op) fs a)
at_operator-infix (token.Operand pieces) op fs a e = cc
at_operator-infix (token.Prefix o) op fs a e = cc
at_operator-infix (token.Infix o) op fs a e =
    let q : o ≡ op = cc in
    let P : Infix → Type 0 = λ x. at_operator fs a (token.Infix o) ≡ opened (frame.Infix x) (reduce (level_of x) fs a) in
    subst P q refl
at_operator-infix token.Plus op fs a e =
    let q : between.Plus ≡ op = cc in
    let P : Infix → Type 0 = λ x. at_operator fs a token.Plus ≡ opened (frame.Infix x) (reduce (level_of x) fs a) in
    subst P q refl
at_operator-infix token.Minus op fs a e =
    let q : between.Minus ≡ op = cc in
    let P : Infix → Type 0 = λ x. at_operator fs a token.Minus ≡ opened (frame.Infix x) (reduce (level_of x) fs a) in
    subst P q refl
at_operator-infix token.LeftParen op fs a e = cc
at_operator-infix token.RightParen op fs a e = cc
at_operator-infix token.Question op fs a e = cc
at_operator-infix token.Colon op fs a e = cc

paren-stays : (fs : List Frame) (a : Tree) → reduce 0 (frame.Paren ∷ fs) a ≡ some_tree (frame.Paren ∷ fs) a
unfolding reduce
paren-stays fs a = refl

condition-stays : (c : Tree) (fs : List Frame) (a : Tree) → reduce 0 (frame.Condition c ∷ fs) a ≡ some_tree (frame.Condition c ∷ fs) a
unfolding reduce
condition-stays c fs a = refl

branch-reduce : (k : ℕ) (c a b : Tree) (fs : List Frame) → k ≤ 0 → is_low (Choice c a b) ≡ true → reduce k (frame.Branch c a ∷ fs) b ≡ reduce k fs (Choice c a b)
branch-reduce zero c a b fs l h = takes-reduce 0 (frame.Branch c a) fs b refl h
branch-reduce (suc k) c a b fs l h = absurd (omega arith)

finish-at : (gs : List Frame) (b a : Tree) → reduce 0 gs b ≡ reduce 0 [] a → read [] gs (Some b) ≡ Some a
unfolding read finish reduce
finish-at gs b a e = ap whole e

-- Behind a phrase the reader stands where its tree is, but for operators that bind no looser.
record Passed (n : ℕ) (fs : List Frame) (ts rest : List Token) (a : Tree) : Type 0 where
  gs : List Frame
  b : Tree
  goes : read (ts ++ rest) fs None ≡ read rest gs (Some b)
  same : (k : ℕ) → k ≤ n → reduce k gs b ≡ reduce k fs a

-- one token where an operator comes
read-operator : (t : Token) (rest : List Token) (fs : List Frame) (a : Tree) (gs : List Frame) (b : Option Tree)
    → at_operator fs a t ≡ some_place gs b → read (t ∷ rest) fs (Some a) ≡ read rest gs b
unfolding read step
read-operator t rest fs a gs b e = rw e refl

read-operand : (t : Token) (rest : List Token) (fs gs : List Frame) (b : Option Tree)
    → at_operand fs t ≡ some_place gs b → read (t ∷ rest) fs None ≡ read rest gs b
unfolding read step
read-operand t rest fs gs b e = rw e refl

same_read : (xs ys : List Token) (fs : List Frame) (a : Option Tree) → xs ≡ ys → read xs fs a ≡ read ys fs a
same_read xs ys fs a e = ap (λ x. read x fs a) e

passes : (n : ℕ) (ts : List Token) (a : Tree) → Phrase n ts a → (fs : List Frame) (rest : List Token) → room fs ≤ n → height a ≤ 200 → Passed n fs ts rest a
passes _ _ _ (operand pieces) fs rest r h =
    record { gs = fs; b = Operand pieces; goes = read-operand (token.Operand pieces) rest fs fs (Some (Operand pieces)) refl; same = λ k l. refl }
passes _ _ _ (parens ts a p) fs rest r h =
    let i : Passed 0 (frame.Paren ∷ fs) ts (token.RightParen ∷ rest) a = passes 0 ts a p (frame.Paren ∷ fs) (token.RightParen ∷ rest) (omega arith) h in
    let z : reduce 0 (frame.Paren ∷ fs) a ≡ some_tree (frame.Paren ∷ fs) a = paren-stays fs a in
    record {
      gs = fs;
      b = a;
      goes = read-operand token.LeftParen ((ts ++ token.RightParen ∷ []) ++ rest) fs (frame.Paren ∷ fs) None refl
          ∙ same_read ((ts ++ token.RightParen ∷ []) ++ rest) (ts ++ token.RightParen ∷ rest) (frame.Paren ∷ fs) None (append_assoc ts (token.RightParen ∷ []) rest)
          ∙ i.goes ∙ read-operator token.RightParen rest i.gs i.b fs (Some a) (ap parens_end (i.same 0 (omega arith) ∙ z));
      same = λ k l. refl;
    }
passes _ _ _ (one t op ts a e p) fs rest r h =
    let i : Passed 13 (frame.Prefix op ∷ fs) ts rest a = passes 13 ts a p (frame.Prefix op ∷ fs) rest (omega arith) (omega arith) in
    record {
      gs = i.gs;
      b = i.b;
      goes = read-operand t (ts ++ rest) fs (frame.Prefix op ∷ fs) None (at_operand-prefix t op fs e) ∙ i.goes;
      same = λ k l. i.same k l ∙ takes-reduce k (frame.Prefix op) fs a refl (low (One op a) h);
    }
passes _ _ _ (two ls t op rs a b e p q) fs rest r h =
    let i : Passed (level_of op) fs ls (t ∷ (rs ++ rest)) a = passes (level_of op) ls a p fs (t ∷ (rs ++ rest)) r (omega arith) in
    let z : reduce (level_of op) fs a ≡ some_tree fs a = stable-at (level_of op) fs a (level-positive op) r (level-le op) in
    let s : at_operator i.gs i.b t ≡ some_place (frame.Infix op a ∷ fs) None =
    at_operator-infix t op i.gs i.b e ∙ ap (opened (frame.Infix op)) (i.same (level_of op) (omega arith) ∙ z) in
    let j : Passed (suc (level_of op)) (frame.Infix op a ∷ fs) rs rest b = passes (suc (level_of op)) rs b q (frame.Infix op a ∷ fs) rest (omega arith) (omega arith) in
    record {
      gs = j.gs;
      b = j.b;
      goes = same_read ((ls ++ t ∷ rs) ++ rest) (ls ++ t ∷ (rs ++ rest)) fs None (append_assoc ls (t ∷ rs) rest)
          ∙ i.goes ∙ read-operator t (rs ++ rest) i.gs i.b (frame.Infix op a ∷ fs) None s ∙ j.goes;
      same = λ k l. j.same k (omega arith) ∙ takes-reduce k (frame.Infix op a) fs b (le-leb k (level_of op) l) (low (Two op a b) h);
    }
passes _ _ _ (choice cs ls rs c a b p q s) fs rest r h =
    let i : Passed 1 fs cs (token.Question ∷ (ls ++ token.Colon ∷ (rs ++ rest))) c =
    passes 1 cs c p fs (token.Question ∷ (ls ++ token.Colon ∷ (rs ++ rest))) (omega arith) (omega arith) in
    let j : Passed 0 (frame.Condition c ∷ fs) ls (token.Colon ∷ (rs ++ rest)) a =
    passes 0 ls a q (frame.Condition c ∷ fs) (token.Colon ∷ (rs ++ rest)) (omega arith) (omega arith) in
    let m : Passed 0 (frame.Branch c a ∷ fs) rs rest b = passes 0 rs b s (frame.Branch c a ∷ fs) rest (omega arith) (omega arith) in
    record {
      gs = m.gs;
      b = m.b;
      goes = same_read ((cs ++ token.Question ∷ (ls ++ token.Colon ∷ rs)) ++ rest) (cs ++ token.Question ∷ (ls ++ token.Colon ∷ (rs ++ rest))) fs None
          (append_assoc cs (token.Question ∷ (ls ++ token.Colon ∷ rs)) rest ∙ ap (λ x. cs ++ token.Question ∷ x) (append_assoc ls (token.Colon ∷ rs) rest))
          ∙ i.goes
          ∙ read-operator token.Question (ls ++ token.Colon ∷ (rs ++ rest)) i.gs i.b (frame.Condition c ∷ fs) None
          (ap (opened frame.Condition) (i.same 1 (omega arith) ∙ stable 0 fs c (omega arith) (omega arith)))
          ∙ j.goes
          ∙ read-operator token.Colon (rs ++ rest) j.gs j.b (frame.Branch c a ∷ fs) None (ap branch_ends (j.same 0 (omega arith) ∙ condition-stays c fs a))
          ∙ m.goes;
      same = λ k l. m.same k l ∙ branch-reduce k c a b fs l (low (Choice c a b) h);
    }
passes _ _ _ (tighter n ts a p) fs rest r h =
    let i : Passed (suc n) fs ts rest a = passes (suc n) ts a p fs rest (omega arith) h in
    record { gs = i.gs; b = i.b; goes = i.goes; same = λ k l. i.same k (omega arith) }

-- the tokens of a phrase are read
pub complete : (ts : List Token) (a : Tree) → Phrase 0 ts a → height a ≤ 200 → read ts [] None ≡ Some a
complete ts a p h =
    let i : Passed 0 [] ts [] a = passes 0 ts a p [] [] (omega arith) h in
    same_read ts (ts ++ []) [] None (sym (append-nil ts)) ∙ i.goes ∙ finish-at i.gs i.b a (i.same 0 (omega arith))
