-- A tree as the list of its nodes, each before its children, which gives the tree back.
use Rattle.std.specs.Prelude.{◌≡◌, List, [], ◌∷◌, ◌++◌, ◌⊎◌, refl}
use Rattle.std.proofs.Common.{inl, inr, ◌∙◌, ap, sym, append_assoc}
use Rattle.std.proofs.lemmas.List.{append-nil}
use Rattle.std.specs.Coded.{Coded, code_by}
use Rattle.dg_words.specs.Piece.{Piece}
use Rattle.dg_expr.specs.declared.operator.Infix.{Infix}
use Rattle.dg_expr.specs.declared.operator.Prefix.{Prefix}
use Rattle.dg_expr.specs.Tree.{Tree, Operand, One, Two, Choice}

-- an operand, an operator or a condition
abbrev pub Mark : Type 0
Mark = List Piece ⊎ (Prefix ⊎ (Infix ⊎ Unit {0}))

-- each node behind its children
unfoldable pub marks : Tree → List Mark
marks (Operand pieces) = inl pieces ∷ []
marks (One op a) = marks a ++ inr (inl op) ∷ []
marks (Two op a b) = marks a ++ (marks b ++ inr (inr (inl op)) ∷ [])
marks (Choice c a b) = marks c ++ (marks a ++ (marks b ++ inr (inr (inr tt)) ∷ []))

-- the trees, last first, once a node has taken its children from their front
abbrev pub over_one : Prefix → List Tree → List Tree
over_one op [] = []
over_one op (a ∷ ts) = One op a ∷ ts

abbrev pub over_two : Infix → List Tree → List Tree
over_two op [] = []
over_two op (b ∷ []) = []
over_two op (b ∷ a ∷ ts) = Two op a b ∷ ts

abbrev pub over_three : List Tree → List Tree
over_three [] = []
over_three (b ∷ []) = []
over_three (b ∷ a ∷ []) = []
over_three (b ∷ a ∷ c ∷ ts) = Choice c a b ∷ ts

abbrev pub over : Mark → List Tree → List Tree
over (inl pieces) ts = Operand pieces ∷ ts
over (inr (inl op)) ts = over_one op ts
over (inr (inr (inl op))) ts = over_two op ts
over (inr (inr (inr u))) ts = over_three ts

unfoldable pub made_of : List Mark → List Tree → List Tree
made_of [] ts = ts
made_of (m ∷ ms) ts = made_of ms (over m ts)

abbrev pub first_of_trees : List Tree → Tree
first_of_trees [] = Operand []
first_of_trees (t ∷ ts) = t

pub made_of-marks : (t : Tree) (ms : List Mark) (ts : List Tree) → made_of (marks t ++ ms) ts ≡ made_of ms (t ∷ ts)
unfolding marks made_of
made_of-marks (Operand pieces) ms ts = refl
made_of-marks (One op a) ms ts =
    ap (λ x. made_of x ts) (append_assoc (marks a) (inr (inl op) ∷ []) ms) ∙ made_of-marks a (inr (inl op) ∷ ms) ts
made_of-marks (Two op a b) ms ts =
    ap (λ x. made_of x ts) (append_assoc (marks a) (marks b ++ inr (inr (inl op)) ∷ []) ms)
    ∙ made_of-marks a ((marks b ++ inr (inr (inl op)) ∷ []) ++ ms) ts
    ∙ ap (λ x. made_of x (a ∷ ts)) (append_assoc (marks b) (inr (inr (inl op)) ∷ []) ms)
    ∙ made_of-marks b (inr (inr (inl op)) ∷ ms) (a ∷ ts)
made_of-marks (Choice c a b) ms ts =
    ap (λ x. made_of x ts) (append_assoc (marks c) (marks a ++ (marks b ++ inr (inr (inr tt)) ∷ [])) ms)
    ∙ made_of-marks c ((marks a ++ (marks b ++ inr (inr (inr tt)) ∷ [])) ++ ms) ts
    ∙ ap (λ x. made_of x (c ∷ ts)) (append_assoc (marks a) (marks b ++ inr (inr (inr tt)) ∷ []) ms)
    ∙ made_of-marks a ((marks b ++ inr (inr (inr tt)) ∷ []) ++ ms) (c ∷ ts)
    ∙ ap (λ x. made_of x (a ∷ c ∷ ts)) (append_assoc (marks b) (inr (inr (inr tt)) ∷ []) ms)
    ∙ made_of-marks b (inr (inr (inr tt)) ∷ ms) (a ∷ c ∷ ts)

pub tree_again : (t : Tree) → first_of_trees (made_of (marks t) []) ≡ t
unfolding made_of
tree_again t =
    ap (λ x. first_of_trees (made_of x [])) (sym (append-nil (marks t))) ∙ ap first_of_trees (made_of-marks t [] [])

abbrev pub tree_code : Coded (List Mark) → Coded Tree
tree_code code = code_by (List Mark) code marks (λ ms. first_of_trees (made_of ms [])) tree_again
