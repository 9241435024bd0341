-- Words that are made of texts and of values of variables that are in use.
use Rattle.std.proofs.Common.{◌≡◌, ℕ, zero, suc, ◌+◌, ◌≤◌, ◌<◌, List, [], ◌∷◌, ◌++◌, map, length, drop, slice_index_or, ap, sym, ◌∙◌, refl, arith}
use Rattle.std.specs.Prelude.{Option, Some, None, IfSome}
use Rattle.dg_scope.specs.Scopes.{value_of}
use Rattle.dg_language.specs.declared.command.Command.{Command}
use Rattle.dg_language.specs.declared.substitution.Substitution.{Substitution}
use Rattle.dg_expr.specs.declared.code.Instruction.{Instruction}
use Rattle.dg_language.specs.declared.substitution.Substitution.TheVariants.{Literal, Variable, IndexBegins, IndexEnds, Script, WordEnds, ListEnds}
use Rattle.dg_language.specs.Play.{Play}
use Rattle.dg_language.specs.State.{State}
use Rattle.dg_language.specs.Touch.{value_in_use}
use Rattle.dg_language.specs.Variables.{given}
use Rattle.dg_language.specs.Evaluation.{Ending, Then, if_done}
use Rattle.dg_language.specs.Language.{evaluate, used}
use Rattle.dg_language.specs.Words.{Act, longer}
use Rattle.dg_compiled.specs.Gathering.{gather}
use Rattle.dg_language.proofs.TouchLemmas.{within-short, in-use}
use Rattle.dg_compiled.specs.Source.{steps_at}
use Rattle.dg_compiled.specs.Steps.{operand_in, steps_in}
use Rattle.dg_compiled.specs.Texts.{IsText, Makes, going_on}
use Rattle.dg_compiled.specs.declared.making.Making.{Making}
use Rattle.dg_compiled.proofs.GatherLemmas.{gather-literal, gather-variable, gather-word, gather-none, given-some}

-- a text was added that is not too long
pub text-added : (d : ℕ) (act : Act) (made : List (List ℕ)) (outer : List (List ℕ × List ℕ)) (text : List ℕ) (left : List Substitution) (s : State) (k : Then)
    (t : List ℕ) (ps : List Substitution) → left ≡ Literal t ∷ ps → length text + length t ≤ 1048576
    → gather (evaluate d) act made outer (text ++ t) ps s k ≡ gather (evaluate d) act made outer text left s k
text-added d act made outer text left s k t ps e l = sym (gather-literal d act made outer text left s k t ps e ∙ within-short _ _ _ l)

-- the value of a variable was added
pub value-added : (d : ℕ) (act : Act) (made : List (List ℕ)) (outer : List (List ℕ × List ℕ)) (text : List ℕ) (left : List Substitution) (s : State) (k : Then)
    (n : List ℕ) (ps : List Substitution) (v : List ℕ) → left ≡ Variable n ∷ ps → value_in_use n s ≡ Some v → length text + length v ≤ 1048576
    → gather (evaluate d) act made outer (text ++ v) ps s k ≡ gather (evaluate d) act made outer text left s k
value-added d act made outer text left s k n ps v e u l =
    let add : List ℕ → State → Play Ending = λ v' t. longer text v' t (λ w. gather (evaluate d) act made outer w ps t k) in
    let used = in-use n s v u in
    sym
    (gather-variable d act made outer text left s k n ps e
    ∙ used.0 (λ t. given (value_of t.variables n) n t (if_done add k))
    ∙ given-some (value_of s.variables n) n s add k v used.1
    ∙ within-short _ _ _ l)

-- two steps, one after the other
pub two-of : (xs : List Substitution) (x y : Substitution) → length xs ≡ 2 → x ≡ slice_index_or xs 0 x → y ≡ slice_index_or xs 1 y → xs ≡ x ∷ y ∷ []
two-of [] x y l e f = absurd (omega (arith, l))
two-of (a ∷ []) x y l e f = absurd (omega (arith, l))
two-of (a ∷ b ∷ []) x y l e f = sym (ap (λ u. u ∷ y ∷ []) e ∙ ap (λ v. a ∷ v ∷ []) f)
two-of (a ∷ b ∷ c ∷ cs) x y l e f = absurd (omega (arith, l))

-- the steps of the command at a place, among those that are kept of all
pub kept-at : (all : List Command) (at : ℕ) (c : Command) → at < length all → c ≡ slice_index_or all at c → steps_in c ≡ steps_at all at
kept-at [] at c l e = absurd (omega (arith, l))
kept-at (a ∷ all) zero c l e = ap steps_in e
kept-at (a ∷ all) (suc n) c l e = kept-at all n c (omega (arith, l)) e

-- one operator between two operands, and the steps of these
pub three-of : (all : List Instruction) (steps : List (List Substitution)) (i j o : Instruction) (p q : List Substitution) → length all ≡ 3 → steps ≡ map operand_in all
    → i ≡ slice_index_or all 0 i → j ≡ slice_index_or all 1 j → o ≡ slice_index_or all 2 o → p ≡ slice_index_or steps 0 p → q ≡ slice_index_or steps 1 q
    → (all ≡ i ∷ j ∷ o ∷ []) × (p ≡ operand_in i) × (q ≡ operand_in j)
three-of [] steps i j o p q l m e f g h n = absurd (omega (arith, l))
three-of (a ∷ []) steps i j o p q l m e f g h n = absurd (omega (arith, l))
three-of (a ∷ b ∷ []) steps i j o p q l m e f g h n = absurd (omega (arith, l))
three-of (a ∷ b ∷ c ∷ []) steps i j o p q l m e f g h n =
    let first = rw m at h in
    let second = rw m at n in
    (sym (ap (λ x. x ∷ j ∷ o ∷ []) e ∙ ap (λ x. a ∷ x ∷ o ∷ []) f ∙ ap (λ x. a ∷ b ∷ x ∷ []) g), first ∙ sym (ap operand_in e), second ∙ sym (ap operand_in f))
three-of (a ∷ b ∷ c ∷ d ∷ ds) steps i j o p q l m e f g h n = absurd (omega (arith, l))

-- one text, or one value, and the end of its word
module _ (s : State) (steps : List Substitution) where
  pub one-text : (v : List ℕ) → length v ≤ 1048576 → steps ≡ Literal v ∷ WordEnds ∷ [] → Makes s steps v
  one-text v short e d act k =
      sym (text-added d act [] [] [] steps s k v (WordEnds ∷ []) e (omega (arith, short)))
      ∙ gather-word d act [] [] v (WordEnds ∷ []) s k [] refl
      ∙ gather-none d act (v ∷ []) [] [] [] s k refl

  pub one-variable : (n : List ℕ) → steps ≡ Variable n ∷ WordEnds ∷ [] → (o : Option (List ℕ)) → IfSome o (λ v. value_in_use n s ≡ Some v)
      → IfSome o (λ v. 0 + length v ≤ 1048576) → IfSome o (Makes s steps)
  one-variable n e None u short = u
  one-variable n e (Some v) u short = λ d act k.
      sym (value-added d act [] [] [] steps s k n (WordEnds ∷ []) v e u (omega (arith, short)))
      ∙ gather-word d act [] [] v (WordEnds ∷ []) s k [] refl
      ∙ gather-none d act (v ∷ []) [] [] [] s k refl

  word-of : (x : Substitution) (v : List ℕ) → steps ≡ x ∷ WordEnds ∷ [] → IsText s x v → length v ≤ 1048576 → Makes s steps v
  word-of (Literal t) v e is short = one-text v short (e ∙ ap (λ u. Literal u ∷ WordEnds ∷ []) is)
  word-of (Variable n) v e is short = one-variable n e (Some v) is (omega (arith, short))
  word-of (IndexBegins n) v e is short = absurd is
  word-of IndexEnds v e is short = absurd is
  word-of (Script t) v e is short = absurd is
  word-of WordEnds v e is short = absurd is
  word-of ListEnds v e is short = absurd is

  pub one-word : {A : Type 0} (x : Substitution) → steps ≡ x ∷ WordEnds ∷ [] → (o : Option A) (f : A → List ℕ) → IfSome o (λ a. IsText s x (f a))
      → IfSome o (λ a. length (f a) ≤ 1048576) → IfSome o (λ a. Makes s steps (f a))
  one-word x e None f is short = is
  one-word x e (Some a) f is short = word-of x (f a) e is short

-- a word that is one text, or the value of one variable in use, was taken
pub word-taken : (d : ℕ) (act : Act) (made : List (List ℕ)) (outer : List (List ℕ × List ℕ)) (left : List Substitution) (s : State) (k : Then)
    (x : Substitution) (v : List ℕ) → IsText s x v → length v ≤ 1048576
    → gather (evaluate d) act (made ++ v ∷ []) outer [] left s k ≡ gather (evaluate d) act made outer [] (x ∷ WordEnds ∷ left) s k
word-taken d act made outer left s k (Literal t) v is short =
    sym
    (sym (text-added d act made outer [] (Literal t ∷ WordEnds ∷ left) s k v (WordEnds ∷ left) (ap (λ u. Literal u ∷ WordEnds ∷ left) is) (omega (arith, short)))
    ∙ gather-word d act made outer v (WordEnds ∷ left) s k left refl)
word-taken d act made outer left s k (Variable n) v is short =
    sym
    (sym (value-added d act made outer [] (Variable n ∷ WordEnds ∷ left) s k n (WordEnds ∷ left) v refl is (omega (arith, short)))
    ∙ gather-word d act made outer v (WordEnds ∷ left) s k left refl)
word-taken d act made outer left s k (IndexBegins n) v is short = absurd is
word-taken d act made outer left s k IndexEnds v is short = absurd is
word-taken d act made outer left s k (Script t) v is short = absurd is
word-taken d act made outer left s k WordEnds v is short = absurd is
word-taken d act made outer left s k ListEnds v is short = absurd is

pub word-goes : (m : Making) (d : ℕ) (s : State) (k : Then) (x : Substitution) (v : List ℕ) (left rest : List Substitution) → m.text ≡ [] → IsText s x v
    → length v ≤ 1048576 → left ≡ x ∷ WordEnds ∷ rest → going_on (record m { made = m.made ++ v ∷ [] }) rest d s k ≡ going_on m left d s k
word-goes m d s k x v left rest e is short l =
    ap (λ (t : List ℕ). gather (evaluate d) (used (evaluate d) m.purpose) (m.made ++ v ∷ []) m.outer t rest s k) e
    ∙ word-taken d (used (evaluate d) m.purpose) m.made m.outer rest s k x v is short
    ∙ ap (λ (t : List ℕ). gather (evaluate d) (used (evaluate d) m.purpose) m.made m.outer t (x ∷ WordEnds ∷ rest) s k) (sym e)
    ∙ ap (λ (xs : List Substitution). going_on m xs d s k) (sym l)

-- the two steps at a place
pub two-at : (steps : List Substitution) (at : ℕ) (x y : Substitution) → at + 2 ≤ length steps → x ≡ slice_index_or steps at x → y ≡ slice_index_or steps (at + 1) y
    → drop at steps ≡ x ∷ y ∷ drop (at + 2) steps
two-at [] at x y l e f = absurd (omega (arith, l))
two-at (a ∷ []) at x y l e f = absurd (omega (arith, l))
two-at (a ∷ b ∷ cs) zero x y l e f = ap (λ u. u ∷ b ∷ cs) (sym e) ∙ ap (λ u. x ∷ u ∷ cs) (sym f)
two-at (a ∷ b ∷ cs) (suc n) x y l e f =
    let one : suc n + 1 ≡ suc (n + 1) = omega arith in
    let two : suc n + 2 ≡ suc (n + 2) = omega arith in
    rw two (two-at (b ∷ cs) n x y (omega (arith, l)) e (rw one at f))
