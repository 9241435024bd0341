-- Operands that are read are spelled.
use Rattle.std.specs.Prelude.{◌≡◌, ◌≢◌, ℕ, zero, suc, List, [], ◌∷◌, ◌++◌, length, refl}
use Rattle.std.proofs.Common.{inl, inr, ◌∙◌, ap, sym, arith, subst, append_assoc}
use Rattle.dg_words.specs.Piece.{Piece, Text, Variable, Element, End, Command}
use Rattle.dg_lists.specs.declared.kinds.Class.{Class}
use Rattle.dg_lists.specs.declared.kinds.Class.TheVariants as class
use Rattle.dg_lists.specs.declared.kinds.Effect.TheVariants as effect
use Rattle.dg_words.specs.declared.kinds.Level.{Level}
use Rattle.dg_words.specs.declared.kinds.Level.TheVariants as level
use Rattle.dg_lists.specs.declared.kinds.Mode.TheVariants as mode
use Rattle.dg_lists.specs.declared.kinds.Target.TheVariants as target
use Rattle.dg_words.specs.declared.kinds.Opener.{Opener}
use Rattle.dg_words.specs.declared.kinds.Opener.TheVariants as opener
use Rattle.dg_lists.specs.declared.kinds.Context.TheVariants as context
use Rattle.dg_lists.specs.Classes.{class_of}
use Rattle.dg_lists.specs.Transitions.{does, goes}
use Rattle.dg_words.specs.Transitions.{transition}
use Rattle.dg_words.specs.Grammar.Words.{Named, Parts, Script, with_text}
use Rattle.dg_words.specs.Grammar.Words as grammar
use Rattle.dg_words.specs.Grammar.Operands as operands
use Rattle.dg_words.specs.Grammar.Operands.{begins_operand, Operand}
use Rattle.dg_lists.proofs.GrammarLemmas.Bytes.{is_class}
use Rattle.dg_words.proofs.GrammarLemmas.Readings.{Above, Reads, reads_bracket, reads_to, taken}
use Rattle.dg_words.proofs.GrammarLemmas.Rests.{BracesLeft, PartsEnd, PartsLeft, ScriptLeft}
use Rattle.dg_words.proofs.GrammarLemmas.Claims.{DollarLeft, in_bracket, NameEnd, OperandLeft, Rec, Standing}

begun_so : (t w after : List ℕ) (ps : List Piece) → t ≡ w ++ after → Operand after w ps → OperandLeft t
begun_so t w after ps e h = (ps, length w, subst (λ y. operands.Begun y ps (length w)) (sym e) (operands.Begun.operand h))

-- in quotes, braces and brackets
quoted_so : (n : ℕ) (t u a rest : List ℕ) (ps : List Piece) → n ≡ 100 → t ≡ u ++ a → a ≡ 34 ∷ rest → Parts level.Alone n context.Quoted a u ps → OperandLeft (34 ∷ t)
quoted_so n t u a rest ps m e f p =
    begun_so (34 ∷ t) (34 ∷ u ++ 34 ∷ []) rest ps (ap (λ y. 34 ∷ y) (e ∙ ap (λ y. u ++ y) f ∙ sym (append_assoc u (34 ∷ []) rest)))
    (operands.Operand.quoted (subst (λ y. Parts level.Alone y context.Quoted (34 ∷ rest) u ps) m (subst (λ y. Parts level.Alone n context.Quoted y u ps) f p)))

quoted_behind : (n : ℕ) (t u a : List ℕ) (ps : List Piece) → n ≡ 100 → t ≡ u ++ a → Parts level.Alone n context.Quoted a u ps → PartsEnd level.Alone [] n context.Quoted a → OperandLeft (34 ∷ t)
quoted_behind n t u a ps m e p (PartsEnd.quoted rest f q w) = quoted_so n t u a rest ps m e f p
quoted_behind n t u a ps m e p (PartsEnd.operand_quoted rest h f) = quoted_so n t u a rest ps m e f p

quoted : (n : ℕ) (t : List ℕ) → n ≡ 100 → PartsLeft level.Alone [] n context.Quoted t → OperandLeft (34 ∷ t)
quoted n t m (PartsLeft.parts u a ps e p q) = quoted_behind n t u a ps m e p q

braced : (n : ℕ) (t : List ℕ) → BracesLeft level.Alone [] n 0 t → OperandLeft (123 ∷ t)
braced n t (u, v, rest, e, i, c) = begun_so (123 ∷ t) (123 ∷ u ++ 125 ∷ []) rest (with_text v []) (ap (λ y. 123 ∷ y) (e ∙ sym (append_assoc u (125 ∷ []) rest))) (operands.Operand.braced i)

substituted : (k : ℕ) (t : List ℕ) → k ≡ 99 → ScriptLeft level.Alone context.Alone [] k t → OperandLeft (91 ∷ t)
substituted k t m (ScriptLeft.script c rest e sc p) =
    begun_so (91 ∷ t) (91 ∷ c ++ 93 ∷ []) rest (Command c ∷ []) (ap (λ y. 91 ∷ y) (e ∙ sym (append_assoc c (93 ∷ []) rest))) (operands.Operand.substitution (subst (λ y. Script y (93 ∷ rest) c) m sc))

-- variables and elements
element_so : (k : ℕ) (name t i a rest : List ℕ) (is : List Piece) → k ≡ 99 → Named name → t ≡ i ++ a → a ≡ 41 ∷ rest → Parts level.Alone k context.Index a i is → OperandLeft (36 ∷ name ++ 40 ∷ t)
element_so k name t i a rest is m nm e f p =
    begun_so (36 ∷ name ++ 40 ∷ t) (36 ∷ name ++ 40 ∷ i ++ 41 ∷ []) rest (Element name ∷ is ++ End ∷ [])
    (ap (λ y. 36 ∷ name ++ 40 ∷ y) (e ∙ ap (λ y. i ++ y) f) ∙ sym (append_assoc (36 ∷ name ++ 40 ∷ i) (41 ∷ []) rest ∙ append_assoc (36 ∷ name) (40 ∷ i) (41 ∷ rest)))
    (operands.Operand.element name nm (subst (λ y. Parts level.Alone y context.Index (41 ∷ rest) i is) m (subst (λ y. Parts level.Alone k context.Index y i is) f p)))

element_behind : (k : ℕ) (name t i a : List ℕ) (is : List Piece) → k ≡ 99 → Named name → t ≡ i ++ a → Parts level.Alone k context.Index a i is → PartsEnd level.Alone (opener.Paren context.Alone ∷ []) k context.Index a → OperandLeft (36 ∷ name ++ 40 ∷ t)
element_behind k name t i a is m nm e p (PartsEnd.index rest f q) = element_so k name t i a rest is m nm e f p

element : (n k : ℕ) (name t : List ℕ) → n ≡ 100 → n ≡ suc k → Named name → PartsLeft level.Alone (opener.Paren context.Alone ∷ []) k context.Index t → OperandLeft (36 ∷ name ++ 40 ∷ t)
element n k name t m e nm (PartsLeft.parts i a is f p q) = element_behind k name t i a is (omega (arith, m, e)) nm f p q

named : (n : ℕ) (name t : List ℕ) → n ≡ 100 → Named name → name ≢ [] → NameEnd level.Alone [] n context.Alone t → OperandLeft (36 ∷ name ++ t)
named n name t m nm ne (inl x) = begun_so (36 ∷ name ++ t) (36 ∷ name) t (Variable name ∷ []) refl (operands.Operand.variable name nm ne x.0)
named n name t m nm ne (inr x) = subst (λ y. OperandLeft (36 ∷ name ++ y)) (sym x.3) (element n x.0 name x.1 m x.2 nm x.4)

dollar : (n : ℕ) (t : List ℕ) → n ≡ 100 → DollarLeft level.Alone [] n context.Alone t → OperandLeft (36 ∷ t)
dollar n t m (DollarLeft.named name rest e nm ne x) = subst (λ y. OperandLeft (36 ∷ y)) (sym e) (named n name rest m nm ne x)
dollar n t m (DollarLeft.nameless k rest e f p) = subst (λ y. OperandLeft (36 ∷ y)) (sym f) (element n k [] rest m e (grammar.Named.local refl) p)
dollar n t m (DollarLeft.braced name rest e h p) =
    begun_so (36 ∷ t) (36 ∷ 123 ∷ name ++ 125 ∷ []) rest (Variable name ∷ []) (ap (λ y. 36 ∷ y) (e ∙ ap (λ y. 123 ∷ y) (sym (append_assoc name (125 ∷ []) rest)))) (operands.Operand.braced_variable name h)
dollar n t m (DollarLeft.lone h k p) = begun_so (36 ∷ t) (36 ∷ []) t (Text (36 ∷ []) ∷ []) refl (operands.Operand.dollar h k)
dollar n t m (DollarLeft.lone_colon rest e h p) = begun_so (36 ∷ t) (36 ∷ 58 ∷ []) rest (Text (36 ∷ 58 ∷ []) ∷ []) (ap (λ y. 36 ∷ y) e) (operands.Operand.dollar_colon h)

-- how an operand begins
all_room : (n : ℕ) → Standing level.Alone [] n context.Alone → n ≡ 100
all_room n g = omega (arith, g.room)

in_operand_quotes : (n : ℕ) → Standing level.Alone [] n context.Alone → Standing level.Alone [] n context.Quoted
in_operand_quotes n g = record { room = g.room; sound = tt }

bracket_opened : (n : ℕ) → Standing level.Alone [] n context.Alone → (bs : List ℕ) → Rec level.Alone bs → Above level.Alone mode.Start 0 [] (opener.Bracket context.Alone) bs → OperandLeft (91 ∷ bs)
bracket_opened zero g bs rec a = absurd (omega (arith, g.room))
bracket_opened (suc k) g bs rec a = substituted k bs (omega (arith, g.room)) (rec mode.Start 0 (opener.Bracket context.Alone ∷ []) k a.1 refl (in_bracket level.Alone [] k context.Alone g) tt)

begins_so : (n : ℕ) → Standing level.Alone [] n context.Alone → (c : Class) (b : ℕ) (bs : List ℕ) → class_of b ≡ c → Rec level.Alone bs → Reads level.Alone mode.Operand 0 [] (b ∷ bs) → OperandLeft (b ∷ bs)
unfolding transition
begins_so n g class.Quote b bs e rec r =
    subst (λ y. OperandLeft (y ∷ bs)) (sym (is_class b class.Quote e))
    (quoted n bs (all_room n g)
    (rec (mode.In context.Quoted) 0 [] n (reads_to level.Alone effect.Nothing effect.Nothing (mode.In context.Quoted) 0 [] b bs (taken level.Alone mode.Operand 0 [] b bs class.Quote (goes (mode.In context.Quoted)) e refl r)) refl (in_operand_quotes n g)))
begins_so n g class.Open b bs e rec r =
    subst (λ y. OperandLeft (y ∷ bs)) (sym (is_class b class.Open e))
    (braced n bs (rec mode.Braced 0 [] n (reads_to level.Alone effect.Nothing effect.Nothing mode.Braced 0 [] b bs (taken level.Alone mode.Operand 0 [] b bs class.Open (goes mode.Braced) e refl r)) (in_operand_quotes n g)))
begins_so n g class.LeftBracket b bs e rec r =
    subst (λ y. OperandLeft (y ∷ bs)) (sym (is_class b class.LeftBracket e))
    (bracket_opened n g bs rec (reads_bracket level.Alone context.Alone 0 [] b bs (taken level.Alone mode.Operand 0 [] b bs class.LeftBracket (does effect.Nothing (target.Bracket context.Alone)) e refl r)))
begins_so n g class.Dollar b bs e rec r =
    subst (λ y. OperandLeft (y ∷ bs)) (sym (is_class b class.Dollar e))
    (dollar n bs (all_room n g)
    (rec (mode.Dollar context.Alone) 0 [] n (reads_to level.Alone effect.Nothing effect.Nothing (mode.Dollar context.Alone) 0 [] b bs (taken level.Alone mode.Operand 0 [] b bs class.Dollar (goes (mode.Dollar context.Alone)) e refl r)) refl g))
begins_so n g c b bs e rec r = begun_so (b ∷ bs) [] (b ∷ bs) [] refl (operands.Operand.nothing (ap begins_operand e))

pub operand_case : (l : Level) (stack : List Opener) (n : ℕ) → Standing l stack n context.Alone → (b : ℕ) (bs : List ℕ) → Rec l bs → Reads l mode.Operand 0 stack (b ∷ bs) → OperandLeft (b ∷ bs)
operand_case level.Alone [] n g b bs rec r = begins_so n g (class_of b) b bs refl rec r
operand_case level.Top [] n g b bs rec r = let x = g.sound in absurd cc
operand_case level.List [] n g b bs rec r = let x = g.sound in absurd cc
operand_case level.Inside [] n g b bs rec r = let x = g.sound in absurd cc
operand_case l (o ∷ stack) n g b bs rec r = absurd g.sound

pub operand_stop : OperandLeft []
operand_stop = begun_so [] [] [] [] refl (operands.Operand.nothing refl)
