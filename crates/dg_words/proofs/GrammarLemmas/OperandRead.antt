-- A text that begins with an operand is read as it.
use Rattle.std.specs.Prelude.{◌≡◌, ◌≢◌, ℕ, ◌+◌, List, [], ◌∷◌, ◌++◌, length, refl, Ok, false, drop}
use Rattle.std.proofs.Common.{◌∙◌, ap, sym, arith, subst, append_assoc}
use Rattle.dg_words.specs.Piece.{Piece, Text, Variable, Element, End, Command}
use Rattle.dg_lists.specs.declared.kinds.Class.{Class}
use Rattle.dg_lists.specs.declared.kinds.Class.TheVariants as class
use Rattle.dg_lists.specs.declared.kinds.Effect.TheVariants as effect
use Rattle.dg_lists.specs.declared.kinds.Delimiter.{Delimiter}
use Rattle.dg_lists.specs.declared.kinds.Delimiter.TheVariants as delimiter
use Rattle.dg_words.specs.declared.kinds.Level.TheVariants as level
use Rattle.dg_lists.specs.declared.kinds.Mode.TheVariants as mode
use Rattle.dg_lists.specs.declared.kinds.Target.TheVariants as target
use Rattle.dg_words.specs.declared.kinds.Opener.TheVariants as opener
use Rattle.dg_lists.specs.declared.kinds.Context.TheVariants as context
use Rattle.dg_words.specs.declared.word.Word.{Word}
use Rattle.dg_lists.specs.Classes.{class_of}
use Rattle.dg_lists.specs.Transitions.{does}
use Rattle.dg_words.specs.Transitions.{ends, in_operand, transition}
use Rattle.dg_words.specs.Machine.{Draft, add, close, fresh, onward, perform, read, stop}
use Rattle.dg_words.specs.Reading.{kind_of, operand_at}
use Rattle.dg_words.specs.Grammar.Words.{Named, begins_variable, begins_with_colon, is_colon, with_text}
use Rattle.dg_words.specs.Grammar.Operands as operands
use Rattle.dg_words.specs.Grammar.Operands.{Begun, Operand, begins_operand, is_begun}
use Rattle.dg_lists.proofs.GrammarLemmas.ListRead.{quote_is}
use Rattle.dg_words.proofs.GrammarLemmas.Segments.{Leads, Seg, at, lead_both, lead_one, pend_read, seg_one, seg_then, step_by}
use Rattle.dg_words.proofs.GrammarLemmas.Pieces.{begun, colon_is, dollar_is, left_bracket_is, open_is, pends_colon, pends_dollar, pends_dollar_end, pends_name, same, seg_begun, seg_brace_name}
use Rattle.dg_words.proofs.GrammarLemmas.PartRead.{Behind, atom_then, behind_none, bracket_closes, bracket_taken, closed_is, command_atom, element_atom, index_closes, indexed, paren_lead, unbracketed, unindexed}
use Rattle.dg_words.proofs.GrammarLemmas.Between.{seg_braced}
use Rattle.dg_words.proofs.GrammarLemmas.WordRead.{base, end_is, parts_lead, script_lead, seg_unbrace, seg_unquote}

-- nothing was read
abbrev none : Draft
none = base false []

abbrev one : List Piece → List Word
one ps = record { expand = false; parts = ps } ∷ []

-- the word that a draft holds
whole : (e : Draft) (t : List ℕ) (ps : List Piece) → Behind [] none t ps e → (perform effect.Word e).words ≡ one ps
whole e t ps h = ap (λ (d : Draft). d.words) (end_is e [] false ps h.2 h.0 h.1 h.3)

-- the operand is over, whatever stands behind it
alone_ends : (after : List ℕ) (d : Draft) (p : ℕ) → read level.Alone after (at [] (mode.In context.Alone) 0 d) p ≡ Ok ((perform effect.Word d).words, p)
unfolding read stop ends transition
alone_ends [] d p = refl
alone_ends (b ∷ bs) d p =
    ap (λ m. onward m p (λ n. read level.Alone bs n (p + 1))) (step_by level.Alone (at [] (mode.In context.Alone) 0 d) b (class_of b) (does effect.Word target.Rest) refl refl)
    ∙ ap (λ q. Ok ((perform effect.Word d).words, q)) (omega arith)

behind_ends : (k : Delimiter) (after : List ℕ) (d : Draft) (p : ℕ) → read level.Alone after (at [] (mode.Behind k) 0 d) p ≡ Ok (d.words, p)
unfolding read stop ends transition
behind_ends k [] d p = refl
behind_ends k (b ∷ bs) d p =
    ap (λ m. onward m p (λ n. read level.Alone bs n (p + 1))) (step_by level.Alone (at [] (mode.Behind k) 0 d) b (class_of b) (does effect.Nothing target.Rest) refl refl)
    ∙ ap (λ q. Ok (d.words, q)) (omega arith)

no_operand : (c : Class) → begins_operand c ≡ false → in_operand c ≡ does effect.Word target.Rest
no_operand class.Quote h = absurd cc
no_operand class.Open h = absurd cc
no_operand class.LeftBracket h = absurd cc
no_operand class.Dollar h = absurd cc
no_operand c h = refl

nothing_ends : (after : List ℕ) (p : ℕ) → is_begun after ≡ false → read level.Alone after (at [] mode.Operand 0 none) p ≡ Ok (one [], p)
unfolding read stop ends transition
nothing_ends [] p h = refl
nothing_ends (b ∷ bs) p h =
    ap (λ m. onward m p (λ n. read level.Alone bs n (p + 1))) (step_by level.Alone (at [] mode.Operand 0 none) b (class_of b) (does effect.Word target.Rest) refl (no_operand (class_of b) h))
    ∙ ap (λ q. Ok (one [], q)) (omega arith)

-- what an operand begins with
seg_quote : (after : List ℕ) → Seg level.Alone [] after mode.Operand 0 (34 ∷ []) same (mode.In context.Quoted) 0
unfolding transition
seg_quote after = seg_one level.Alone [] after mode.Operand (mode.In context.Quoted) 0 34 class.Quote effect.Nothing effect.Nothing quote_is refl

seg_brace : (after : List ℕ) → Seg level.Alone [] after mode.Operand 0 (123 ∷ []) same mode.Braced 0
unfolding transition
seg_brace after = seg_one level.Alone [] after mode.Operand mode.Braced 0 123 class.Open effect.Nothing effect.Nothing open_is refl

seg_dollar : (after : List ℕ) → Seg level.Alone [] after mode.Operand 0 (36 ∷ []) same (mode.Dollar context.Alone) 0
unfolding transition
seg_dollar after = seg_one level.Alone [] after mode.Operand (mode.Dollar context.Alone) 0 36 class.Dollar effect.Nothing effect.Nothing dollar_is refl

bracket_lead : (after : List ℕ) → Leads level.Alone after (at [] mode.Operand 0 none) (91 ∷ []) (at (opener.Bracket context.Alone ∷ []) mode.Start 0 (close none))
unfolding transition
bracket_lead after =
    lead_one level.Alone after _ _ 91 (step_by level.Alone (at [] mode.Operand 0 none) 91 class.LeftBracket (does effect.Nothing (target.Bracket context.Alone)) left_bracket_is refl ∙ bracket_taken context.Alone [] none refl)

seg_named : (after name : List ℕ) → Named name → name ≢ [] → Seg level.Alone [] after mode.Operand 0 (36 ∷ name) (begun name) (mode.Name context.Alone) 0
seg_named after name h n =
    seg_then level.Alone [] after mode.Operand (mode.Dollar context.Alone) (mode.Name context.Alone) 0 0 0 36 name same (begun name) (seg_dollar (name ++ after)) (seg_begun level.Alone [] after context.Alone name h n)

-- `$`, a name and `(`
element_opens : (after name : List ℕ) → Named name → Leads level.Alone after (at [] mode.Operand 0 none) (36 ∷ name ++ 40 ∷ []) (at [] (mode.In context.Index) 0 (indexed context.Alone [] [] name none))
unfolding transition
element_opens after [] h = lead_both level.Alone after _ _ _ (36 ∷ []) (40 ∷ []) (seg_dollar (40 ∷ after) none) (paren_lead level.Alone [] after context.Alone (mode.Dollar context.Alone) effect.Close none refl refl)
element_opens after (b ∷ bs) h =
    lead_both level.Alone after _ _ _ (36 ∷ b ∷ bs) (40 ∷ []) (seg_named (40 ∷ after) (b ∷ bs) h (λ e. absurd cc) none)
    (paren_lead level.Alone [] after context.Alone (mode.Name context.Alone) effect.Nothing (begun (b ∷ bs) none) refl refl)

-- an operand, up to its end
abbrev IsRead : List ℕ → List ℕ → List Piece → Type 0
IsRead after t ps = (p : ℕ) → read level.Alone (t ++ after) (at [] mode.Operand 0 none) p ≡ Ok (one ps, p + length t)

-- behind its last part
by_alone : (after t : List ℕ) (ps : List Piece) (e : Draft) → Leads level.Alone after (at [] mode.Operand 0 none) t (at [] (mode.In context.Alone) 0 e) → Behind [] none t ps e → IsRead after t ps
by_alone after t ps e x h = λ p. x.on p ∙ alone_ends after e (p + length t) ∙ ap (λ ws. Ok (ws, p + length t)) (whole e t ps h)

by_behind : (k : Delimiter) (after t : List ℕ) (ps : List Piece) (e : Draft) → Leads level.Alone after (at [] mode.Operand 0 none) t (at [] (mode.Behind k) 0 (perform effect.Word e)) → Behind [] none t ps e → IsRead after t ps
by_behind k after t ps e x h = λ p. x.on p ∙ behind_ends k after (perform effect.Word e) (p + length t) ∙ ap (λ ws. Ok (ws, p + length t)) (whole e t ps h)

operand_read : (after t : List ℕ) (ps : List Piece) → Operand after t ps → IsRead after t ps
unfolding transition
operand_read after t ps (operands.Operand.quoted {t = u} r) =
    let y = parts_lead level.Alone level.Alone 100 context.Quoted (34 ∷ after) u ps r [] none refl (λ e. absurd cc) refl in
    by_behind delimiter.Quote after (34 ∷ u ++ 34 ∷ []) ps y.draft
    (lead_both level.Alone after _ _ _ (34 ∷ u) (34 ∷ []) (lead_both level.Alone (34 ∷ after) _ _ _ (34 ∷ []) u (seg_quote (u ++ 34 ∷ after) none) y.leads) (seg_unquote level.Alone [] after y.draft)) y.behind
operand_read after t ps (operands.Operand.braced {t = u} {v = v} h) =
    by_behind delimiter.Brace after (123 ∷ u ++ 125 ∷ []) (with_text v []) (add v none)
    (lead_both level.Alone after _ _ _ (123 ∷ u) (125 ∷ [])
    (lead_both level.Alone (125 ∷ after) _ _ _ (123 ∷ []) u (seg_brace (u ++ 125 ∷ after) none) (seg_braced level.Alone [] (125 ∷ after) 0 u v refl h none)) (seg_unbrace level.Alone [] after (add v none)))
    (refl, refl, refl, closed_is [] v)
operand_read after t ps (operands.Operand.variable name nm ne h) = λ p.
    (seg_named after name nm ne none).on p
    ∙ pend_read level.Alone [] after (mode.Name context.Alone) context.Alone effect.Value (begun name none) (pends_name level.Alone [] after context.Alone h) (p + length (36 ∷ name))
    ∙ alone_ends after (perform effect.Value (begun name none)) (p + length (36 ∷ name))
operand_read after t ps (operands.Operand.braced_variable name h) =
    by_alone after (36 ∷ 123 ∷ name ++ 125 ∷ []) (Variable name ∷ []) (perform effect.Value (add name (close none)))
    (seg_then level.Alone [] after mode.Operand (mode.Dollar context.Alone) (mode.In context.Alone) 0 0 0 36 (123 ∷ name ++ 125 ∷ []) same (λ d. perform effect.Value (add name (close d))) (seg_dollar (123 ∷ name ++ 125 ∷ [] ++ after))
    (seg_then level.Alone [] after (mode.Dollar context.Alone) (mode.NameBrace context.Alone) (mode.In context.Alone) 0 0 0 123 (name ++ 125 ∷ []) close (λ d. perform effect.Value (add name d))
    (seg_one level.Alone [] (name ++ 125 ∷ [] ++ after) (mode.Dollar context.Alone) (mode.NameBrace context.Alone) 0 123 class.Open effect.Nothing effect.Close open_is refl)
    (seg_brace_name level.Alone [] after context.Alone name h)) none) (refl, refl, refl, refl)
operand_read after t ps (operands.Operand.element {i = i} {is = is} name nm j) =
    let front = 36 ∷ name ++ 40 ∷ [] in
    let d1 = indexed context.Alone [] [] name none in
    let x = parts_lead level.Alone level.Alone 99 context.Index (41 ∷ after) i is j [] d1 refl (λ y. absurd cc) refl in
    let d3 = unindexed context.Alone [] [] x.draft in
    let a = element_atom [] context.Alone none x.draft front name i is x.behind in
    subst (λ y. IsRead after y (Element name ∷ is ++ End ∷ [])) (ap (λ y. y ++ 41 ∷ []) (append_assoc (36 ∷ name) (40 ∷ []) i))
    (by_alone after (front ++ i ++ 41 ∷ []) (Element name ∷ is ++ End ∷ []) d3
    (lead_both level.Alone after _ _ _ (front ++ i) (41 ∷ []) (lead_both level.Alone (41 ∷ after) _ _ _ front i (element_opens (i ++ 41 ∷ after) name nm) x.leads)
    (index_closes level.Alone after context.Alone [] [] name none x.draft i is x.behind))
    (atom_then [] none d3 d3 (front ++ i ++ 41 ∷ []) [] (λ y. Element name ∷ is ++ End ∷ y) [] a (behind_none [] d3)))
operand_read after t ps (operands.Operand.substitution {c = c} sc) =
    let d1 = close none in
    let d3 = unbracketed [] (add c d1) in
    by_alone after (91 ∷ c ++ 93 ∷ []) (Command c ∷ []) d3
    (lead_both level.Alone after _ _ _ (91 ∷ c) (93 ∷ [])
    (lead_both level.Alone (93 ∷ after) _ _ _ (91 ∷ []) c (bracket_lead (c ++ 93 ∷ after)) (script_lead level.Alone 99 (93 ∷ after) c sc after refl (opener.Bracket context.Alone) [] d1 refl))
    (bracket_closes level.Alone [] after context.Alone (add c d1)))
    (atom_then [] none d3 d3 (91 ∷ c ++ 93 ∷ []) [] (λ y. Command c ∷ y) [] (command_atom [] none c) (behind_none [] d3))
operand_read after t ps (operands.Operand.dollar h k) = dollar_read after h k
  where
    dollar_read : (after : List ℕ) → begins_variable after ≡ false → begins_with_colon after ≡ false → IsRead after (36 ∷ []) (Text (36 ∷ []) ∷ [])
    dollar_read [] h k = λ p.
        (seg_dollar [] none).on p ∙ pend_read level.Alone [] [] (mode.Dollar context.Alone) context.Alone effect.Dollar none (pends_dollar_end level.Alone [] context.Alone) (p + 1) ∙ alone_ends [] (perform effect.Dollar none) (p + 1)
    dollar_read (b ∷ bs) h k = λ p.
        (seg_dollar (b ∷ bs) none).on p
        ∙ pend_read level.Alone [] (b ∷ bs) (mode.Dollar context.Alone) context.Alone effect.Dollar none (pends_dollar level.Alone [] b bs context.Alone h (λ e. let x = sym k ∙ ap is_colon e in absurd cc)) (p + 1)
        ∙ alone_ends (b ∷ bs) (perform effect.Dollar none) (p + 1)
operand_read after t ps (operands.Operand.dollar_colon h) = λ p.
    (seg_then level.Alone [] after mode.Operand (mode.Dollar context.Alone) (mode.Colon context.Alone) 0 0 0 36 (58 ∷ []) same same (seg_dollar (58 ∷ after))
    (seg_one level.Alone [] after (mode.Dollar context.Alone) (mode.Colon context.Alone) 0 58 class.Colon effect.Nothing effect.Nothing colon_is refl) none).on p
    ∙ pend_read level.Alone [] after (mode.Colon context.Alone) context.Alone effect.DollarColon none (pends_colon level.Alone [] after context.Alone h) (p + 2) ∙ alone_ends after (perform effect.DollarColon none) (p + 2)
operand_read after t ps (operands.Operand.nothing h) = λ p. nothing_ends after p h ∙ ap (λ q. Ok (one [], q)) (omega arith)

begun_read : (text : List ℕ) (ps : List Piece) (n p : ℕ) → Begun text ps n → read level.Alone text (fresh mode.Operand) p ≡ Ok (one ps, p + n)
begun_read text ps n p (operands.Begun.operand {t = t} {after = after} h) = operand_read after t ps h p

pub spelled_operand_is_read : (text : List ℕ) (at n : ℕ) (ps : List Piece) → Begun (drop at text) ps n → operand_at text at ≡ Ok (one ps, at + n)
unfolding operand_at
spelled_operand_is_read text at n ps h = ap kind_of (begun_read (drop at text) ps n at h)
