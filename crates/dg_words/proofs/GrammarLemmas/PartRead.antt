-- How the parts of words and their indices are read, and how a word begins.
use Rattle.std.specs.Prelude.{◌≡◌, ◌≢◌, ℕ, suc, ◌+◌, List, [], ◌∷◌, ◌++◌, length, refl, Bool, true, false, not}
use Rattle.std.proofs.Common.{◌∙◌, ap, sym, arith, subst, append_assoc}
use Rattle.std.proofs.lemmas.List.{append-nil}
use Rattle.std.proofs.lemmas.Bool.{lt-ltb}
use Rattle.dg_words.specs.Piece.{Piece, Text, Variable, Element, End, Command}
use Rattle.dg_lists.specs.declared.kinds.Class.{Class}
use Rattle.dg_lists.specs.declared.kinds.Class.TheVariants as class
use Rattle.dg_lists.specs.declared.kinds.Effect.{Effect}
use Rattle.dg_lists.specs.declared.kinds.Effect.TheVariants as effect
use Rattle.dg_words.specs.declared.kinds.Level.{Level}
use Rattle.dg_words.specs.declared.kinds.Level.TheVariants as level
use Rattle.dg_lists.specs.declared.kinds.Mode.{Mode}
use Rattle.dg_lists.specs.declared.kinds.Mode.TheVariants as mode
use Rattle.dg_lists.specs.declared.kinds.Target.TheVariants as target
use Rattle.dg_words.specs.declared.kinds.Opener.{Opener}
use Rattle.dg_lists.specs.declared.kinds.Context.{Context}
use Rattle.dg_lists.specs.declared.kinds.Context.TheVariants as context
use Rattle.dg_lists.specs.declared.kinds.Transition.{Transition}
use Rattle.dg_lists.specs.Classes.{class_of}
use Rattle.dg_lists.specs.Transitions.{behind_effect, does, goes}
use Rattle.dg_words.specs.Transitions.{ends, in_context, transition}
use Rattle.dg_words.specs.Machine.{Draft, Go, State, add, close, closed, command, level_in, perform, read, step, stop, take_transition}
use Rattle.dg_lists.specs.Transitions.{escaped, letter_of}
use Rattle.dg_words.specs.Machine.{close_index, has_room, leaves_index, open_index, opens}
use Rattle.dg_lists.specs.Grammar.Escapes as spec
use Rattle.dg_lists.specs.Grammar.Escapes.{Escaped, stands_for}
use Rattle.dg_words.specs.Grammar.Words as words
use Rattle.dg_words.specs.Grammar.Words.{plain, ends_word, Named, with_text}
use Rattle.dg_lists.proofs.GrammarLemmas.Numbers.{Paired, paired}
use Rattle.dg_lists.proofs.GrammarLemmas.Bytes.{is_class}
use Rattle.dg_lists.proofs.GrammarLemmas.ListRead.{backslash_is}
use Rattle.dg_words.proofs.GrammarLemmas.Segments.{at, Leads, lead_one, lead_both, step_by, read_step, read_end, moved, add_add, add_none, Seg, seg_one, does_in, pend_step, pend_transition}
use Rattle.dg_words.specs.Grammar.Words.{Parts, Gap, begins, BeginsWord}
use Rattle.dg_words.proofs.GrammarLemmas.Pieces.{same, seg_backslash}
use Rattle.dg_words.proofs.GrammarLemmas.Pieces.{begun, behind_nothing, escaped_transition, letter_line, octal_line, dollar_is, left_bracket_is, right_bracket_is, right_paren_is, paren_is, bracket_transition, seg_dollar, seg_named, varied}
use Rattle.dg_words.specs.declared.kinds.Opener.TheVariants as opener
use Rattle.dg_lists.specs.declared.fault.WordFault.TheVariants.{MissingBracket, MissingParen}

-- pieces and the text behind them
pub text_text : (u v : List ℕ) (ps : List Piece) → with_text (u ++ v) ps ≡ with_text u (with_text v ps)
text_text [] v ps = refl
text_text (b ∷ bs) [] ps = ap (λ t. with_text (b ∷ t) ps) (append-nil bs)
text_text (b ∷ bs) (c ∷ cs) [] = refl
text_text (b ∷ bs) (c ∷ cs) (Text t ∷ ps) = ap (λ x. Text (b ∷ x) ∷ ps) (append_assoc bs (c ∷ cs) t)
text_text (b ∷ bs) (c ∷ cs) (Variable n ∷ ps) = refl
text_text (b ∷ bs) (c ∷ cs) (Element n ∷ ps) = refl
text_text (b ∷ bs) (c ∷ cs) (End ∷ ps) = refl
text_text (b ∷ bs) (c ∷ cs) (Command s ∷ ps) = refl

pub closed_is : (ps : List Piece) (t : List ℕ) → closed ps t ≡ ps ++ with_text t []
closed_is ps [] = sym (append-nil ps)
closed_is ps (b ∷ bs) = refl

pub closed_variable : (ps qs : List Piece) (t n : List ℕ) → closed ps t ++ Variable n ∷ qs ≡ ps ++ with_text t (Variable n ∷ qs)
closed_variable ps qs [] n = refl
closed_variable ps qs (b ∷ bs) n = append_assoc ps (Text (b ∷ bs) ∷ []) (Variable n ∷ qs)

pub closed_element : (ps qs : List Piece) (t n : List ℕ) → closed ps t ++ Element n ∷ qs ≡ ps ++ with_text t (Element n ∷ qs)
closed_element ps qs [] n = refl
closed_element ps qs (b ∷ bs) n = append_assoc ps (Text (b ∷ bs) ∷ []) (Element n ∷ qs)

pub closed_command : (ps qs : List Piece) (t n : List ℕ) → closed ps t ++ Command n ∷ qs ≡ ps ++ with_text t (Command n ∷ qs)
closed_command ps qs [] n = refl
closed_command ps qs (b ∷ bs) n = append_assoc ps (Text (b ∷ bs) ∷ []) (Command n ∷ qs)

-- the draft e is d behind the text t, which spells ps
abbrev pub Behind : List Opener → Draft → List ℕ → List Piece → Draft → Type 0
Behind [] d t ps e = (e.words ≡ d.words) × (e.expand ≡ d.expand) × (e.indices ≡ d.indices) × (closed e.parts e.text ≡ d.parts ++ with_text d.text ps)
Behind (o ∷ os) d t ps e = e ≡ add t d

-- so whatever pieces follow
abbrev pub Atom : List Opener → Draft → List ℕ → (List Piece → List Piece) → Draft → Type 0
Atom [] d t q e = (e.words ≡ d.words) × (e.expand ≡ d.expand) × (e.indices ≡ d.indices) × ((ps : List Piece) → e.parts ++ with_text e.text ps ≡ d.parts ++ with_text d.text (q ps))
Atom (o ∷ os) d t q e = e ≡ add t d

pub atom_then : (inner : List Opener) (d e f : Draft) (a t : List ℕ) (q : List Piece → List Piece) (ps : List Piece) → Atom inner d a q e → Behind inner e t ps f → Behind inner d (a ++ t) (q ps) f
atom_then [] d e f a t q ps x y = (y.0 ∙ x.0, y.1 ∙ x.1, y.2 ∙ x.2, y.3 ∙ x.3 ps)
atom_then (o ∷ os) d e f a t q ps x y = y ∙ ap (add t) x ∙ add_add a t d

pub behind_none : (inner : List Opener) (d : Draft) → Behind inner d [] [] d
behind_none [] d = (refl, refl, refl, closed_is d.parts d.text)
behind_none (o ∷ os) d = sym (add_none d)

pub atom_indices : (inner : List Opener) (d e : Draft) (a : List ℕ) (q : List Piece → List Piece) → Atom inner d a q e → e.indices ≡ d.indices
atom_indices [] d e a q x = x.2
atom_indices (o ∷ os) d e a q x = ap (λ (y : Draft). y.indices) x

pub text_atom : (inner : List Opener) (d : Draft) (a w : List ℕ) → Atom inner d a (with_text w) (moved inner a (add w) d)
text_atom [] d a w = (refl, refl, refl, λ ps. ap (λ x. d.parts ++ x) (text_text d.text w ps))
text_atom (o ∷ os) d a w = refl

pub variable_atom : (inner : List Opener) (d : Draft) (a name : List ℕ) → Atom inner d a (λ ps. Variable name ∷ ps) (moved inner a (varied name) d)
variable_atom [] d a name = (refl, refl, refl, λ ps. append_assoc (closed d.parts d.text) (Variable name ∷ []) ps ∙ closed_variable d.parts ps d.text name)
variable_atom (o ∷ os) d a name = refl

-- parts that were read from d on
pub record Leading (l : Level) (inner : List Opener) (after : List ℕ) (s : Context) (d : Draft) (t : List ℕ) (ps : List Piece) : Type 0 where
  pub draft : Draft
  pub leads : Leads l after (at inner (mode.In s) 0 d) t (at inner (mode.In s) 0 draft)
  pub behind : Behind inner d t ps draft

pub by_seg : (l : Level) (inner : List Opener) (after : List ℕ) (s : Context) (d : Draft) (a t : List ℕ) (f : Draft → Draft) (q : List Piece → List Piece) (ps : List Piece) →
    Seg l inner (t ++ after) (mode.In s) 0 a f (mode.In s) 0 → Atom inner d a q (moved inner a f d) → Leading l inner after s (moved inner a f d) t ps → Leading l inner after s d (a ++ t) (q ps)
by_seg l inner after s d a t f q ps x y r = record {
  draft = r.draft;
  leads = lead_both l after _ _ _ a t (x d) r.leads;
  behind = atom_then inner d (moved inner a f d) r.draft a t q ps y r.behind;
}

-- room for more brackets and indices
abbrev pub Room : ℕ → List Opener → Draft → Type 0
Room n inner d = n + (length d.indices + length inner) ≡ 100

pub room_as : (n : ℕ) (inner : List Opener) (d e : Draft) → e.indices ≡ d.indices → Room n inner d → Room n inner e
room_as n inner d e h r = subst (λ x. n + (length x + length inner) ≡ 100) (sym h) r

pub has_room_is : (n : ℕ) (inner : List Opener) (d : Draft) → Room (suc n) inner d → has_room d inner ≡ true
has_room_is n inner d r = lt-ltb (length d.indices + length inner) 100 (omega (arith, r))

-- an index opens and closes
abbrev pub entered : Context → List Opener → List Opener
entered s [] = []
entered s (o ∷ os) = opener.Paren s ∷ o ∷ os

pub entered_level : (l : Level) (s : Context) (inner : List Opener) → level_in l (entered s inner) ≡ level_in l inner
entered_level l s [] = refl
entered_level l s (o ∷ os) = refl

abbrev pub indexed : Context → List Opener → List ℕ → List ℕ → Draft → Draft
indexed s [] a name d = open_index s (begun name d)
indexed s (o ∷ os) a name d = add a d

pub entered_room : (n : ℕ) (s : Context) (inner : List Opener) (a name : List ℕ) (d : Draft) → Room (suc n) inner d → Room n (entered s inner) (indexed s inner a name d)
entered_room n s [] a name d r = omega (arith, r)
entered_room n s (o ∷ os) a name d r = omega (arith, r)

abbrev pub unindexed : Context → List Opener → List Context → Draft → Draft
unindexed s [] rest d = close_index rest d
unindexed s (o ∷ os) rest d = add (41 ∷ []) d

pub index_closes : (l : Level) (after : List ℕ) (s : Context) (inner : List Opener) (a name : List ℕ) (d e : Draft) (i : List ℕ) (is : List Piece) → Behind (entered s inner) (indexed s inner a name d) i is e →
    Leads l after (at (entered s inner) (mode.In context.Index) 0 e) (41 ∷ []) (at inner (mode.In s) 0 (unindexed s inner d.indices e))
unfolding transition
index_closes l after s [] a name d e i is h =
    lead_one l after _ _ 41 (step_by l (at [] (mode.In context.Index) 0 e) 41 class.RightParen (does effect.Nothing target.Leave) right_paren_is refl ∙ ap (λ x. leaves_index x 0 e) h.2)
index_closes l after s (o ∷ os) a name d e i is h =
    lead_one l after _ _ 41 (step_by l (at (opener.Paren s ∷ o ∷ os) (mode.In context.Index) 0 e) 41 class.RightParen (does effect.Nothing target.Leave) right_paren_is refl)

pub element_atom : (inner : List Opener) (s : Context) (d e : Draft) (a name i : List ℕ) (is : List Piece) → Behind (entered s inner) (indexed s inner a name d) i is e →
    Atom inner d (a ++ i ++ 41 ∷ []) (λ ps. Element name ∷ is ++ End ∷ ps) (unindexed s inner d.indices e)
element_atom [] s d e a name i is h = (
  h.0,
  h.1,
  refl,
  λ ps.
      ap (λ x. x ++ End ∷ [] ++ ps) h.3
      ∙ ap (λ x. x ++ ps) (append_assoc (closed d.parts d.text ++ Element name ∷ []) is (End ∷ []))
      ∙ append_assoc (closed d.parts d.text ++ Element name ∷ []) (is ++ End ∷ []) ps
      ∙ append_assoc (closed d.parts d.text) (Element name ∷ []) (is ++ End ∷ [] ++ ps)
      ∙ ap (λ x. closed d.parts d.text ++ Element name ∷ x) (append_assoc is (End ∷ []) ps)
      ∙ closed_element d.parts (is ++ End ∷ ps) d.text name,
)
element_atom (o ∷ os) s d e a name i is h = ap (add (41 ∷ [])) h ∙ ap (add (41 ∷ [])) (add_add a i d) ∙ add_add (a ++ i) (41 ∷ []) d

-- `$`, a name and `(`
abbrev pub opened : Context → List Opener → Effect → Draft → Draft
opened s [] f d = open_index s (perform f d)
opened s (o ∷ os) f d = add (40 ∷ []) d

pub paren_taken : (s : Context) (inner : List Opener) (f : Effect) (d : Draft) → has_room (does_in inner f d) inner ≡ true →
    take_transition (record { first = f; second = effect.Nothing; next = target.Paren s }) 0 inner d 40 ≡ Go (at (entered s inner) (mode.In context.Index) 0 (opened s inner f d))
paren_taken s [] f d r = ap (λ x. opens x MissingParen (at [] (mode.In context.Index) 0 (open_index s (perform f d)))) r
paren_taken s (o ∷ os) f d r = ap (λ x. opens x MissingParen (at (opener.Paren s ∷ o ∷ os) (mode.In context.Index) 0 (add (40 ∷ []) d))) r

pub paren_lead : (l : Level) (inner : List Opener) (after : List ℕ) (s : Context) (m : Mode) (f : Effect) (d : Draft) → transition (level_in l inner) false m class.LeftParen 40 ≡ record { first = f; second = effect.Nothing; next = target.Paren s } →
    has_room (does_in inner f d) inner ≡ true → Leads l after (at inner m 0 d) (40 ∷ []) (at (entered s inner) (mode.In context.Index) 0 (opened s inner f d))
paren_lead l inner after s m f d h r = lead_one l after _ _ 40 (step_by l (at inner m 0 d) 40 class.LeftParen _ paren_is h ∙ paren_taken s inner f d r)

pub element_opens : (l : Level) (inner : List Opener) (after : List ℕ) (s : Context) (n : ℕ) (name : List ℕ) (d : Draft) → s ≢ context.Alone → Named name → Room (suc n) inner d →
    Leads l after (at inner (mode.In s) 0 d) (36 ∷ name ++ 40 ∷ []) (at (entered s inner) (mode.In context.Index) 0 (indexed s inner (36 ∷ name ++ 40 ∷ []) name d))
unfolding transition
element_opens l [] after s n [] d na h r =
    lead_both l after _ _ _ (36 ∷ []) (40 ∷ []) (seg_dollar l [] (40 ∷ after) s na d) (paren_lead l [] after s (mode.Dollar s) effect.Close d refl (has_room_is n [] (close d) r))
element_opens l (o ∷ os) after s n [] d na h r =
    subst (λ x. Leads l after (at (o ∷ os) (mode.In s) 0 d) (36 ∷ 40 ∷ []) (at (opener.Paren s ∷ o ∷ os) (mode.In context.Index) 0 x)) (add_add (36 ∷ []) (40 ∷ []) d)
    (lead_both l after _ _ _ (36 ∷ []) (40 ∷ []) (seg_dollar l (o ∷ os) (40 ∷ after) s na d)
    (paren_lead l (o ∷ os) after s (mode.Dollar s) effect.Close (add (36 ∷ []) d) refl (has_room_is n (o ∷ os) (add (36 ∷ []) d) r)))
element_opens l [] after s n (b ∷ bs) d na h r =
    lead_both l after _ _ _ (36 ∷ b ∷ bs) (40 ∷ []) (seg_named l [] (40 ∷ after) s (b ∷ bs) na h (λ e. absurd cc) d)
    (paren_lead l [] after s (mode.Name s) effect.Nothing (begun (b ∷ bs) d) refl (has_room_is n [] (begun (b ∷ bs) d) r))
element_opens l (o ∷ os) after s n (b ∷ bs) d na h r =
    subst (λ x. Leads l after (at (o ∷ os) (mode.In s) 0 d) (36 ∷ (b ∷ bs) ++ 40 ∷ []) (at (opener.Paren s ∷ o ∷ os) (mode.In context.Index) 0 x)) (add_add (36 ∷ b ∷ bs) (40 ∷ []) d)
    (lead_both l after _ _ _ (36 ∷ b ∷ bs) (40 ∷ []) (seg_named l (o ∷ os) (40 ∷ after) s (b ∷ bs) na h (λ e. absurd cc) d)
    (paren_lead l (o ∷ os) after s (mode.Name s) effect.Nothing (add (36 ∷ b ∷ bs) d) refl (has_room_is n (o ∷ os) (add (36 ∷ b ∷ bs) d) r)))

-- brackets
abbrev pub bracketed : List Opener → Draft → Draft
bracketed [] d = close d
bracketed (o ∷ os) d = add (91 ∷ []) d

abbrev pub unbracketed : List Opener → Draft → Draft
unbracketed [] d = command d
unbracketed (o ∷ os) d = add (93 ∷ []) d

pub bracket_taken : (s : Context) (inner : List Opener) (d : Draft) → has_room d inner ≡ true →
    take_transition (does effect.Nothing (target.Bracket s)) 0 inner d 91 ≡ Go (at (opener.Bracket s ∷ inner) mode.Start 0 (bracketed inner d))
bracket_taken s [] d r = ap (λ x. opens x MissingBracket (at (opener.Bracket s ∷ []) mode.Start 0 (close d))) r
bracket_taken s (o ∷ os) d r = ap (λ x. opens x MissingBracket (at (opener.Bracket s ∷ o ∷ os) mode.Start 0 (add (91 ∷ []) d))) r

pub bracket_opens : (l : Level) (inner : List Opener) (after : List ℕ) (s : Context) (n : ℕ) (d : Draft) → s ≢ context.Alone → Room (suc n) inner d →
    Leads l after (at inner (mode.In s) 0 d) (91 ∷ []) (at (opener.Bracket s ∷ inner) mode.Start 0 (bracketed inner d))
unfolding transition
bracket_opens l inner after s n d na r =
    lead_one l after _ _ 91 (step_by l (at inner (mode.In s) 0 d) 91 class.LeftBracket (does effect.Nothing (target.Bracket s)) left_bracket_is (bracket_transition (level_in l inner) s 91 na) ∙ bracket_taken s inner d (has_room_is n inner d r))

pub bracketed_room : (n : ℕ) (s : Context) (inner : List Opener) (d : Draft) → Room (suc n) inner d → Room n (opener.Bracket s ∷ inner) (bracketed inner d)
bracketed_room n s [] d r = omega (arith, r)
bracketed_room n s (o ∷ os) d r = omega (arith, r)

pub bracket_closes : (l : Level) (inner : List Opener) (after : List ℕ) (s : Context) (e : Draft) → Leads l after (at (opener.Bracket s ∷ inner) mode.Gap 0 e) (93 ∷ []) (at inner (mode.In s) 0 (unbracketed inner e))
unfolding transition
bracket_closes l [] after s e = lead_one l after _ _ 93 (step_by l (at (opener.Bracket s ∷ []) mode.Gap 0 e) 93 class.RightBracket (does effect.Nothing target.Leave) right_bracket_is refl)
bracket_closes l (o ∷ os) after s e = lead_one l after _ _ 93 (step_by l (at (opener.Bracket s ∷ o ∷ os) mode.Gap 0 e) 93 class.RightBracket (does effect.Nothing target.Leave) right_bracket_is refl)

pub command_atom : (inner : List Opener) (d : Draft) (c : List ℕ) → Atom inner d (91 ∷ c ++ 93 ∷ []) (λ ps. Command c ∷ ps) (unbracketed inner (add c (bracketed inner d)))
command_atom [] d c = (refl, refl, refl, λ ps. append_assoc (closed d.parts d.text) (Command c ∷ []) ps ∙ closed_command d.parts ps d.text c)
command_atom (o ∷ os) d c = ap (add (93 ∷ [])) (add_add (91 ∷ []) c d) ∙ add_add (91 ∷ c) (93 ∷ []) d

pub lead_from : (l : Level) (after : List ℕ) (s s' n : State) (t : List ℕ) → ((p : ℕ) → read l (t ++ after) s p ≡ read l (t ++ after) s' p) → Leads l after s' t n → Leads l after s t n
lead_from l after s s' n t h x = record { on = λ p. h p ∙ x.on p }

pub lead_to : (l : Level) (after : List ℕ) (s n n' : State) (t : List ℕ) → Leads l after s t n → ((p : ℕ) → read l after n p ≡ read l after n' p) → Leads l after s t n'
lead_to l after s n n' t x h = record { on = λ p. x.on p ∙ h (p + length t) }

-- where a word begins: between words, before a command, or behind a prefix
pub data Entry : Type 0 where
  at_gap : Entry
  at_start : Entry
  at_star : Entry

abbrev pub entry_mode : Entry → Mode
entry_mode at_gap = mode.Gap
entry_mode at_start = mode.Start
entry_mode at_star = mode.BehindStar

abbrev pub entry_pair : Entry → Mode
entry_pair at_gap = mode.GapPair
entry_pair at_start = mode.StartPair
entry_pair at_star = mode.StarPair

abbrev pub entry_effect : Entry → Effect
entry_effect at_gap = effect.Nothing
entry_effect at_start = effect.Nothing
entry_effect at_star = effect.Expand

abbrev pub no_hash : Entry → Class → Bool
no_hash at_start class.Hash = false
no_hash x c = true

pub begin_transition : (l : Level) (x : Entry) (c : Class) (b : ℕ) → begins c ≡ true → ends_word l c ≡ false → c ≢ class.Backslash → no_hash x c ≡ true →
    transition l false (entry_mode x) c b ≡ behind_effect (entry_effect x) (in_context l context.Bare c b)
unfolding transition
begin_transition l x class.Quote b h e n i = absurd cc
begin_transition l x class.Open b h e n i = absurd cc
begin_transition l x class.Blank b h e n i = absurd cc
begin_transition l x class.Newline b h e n i = absurd cc
begin_transition l x class.Backslash b h e n i = absurd (n refl)
begin_transition level.Top x class.Semicolon b h e n i = absurd cc
begin_transition level.Inside x class.Semicolon b h e n i = absurd cc
begin_transition level.Inside x class.RightBracket b h e n i = absurd cc
begin_transition level.Alone x class.Semicolon b h e n i = absurd cc
begin_transition l at_start class.Hash b h e n i = absurd cc
begin_transition level.Top at_gap c b h e n i = refl
begin_transition level.Top at_start c b h e n i = refl
begin_transition level.Top at_star c b h e n i = refl
begin_transition level.List at_gap c b h e n i = refl
begin_transition level.List at_start c b h e n i = refl
begin_transition level.List at_star c b h e n i = refl
begin_transition level.Inside at_gap c b h e n i = refl
begin_transition level.Inside at_start c b h e n i = refl
begin_transition level.Inside at_star c b h e n i = refl
begin_transition level.Alone at_gap c b h e n i = refl
begin_transition level.Alone at_start c b h e n i = refl
begin_transition level.Alone at_star c b h e n i = refl

-- reading a bare word from where it begins
abbrev pub Begun_as : Level → List Opener → Entry → Draft → List ℕ → Type 0
Begun_as l inner x d t = (p : ℕ) → read l t (at inner (entry_mode x) 0 d) p ≡ read l t (at inner (mode.In context.Bare) 0 (does_in inner (entry_effect x) d)) p

pub begin_byte : (l : Level) (inner : List Opener) (x : Entry) (d : Draft) (b : ℕ) (bs : List ℕ) → begins (class_of b) ≡ true → ends_word (level_in l inner) (class_of b) ≡ false → class_of b ≢ class.Backslash → no_hash x (class_of b) ≡ true →
    Begun_as l inner x d (b ∷ bs)
begin_byte l inner x d b bs h e n i = λ p. read_step l _ _ b bs p (pend_step l inner (entry_mode x) context.Bare (entry_effect x) d b (begin_transition (level_in l inner) x (class_of b) b h e n i))

pub begin_by : (l : Level) (inner : List Opener) (x : Entry) (d : Draft) (b : ℕ) (bs : List ℕ) (c : Class) → class_of b ≡ c → begins c ≡ true → ends_word (level_in l inner) c ≡ false → c ≢ class.Backslash → no_hash x c ≡ true →
    Begun_as l inner x d (b ∷ bs)
begin_by l inner x d b bs c s h e n i =
    begin_byte l inner x d b bs (ap begins s ∙ h) (ap (ends_word (level_in l inner)) s ∙ e) (λ y. n (sym s ∙ y)) (ap (no_hash x) s ∙ i)

pub entry_backslash : (l : Level) (x : Entry) → transition l false (entry_mode x) class.Backslash 92 ≡ goes (entry_pair x)
unfolding transition
entry_backslash level.Top at_gap = refl
entry_backslash level.Top at_start = refl
entry_backslash level.Top at_star = refl
entry_backslash level.List at_gap = refl
entry_backslash level.List at_start = refl
entry_backslash level.List at_star = refl
entry_backslash level.Inside at_gap = refl
entry_backslash level.Inside at_start = refl
entry_backslash level.Inside at_star = refl
entry_backslash level.Alone at_gap = refl
entry_backslash level.Alone at_start = refl
entry_backslash level.Alone at_star = refl

pub paired_first : (s : Context) (b v : ℕ) (t : Transition) → Paired s b t v → t.first ≡ effect.Nothing
paired_first s b v t (Paired.one h) = refl
paired_first s b v t (Paired.letter e n h) = refl
paired_first s b v t (Paired.eight h) = refl

pub entry_pair_transition : (l : Level) (x : Entry) (c : Class) (b : ℕ) → c ≢ class.Newline → transition l false (entry_pair x) c b ≡ behind_effect (entry_effect x) (escaped context.Bare b)
unfolding transition
entry_pair_transition l at_gap class.Newline b n = absurd (n refl)
entry_pair_transition l at_start class.Newline b n = absurd (n refl)
entry_pair_transition l at_star class.Newline b n = absurd (n refl)
entry_pair_transition l at_gap c b n = behind_nothing (escaped context.Bare b) (paired_first context.Bare b (stands_for b) (escaped context.Bare b) (paired context.Bare b))
entry_pair_transition l at_start c b n = behind_nothing (escaped context.Bare b) (paired_first context.Bare b (stands_for b) (escaped context.Bare b) (paired context.Bare b))
entry_pair_transition l at_star c b n = refl

pub entry_pair_step : (l : Level) (inner : List Opener) (x : Entry) (d : Draft) (b : ℕ) → b ≢ 10 → step l (at inner (entry_pair x) 0 d) b ≡ step l (at inner (mode.Pair context.Bare) 0 (does_in inner (entry_effect x) d)) b
entry_pair_step l inner x d b n =
    let c = class_of b in
    let line : class_of b ≢ class.Newline = λ e. n (is_class b class.Newline e) in
    step_by l (at inner (entry_pair x) 0 d) b (class_of b) _ refl (entry_pair_transition (level_in l inner) x (class_of b) b line)
    ∙ pend_transition (escaped context.Bare b) (entry_effect x) inner d b (paired_first context.Bare b (stands_for b) (escaped context.Bare b) (paired context.Bare b))
    ∙ sym (step_by l (at inner (mode.Pair context.Bare) 0 (does_in inner (entry_effect x) d)) b (class_of b) _ refl (escaped_transition (level_in l inner) context.Bare (class_of b) b line))

pub entry_pair_stop : (inner : List Opener) (x : Entry) (d : Draft) → stop (at inner (entry_pair x) 0 d) ≡ stop (at inner (mode.Pair context.Bare) 0 (does_in inner (entry_effect x) d))
unfolding stop ends
entry_pair_stop [] at_gap d = refl
entry_pair_stop [] at_start d = refl
entry_pair_stop [] at_star d = refl
entry_pair_stop (o ∷ os) at_gap d = refl
entry_pair_stop (o ∷ os) at_start d = refl
entry_pair_stop (o ∷ os) at_star d = refl

pub kept_effect : (inner : List Opener) (a : List ℕ) (e : Effect) (d : Draft) → does_in inner e (moved inner a same d) ≡ moved inner a same (does_in inner e d)
kept_effect [] a e d = refl
kept_effect (o ∷ os) a e d = refl

pub begin_pair : (l : Level) (inner : List Opener) (x : Entry) (d : Draft) (t : List ℕ) → ((p : ℕ) (e : Draft) → read l t (at inner (entry_pair x) 0 e) p ≡ read l t (at inner (mode.Pair context.Bare) 0 (does_in inner (entry_effect x) e)) p) →
    Begun_as l inner x d (92 ∷ t)
begin_pair l inner x d t h = λ p.
    (seg_one l inner t (entry_mode x) (entry_pair x) 0 92 class.Backslash effect.Nothing effect.Nothing backslash_is (entry_backslash (level_in l inner) x) d).on p
    ∙ h (p + 1) (moved inner (92 ∷ []) same d)
    ∙ ap (λ y. read l t (at inner (mode.Pair context.Bare) 0 y) (p + 1)) (kept_effect inner (92 ∷ []) (entry_effect x) d)
    ∙ sym ((seg_backslash l inner t context.Bare (λ e. absurd cc) (does_in inner (entry_effect x) d)).on p)

pub begin_escape : (l : Level) (inner : List Opener) (x : Entry) (d : Draft) (e w rest after : List ℕ) → Escaped after e w → Begun_as l inner x d (92 ∷ e ++ rest)
begin_escape l inner x d e w rest after (spec.Escaped.byte b n h) = begin_pair l inner x d (b ∷ rest) (λ p y. read_step l _ _ b rest p (entry_pair_step l inner x y b n))
begin_escape l inner x d e w rest after (spec.Escaped.number {ds = ds} k n h i) =
    begin_pair l inner x d (letter_of k ∷ ds ++ rest) (λ p y. read_step l _ _ (letter_of k) (ds ++ rest) p (entry_pair_step l inner x y (letter_of k) (letter_line k n)))
begin_escape l inner x d e w rest after (spec.Escaped.octal {ds = ds} b o h) =
    begin_pair l inner x d (b ∷ ds ++ rest) (λ p y. read_step l _ _ b (ds ++ rest) p (entry_pair_step l inner x y b (octal_line b o)))

pub not_true : (x : Bool) → not x ≡ true → x ≡ false
not_true true h = absurd cc
not_true false h = refl

pub plain_goes_on : (l : Level) (c : Class) → plain l context.Bare c ≡ true → (ends_word l c ≡ false) × (c ≢ class.Backslash)
plain_goes_on l class.LeftBracket h = absurd cc
plain_goes_on l class.Backslash h = absurd cc
plain_goes_on l class.Dollar h = absurd cc
plain_goes_on l c h = (not_true (ends_word l c) h, λ e. absurd cc)

pub dollar_goes_on : (l : Level) → ends_word l class.Dollar ≡ false
dollar_goes_on level.Top = refl
dollar_goes_on level.List = refl
dollar_goes_on level.Inside = refl
dollar_goes_on level.Alone = refl

pub bracket_goes_on : (l : Level) → ends_word l class.LeftBracket ≡ false
bracket_goes_on level.Top = refl
bracket_goes_on level.List = refl
bracket_goes_on level.Inside = refl
bracket_goes_on level.Alone = refl

-- before a command the first word is no comment
abbrev pub NoHash : Entry → List ℕ → Type 0
NoHash x [] = Unit {0}
NoHash x (b ∷ bs) = no_hash x (class_of b) ≡ true

pub begin_dollar : (l : Level) (inner : List Opener) (x : Entry) (d : Draft) (t : List ℕ) → Begun_as l inner x d (36 ∷ t)
begin_dollar l inner x d t = begin_by l inner x d 36 t class.Dollar dollar_is refl (dollar_goes_on (level_in l inner)) (λ e. absurd cc) (no_hash_dollar x)
  where
    no_hash_dollar : (x : Entry) → no_hash x class.Dollar ≡ true
    no_hash_dollar at_gap = refl
    no_hash_dollar at_start = refl
    no_hash_dollar at_star = refl

pub begin_bracket : (l : Level) (inner : List Opener) (x : Entry) (d : Draft) (t : List ℕ) → Begun_as l inner x d (91 ∷ t)
begin_bracket l inner x d t = begin_by l inner x d 91 t class.LeftBracket left_bracket_is refl (bracket_goes_on (level_in l inner)) (λ e. absurd cc) (no_hash_bracket x)
  where
    no_hash_bracket : (x : Entry) → no_hash x class.LeftBracket ≡ true
    no_hash_bracket at_gap = refl
    no_hash_bracket at_start = refl
    no_hash_bracket at_star = refl

pub bare_begins : (x : Entry) (l L : Level) (n : ℕ) (s : Context) (after t : List ℕ) (ps : List Piece) → Parts L n s after t ps → (inner : List Opener) (d : Draft) → s ≡ context.Bare → L ≡ level_in l inner → BeginsWord t → NoHash x t → Begun_as l inner x d (t ++ after)
bare_begins x l L n s after t ps words.Parts.nothing inner d i e h k = absurd h
bare_begins x l L n s after t ps (words.Parts.byte {t = u} b f r) inner d i e h k =
    let g = plain_goes_on (level_in l inner) (class_of b) (subst (λ y. plain y context.Bare (class_of b) ≡ true) e (subst (λ y. plain L y (class_of b) ≡ true) i f)) in
    begin_byte l inner x d b (u ++ after) h g.0 g.1 k
bare_begins x l L n s after t ps (words.Parts.escape {t = u} y w f r) inner d i e h k =
    subst (λ z. Begun_as l inner x d (92 ∷ z)) (sym (append_assoc y u after)) (begin_escape l inner x d y w (u ++ after) (u ++ after) f)
bare_begins x l L n s after t ps (words.Parts.joined_line g f j r) inner d i e h k = absurd (f i)
bare_begins x l L n s after t ps (words.Parts.last_backslash f) inner d i e h k =
    subst (λ z. Begun_as l inner x d (92 ∷ z)) (sym f) (begin_pair l inner x d [] (λ p y. read_end l _ _ p (entry_pair_stop inner x y)))
bare_begins x l L n s after t ps (words.Parts.dollar f r) inner d i e h k = begin_dollar l inner x d _
bare_begins x l L n s after t ps (words.Parts.variable name f g j r) inner d i e h k = begin_dollar l inner x d _
bare_begins x l L n s after t ps (words.Parts.braced_variable name f r) inner d i e h k = begin_dollar l inner x d _
bare_begins x l L n s after t ps (words.Parts.element name f j r) inner d i e h k = begin_dollar l inner x d _
bare_begins x l L n s after t ps (words.Parts.substitution f r) inner d i e h k = begin_bracket l inner x d _
