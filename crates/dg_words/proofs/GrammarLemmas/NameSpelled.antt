-- Variables and elements that are read are spelled.
use Rattle.std.specs.Prelude.{◌≡◌, ◌≢◌, ℕ, zero, suc, List, [], ◌∷◌, refl, true, false}
use Rattle.std.proofs.Common.{inl, inr, ◌∙◌, ap, sym, arith, subst}
use Rattle.dg_lists.specs.declared.kinds.Class.{Class}
use Rattle.dg_lists.specs.declared.kinds.Class.TheVariants as class
use Rattle.dg_lists.specs.declared.kinds.Effect.TheVariants as effect
use Rattle.dg_words.specs.declared.kinds.Level.{Level}
use Rattle.dg_lists.specs.declared.kinds.Mode.TheVariants as mode
use Rattle.dg_lists.specs.declared.kinds.Target.TheVariants as target
use Rattle.dg_words.specs.declared.kinds.Opener.{Opener}
use Rattle.dg_words.specs.declared.kinds.Opener.TheVariants as opener
use Rattle.dg_lists.specs.declared.kinds.Context.{Context}
use Rattle.dg_lists.specs.declared.kinds.Context.TheVariants as context
use Rattle.dg_lists.specs.Classes.{class_of}
use Rattle.dg_lists.specs.Transitions.{behind_effect, does, goes, puts}
use Rattle.dg_words.specs.Transitions.{transition}
use Rattle.dg_words.specs.Grammar.Words as grammar
use Rattle.dg_words.specs.Grammar.Words.{goes_on, is_colon, is_name, name_byte, Named, no_close, variable_by}
use Rattle.dg_lists.proofs.GrammarLemmas.Numbers.{and_both}
use Rattle.dg_lists.proofs.GrammarLemmas.Bytes.{is_class}
use Rattle.dg_words.proofs.GrammarLemmas.Segments.{pend_read}
use Rattle.dg_words.proofs.GrammarLemmas.Pieces.{brace_name_transition, pends_colon, pends_dollar, pends_dollar_end, pends_name}
use Rattle.dg_words.proofs.GrammarLemmas.Readings.{Above, Reads, reads_as, reads_paren, reads_to, taken}
use Rattle.dg_words.proofs.GrammarLemmas.Rests.{PartsLeft}
use Rattle.dg_words.proofs.GrammarLemmas.Claims.{BraceNameLeft, DollarLeft, in_index, NameEnd, NameLeft, Rec, Standing}
use Rattle.dg_words.proofs.GrammarLemmas.PartSpelled.{parts_case, parts_stop}

-- an index opens
index_left : (l : Level) (stack : List Opener) (n : ℕ) (s : Context) → Standing l stack n s → (bs : List ℕ) → Rec l bs → Above l (mode.In context.Index) 0 stack (opener.Paren s) bs →
    (k : ℕ) × (n ≡ suc k) × PartsLeft l (opener.Paren s ∷ stack) k context.Index bs
index_left l stack zero s g bs rec a = absurd (omega (arith, g.room, a.0))
index_left l stack (suc k) s g bs rec a = (k, refl, rec (mode.In context.Index) 0 (opener.Paren s ∷ stack) k a.1 refl (in_index l stack k s g))

index_end : (l : Level) (stack : List Opener) (n : ℕ) (s : Context) → Standing l stack n s → (b : ℕ) (bs : List ℕ) → class_of b ≡ class.LeftParen → Rec l bs → Above l (mode.In context.Index) 0 stack (opener.Paren s) bs → NameEnd l stack n s (b ∷ bs)
index_end l stack n s g b bs e rec a =
    let x = index_left l stack n s g bs rec a in
    inr (x.0, bs, x.1, ap (λ y. y ∷ bs) (is_class b class.LeftParen e), x.2)

-- in a name
name_class : (b : ℕ) → class_of b ≡ class.Name → name_byte b ≡ true
name_class b e = ap is_name e

pends_behind : (l : Level) (stack : List Opener) (n : ℕ) (s : Context) → Standing l stack n s → (b : ℕ) (bs : List ℕ) → goes_on (class_of b) ≡ false → Rec l bs → Reads l (mode.Name s) 0 stack (b ∷ bs) → NameLeft l stack n s (b ∷ bs)
pends_behind l stack n s g b bs h rec r = (
  [],
  b ∷ bs,
  refl,
  refl,
  inl (
    h,
    parts_case l stack n s g (class_of b) b bs refl rec
        (reads_as l (mode.Name s) (mode.In s) 0 stack (b ∷ bs) effect.Value r (λ p. pend_read l r.inner (b ∷ bs) (mode.Name s) s effect.Value r.draft (pends_name l r.inner (b ∷ bs) s h) p)),
  ),
)

pub name_case : (l : Level) (stack : List Opener) (n : ℕ) (s : Context) → Standing l stack n s → (c : Class) (b : ℕ) (bs : List ℕ) → class_of b ≡ c → Rec l bs → Reads l (mode.Name s) 0 stack (b ∷ bs) → NameLeft l stack n s (b ∷ bs)
unfolding transition
name_case l stack n s g class.Name b bs e rec r =
    let x : NameLeft l stack n s bs = rec (mode.Name s) 0 stack n (reads_to l effect.Nothing (effect.Byte b) (mode.Name s) 0 stack b bs (taken l (mode.Name s) 0 stack b bs class.Name (puts b (mode.Name s)) e refl r)) refl g in
    (b ∷ x.0, x.1, ap (λ y. b ∷ y) x.2, and_both _ _ (name_class b e) x.3, x.4)
name_case l stack n s g class.LeftParen b bs e rec r =
    ([], b ∷ bs, refl, refl, index_end l stack n s g b bs e rec (reads_paren l effect.Nothing s 0 stack b bs (taken l (mode.Name s) 0 stack b bs class.LeftParen (does effect.Nothing (target.Paren s)) e refl r)))
name_case l stack n s g c b bs e rec r = pends_behind l stack n s g b bs (ap goes_on e) rec r

pub name_stop : (l : Level) (stack : List Opener) (n : ℕ) (s : Context) → Standing l stack n s → Reads l (mode.Name s) 0 stack [] → NameLeft l stack n s []
name_stop l stack n s g r =
    ([], [], refl, refl, inl (refl, parts_stop l stack n s g (reads_as l (mode.Name s) (mode.In s) 0 stack [] effect.Value r (λ p. pend_read l r.inner [] (mode.Name s) s effect.Value r.draft (pends_name l r.inner [] s refl) p))))

-- in a name in braces
brace_name_more : (l : Level) (stack : List Opener) (n : ℕ) (s : Context) → Standing l stack n s → (b : ℕ) (bs : List ℕ) → no_close (class_of b) ≡ true → Rec l bs → Reads l (mode.NameBrace s) 0 stack (b ∷ bs) → BraceNameLeft l stack n s (b ∷ bs)
unfolding transition
brace_name_more l stack n s g b bs h rec r =
    let x : BraceNameLeft l stack n s bs =
    rec (mode.NameBrace s) 0 stack n
    (reads_to l effect.Nothing (effect.Byte b) (mode.NameBrace s) 0 stack b bs (taken l (mode.NameBrace s) 0 stack b bs (class_of b) (puts b (mode.NameBrace s)) refl (brace_name_transition s (class_of b) b h) r)) refl g in
    (b ∷ x.0, x.1, ap (λ y. b ∷ y) x.2, and_both _ _ h x.3, x.4)

pub brace_name_case : (l : Level) (stack : List Opener) (n : ℕ) (s : Context) → Standing l stack n s → (c : Class) (b : ℕ) (bs : List ℕ) → class_of b ≡ c → Rec l bs → Reads l (mode.NameBrace s) 0 stack (b ∷ bs) → BraceNameLeft l stack n s (b ∷ bs)
unfolding transition
brace_name_case l stack n s g class.Close b bs e rec r = (
  [],
  bs,
  ap (λ y. y ∷ bs) (is_class b class.Close e),
  refl,
  rec (mode.In s) 0 stack n
      (reads_to l effect.Nothing effect.Value (mode.In s) 0 stack b bs (taken l (mode.NameBrace s) 0 stack b bs class.Close (does effect.Value (target.To (mode.In s))) e refl r)) refl g,
)
brace_name_case l stack n s g c b bs e rec r = brace_name_more l stack n s g b bs (ap no_close e) rec r

-- behind a dollar sign
not_colon : (b : ℕ) (bs : List ℕ) → is_colon (class_of b) ≡ false → class_of b ≢ class.Colon
not_colon b bs h e = let x = sym h ∙ ap is_colon e in absurd cc

lone_dollar : (l : Level) (stack : List Opener) (n : ℕ) (s : Context) → Standing l stack n s → (b : ℕ) (bs : List ℕ) → variable_by (class_of b) bs ≡ false → is_colon (class_of b) ≡ false → Rec l bs → Reads l (mode.Dollar s) 0 stack (b ∷ bs) →
    DollarLeft l stack n s (b ∷ bs)
lone_dollar l stack n s g b bs h k rec r =
    DollarLeft.lone h k
    (parts_case l stack n s g (class_of b) b bs refl rec
    (reads_as l (mode.Dollar s) (mode.In s) 0 stack (b ∷ bs) effect.Dollar r (λ p. pend_read l r.inner (b ∷ bs) (mode.Dollar s) s effect.Dollar r.draft (pends_dollar l r.inner b bs s h (not_colon b bs k)) p)))

dollar_name : (l : Level) (stack : List Opener) (n : ℕ) (s : Context) (b : ℕ) (bs : List ℕ) → class_of b ≡ class.Name → NameLeft l stack n s bs → DollarLeft l stack n s (b ∷ bs)
dollar_name l stack n s b bs e x = DollarLeft.named (b ∷ x.0) x.1 (ap (λ y. b ∷ y) x.2) (grammar.Named.local (and_both _ _ (name_class b e) x.3)) (λ y. absurd cc) x.4

pub dollar_behind : (l : Level) (stack : List Opener) (n : ℕ) (s : Context) → Standing l stack n s → (c : Class) (b : ℕ) (bs : List ℕ) → class_of b ≡ c → Rec l bs → Reads l (mode.Dollar s) 0 stack (b ∷ bs) → DollarLeft l stack n s (b ∷ bs)
unfolding transition
dollar_behind l stack n s g class.Name b bs e rec r =
    dollar_name l stack n s b bs e
    (rec (mode.Name s) 0 stack n (reads_to l effect.Close (effect.Byte b) (mode.Name s) 0 stack b bs (taken l (mode.Dollar s) 0 stack b bs class.Name (behind_effect effect.Close (puts b (mode.Name s))) e refl r)) refl g)
dollar_behind l stack n s g class.LeftParen b bs e rec r =
    let x = index_left l stack n s g bs rec (reads_paren l effect.Close s 0 stack b bs (taken l (mode.Dollar s) 0 stack b bs class.LeftParen (behind_effect effect.Close (does effect.Nothing (target.Paren s))) e refl r)) in
    DollarLeft.nameless x.0 bs x.1 (ap (λ y. y ∷ bs) (is_class b class.LeftParen e)) x.2
dollar_behind l stack n s g class.Open b bs e rec r =
    let x : BraceNameLeft l stack n s bs =
    rec (mode.NameBrace s) 0 stack n (reads_to l effect.Nothing effect.Close (mode.NameBrace s) 0 stack b bs (taken l (mode.Dollar s) 0 stack b bs class.Open (does effect.Close (target.To (mode.NameBrace s))) e refl r)) refl g in
    DollarLeft.braced x.0 x.1 (ap (λ y. y ∷ bs) (is_class b class.Open e) ∙ ap (λ y. 123 ∷ y) x.2) x.3 x.4
dollar_behind l stack n s g class.Colon b bs e rec r =
    subst (λ y. DollarLeft l stack n s (y ∷ bs)) (sym (is_class b class.Colon e))
    (rec (mode.Colon s) 0 stack n (reads_to l effect.Nothing effect.Nothing (mode.Colon s) 0 stack b bs (taken l (mode.Dollar s) 0 stack b bs class.Colon (goes (mode.Colon s)) e refl r)) refl g)
dollar_behind l stack n s g c b bs e rec r = lone_dollar l stack n s g b bs (ap (λ y. variable_by y bs) e) (ap is_colon e) rec r

pub dollar_stop : (l : Level) (stack : List Opener) (n : ℕ) (s : Context) → Standing l stack n s → Reads l (mode.Dollar s) 0 stack [] → DollarLeft l stack n s []
dollar_stop l stack n s g r =
    DollarLeft.lone refl refl
    (parts_stop l stack n s g (reads_as l (mode.Dollar s) (mode.In s) 0 stack [] effect.Dollar r (λ p. pend_read l r.inner [] (mode.Dollar s) s effect.Dollar r.draft (pends_dollar_end l r.inner s) p)))

-- behind a dollar sign and a colon
colon_pends : (l : Level) (stack : List Opener) (n : ℕ) (s : Context) → Standing l stack n s → (b : ℕ) (bs : List ℕ) → is_colon (class_of b) ≡ false → Rec l bs → Reads l (mode.Colon s) 0 stack (b ∷ bs) → DollarLeft l stack n s (58 ∷ b ∷ bs)
colon_pends l stack n s g b bs h rec r =
    DollarLeft.lone_colon (b ∷ bs) refl h
    (parts_case l stack n s g (class_of b) b bs refl rec
    (reads_as l (mode.Colon s) (mode.In s) 0 stack (b ∷ bs) effect.DollarColon r (λ p. pend_read l r.inner (b ∷ bs) (mode.Colon s) s effect.DollarColon r.draft (pends_colon l r.inner (b ∷ bs) s h) p)))

pub colon_behind : (l : Level) (stack : List Opener) (n : ℕ) (s : Context) → Standing l stack n s → (c : Class) (b : ℕ) (bs : List ℕ) → class_of b ≡ c → Rec l bs → Reads l (mode.Colon s) 0 stack (b ∷ bs) → DollarLeft l stack n s (58 ∷ b ∷ bs)
unfolding transition
colon_behind l stack n s g class.Colon b bs e rec r =
    let x : NameLeft l stack n s bs =
    rec (mode.Name s) 0 stack n (reads_to l effect.Nothing effect.Global (mode.Name s) 0 stack b bs (taken l (mode.Colon s) 0 stack b bs class.Colon (does effect.Global (target.To (mode.Name s))) e refl r)) refl g in
    DollarLeft.named (58 ∷ 58 ∷ x.0) x.1 (ap (λ y. 58 ∷ y ∷ bs) (is_class b class.Colon e) ∙ ap (λ y. 58 ∷ 58 ∷ y) x.2) (grammar.Named.global x.3) (λ y. absurd cc) x.4
colon_behind l stack n s g c b bs e rec r = colon_pends l stack n s g b bs (ap is_colon e) rec r

pub colon_stop : (l : Level) (stack : List Opener) (n : ℕ) (s : Context) → Standing l stack n s → Reads l (mode.Colon s) 0 stack [] → DollarLeft l stack n s (58 ∷ [])
colon_stop l stack n s g r =
    DollarLeft.lone_colon [] refl refl
    (parts_stop l stack n s g (reads_as l (mode.Colon s) (mode.In s) 0 stack [] effect.DollarColon r (λ p. pend_read l r.inner [] (mode.Colon s) s effect.DollarColon r.draft (pends_colon l r.inner [] s refl) p)))
