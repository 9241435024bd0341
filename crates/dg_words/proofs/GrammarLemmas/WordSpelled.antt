-- Words that are read are spelled.
use Rattle.std.specs.Prelude.{◌≡◌, ◌≢◌, ℕ, zero, suc, ◌+◌, ◌-◌, List, [], ◌∷◌, ◌++◌, refl, Bool, true, false, nat_lt, ◌==◌, ◌⊎◌}
use Rattle.std.proofs.Common.{inl, inr, ◌∙◌, ap, sym, arith, subst, append_assoc}
use Rattle.std.proofs.lemmas.Bool.{eqb-true, eqb-false, lt-ltb}
use Rattle.dg_words.specs.Piece.{Piece}
use Rattle.dg_lists.specs.declared.fault.WordFault.{WordFault}
use Rattle.dg_lists.specs.declared.fault.WordFault.TheVariants.{MissingBracket}
use Rattle.dg_lists.specs.declared.kinds.Class.{Class}
use Rattle.dg_lists.specs.declared.kinds.Class.TheVariants as class
use Rattle.dg_lists.specs.declared.kinds.Effect.TheVariants as effect
use Rattle.dg_lists.specs.declared.kinds.Delimiter.{Delimiter}
use Rattle.dg_lists.specs.declared.kinds.Delimiter.TheVariants as delimiter
use Rattle.dg_lists.specs.declared.kinds.Ending.TheVariants as ending
use Rattle.dg_words.specs.declared.kinds.Level.{Level}
use Rattle.dg_words.specs.declared.kinds.Level.TheVariants as level
use Rattle.dg_lists.specs.declared.kinds.Mode.TheVariants as mode
use Rattle.dg_lists.specs.declared.kinds.Target.TheVariants as target
use Rattle.dg_words.specs.declared.kinds.Opener.{Opener}
use Rattle.dg_words.specs.declared.kinds.Opener.TheVariants as opener
use Rattle.dg_lists.specs.declared.kinds.Context.TheVariants as context
use Rattle.dg_lists.specs.Classes.{class_of}
use Rattle.dg_lists.specs.Transitions.{behind_effect, does, goes, is_space, puts}
use Rattle.dg_words.specs.Transitions.{after, ends, transition}
use Rattle.dg_words.specs.Machine.{is_none}
use Rattle.dg_lists.specs.Grammar.Escapes.{begins_with_space, Spaces}
use Rattle.dg_words.specs.Grammar.Words as grammar
use Rattle.dg_lists.specs.Grammar.Lists.{plain_braced}
use Rattle.dg_words.specs.Grammar.Words.{begins, BeginsWord, Braced, ends_word, OneWord, Parted, Parts, Plain, with_text}
use Rattle.dg_lists.proofs.GrammarLemmas.Numbers.{and_both}
use Rattle.dg_lists.proofs.GrammarLemmas.Bytes.{is_class}
use Rattle.dg_lists.proofs.GrammarLemmas.ListRead.{backslash_is, newline_is, quote_is}
use Rattle.dg_lists.proofs.GrammarLemmas.ListSpelled.{first_same}
use Rattle.dg_words.proofs.GrammarLemmas.Segments.{read_end, read_step}
use Rattle.dg_words.proofs.GrammarLemmas.Pieces.{open_is}
use Rattle.dg_words.proofs.GrammarLemmas.Between.{Outermost, behind_ends, braced_backslash, braced_close as close_transition, braced_space, join_read, part_read, plain_braced_transition, star_ends}
use Rattle.dg_words.proofs.GrammarLemmas.PartRead.{at_star, begin_byte, Entry, entry_backslash, entry_effect, entry_mode, entry_pair, entry_pair_step, entry_pair_stop, no_hash}
use Rattle.dg_words.proofs.GrammarLemmas.WordRead.{entry_open, entry_quote, first_read, not_class, star_is, star_read}
use Rattle.dg_words.proofs.GrammarLemmas.Readings.{level_at, level_stands, Reads, reads_as, reads_same, reads_bad, reads_deeper, reads_shallower, reads_to, stops_bad, stops_inside, taken}
use Rattle.dg_words.proofs.GrammarLemmas.Rests.{BehindLeft, BracesLeft, PartsEnd, PartsLeft, WordLeft, words_line, WordsLeft}
use Rattle.dg_words.proofs.GrammarLemmas.Claims.{quotes_of, worded, outermost_in, in_quotes, Rec, Standing}
use Rattle.dg_words.proofs.GrammarLemmas.PartSpelled.{gap_ends, last_words, pair_case, pair_stop, parts_case}

-- within braces
abbrev Spells : List ℕ → List ℕ → Type 0
Spells a t = (u rest v : List ℕ) → t ≡ u ++ rest → Braced u v → (w : List ℕ) × Braced (a ++ u) w

braces_front : (l : Level) (stack : List Opener) (n d : ℕ) (a t : List ℕ) → Spells a t → BracesLeft l stack n d t → BracesLeft l stack n d (a ++ t)
braces_front l stack n zero a t f (u, v, rest, e, i, c) =
    let x = f u (125 ∷ rest) v e i in
    (a ++ u, x.0, rest, ap (λ y. a ++ y) e ∙ sym (append_assoc a u (125 ∷ rest)), x.1, c)
braces_front l stack n (suc d) a t f (u, v, rest, e, i, c) =
    let x = f u (125 ∷ rest) v e i in
    (a ++ u, x.0, rest, ap (λ y. a ++ y) e ∙ sym (append_assoc a u (125 ∷ rest)), x.1, c)

braces_byte : (l : Level) (stack : List Opener) (n d b : ℕ) (t : List ℕ) → plain_braced (class_of b) ≡ true → BracesLeft l stack n d t → BracesLeft l stack n d (b ∷ t)
braces_byte l stack n d b t h x = braces_front l stack n d (b ∷ []) t (λ u rest v e i. (b ∷ v, grammar.Braced.byte b h i)) x

braces_pair : (l : Level) (stack : List Opener) (n d b : ℕ) (t : List ℕ) → b ≢ 10 → BracesLeft l stack n d t → BracesLeft l stack n d (92 ∷ b ∷ t)
braces_pair l stack n d b t h x = braces_front l stack n d (92 ∷ b ∷ []) t (λ u rest v e i. (92 ∷ b ∷ v, grammar.Braced.pair b h i)) x

no_space_first : (u rest : List ℕ) → begins_with_space (u ++ rest) ≡ false → begins_with_space u ≡ false
no_space_first [] rest h = refl
no_space_first (b ∷ bs) rest h = h

braces_joined : (l : Level) (stack : List Opener) (n d : ℕ) (g t : List ℕ) → Spaces g t → BracesLeft l stack n d t → BracesLeft l stack n d (92 ∷ 10 ∷ g ++ t)
braces_joined l stack n d g t h x =
    braces_front l stack n d (92 ∷ 10 ∷ g) t
    (λ u rest v e i. (32 ∷ v, grammar.Braced.joined_line g (h.0, no_space_first u rest (ap begins_with_space (sym e) ∙ h.1)) i)) x

braces_nested : (l : Level) (stack : List Opener) (n d : ℕ) (t : List ℕ) → BracesLeft l stack n (suc d) t → BracesLeft l stack n d (123 ∷ t)
braces_nested l stack n d t (u, v, rest, e, i, c) =
    subst (λ x. BracesLeft l stack n d (123 ∷ x)) (append_assoc u (125 ∷ []) rest ∙ sym e)
    (braces_front l stack n d (123 ∷ u ++ 125 ∷ []) rest
    (λ x r y f j. (123 ∷ v ++ 125 ∷ y, subst (λ z. Braced (123 ∷ z) (123 ∷ v ++ 125 ∷ y)) (sym (append_assoc u (125 ∷ []) x)) (grammar.Braced.braces i j))) c)

braced_open : (l : Level) (stack : List Opener) (n k : ℕ) → Standing l stack n context.Quoted → (b : ℕ) (bs : List ℕ) → class_of b ≡ class.Open → Rec l bs → Reads l mode.Braced k stack (b ∷ bs) → BracesLeft l stack n k (b ∷ bs)
unfolding transition
braced_open l stack n k g b bs e rec r =
    let more : k + 1 ≡ suc k = omega arith in
    subst (λ x. BracesLeft l stack n k (x ∷ bs)) (sym (is_class b class.Open e))
    (braces_nested l stack n k bs (subst (λ x. BracesLeft l stack n x bs) more
    (rec mode.Braced (k + 1) stack n (reads_deeper l k stack b bs (taken l mode.Braced k stack b bs class.Open (does (effect.Byte b) target.Deeper) e refl r)) g)))

braced_close : (l : Level) (stack : List Opener) (n k : ℕ) → Standing l stack n context.Quoted → (b : ℕ) (bs : List ℕ) → class_of b ≡ class.Close → Rec l bs → Reads l mode.Braced k stack (b ∷ bs) → BracesLeft l stack n k (b ∷ bs)
unfolding transition
braced_close l stack n zero g b bs e rec r =
    let x : BehindLeft l stack n bs =
    rec (mode.Behind delimiter.Brace) 0 stack n
    (reads_to l effect.Nothing effect.Word (mode.Behind delimiter.Brace) 0 stack b bs (taken l mode.Braced 0 stack b bs class.Close (does effect.Word (target.To (mode.Behind delimiter.Brace))) e refl r)) refl g in
    ([], [], bs, ap (λ y. y ∷ bs) (is_class b class.Close e), grammar.Braced.nothing, x)
braced_close l stack n (suc k) g b bs e rec r =
    let less : suc k - 1 ≡ k = omega arith in (
      [],
      [],
      bs,
      ap (λ y. y ∷ bs) (is_class b class.Close e),
      grammar.Braced.nothing,
      subst (λ y. BracesLeft l stack n y bs) less
          (rec mode.Braced (suc k - 1) stack n
          (reads_shallower l (suc k) stack b bs (taken l mode.Braced (suc k) stack b bs class.Close (does (effect.Byte b) target.Shallower) e (close_transition (nat_lt 0 (suc k)) b (lt-ltb 0 (suc k) (omega arith))) r)) g),
    )

braced_plain : (l : Level) (stack : List Opener) (n k : ℕ) → Standing l stack n context.Quoted → (b : ℕ) (bs : List ℕ) → plain_braced (class_of b) ≡ true → Rec l bs → Reads l mode.Braced k stack (b ∷ bs) → BracesLeft l stack n k (b ∷ bs)
unfolding transition
braced_plain l stack n k g b bs h rec r =
    braces_byte l stack n k b bs h
    (rec mode.Braced k stack n (reads_to l effect.Nothing (effect.Byte b) mode.Braced k stack b bs (taken l mode.Braced k stack b bs (class_of b) (puts b mode.Braced) refl (plain_braced_transition (nat_lt 0 k) (class_of b) b h) r)) g)

pub braced_case : (l : Level) (stack : List Opener) (n k : ℕ) → Standing l stack n context.Quoted → (c : Class) (b : ℕ) (bs : List ℕ) → class_of b ≡ c → Rec l bs → Reads l mode.Braced k stack (b ∷ bs) → BracesLeft l stack n k (b ∷ bs)
unfolding transition
braced_case l stack n k g class.Open b bs e rec r = braced_open l stack n k g b bs e rec r
braced_case l stack n k g class.Close b bs e rec r = braced_close l stack n k g b bs e rec r
braced_case l stack n k g class.Backslash b bs e rec r =
    subst (λ x. BracesLeft l stack n k (x ∷ bs)) (sym (is_class b class.Backslash e))
    (rec mode.BracedPair k stack n (reads_to l effect.Nothing effect.Nothing mode.BracedPair k stack b bs (taken l mode.Braced k stack b bs class.Backslash (goes mode.BracedPair) e (braced_backslash (nat_lt 0 k) b) r)) g)
braced_case l stack n k g c b bs e rec r = braced_plain l stack n k g b bs (ap plain_braced e) rec r

-- behind a backslash in braces, and behind a joined line
not_line : (b : ℕ) (c : Class) → class_of b ≡ c → c ≢ class.Newline → b ≢ 10
not_line b c e n h = n (sym e ∙ ap class_of h ∙ newline_is)

braced_pair_other : (l : Level) (stack : List Opener) (n k : ℕ) → Standing l stack n context.Quoted → (b : ℕ) (bs : List ℕ) → b ≢ 10 → Rec l bs → Reads l mode.Braced k stack bs → BracesLeft l stack n k (92 ∷ b ∷ bs)
braced_pair_other l stack n k g b bs h rec r = braces_pair l stack n k b bs h (rec mode.Braced k stack n r g)

pub braced_pair_case : (l : Level) (stack : List Opener) (n k : ℕ) → Standing l stack n context.Quoted → (c : Class) (b : ℕ) (bs : List ℕ) → class_of b ≡ c → Rec l bs → Reads l mode.BracedPair k stack (b ∷ bs) → BracesLeft l stack n k (92 ∷ b ∷ bs)
unfolding transition
braced_pair_case l stack n k g class.Newline b bs e rec r =
    let x : (g u : List ℕ) × (bs ≡ g ++ u) × Spaces g u × BracesLeft l stack n k u =
    rec mode.BracedJoin k stack n (reads_to l effect.Nothing (effect.Byte 32) mode.BracedJoin k stack b bs (taken l mode.BracedPair k stack b bs class.Newline (puts 32 mode.BracedJoin) e refl r)) g in
    subst (λ y. BracesLeft l stack n k (92 ∷ y)) (sym (ap (λ y. y ∷ bs) (is_class b class.Newline e) ∙ ap (λ y. 10 ∷ y) x.2)) (braces_joined l stack n k x.0 x.1 x.3 x.4)
braced_pair_case l stack n k g c b bs e rec r =
    braced_pair_other l stack n k g b bs (not_line b c e (λ y. absurd cc)) rec (reads_to l (effect.Byte 92) (effect.Byte b) mode.Braced k stack b bs (taken l mode.BracedPair k stack b bs c (behind_effect (effect.Byte 92) (puts b mode.Braced)) e refl r))

pub braced_join_case : (l : Level) (stack : List Opener) (n k : ℕ) → Standing l stack n context.Quoted → (x : Bool) (b : ℕ) (bs : List ℕ) → is_space b ≡ x → Rec l bs → Reads l mode.BracedJoin k stack (b ∷ bs) →
    (g u : List ℕ) × (b ∷ bs ≡ g ++ u) × Spaces g u × BracesLeft l stack n k u
unfolding transition
braced_join_case l stack n k g true b bs e rec r =
    let x : (g u : List ℕ) × (bs ≡ g ++ u) × Spaces g u × BracesLeft l stack n k u =
    rec mode.BracedJoin k stack n (reads_to l effect.Nothing effect.Nothing mode.BracedJoin k stack b bs (taken l mode.BracedJoin k stack b bs (class_of b) (goes mode.BracedJoin) refl (braced_space (nat_lt 0 k) (class_of b) b e) r)) g in
    let y = x.3 in
    (b ∷ x.0, x.1, ap (λ z. b ∷ z) x.2, (and_both _ _ e y.0, y.1), x.4)
braced_join_case l stack n k g false b bs e rec r =
    ([], b ∷ bs, refl, (refl, e), braced_case l stack n k g (class_of b) b bs refl rec (reads_same l mode.BracedJoin mode.Braced k stack (b ∷ bs) r (join_read l r.inner (b ∷ bs) k r.draft r.place e)))

-- a word without a prefix, and what comes behind it
pub record PlainLeft (l : Level) (stack : List Opener) (n : ℕ) (t : List ℕ) : Type 0 where
  pub word : List ℕ
  pub after : List ℕ
  pub parts : List Piece
  pub split : t ≡ word ++ after
  pub is : Plain (level_at l stack) n after word parts
  pub parted : Parted (level_at l stack) after
  pub rest : WordsLeft l stack n after

pub alone : (l : Level) (stack : List Opener) (n : ℕ) (t : List ℕ) → PlainLeft l stack n t → WordLeft l stack n t
alone l stack n t x = record { word = x.word; after = x.after; value = record { expand = false; parts = x.parts }; split = x.split; one = grammar.OneWord.alone x.is; parted = x.parted; rest = x.rest }

pub expanded : (l : Level) (stack : List Opener) (n : ℕ) (t : List ℕ) → PlainLeft l stack n t → WordLeft l stack n (123 ∷ 42 ∷ 125 ∷ t)
expanded l stack n t x = record {
  word = 123 ∷ 42 ∷ 125 ∷ x.word;
  after = x.after;
  value = record { expand = true; parts = x.parts };
  split = ap (λ y. 123 ∷ 42 ∷ 125 ∷ y) x.split;
  one = grammar.OneWord.expanded x.is;
  parted = x.parted;
  rest = x.rest;
}

pub braced_word : (l : Level) (stack : List Opener) (n : ℕ) → Standing l stack n context.Bare → (t : List ℕ) → BracesLeft l stack n 0 t → PlainLeft l stack n (123 ∷ t)
braced_word l stack n g t (u, v, rest, e, i, c) =
    let x = worded l stack n rest g c in
    record {
      word = 123 ∷ u ++ 125 ∷ [];
      after = rest;
      parts = with_text v [];
      split = ap (λ y. 123 ∷ y) (e ∙ sym (append_assoc u (125 ∷ []) rest));
      is = grammar.Plain.braced i;
      parted = x.0;
      rest = x.1;
    }

quoted_behind : (l : Level) (stack : List Opener) (n : ℕ) → Standing l stack n context.Bare → (t u a : List ℕ) (ps : List Piece) → t ≡ u ++ a → Parts (level_at l stack) n context.Quoted a u ps → PartsEnd l stack n context.Quoted a → PlainLeft l stack n (34 ∷ t)
quoted_behind l stack n g t u a ps e p (PartsEnd.quoted rest f q w) = record {
  word = 34 ∷ u ++ 34 ∷ [];
  after = rest;
  parts = ps;
  split = ap (λ y. 34 ∷ y) (e ∙ ap (λ y. u ++ y) f ∙ sym (append_assoc u (34 ∷ []) rest));
  is = grammar.Plain.quoted (subst (λ y. Parts (level_at l stack) n context.Quoted y u ps) f p);
  parted = q;
  rest = w;
}
quoted_behind l stack n g t u a ps e p (PartsEnd.operand_quoted rest h f) = absurd (subst (λ y. Outermost y) h g.sound)

pub quoted_word : (l : Level) (stack : List Opener) (n : ℕ) → Standing l stack n context.Bare → (t : List ℕ) → PartsLeft l stack n context.Quoted t → PlainLeft l stack n (34 ∷ t)
quoted_word l stack n g t (PartsLeft.parts u a ps e p q) = quoted_behind l stack n g t u a ps e p q

bare_begins : (l : Level) (b : ℕ) (bs u a : List ℕ) → b ∷ bs ≡ u ++ a → begins (class_of b) ≡ true → (Parted l (b ∷ bs) → ⊥) → Parted l a → BeginsWord u
bare_begins l b bs [] a e h un q = absurd (un (subst (λ y. Parted l y) (sym e) q))
bare_begins l b bs (c ∷ cs) a e h un q = subst (λ y. begins (class_of y) ≡ true) (first_same e) h

bare_end : (l : Level) (stack : List Opener) (n b : ℕ) (bs u a : List ℕ) (ps : List Piece) → b ∷ bs ≡ u ++ a → begins (class_of b) ≡ true → (Parted (level_at l stack) (b ∷ bs) → ⊥) → Parts (level_at l stack) n context.Bare a u ps → PartsEnd l stack n context.Bare a →
    PlainLeft l stack n (b ∷ bs)
bare_end l stack n b bs u a ps e h un p (PartsEnd.bare q w) = record { word = u; after = a; parts = ps; split = e; is = grammar.Plain.bare (bare_begins (level_at l stack) b bs u a e h un q) p; parted = q; rest = w }

pub bare_word : (l : Level) (stack : List Opener) (n b : ℕ) (bs : List ℕ) → begins (class_of b) ≡ true → (Parted (level_at l stack) (b ∷ bs) → ⊥) → PartsLeft l stack n context.Bare (b ∷ bs) → PlainLeft l stack n (b ∷ bs)
bare_word l stack n b bs h un (PartsLeft.parts u a ps e p q) = bare_end l stack n b bs u a ps e h un p q

-- what does not part words
first_of : List ℕ → ℕ
first_of [] = 0
first_of (b ∷ bs) = b

second_of : List ℕ → ℕ
second_of [] = 0
second_of (b ∷ bs) = first_of bs

unparted_by : (l : Level) (t : List ℕ) → Parted l t → t ≢ [] → ends_word l (class_of (first_of t)) ≡ false → (first_of t ≡ 92 → second_of t ≡ 10 → ⊥) → ⊥
unfolding first_of second_of
unparted_by l t grammar.Parted.at_end ne h un = ne refl
unparted_by l t (grammar.Parted.at_byte b e) ne h un = let x = sym e ∙ h in cc
unparted_by l t grammar.Parted.at_joined_line ne h un = un refl refl

pub unparted : (l : Level) (b : ℕ) (bs : List ℕ) → ends_word l (class_of b) ≡ false → class_of b ≢ class.Backslash → Parted l (b ∷ bs) → ⊥
unfolding first_of
unparted l b bs h n q = unparted_by l (b ∷ bs) q (λ e. absurd cc) h (λ e f. n (ap class_of e ∙ backslash_is))

backslash_goes_on : (l : Level) → ends_word l class.Backslash ≡ false
backslash_goes_on level.Top = refl
backslash_goes_on level.List = refl
backslash_goes_on level.Inside = refl
backslash_goes_on level.Alone = refl

pub unparted_pair : (l : Level) (b : ℕ) (bs : List ℕ) → b ≢ 10 → Parted l (92 ∷ b ∷ bs) → ⊥
unfolding first_of second_of
unparted_pair l b bs n q = unparted_by l (92 ∷ b ∷ bs) q (λ e. absurd cc) (ap (ends_word l) backslash_is ∙ backslash_goes_on l) (λ e f. n f)

pub unparted_last : (l : Level) → Parted l (92 ∷ []) → ⊥
unfolding first_of second_of
unparted_last l q = unparted_by l (92 ∷ []) q (λ e. absurd cc) (ap (ends_word l) backslash_is ∙ backslash_goes_on l) (λ e f. let x : ◌≡◌ {A = ℕ} 0 10 = f in omega (arith, x))

-- how a word begins
pub entry_bare : (l : Level) (stack : List Opener) (n : ℕ) → Standing l stack n context.Bare → (x : Entry) (b : ℕ) (bs : List ℕ) → begins (class_of b) ≡ true → ends_word (level_at l stack) (class_of b) ≡ false →
    class_of b ≢ class.Backslash → no_hash x (class_of b) ≡ true → Rec l bs → Reads l (entry_mode x) 0 stack (b ∷ bs) → PlainLeft l stack n (b ∷ bs)
entry_bare l stack n g x b bs h e nb nh rec r =
    let inside = ap (λ y. ends_word y (class_of b)) (level_stands l (entry_mode x) 0 stack (b ∷ bs) r) ∙ e in
    bare_word l stack n b bs h (unparted (level_at l stack) b bs e nb)
    (parts_case l stack n context.Bare g (class_of b) b bs refl rec
    (reads_as l (entry_mode x) (mode.In context.Bare) 0 stack (b ∷ bs) (entry_effect x) r (begin_byte l r.inner x r.draft b bs h inside nb nh)))

pub entry_quoted : (l : Level) (stack : List Opener) (n : ℕ) → Standing l stack n context.Bare → (x : Entry) (bs : List ℕ) → Rec l bs → Reads l (entry_mode x) 0 stack (34 ∷ bs) → PlainLeft l stack n (34 ∷ bs)
entry_quoted l stack n g x bs rec r =
    quoted_word l stack n g bs
    (rec (mode.In context.Quoted) 0 stack n
    (reads_to l effect.Nothing (entry_effect x) (mode.In context.Quoted) 0 stack 34 bs (taken l (entry_mode x) 0 stack 34 bs class.Quote (does (entry_effect x) (target.To (mode.In context.Quoted))) quote_is (entry_quote (level_at l stack) x) r)) refl (in_quotes l stack n g))

pub entry_escaped : (l : Level) (stack : List Opener) (n : ℕ) → Standing l stack n context.Bare → (x : Entry) (b : ℕ) (bs : List ℕ) → b ≢ 10 → (b == 10) ≡ false → Rec l bs → Reads l (entry_pair x) 0 stack (b ∷ bs) → PlainLeft l stack n (92 ∷ b ∷ bs)
entry_escaped l stack n g x b bs nl e rec r =
    bare_word l stack n 92 (b ∷ bs) (ap begins backslash_is) (unparted_pair (level_at l stack) b bs nl)
    (pair_case l stack n context.Bare g false b bs e rec
    (reads_as l (entry_pair x) (mode.Pair context.Bare) 0 stack (b ∷ bs) (entry_effect x) r (λ p. read_step l _ _ b bs p (entry_pair_step l r.inner x r.draft b nl))))

pub entry_last : (l : Level) (stack : List Opener) (n : ℕ) → Standing l stack n context.Bare → (x : Entry) → Reads l (entry_pair x) 0 stack [] → PlainLeft l stack n (92 ∷ [])
entry_last l stack n g x r =
    bare_word l stack n 92 [] (ap begins backslash_is) (unparted_last (level_at l stack))
    (pair_stop l stack n context.Bare g (reads_as l (entry_pair x) (mode.Pair context.Bare) 0 stack [] (entry_effect x) r (λ p. read_end l _ _ p (entry_pair_stop r.inner x r.draft))))

-- behind an opening brace
brace_first_other : (l : Level) (stack : List Opener) (n : ℕ) → Standing l stack n context.Bare → (b : ℕ) (bs : List ℕ) → class_of b ≢ class.Star → Rec l bs → Reads l mode.BraceFirst 0 stack (b ∷ bs) → WordLeft l stack n (123 ∷ b ∷ bs)
brace_first_other l stack n g b bs h rec r =
    alone l stack n (123 ∷ b ∷ bs) (braced_word l stack n g (b ∷ bs)
    (braced_case l stack n 0 (in_quotes l stack n g) (class_of b) b bs refl rec (reads_same l mode.BraceFirst mode.Braced 0 stack (b ∷ bs) r (first_read l r.inner b bs r.draft r.place h))))

pub brace_first_case : (l : Level) (stack : List Opener) (n : ℕ) → Standing l stack n context.Bare → (c : Class) (b : ℕ) (bs : List ℕ) → class_of b ≡ c → Rec l bs → Reads l mode.BraceFirst 0 stack (b ∷ bs) → WordLeft l stack n (123 ∷ b ∷ bs)
unfolding transition
brace_first_case l stack n g class.Star b bs e rec r =
    subst (λ x. WordLeft l stack n (123 ∷ x ∷ bs)) (sym (is_class b class.Star e))
    (rec mode.BraceStar 0 stack n (reads_to l effect.Nothing (effect.Byte b) mode.BraceStar 0 stack b bs (taken l mode.BraceFirst 0 stack b bs class.Star (puts b mode.BraceStar) e refl r)) refl g)
brace_first_case l stack n g c b bs e rec r = brace_first_other l stack n g b bs (not_class b c class.Star e (λ y. absurd cc)) rec r

brace_star_other : (l : Level) (stack : List Opener) (n : ℕ) → Standing l stack n context.Bare → (b : ℕ) (bs : List ℕ) → class_of b ≢ class.Close → Rec l bs → Reads l mode.BraceStar 0 stack (b ∷ bs) → WordLeft l stack n (123 ∷ 42 ∷ b ∷ bs)
brace_star_other l stack n g b bs h rec r =
    alone l stack n (123 ∷ 42 ∷ b ∷ bs) (braced_word l stack n g (42 ∷ b ∷ bs) (braces_byte l stack n 0 42 (b ∷ bs) (ap plain_braced star_is)
    (braced_case l stack n 0 (in_quotes l stack n g) (class_of b) b bs refl rec (reads_same l mode.BraceStar mode.Braced 0 stack (b ∷ bs) r (star_read l r.inner b bs r.draft r.place h)))))

pub brace_star_case : (l : Level) (stack : List Opener) (n : ℕ) → Standing l stack n context.Bare → (c : Class) (b : ℕ) (bs : List ℕ) → class_of b ≡ c → Rec l bs → Reads l mode.BraceStar 0 stack (b ∷ bs) → WordLeft l stack n (123 ∷ 42 ∷ b ∷ bs)
unfolding transition
brace_star_case l stack n g class.Close b bs e rec r =
    subst (λ x. WordLeft l stack n (123 ∷ 42 ∷ x ∷ bs)) (sym (is_class b class.Close e))
    (rec mode.BehindStar 0 stack n (reads_to l effect.Nothing effect.Nothing mode.BehindStar 0 stack b bs (taken l mode.BraceStar 0 stack b bs class.Close (goes mode.BehindStar) e refl r)) refl g)
brace_star_case l stack n g c b bs e rec r = brace_star_other l stack n g b bs (not_class b c class.Close e (λ y. absurd cc)) rec r

-- behind `{*}`, which is a word where nothing else of one follows
star_word : (l : Level) (stack : List Opener) (n : ℕ) → Standing l stack n context.Bare → (t : List ℕ) → Parted (level_at l stack) t → WordsLeft l stack n t → WordLeft l stack n (123 ∷ 42 ∷ 125 ∷ t)
star_word l stack n g t q w = alone l stack n (123 ∷ 42 ∷ 125 ∷ t) (braced_word l stack n g (42 ∷ 125 ∷ t) (42 ∷ [], 42 ∷ [], t, refl, grammar.Braced.byte 42 (ap plain_braced star_is) grammar.Braced.nothing, inl (q, w)))

star_ended : (l : Level) (stack : List Opener) (n : ℕ) → Standing l stack n context.Bare → (b : ℕ) (bs : List ℕ) → ends_word (level_at l stack) (class_of b) ≡ true → Rec l bs → Reads l mode.BehindStar 0 stack (b ∷ bs) →
    WordLeft l stack n (123 ∷ 42 ∷ 125 ∷ b ∷ bs)
star_ended l stack n g b bs h rec r =
    star_word l stack n g (b ∷ bs) (grammar.Parted.at_byte b h)
    (gap_ends l stack n g (class_of b) b bs refl h rec
    (reads_as l mode.BehindStar mode.Gap 0 stack (b ∷ bs) effect.Word r
    (λ p. part_read l r.inner mode.BehindStar effect.Word mode.StarPair (b ∷ bs) r.draft (star_ends l r.inner (outermost_in l stack n g r.inner r.draft.indices r.stands)) (grammar.Parted.at_byte b (ap (λ y. ends_word y (class_of b)) (level_stands l mode.BehindStar 0 stack (b ∷ bs) r) ∙ h)) p)))

star_bare : (l : Level) (stack : List Opener) (n : ℕ) → Standing l stack n context.Bare → (c : Class) (b : ℕ) (bs : List ℕ) → class_of b ≡ c → begins c ≡ true → c ≢ class.Backslash → ends_word (level_at l stack) (class_of b) ≡ false → Rec l bs →
    Reads l mode.BehindStar 0 stack (b ∷ bs) → WordLeft l stack n (123 ∷ 42 ∷ 125 ∷ b ∷ bs)
star_bare l stack n g c b bs e h nb x rec r = expanded l stack n (b ∷ bs) (entry_bare l stack n g at_star b bs (ap begins e ∙ h) x (λ y. nb (sym e ∙ y)) refl rec r)

star_goes_on : (l : Level) (stack : List Opener) (n : ℕ) → Standing l stack n context.Bare → (c : Class) (b : ℕ) (bs : List ℕ) → class_of b ≡ c → ends_word (level_at l stack) (class_of b) ≡ false → Rec l bs →
    Reads l mode.BehindStar 0 stack (b ∷ bs) → WordLeft l stack n (123 ∷ 42 ∷ 125 ∷ b ∷ bs)
star_goes_on l stack n g class.Quote b bs e x rec r =
    let is = is_class b class.Quote e in
    subst (λ y. WordLeft l stack n (123 ∷ 42 ∷ 125 ∷ y ∷ bs)) (sym is) (expanded l stack n (34 ∷ bs) (entry_quoted l stack n g at_star bs rec (subst (λ y. Reads l mode.BehindStar 0 stack (y ∷ bs)) is r)))
star_goes_on l stack n g class.Open b bs e x rec r =
    let is = is_class b class.Open e in
    let s = subst (λ y. Reads l mode.BehindStar 0 stack (y ∷ bs)) is r in
    subst (λ y. WordLeft l stack n (123 ∷ 42 ∷ 125 ∷ y ∷ bs)) (sym is)
    (expanded l stack n (123 ∷ bs) (braced_word l stack n g bs
    (rec mode.Braced 0 stack n (reads_to l effect.Nothing effect.Expand mode.Braced 0 stack 123 bs (taken l mode.BehindStar 0 stack 123 bs class.Open (does effect.Expand (target.To mode.Braced)) open_is (entry_open (level_at l stack) at_star) s)) (in_quotes l stack n g))))
star_goes_on l stack n g class.Backslash b bs e x rec r =
    let is = is_class b class.Backslash e in
    let s = subst (λ y. Reads l mode.BehindStar 0 stack (y ∷ bs)) is r in
    subst (λ y. WordLeft l stack n (123 ∷ 42 ∷ 125 ∷ y ∷ bs)) (sym is)
    (rec mode.StarPair 0 stack n (reads_to l effect.Nothing effect.Nothing mode.StarPair 0 stack 92 bs (taken l mode.BehindStar 0 stack 92 bs class.Backslash (goes mode.StarPair) backslash_is (entry_backslash (level_at l stack) at_star) s)) refl g)
star_goes_on l stack n g c b bs e x rec r = star_bare l stack n g c b bs e refl (λ y. absurd cc) x rec r

pub behind_star_case : (l : Level) (stack : List Opener) (n : ℕ) → Standing l stack n context.Bare → (x : Bool) (b : ℕ) (bs : List ℕ) → ends_word (level_at l stack) (class_of b) ≡ x → Rec l bs → Reads l mode.BehindStar 0 stack (b ∷ bs) →
    WordLeft l stack n (123 ∷ 42 ∷ 125 ∷ b ∷ bs)
behind_star_case l stack n g true b bs e rec r = star_ended l stack n g b bs e rec r
behind_star_case l stack n g false b bs e rec r = star_goes_on l stack n g (class_of b) b bs refl e rec r

pub behind_star_stop : (l : Level) (stack : List Opener) (n : ℕ) → Standing l stack n context.Bare → Reads l mode.BehindStar 0 stack [] → WordLeft l stack n (123 ∷ 42 ∷ 125 ∷ [])
behind_star_stop l [] n g r = star_word l [] n g [] grammar.Parted.at_end (last_words l n)
behind_star_stop l (opener.Bracket s ∷ stack) n g r = absurd (stops_inside l mode.BehindStar 0 s stack r)
behind_star_stop l (opener.Paren s ∷ stack) n g r = absurd g.sound

pub star_pair_case : (l : Level) (stack : List Opener) (n : ℕ) → Standing l stack n context.Bare → (x : Bool) (b : ℕ) (bs : List ℕ) → (b == 10) ≡ x → Rec l bs → Reads l mode.StarPair 0 stack (b ∷ bs) → WordLeft l stack n (123 ∷ 42 ∷ 125 ∷ 92 ∷ b ∷ bs)
unfolding transition
star_pair_case l stack n g true b bs e rec r =
    let is = eqb-true b 10 e in
    let s = subst (λ y. Reads l mode.StarPair 0 stack (y ∷ bs)) is r in
    subst (λ y. WordLeft l stack n (123 ∷ 42 ∷ 125 ∷ 92 ∷ y ∷ bs)) (sym is)
    (star_word l stack n g (92 ∷ 10 ∷ bs) grammar.Parted.at_joined_line
    (words_line l stack n bs (rec mode.Gap 0 stack n (reads_to l effect.Nothing effect.Word mode.Gap 0 stack 10 bs (taken l mode.StarPair 0 stack 10 bs class.Newline (does effect.Word (target.To mode.Gap)) newline_is refl s)) refl g)))
star_pair_case l stack n g false b bs e rec r = expanded l stack n (92 ∷ b ∷ bs) (entry_escaped l stack n g at_star b bs (eqb-false b 10 e) e rec r)

-- behind a quoted or a braced word
behind_bad : (l : Level) (k : Delimiter) (c : Class) (b : ℕ) → l ≢ level.Alone → ends_word l c ≡ false → c ≢ class.Backslash → transition l false (mode.Behind k) c b ≡ does effect.Nothing (target.Bad (after k))
unfolding transition
behind_bad level.Alone k c b na e n = absurd (na refl)
behind_bad l k class.Blank b na e n = absurd cc
behind_bad l k class.Backslash b na e n = absurd (n refl)
behind_bad level.Top k class.Newline b na e n = absurd cc
behind_bad level.Top k class.Semicolon b na e n = absurd cc
behind_bad level.Top k c b na e n = refl
behind_bad level.List k class.Newline b na e n = absurd cc
behind_bad level.List k c b na e n = refl
behind_bad level.Inside k class.Newline b na e n = absurd cc
behind_bad level.Inside k class.Semicolon b na e n = absurd cc
behind_bad level.Inside k class.RightBracket b na e n = absurd cc
behind_bad level.Inside k c b na e n = refl

behind_backslash : (l : Level) (k : Delimiter) (b : ℕ) → l ≢ level.Alone → transition l false (mode.Behind k) class.Backslash b ≡ goes (mode.BehindPair k)
unfolding transition
behind_backslash level.Top k b na = refl
behind_backslash level.List k b na = refl
behind_backslash level.Inside k b na = refl
behind_backslash level.Alone k b na = absurd (na refl)

no_operand : (l : Level) (stack : List Opener) (n : ℕ) → Standing l stack n context.Bare → level_at l stack ≢ level.Alone
no_operand level.Top [] n g e = absurd cc
no_operand level.List [] n g e = absurd cc
no_operand level.Inside [] n g e = absurd g.sound
no_operand level.Alone [] n g e = absurd g.sound
no_operand l (opener.Bracket s ∷ stack) n g e = absurd cc
no_operand l (opener.Paren s ∷ stack) n g e = absurd g.sound

behind_ended : (l : Level) (stack : List Opener) (n : ℕ) → Standing l stack n context.Bare → (k : Delimiter) (b : ℕ) (bs : List ℕ) → ends_word (level_at l stack) (class_of b) ≡ true → Rec l bs → Reads l (mode.Behind k) 0 stack (b ∷ bs) →
    Parted (level_at l stack) (b ∷ bs) × WordsLeft l stack n (b ∷ bs)
behind_ended l stack n g k b bs h rec r = (
  grammar.Parted.at_byte b h,
  gap_ends l stack n g (class_of b) b bs refl h rec
      (reads_as l (mode.Behind k) mode.Gap 0 stack (b ∷ bs) effect.Nothing r
      (λ p. part_read l r.inner (mode.Behind k) effect.Nothing (mode.BehindPair k) (b ∷ bs) r.draft (behind_ends l r.inner k (outermost_in l stack n g r.inner r.draft.indices r.stands)) (grammar.Parted.at_byte b (ap (λ y. ends_word y (class_of b)) (level_stands l (mode.Behind k) 0 stack (b ∷ bs) r) ∙ h)) p)),
)

behind_line : (l : Level) (stack : List Opener) (n b : ℕ) (bs : List ℕ) → b ≡ 92 → ((rest : List ℕ) × (bs ≡ 10 ∷ rest) × WordsLeft l stack n rest) → Parted (level_at l stack) (b ∷ bs) × WordsLeft l stack n (b ∷ bs)
behind_line l stack n b bs e x =
    subst (λ y. Parted (level_at l stack) y × WordsLeft l stack n y) (sym (ap (λ y. y ∷ bs) e ∙ ap (λ y. 92 ∷ y) x.1)) (grammar.Parted.at_joined_line, words_line l stack n x.0 x.2)

behind_more : (l : Level) (stack : List Opener) (n : ℕ) → Standing l stack n context.Bare → (k : Delimiter) (c : Class) (b : ℕ) (bs : List ℕ) → class_of b ≡ c → ends_word (level_at l stack) (class_of b) ≡ false → Rec l bs →
    Reads l (mode.Behind k) 0 stack (b ∷ bs) → Parted (level_at l stack) (b ∷ bs) × WordsLeft l stack n (b ∷ bs)
behind_more l stack n g k class.Backslash b bs e h rec r =
    behind_line l stack n b bs (is_class b class.Backslash e)
    (rec (mode.BehindPair k) 0 stack n
    (reads_to l effect.Nothing effect.Nothing (mode.BehindPair k) 0 stack b bs (taken l (mode.Behind k) 0 stack b bs class.Backslash (goes (mode.BehindPair k)) e (behind_backslash (level_at l stack) k b (no_operand l stack n g)) r)) refl g)
behind_more l stack n g k c b bs e h rec r =
    absurd (reads_bad l (after k) 0 stack b bs
    (taken l (mode.Behind k) 0 stack b bs c (does effect.Nothing (target.Bad (after k))) e (behind_bad (level_at l stack) k c b (no_operand l stack n g) (ap (ends_word (level_at l stack)) (sym e) ∙ h) (λ y. absurd cc)) r))

behind_word : (l : Level) (stack : List Opener) (n : ℕ) → Standing l stack n context.Bare → (k : Delimiter) (x : Bool) (b : ℕ) (bs : List ℕ) → ends_word (level_at l stack) (class_of b) ≡ x → Rec l bs →
    Reads l (mode.Behind k) 0 stack (b ∷ bs) → Parted (level_at l stack) (b ∷ bs) × WordsLeft l stack n (b ∷ bs)
behind_word l stack n g k true b bs e rec r = behind_ended l stack n g k b bs e rec r
behind_word l stack n g k false b bs e rec r = behind_more l stack n g k (class_of b) b bs refl e rec r

behind_word_stop : (l : Level) (stack : List Opener) (n : ℕ) → Standing l stack n context.Bare → (k : Delimiter) → Reads l (mode.Behind k) 0 stack [] → Parted (level_at l stack) [] × WordsLeft l stack n []
behind_word_stop l [] n g k r = (grammar.Parted.at_end, last_words l n)
behind_word_stop l (opener.Bracket s ∷ stack) n g k r = absurd (stops_inside l (mode.Behind k) 0 s stack r)
behind_word_stop l (opener.Paren s ∷ stack) n g k r = absurd g.sound

pub behind_case : (l : Level) (stack : List Opener) (n : ℕ) → Standing l stack n context.Quoted → (k : Delimiter) (b : ℕ) (bs : List ℕ) → Rec l bs → Reads l (mode.Behind k) 0 stack (b ∷ bs) → BehindLeft l stack n (b ∷ bs)
behind_case l stack n g k b bs rec r = word_or_operand (quotes_of l stack n g)
  where
    word_or_operand : Standing l stack n context.Bare ⊎ ((l ≡ level.Alone) × (stack ≡ [])) → BehindLeft l stack n (b ∷ bs)
    word_or_operand (inl h) = inl (behind_word l stack n h k (ends_word (level_at l stack) (class_of b)) b bs refl rec r)
    word_or_operand (inr h) = inr h

pub behind_stop : (l : Level) (stack : List Opener) (n : ℕ) → Standing l stack n context.Quoted → (k : Delimiter) → Reads l (mode.Behind k) 0 stack [] → BehindLeft l stack n []
behind_stop l stack n g k r = word_or_operand (quotes_of l stack n g)
  where
    word_or_operand : Standing l stack n context.Bare ⊎ ((l ≡ level.Alone) × (stack ≡ [])) → BehindLeft l stack n []
    word_or_operand (inl h) = inl (behind_word_stop l stack n h k r)
    word_or_operand (inr h) = inr h

pub behind_pair_case : (l : Level) (stack : List Opener) (n : ℕ) → Standing l stack n context.Bare → (k : Delimiter) (c : Class) (b : ℕ) (bs : List ℕ) → class_of b ≡ c → Rec l bs → Reads l (mode.BehindPair k) 0 stack (b ∷ bs) →
    (rest : List ℕ) × (b ∷ bs ≡ 10 ∷ rest) × WordsLeft l stack n rest
unfolding transition
behind_pair_case l stack n g k class.Newline b bs e rec r =
    (bs, ap (λ y. y ∷ bs) (is_class b class.Newline e), rec mode.Gap 0 stack n (reads_to l effect.Nothing effect.Nothing mode.Gap 0 stack b bs (taken l (mode.BehindPair k) 0 stack b bs class.Newline (goes mode.Gap) e refl r)) refl g)
behind_pair_case l stack n g k c b bs e rec r = absurd (reads_bad l (after k) 0 stack b bs (taken l (mode.BehindPair k) 0 stack b bs c (does effect.Nothing (target.Bad (after k))) e refl r))

behind_pair_bad : (x : Bool) (k : Delimiter) → (f : WordFault) × (ends x (mode.BehindPair k) ≡ ending.Bad f)
unfolding ends
behind_pair_bad true k = (after k, refl)
behind_pair_bad false k = (MissingBracket, refl)

pub behind_pair_stop : (l : Level) (stack : List Opener) (k : Delimiter) → Reads l (mode.BehindPair k) 0 stack [] → ⊥
behind_pair_stop l stack k r =
    let x = behind_pair_bad (is_none r.inner) k in
    stops_bad l (mode.BehindPair k) 0 stack r x.0 x.1
