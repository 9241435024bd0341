-- What is spelled so is read.
use Rattle.std.specs.Prelude.{◌≡◌, ◌≢◌, ℕ, suc, ◌+◌, List, [], ◌∷◌, ◌++◌, length, refl, Ok, Bool, true, false, ◌⊎◌, drop}
use Rattle.std.proofs.Common.{inl, inr, ◌∙◌, ap, sym, arith, subst, append_assoc}
use Rattle.std.proofs.lemmas.List.{append-nil}
use Rattle.dg_words.specs.Piece.{Piece, Variable, Element, End, Command}
use Rattle.dg_lists.specs.declared.kinds.Class.{Class}
use Rattle.dg_lists.specs.declared.kinds.Class.TheVariants as class
use Rattle.dg_lists.specs.declared.kinds.Effect.TheVariants as effect
use Rattle.dg_words.specs.declared.kinds.Level.{Level}
use Rattle.dg_words.specs.declared.kinds.Level.TheVariants as level
use Rattle.dg_lists.specs.declared.kinds.Mode.{Mode}
use Rattle.dg_lists.specs.declared.kinds.Mode.TheVariants as mode
use Rattle.dg_lists.specs.declared.kinds.Target.TheVariants as target
use Rattle.dg_words.specs.declared.kinds.Opener.{Opener}
use Rattle.dg_lists.specs.declared.kinds.Context.{Context}
use Rattle.dg_lists.specs.declared.kinds.Context.TheVariants as context
use Rattle.dg_words.specs.declared.word.Word.{Word}
use Rattle.dg_lists.specs.Classes.{class_of}
use Rattle.dg_lists.specs.Transitions.{does, goes}
use Rattle.dg_words.specs.Transitions.{ends, transition}
use Rattle.dg_words.specs.Machine.{Draft, Over, add, closed, end_word, fresh, level_in, onward, perform, read, step, stop}
use Rattle.dg_words.specs.Transitions.{in_braced}
use Rattle.dg_words.specs.Grammar.Words as words
use Rattle.dg_words.specs.Grammar.Words.{plain, with_text}
use Rattle.dg_lists.proofs.GrammarLemmas.Bytes.{is_class}
use Rattle.dg_lists.proofs.GrammarLemmas.ListRead.{backslash_is}
use Rattle.dg_words.proofs.GrammarLemmas.Segments.{at, Leads, lead_none, lead_one, lead_both, step_by, read_step, moved, add_add, Seg, seg_both, seg_one, seg_then, does_in}
use Rattle.dg_words.specs.Transitions.{in_brace_first, in_brace_star}
use Rattle.dg_lists.specs.declared.kinds.Delimiter.TheVariants as delimiter
use Rattle.dg_lists.specs.Grammar.Lists.{plain_braced}
use Rattle.dg_words.specs.Grammar.Words.{Parts, Plain, OneWord, Words, OneCommand, Script, Begun, WordsOf, ends_command, Parted, Gap, Skipped, Braced, is_hash, begins_with_hash}
use Rattle.dg_lists.proofs.GrammarLemmas.ListRead.{quote_is}
use Rattle.dg_words.proofs.GrammarLemmas.Pieces.{close_is, open_is, same}
use Rattle.dg_words.specs.Reading.{command_at, words_of, kind_of, words_only}
use Rattle.dg_words.proofs.GrammarLemmas.Pieces.{right_bracket_is, seg_byte, seg_braced_variable, seg_escape, seg_joined, seg_last, seg_lone_dollar, seg_variable, varied}
use Rattle.dg_words.specs.declared.kinds.Opener.TheVariants as opener
use Rattle.dg_words.proofs.GrammarLemmas.Between.{OutermostIn, HasCommands, part_read, bare_ends, star_ends, behind_ends, seg_gap, seg_skipped, seg_braced}
use Rattle.dg_words.proofs.GrammarLemmas.PartRead.{Behind, Entry, Leading, NoHash, Room, at_gap, at_star, at_start, atom_indices, atom_then, bare_begins, behind_none, bracket_closes, bracket_opens, bracketed, bracketed_room, by_seg, closed_is, command_atom, element_atom, element_opens, entered, entered_level, entered_room, entry_effect, entry_mode, index_closes, indexed, lead_from, lead_to, no_hash, room_as, text_atom, unbracketed, unindexed, variable_atom}

-- between words nothing of the next is read
abbrev pub base : Bool → List Word → Draft
base e ws = record { words = ws; expand = e; indices = []; parts = []; text = [] }

abbrev finished : List Opener → List ℕ → List Word → Bool → List Piece → Draft → Draft
finished [] t ws e ps d = base false (ws ++ record { expand = e; parts = ps } ∷ [])
finished (o ∷ os) t ws e ps d = add t d

abbrev Fresh : List Opener → Entry → Bool → List Word → ℕ → Draft → Type 0
Fresh [] x e ws n d = (perform (entry_effect x) d ≡ base e ws) × (n ≡ 100)
Fresh (o ∷ os) x e ws n d = Room n (o ∷ os) d

fresh_room : (inner : List Opener) (x : Entry) (e : Bool) (ws : List Word) (n : ℕ) (d : Draft) → Fresh inner x e ws n d → Room n inner (does_in inner (entry_effect x) d)
fresh_room [] x e ws n d h = room_as n [] (base e ws) (perform (entry_effect x) d) (ap (λ (y : Draft). y.indices) h.0) (omega (arith, h.1))
fresh_room (o ∷ os) x e ws n d h = h

abbrev word_draft : List Word → Bool → List Piece → List Context → Draft
word_draft ws x ps i = record { words = ws ++ record { expand = x; parts = ps } ∷ []; expand = false; indices = i; parts = []; text = [] }

pub end_is : (e : Draft) (ws : List Word) (x : Bool) (ps : List Piece) → e.indices ≡ [] → e.words ≡ ws → e.expand ≡ x → closed e.parts e.text ≡ ps → perform effect.Word e ≡ base false (ws ++ record { expand = x; parts = ps } ∷ [])
end_is e ws x ps hi hw hx hp =
    ap (λ i. end_word i e) hi ∙ ap (λ w. word_draft w e.expand (closed e.parts e.text) e.indices) hw ∙ ap (λ y. word_draft ws y (closed e.parts e.text) e.indices) hx
    ∙ ap (λ y. word_draft ws x y e.indices) hp ∙ ap (λ y. word_draft ws x ps y) hi

top_finished : (d e : Draft) (x : Bool) (ws : List Word) (t : List ℕ) (ps : List Piece) → d ≡ base x ws → Behind [] d t ps e → perform effect.Word e ≡ base false (ws ++ record { expand = x; parts = ps } ∷ [])
top_finished d e x ws t ps h b =
    end_is e ws x ps (b.2 ∙ ap (λ (y : Draft). y.indices) h) (b.0 ∙ ap (λ (y : Draft). y.words) h) (b.1 ∙ ap (λ (y : Draft). y.expand) h) (b.3 ∙ ap (λ (y : Draft). y.parts ++ with_text y.text ps) h)

bare_finished : (inner : List Opener) (x : Entry) (e : Bool) (ws : List Word) (n : ℕ) (d f : Draft) (t : List ℕ) (ps : List Piece) → Fresh inner x e ws n d → Behind inner (does_in inner (entry_effect x) d) t ps f →
    does_in inner effect.Word f ≡ finished inner t ws e ps d
bare_finished [] x e ws n d f t ps h b = top_finished (perform (entry_effect x) d) f e ws t ps h.0 b
bare_finished (o ∷ os) x e ws n d f t ps h b = b

-- quotes
pub entry_quote : (l : Level) (x : Entry) → transition l false (entry_mode x) class.Quote 34 ≡ does (entry_effect x) (target.To (mode.In context.Quoted))
unfolding transition
entry_quote level.Top at_gap = refl
entry_quote level.Top at_start = refl
entry_quote level.Top at_star = refl
entry_quote level.List at_gap = refl
entry_quote level.List at_start = refl
entry_quote level.List at_star = refl
entry_quote level.Inside at_gap = refl
entry_quote level.Inside at_start = refl
entry_quote level.Inside at_star = refl
entry_quote level.Alone at_gap = refl
entry_quote level.Alone at_start = refl
entry_quote level.Alone at_star = refl

seg_quote : (l : Level) (inner : List Opener) (after : List ℕ) (x : Entry) → Seg l inner after (entry_mode x) 0 (34 ∷ []) (perform (entry_effect x)) (mode.In context.Quoted) 0
seg_quote l inner after x = seg_one l inner after (entry_mode x) (mode.In context.Quoted) 0 34 class.Quote effect.Nothing (entry_effect x) quote_is (entry_quote (level_in l inner) x)

pub seg_unquote : (l : Level) (inner : List Opener) (after : List ℕ) → Seg l inner after (mode.In context.Quoted) 0 (34 ∷ []) (perform effect.Word) (mode.Behind delimiter.Quote) 0
unfolding transition
seg_unquote l inner after = seg_one l inner after (mode.In context.Quoted) (mode.Behind delimiter.Quote) 0 34 class.Quote effect.Nothing effect.Word quote_is refl

quoted_room : (inner : List Opener) (x : Entry) (e : Bool) (ws : List Word) (n : ℕ) (d : Draft) → Fresh inner x e ws n d → Room n inner (moved inner (34 ∷ []) (perform (entry_effect x)) d)
quoted_room [] x e ws n d h = fresh_room [] x e ws n d h
quoted_room (o ∷ os) x e ws n d h = h

quoted_finished : (inner : List Opener) (x : Entry) (e : Bool) (ws : List Word) (n : ℕ) (d f : Draft) (t : List ℕ) (ps : List Piece) → Fresh inner x e ws n d → Behind inner (moved inner (34 ∷ []) (perform (entry_effect x)) d) t ps f →
    does_in inner effect.Nothing (moved inner (34 ∷ []) (perform effect.Word) f) ≡ finished inner (34 ∷ t ++ 34 ∷ []) ws e ps d
quoted_finished [] x e ws n d f t ps h b = top_finished (perform (entry_effect x) d) f e ws t ps h.0 b
quoted_finished (o ∷ os) x e ws n d f t ps h b = ap (add (34 ∷ [])) b ∙ ap (add (34 ∷ [])) (add_add (34 ∷ []) t d) ∙ add_add (34 ∷ t) (34 ∷ []) d

-- braces
abbrev entry_brace : Entry → Mode
entry_brace at_gap = mode.BraceFirst
entry_brace at_start = mode.BraceFirst
entry_brace at_star = mode.Braced

pub entry_open : (l : Level) (x : Entry) → transition l false (entry_mode x) class.Open 123 ≡ does (entry_effect x) (target.To (entry_brace x))
unfolding transition
entry_open level.Top at_gap = refl
entry_open level.Top at_start = refl
entry_open level.Top at_star = refl
entry_open level.List at_gap = refl
entry_open level.List at_start = refl
entry_open level.List at_star = refl
entry_open level.Inside at_gap = refl
entry_open level.Inside at_start = refl
entry_open level.Inside at_star = refl
entry_open level.Alone at_gap = refl
entry_open level.Alone at_start = refl
entry_open level.Alone at_star = refl

seg_brace : (l : Level) (inner : List Opener) (after : List ℕ) (x : Entry) → Seg l inner after (entry_mode x) 0 (123 ∷ []) (perform (entry_effect x)) (entry_brace x) 0
seg_brace l inner after x = seg_one l inner after (entry_mode x) (entry_brace x) 0 123 class.Open effect.Nothing (entry_effect x) open_is (entry_open (level_in l inner) x)

pub seg_unbrace : (l : Level) (inner : List Opener) (after : List ℕ) → Seg l inner after mode.Braced 0 (125 ∷ []) (perform effect.Word) (mode.Behind delimiter.Brace) 0
unfolding transition
seg_unbrace l inner after = seg_one l inner after mode.Braced (mode.Behind delimiter.Brace) 0 125 class.Close effect.Nothing effect.Word close_is refl

pub star_is : class_of 42 ≡ class.Star
unfolding class_of
star_is = refl

seg_star : (l : Level) (inner : List Opener) (after : List ℕ) → Seg l inner after mode.BraceFirst 0 (42 ∷ 125 ∷ []) (add (42 ∷ [])) mode.BehindStar 0
unfolding transition
seg_star l inner after =
    seg_then l inner after mode.BraceFirst mode.BraceStar mode.BehindStar 0 0 0 42 (125 ∷ []) (add (42 ∷ [])) same
    (seg_one l inner (125 ∷ after) mode.BraceFirst mode.BraceStar 0 42 class.Star effect.Nothing (effect.Byte 42) star_is refl)
    (seg_one l inner after mode.BraceStar mode.BehindStar 0 125 class.Close effect.Nothing effect.Nothing close_is refl)

abbrev braced_draft : List Opener → List ℕ → List ℕ → Draft → Draft
braced_draft inner t v d = moved inner (t ++ 125 ∷ []) (λ y. perform effect.Word (add v y)) d

nothing_done : (inner : List Opener) (d : Draft) → does_in inner effect.Nothing d ≡ d
nothing_done [] d = refl
nothing_done (o ∷ os) d = refl

-- within braces that are no prefix
whole_braced : (l : Level) (inner : List Opener) → OutermostIn l inner → (after t v : List ℕ) (d : Draft) → Braced t v → Parted (level_in l inner) after → Leads l after (at inner mode.Braced 0 d) (t ++ 125 ∷ []) (at inner mode.Gap 0 (braced_draft inner t v d))
whole_braced l inner o after t v d i q =
    lead_to l after _ _ _ (t ++ 125 ∷ [])
    (seg_both l inner after mode.Braced mode.Braced (mode.Behind delimiter.Brace) 0 0 0 t (125 ∷ []) (add v) (perform effect.Word) (seg_braced l inner (125 ∷ after) 0 t v refl i) (seg_unbrace l inner after) d)
    (λ p. part_read l inner (mode.Behind delimiter.Brace) effect.Nothing (mode.BehindPair delimiter.Brace) after (braced_draft inner t v d) (behind_ends l inner delimiter.Brace o) q p
    ∙ ap (λ y. read l after (at inner mode.Gap 0 y) p) (nothing_done inner (braced_draft inner t v d)))

first_transition : (c : Class) (b : ℕ) → c ≢ class.Star → in_brace_first c b ≡ in_braced false c b
first_transition class.Star b n = absurd (n refl)
first_transition c b n = refl

star_transition : (c : Class) (b : ℕ) → c ≢ class.Close → in_brace_star c b ≡ in_braced false c b
star_transition class.Close b n = absurd (n refl)
star_transition c b n = refl

pub first_read : (l : Level) (inner : List Opener) (b : ℕ) (bs : List ℕ) (d : Draft) (p : ℕ) → class_of b ≢ class.Star → read l (b ∷ bs) (at inner mode.BraceFirst 0 d) p ≡ read l (b ∷ bs) (at inner mode.Braced 0 d) p
unfolding transition
first_read l inner b bs d p n =
    read_step l _ _ b bs p (step_by l (at inner mode.BraceFirst 0 d) b (class_of b) (in_braced false (class_of b) b) refl (first_transition (class_of b) b n)
    ∙ sym (step_by l (at inner mode.Braced 0 d) b (class_of b) (in_braced false (class_of b) b) refl refl))

pub star_read : (l : Level) (inner : List Opener) (b : ℕ) (bs : List ℕ) (d : Draft) (p : ℕ) → class_of b ≢ class.Close → read l (b ∷ bs) (at inner mode.BraceStar 0 d) p ≡ read l (b ∷ bs) (at inner mode.Braced 0 d) p
unfolding transition
star_read l inner b bs d p n =
    read_step l _ _ b bs p (step_by l (at inner mode.BraceStar 0 d) b (class_of b) (in_braced false (class_of b) b) refl (star_transition (class_of b) b n)
    ∙ sym (step_by l (at inner mode.Braced 0 d) b (class_of b) (in_braced false (class_of b) b) refl refl))

pub not_class : (b : ℕ) (c k : Class) → class_of b ≡ c → c ≢ k → class_of b ≢ k
not_class b c k e n h = n (sym e ∙ h)

not_close : (c : Class) → plain_braced c ≡ true → c ≢ class.Close
not_close class.Close h n = absurd cc
not_close c h n = absurd cc

-- behind `{*`, what goes on is no prefix
star_goes_on : (l : Level) (inner : List Opener) (t v rest : List ℕ) (d : Draft) (p : ℕ) → Braced t v → t ≢ [] → read l (t ++ rest) (at inner mode.BraceStar 0 d) p ≡ read l (t ++ rest) (at inner mode.Braced 0 d) p
star_goes_on l inner t v rest d p words.Braced.nothing n = absurd (n refl)
star_goes_on l inner t v rest d p (words.Braced.byte {t = u} b h i) n = star_read l inner b (u ++ rest) d p (not_close (class_of b) h)
star_goes_on l inner t v rest d p (words.Braced.pair {t = u} b h i) n = star_read l inner 92 (b ∷ u ++ rest) d p (not_class 92 class.Backslash class.Close backslash_is (λ e. absurd cc))
star_goes_on l inner t v rest d p (words.Braced.joined_line {t = u} g h i) n = star_read l inner 92 (10 ∷ g ++ u ++ rest) d p (not_class 92 class.Backslash class.Close backslash_is (λ e. absurd cc))
star_goes_on l inner t v rest d p (words.Braced.braces {t = u} {u = r} i j) n = star_read l inner 123 (u ++ 125 ∷ r ++ rest) d p (not_class 123 class.Open class.Close open_is (λ e. absurd cc))

star_drafts : (inner : List Opener) (d : Draft) → does_in inner effect.Word (moved inner (42 ∷ 125 ∷ []) (add (42 ∷ [])) d) ≡ braced_draft inner (42 ∷ []) (42 ∷ []) d
star_drafts [] d = refl
star_drafts (o ∷ os) d = refl

star_word : (l : Level) (inner : List Opener) → OutermostIn l inner → (after : List ℕ) (d : Draft) → Parted (level_in l inner) after → Leads l after (at inner mode.BraceFirst 0 d) (42 ∷ 125 ∷ []) (at inner mode.Gap 0 (braced_draft inner (42 ∷ []) (42 ∷ []) d))
star_word l inner o after d q =
    lead_to l after _ _ _ (42 ∷ 125 ∷ []) (seg_star l inner after d)
    (λ p. part_read l inner mode.BehindStar effect.Word mode.StarPair after (moved inner (42 ∷ 125 ∷ []) (add (42 ∷ [])) d) (star_ends l inner o) q p
    ∙ ap (λ y. read l after (at inner mode.Gap 0 y) p) (star_drafts inner d))

more_drafts : (inner : List Opener) (u x : List ℕ) (d : Draft) → braced_draft inner u x (moved inner (42 ∷ []) (add (42 ∷ [])) d) ≡ braced_draft inner (42 ∷ u) (42 ∷ x) d
more_drafts [] u x d = ap (perform effect.Word) (add_add (42 ∷ []) x d)
more_drafts (o ∷ os) u x d = add_add (42 ∷ []) (u ++ 125 ∷ []) d

star_more : (l : Level) (inner : List Opener) → OutermostIn l inner → (after u x : List ℕ) (d : Draft) → Braced u x → Parted (level_in l inner) after → u ≢ [] →
    Leads l after (at inner mode.BraceFirst 0 d) (42 ∷ u ++ 125 ∷ []) (at inner mode.Gap 0 (braced_draft inner (42 ∷ u) (42 ∷ x) d))
unfolding transition
star_more l inner o after u x d i q n =
    let d1 = moved inner (42 ∷ []) (add (42 ∷ [])) d in
    subst (λ y. Leads l after (at inner mode.BraceFirst 0 d) (42 ∷ u ++ 125 ∷ []) (at inner mode.Gap 0 y)) (more_drafts inner u x d)
    (lead_both l after _ _ _ (42 ∷ []) (u ++ 125 ∷ []) (seg_one l inner (u ++ 125 ∷ [] ++ after) mode.BraceFirst mode.BraceStar 0 42 class.Star effect.Nothing (effect.Byte 42) star_is refl d)
    (lead_from l after _ (at inner mode.Braced 0 d1) _ (u ++ 125 ∷ [])
    (λ p. subst (λ y. read l y (at inner mode.BraceStar 0 d1) p ≡ read l y (at inner mode.Braced 0 d1) p) (sym (append_assoc u (125 ∷ []) after)) (star_goes_on l inner u x (125 ∷ after) d1 p i n))
    (whole_braced l inner o after u x d1 i q)))

star_begins : (l : Level) (inner : List Opener) → OutermostIn l inner → (after u x : List ℕ) (d : Draft) → Braced u x → Parted (level_in l inner) after →
    Leads l after (at inner mode.BraceFirst 0 d) (42 ∷ u ++ 125 ∷ []) (at inner mode.Gap 0 (braced_draft inner (42 ∷ u) (42 ∷ x) d))
star_begins l inner o after u x d words.Braced.nothing q = star_word l inner o after d q
star_begins l inner o after u x d (words.Braced.byte b h i) q = star_more l inner o after u x d (words.Braced.byte b h i) q (λ e. absurd cc)
star_begins l inner o after u x d (words.Braced.pair b h i) q = star_more l inner o after u x d (words.Braced.pair b h i) q (λ e. absurd cc)
star_begins l inner o after u x d (words.Braced.joined_line g h i) q = star_more l inner o after u x d (words.Braced.joined_line g h i) q (λ e. absurd cc)
star_begins l inner o after u x d (words.Braced.braces i j) q = star_more l inner o after u x d (words.Braced.braces i j) q (λ e. absurd cc)

star_case : (c : Class) → (c ≡ class.Star → ⊥) ⊎ (c ≡ class.Star)
star_case class.Star = inr refl
star_case c = inl (λ e. absurd cc)

-- the text of a braced word from its second byte on
abbrev FirstBraced : Level → List Opener → List ℕ → List ℕ → List ℕ → Draft → Type 0
FirstBraced l inner after t v d = Leads l after (at inner mode.BraceFirst 0 d) (t ++ 125 ∷ []) (at inner mode.Gap 0 (braced_draft inner t v d))

first_as : (l : Level) (inner : List Opener) → OutermostIn l inner → (after v : List ℕ) (b : ℕ) (bs t : List ℕ) (d : Draft) → class_of b ≢ class.Star → t ++ 125 ∷ [] ++ after ≡ b ∷ bs → Braced t v → Parted (level_in l inner) after → FirstBraced l inner after t v d
first_as l inner o after v b bs t d n e i q =
    lead_from l after _ (at inner mode.Braced 0 d) _ (t ++ 125 ∷ []) (λ p. subst (λ y. read l y (at inner mode.BraceFirst 0 d) p ≡ read l y (at inner mode.Braced 0 d) p) (sym e) (first_read l inner b bs d p n))
    (whole_braced l inner o after t v d i q)

first_byte : (l : Level) (inner : List Opener) → OutermostIn l inner → (after u x : List ℕ) (b : ℕ) (d : Draft) → plain_braced (class_of b) ≡ true → Braced u x → Parted (level_in l inner) after →
    (class_of b ≡ class.Star → ⊥) ⊎ (class_of b ≡ class.Star) → FirstBraced l inner after (b ∷ u) (b ∷ x) d
first_byte l inner o after u x b d h i q (inl n) = first_as l inner o after (b ∷ x) b (u ++ 125 ∷ [] ++ after) (b ∷ u) d n refl (words.Braced.byte b h i) q
first_byte l inner o after u x b d h i q (inr e) = subst (λ y. FirstBraced l inner after (y ∷ u) (y ∷ x) d) (sym (is_class b class.Star e)) (star_begins l inner o after u x d i q)

first_braced : (l : Level) (inner : List Opener) → OutermostIn l inner → (after t v : List ℕ) (d : Draft) → Braced t v → Parted (level_in l inner) after → FirstBraced l inner after t v d
first_braced l inner o after t v d words.Braced.nothing q = first_as l inner o after [] 125 after [] d (not_class 125 class.Close class.Star close_is (λ e. absurd cc)) refl words.Braced.nothing q
first_braced l inner o after t v d (words.Braced.byte {t = u} {v = x} b h i) q = first_byte l inner o after u x b d h i q (star_case (class_of b))
first_braced l inner o after t v d (words.Braced.pair b h i) q = first_as l inner o after v 92 _ t d (not_class 92 class.Backslash class.Star backslash_is (λ e. absurd cc)) refl (words.Braced.pair b h i) q
first_braced l inner o after t v d (words.Braced.joined_line g h i) q = first_as l inner o after v 92 _ t d (not_class 92 class.Backslash class.Star backslash_is (λ e. absurd cc)) refl (words.Braced.joined_line g h i) q
first_braced l inner o after t v d (words.Braced.braces i j) q = first_as l inner o after v 123 _ t d (not_class 123 class.Open class.Star open_is (λ e. absurd cc)) refl (words.Braced.braces i j) q

brace_goes_on : (l : Level) (inner : List Opener) → OutermostIn l inner → (after t v : List ℕ) (x : Entry) (d : Draft) → Braced t v → Parted (level_in l inner) after →
    Leads l after (at inner (entry_brace x) 0 d) (t ++ 125 ∷ []) (at inner mode.Gap 0 (braced_draft inner t v d))
brace_goes_on l inner o after t v at_gap d i q = first_braced l inner o after t v d i q
brace_goes_on l inner o after t v at_start d i q = first_braced l inner o after t v d i q
brace_goes_on l inner o after t v at_star d i q = whole_braced l inner o after t v d i q

braced_finished : (inner : List Opener) (x : Entry) (e : Bool) (ws : List Word) (n : ℕ) (d : Draft) (t v : List ℕ) → Fresh inner x e ws n d →
    braced_draft inner t v (moved inner (123 ∷ []) (perform (entry_effect x)) d) ≡ finished inner (123 ∷ t ++ 125 ∷ []) ws e (with_text v []) d
braced_finished [] x e ws n d t v h = ap (λ y. perform effect.Word (add v y)) h.0 ∙ end_is (add v (base e ws)) ws e (with_text v []) refl refl refl (closed_is [] v)
braced_finished (o ∷ os) x e ws n d t v h = add_add (123 ∷ []) (t ++ 125 ∷ []) d

-- a prefix
seg_prefix : (l : Level) (inner : List Opener) (after : List ℕ) (x : Entry) → entry_brace x ≡ mode.BraceFirst → Seg l inner after (entry_mode x) 0 (123 ∷ 42 ∷ 125 ∷ []) (λ d. add (42 ∷ []) (perform (entry_effect x) d)) mode.BehindStar 0
seg_prefix l inner after x e =
    seg_then l inner after (entry_mode x) mode.BraceFirst mode.BehindStar 0 0 0 123 (42 ∷ 125 ∷ []) (perform (entry_effect x)) (add (42 ∷ []))
    (subst (λ m. Seg l inner (42 ∷ 125 ∷ after) (entry_mode x) 0 (123 ∷ []) (perform (entry_effect x)) m 0) e (seg_brace l inner (42 ∷ 125 ∷ after) x)) (seg_star l inner after)

prefixed : (inner : List Opener) (x : Entry) (ws : List Word) (n : ℕ) (d : Draft) → Fresh inner x false ws n d → Fresh inner at_star true ws n (moved inner (123 ∷ 42 ∷ 125 ∷ []) (λ y. add (42 ∷ []) (perform (entry_effect x) y)) d)
prefixed [] x ws n d h = (ap (λ y. perform effect.Expand (add (42 ∷ []) y)) h.0, h.1)
prefixed (o ∷ os) x ws n d h = h

abbrev worded : List Opener → List ℕ → List Word → List Word → Draft → Draft
worded [] t ws vs d = base false (ws ++ vs)
worded (o ∷ os) t ws vs d = add t d

prefix_finished : (inner : List Opener) (ws : List Word) (t : List ℕ) (ps : List Piece) (d : Draft) (f : Draft → Draft) →
    finished inner t ws true ps (moved inner (123 ∷ 42 ∷ 125 ∷ []) f d) ≡ worded inner (123 ∷ 42 ∷ 125 ∷ t) ws (record { expand = true; parts = ps } ∷ []) d
prefix_finished [] ws t ps d f = refl
prefix_finished (o ∷ os) ws t ps d f = add_add (123 ∷ 42 ∷ 125 ∷ []) t d

alone_finished : (inner : List Opener) (ws : List Word) (t : List ℕ) (ps : List Piece) (d : Draft) → finished inner t ws false ps d ≡ worded inner t ws (record { expand = false; parts = ps } ∷ []) d
alone_finished [] ws t ps d = refl
alone_finished (o ∷ os) ws t ps d = refl

gap_fresh : (inner : List Opener) (x y : Entry) (ws : List Word) (n : ℕ) (t : List ℕ) (d : Draft) → entry_effect x ≡ effect.Nothing → entry_effect y ≡ effect.Nothing → Fresh inner x false ws n d → Fresh inner y false ws n (moved inner t same d)
gap_fresh [] x y ws n t d e f h = (ap (λ k. perform k d) (f ∙ sym e) ∙ h.0, h.1)
gap_fresh (o ∷ os) x y ws n t d e f h = h

word_fresh : (inner : List Opener) (ws vs : List Word) (n : ℕ) (t : List ℕ) (x : Entry) (d : Draft) → Fresh inner x false ws n d → Fresh inner at_gap false (ws ++ vs) n (worded inner t ws vs d)
word_fresh [] ws vs n t x d h = (refl, h.1)
word_fresh (o ∷ os) ws vs n t x d h = h

no_words : (inner : List Opener) (ws : List Word) (n : ℕ) (t : List ℕ) (d : Draft) → Fresh inner at_gap false ws n d → moved inner t same d ≡ worded inner t ws [] d
no_words [] ws n t d h = h.0 ∙ ap (base false) (sym (append-nil ws))
no_words (o ∷ os) ws n t d h = refl

worded_both : (inner : List Opener) (g u t : List ℕ) (ws vs us : List Word) (d : Draft) → worded inner t (ws ++ vs) us (worded inner u ws vs (moved inner g same d)) ≡ worded inner (g ++ u ++ t) ws (vs ++ us) d
worded_both [] g u t ws vs us d = ap (base false) (append_assoc ws vs us)
worded_both (o ∷ os) g u t ws vs us d = ap (add t) (add_add g u d) ∙ add_add (g ++ u) t d

abbrev mode_of : List Word → Mode
mode_of [] = mode.Start
mode_of (w ∷ ws) = mode.Gap

abbrev commanded : List Opener → List ℕ → List Word → List Word → Draft → Draft
commanded inner t ws [] d = moved inner t same d
commanded inner t ws (v ∷ vs) d = worded inner t ws (v ∷ vs) d

start_closes : (l : Level) (o : Opener) (os : List Opener) (r : List ℕ) (d : Draft) (p : ℕ) → read l (93 ∷ r) (at (o ∷ os) mode.Start 0 d) p ≡ read l (93 ∷ r) (at (o ∷ os) mode.Gap 0 d) p
unfolding transition
start_closes l o os r d p =
    read_step l _ _ 93 r p (step_by l (at (o ∷ os) mode.Start 0 d) 93 class.RightBracket (does effect.Nothing target.Leave) right_bracket_is refl
    ∙ sym (step_by l (at (o ∷ os) mode.Gap 0 d) 93 class.RightBracket (does effect.Nothing target.Leave) right_bracket_is refl))

mode_closes : (l : Level) (o : Opener) (os : List Opener) (t r after : List ℕ) (vs : List Word) (d : Draft) (p : ℕ) → after ≡ 93 ∷ r →
    read l after (at (o ∷ os) (mode_of vs) 0 (commanded (o ∷ os) t [] vs d)) p ≡ read l after (at (o ∷ os) mode.Gap 0 (add t d)) p
mode_closes l o os t r after [] d p e = subst (λ y. read l y (at (o ∷ os) mode.Start 0 (add t d)) p ≡ read l y (at (o ∷ os) mode.Gap 0 (add t d)) p) (sym e) (start_closes l o os r (add t d) p)
mode_closes l o os t r after (v ∷ vs) d p e = refl

ender_lead : (l : Level) (o : Opener) (os : List Opener) (after t : List ℕ) (vs : List Word) (d : Draft) (b : ℕ) (c : Class) → class_of b ≡ c → ends_command level.Inside c ≡ true →
    Leads l after (at (o ∷ os) (mode_of vs) 0 (commanded (o ∷ os) t [] vs d)) (b ∷ []) (at (o ∷ os) mode.Start 0 (add (b ∷ []) (add t d)))
unfolding transition
ender_lead l o os after t [] d b class.Newline e h = lead_one l after _ _ b (step_by l (at (o ∷ os) mode.Start 0 (add t d)) b class.Newline (goes mode.Start) e refl)
ender_lead l o os after t [] d b class.Semicolon e h = lead_one l after _ _ b (step_by l (at (o ∷ os) mode.Start 0 (add t d)) b class.Semicolon (goes mode.Start) e refl)
ender_lead l o os after t (v ∷ vs) d b class.Newline e h = lead_one l after _ _ b (step_by l (at (o ∷ os) mode.Gap 0 (add t d)) b class.Newline (does effect.Nothing target.End) e refl)
ender_lead l o os after t (v ∷ vs) d b class.Semicolon e h = lead_one l after _ _ b (step_by l (at (o ∷ os) mode.Gap 0 (add t d)) b class.Semicolon (does effect.Nothing target.End) e refl)
ender_lead l o os after t vs d b c e h = absurd cc

no_hash_start : (b : ℕ) → is_hash (class_of b) ≡ false → no_hash at_start (class_of b) ≡ true
no_hash_start b h = tested (class_of b) h
  where
    tested : (c : Class) → is_hash c ≡ false → no_hash at_start c ≡ true
    tested class.Hash h = absurd cc
    tested c h = refl

start_text : (t : List ℕ) → begins_with_hash t ≡ false → NoHash at_start t
start_text [] h = tt
start_text (b ∷ bs) h = no_hash_start b h

gap_text : (t : List ℕ) → NoHash at_gap t
gap_text [] = tt
gap_text (b ∷ bs) = refl

star_text : (t : List ℕ) → NoHash at_star t
star_text [] = tt
star_text (b ∷ bs) = refl

mutual
  pub parts_lead : (l L : Level) (n : ℕ) (s : Context) (after t : List ℕ) (ps : List Piece) → Parts L n s after t ps → (inner : List Opener) (d : Draft) → L ≡ level_in l inner → s ≢ context.Alone → Room n inner d →
      Leading l inner after s d t ps
  parts_lead l L n s after t ps words.Parts.nothing inner d e na rm = record { draft = d; leads = lead_none l after _; behind = behind_none inner d }
  parts_lead l L n s after t ps (words.Parts.byte {t = u} {ps = qs} b h r) inner d e na rm =
      let d1 = moved inner (b ∷ []) (add (b ∷ [])) d in
      let a = text_atom inner d (b ∷ []) (b ∷ []) in
      by_seg l inner after s d (b ∷ []) u (add (b ∷ [])) (with_text (b ∷ [])) qs (seg_byte l inner (u ++ after) s b (subst (λ x. plain x s (class_of b) ≡ true) e h)) a
      (parts_lead l L n s after u qs r inner d1 e na (room_as n inner d d1 (atom_indices inner d d1 (b ∷ []) (with_text (b ∷ [])) a) rm))
  parts_lead l L n s after t ps (words.Parts.escape {t = u} {ps = qs} y w h r) inner d e na rm =
      let d1 = moved inner (92 ∷ y) (add w) d in
      let a = text_atom inner d (92 ∷ y) w in
      by_seg l inner after s d (92 ∷ y) u (add w) (with_text w) qs (seg_escape l inner (u ++ after) s y w na h) a
      (parts_lead l L n s after u qs r inner d1 e na (room_as n inner d d1 (atom_indices inner d d1 (92 ∷ y) (with_text w) a) rm))
  parts_lead l L n s after t ps (words.Parts.joined_line {t = u} {ps = qs} g nb h r) inner d e na rm =
      let d1 = moved inner (92 ∷ 10 ∷ g) (add (32 ∷ [])) d in
      let a = text_atom inner d (92 ∷ 10 ∷ g) (32 ∷ []) in
      by_seg l inner after s d (92 ∷ 10 ∷ g) u (add (32 ∷ [])) (with_text (32 ∷ [])) qs (seg_joined l inner (u ++ after) g s na nb h) a
      (parts_lead l L n s after u qs r inner d1 e na (room_as n inner d d1 (atom_indices inner d d1 (92 ∷ 10 ∷ g) (with_text (32 ∷ [])) a) rm))
  parts_lead l L n s after t ps (words.Parts.last_backslash h) inner d e na rm =
      let d1 = moved inner (92 ∷ []) (add (92 ∷ [])) d in
      record {
        draft = d1;
        leads = subst (λ y. Leads l y (at inner (mode.In s) 0 d) (92 ∷ []) (at inner (mode.In s) 0 d1)) (sym h) (seg_last l inner s na d);
        behind = atom_then inner d d1 d1 (92 ∷ []) [] (with_text (92 ∷ [])) [] (text_atom inner d (92 ∷ []) (92 ∷ [])) (behind_none inner d1);
      }
  parts_lead l L n s after t ps (words.Parts.dollar {t = u} {ps = qs} h r) inner d e na rm =
      let d1 = moved inner (36 ∷ []) (add (36 ∷ [])) d in
      let a = text_atom inner d (36 ∷ []) (36 ∷ []) in
      by_seg l inner after s d (36 ∷ []) u (add (36 ∷ [])) (with_text (36 ∷ [])) qs (seg_lone_dollar l inner (u ++ after) s na h) a
      (parts_lead l L n s after u qs r inner d1 e na (room_as n inner d d1 (atom_indices inner d d1 (36 ∷ []) (with_text (36 ∷ [])) a) rm))
  parts_lead l L n s after t ps (words.Parts.variable {t = u} {ps = qs} name nm ne h r) inner d e na rm =
      let d1 = moved inner (36 ∷ name) (varied name) d in
      let a = variable_atom inner d (36 ∷ name) name in
      by_seg l inner after s d (36 ∷ name) u (varied name) (λ x. Variable name ∷ x) qs (seg_variable l inner (u ++ after) s name na nm ne h) a
      (parts_lead l L n s after u qs r inner d1 e na (room_as n inner d d1 (atom_indices inner d d1 (36 ∷ name) (λ x. Variable name ∷ x) a) rm))
  parts_lead l L n s after t ps (words.Parts.braced_variable {t = u} {ps = qs} name h r) inner d e na rm =
      let whole = 36 ∷ 123 ∷ name ++ 125 ∷ [] in
      let d1 = moved inner whole (varied name) d in
      let a = variable_atom inner d whole name in
      subst (λ x. Leading l inner after s d x (Variable name ∷ qs)) (append_assoc (36 ∷ 123 ∷ name) (125 ∷ []) u)
      (by_seg l inner after s d whole u (varied name) (λ x. Variable name ∷ x) qs (seg_braced_variable l inner (u ++ after) s name na h) a
      (parts_lead l L n s after u qs r inner d1 e na (room_as n inner d d1 (atom_indices inner d d1 whole (λ x. Variable name ∷ x) a) rm)))
  parts_lead l L n s after t ps (words.Parts.element {n = k} {t = u} {i = i} {ps = qs} {is = is} name nm j r) inner d e na rm =
      let front = 36 ∷ name ++ 40 ∷ [] in
      let d1 = indexed s inner front name d in
      let x = parts_lead l L k context.Index (41 ∷ u ++ after) i is j (entered s inner) d1 (e ∙ sym (entered_level l s inner)) (λ y. absurd cc) (entered_room k s inner front name d rm) in
      let d3 = unindexed s inner d.indices x.draft in
      let a = element_atom inner s d x.draft front name i is x.behind in
      let q = λ (y : List Piece). Element name ∷ is ++ End ∷ y in
      let z = parts_lead l L (suc k) s after u qs r inner d3 e na (room_as (suc k) inner d d3 (atom_indices inner d d3 (front ++ i ++ 41 ∷ []) q a) rm) in
      subst (λ y. Leading l inner after s d y (Element name ∷ is ++ End ∷ qs)) (append_assoc (front ++ i) (41 ∷ []) u ∙ ap (λ y. y ++ 41 ∷ u) (append_assoc (36 ∷ name) (40 ∷ []) i))
      (record {
        draft = z.draft;
        leads = lead_both l after _ _ _ (front ++ i ++ 41 ∷ []) u
            (lead_both l (u ++ after) _ _ _ (front ++ i) (41 ∷ [])
            (lead_both l (41 ∷ u ++ after) _ _ _ front i (element_opens l inner (i ++ 41 ∷ (u ++ after)) s k name d na nm rm) x.leads)
            (index_closes l (u ++ after) s inner front name d x.draft i is x.behind))
            z.leads;
        behind = atom_then inner d d3 z.draft (front ++ i ++ 41 ∷ []) u q qs a z.behind;
      })
  parts_lead l L n s after t ps (words.Parts.substitution {n = k} {t = u} {c = c} {ps = qs} sc r) inner d e na rm =
      let d1 = bracketed inner d in
      let d3 = unbracketed inner (add c d1) in
      let a = command_atom inner d c in
      let q = λ (y : List Piece). Command c ∷ y in
      let x = script_lead l k (93 ∷ u ++ after) c sc (u ++ after) refl (opener.Bracket s) inner d1 (bracketed_room k s inner d rm) in
      let z = parts_lead l L (suc k) s after u qs r inner d3 e na (room_as (suc k) inner d d3 (atom_indices inner d d3 (91 ∷ c ++ 93 ∷ []) q a) rm) in
      subst (λ y. Leading l inner after s d y (Command c ∷ qs)) (append_assoc (91 ∷ c) (93 ∷ []) u)
      (record {
        draft = z.draft;
        leads = lead_both l after _ _ _ (91 ∷ c ++ 93 ∷ []) u
            (lead_both l (u ++ after) _ _ _ (91 ∷ c) (93 ∷ [])
            (lead_both l (93 ∷ u ++ after) _ _ _ (91 ∷ []) c (bracket_opens l inner (c ++ 93 ∷ (u ++ after)) s k d na rm) x)
            (bracket_closes l inner (u ++ after) s (add c d1)))
            z.leads;
        behind = atom_then inner d d3 z.draft (91 ∷ c ++ 93 ∷ []) u q qs a z.behind;
      })

  plain_lead : (l L : Level) (n : ℕ) (after t : List ℕ) (ps : List Piece) → Plain L n after t ps → (inner : List Opener) → OutermostIn l inner → (x : Entry) (v : Bool) (ws : List Word) (d : Draft) → L ≡ level_in l inner →
      Fresh inner x v ws n d → Parted (level_in l inner) after → NoHash x t → Leads l after (at inner (entry_mode x) 0 d) t (at inner mode.Gap 0 (finished inner t ws v ps d))
  plain_lead l L n after t ps (words.Plain.bare b r) inner o x v ws d e fr q nh =
      let y = parts_lead l L n context.Bare after t ps r inner (does_in inner (entry_effect x) d) e (λ z. absurd cc) (fresh_room inner x v ws n d fr) in
      lead_from l after _ _ _ t (bare_begins x l L n context.Bare after t ps r inner d refl e b nh)
      (lead_to l after _ _ _ t y.leads
      (λ p. part_read l inner (mode.In context.Bare) effect.Word (mode.Pair context.Bare) after y.draft (bare_ends l inner o) q p
      ∙ ap (λ z. read l after (at inner mode.Gap 0 z) p) (bare_finished inner x v ws n d y.draft t ps fr y.behind)))
  plain_lead l L n after t ps (words.Plain.quoted {t = u} r) inner o x v ws d e fr q nh =
      let d0 = moved inner (34 ∷ []) (perform (entry_effect x)) d in
      let y = parts_lead l L n context.Quoted (34 ∷ after) u ps r inner d0 e (λ z. absurd cc) (quoted_room inner x v ws n d fr) in
      lead_both l after _ _ _ (34 ∷ u) (34 ∷ [])
      (lead_both l (34 ∷ after) _ _ _ (34 ∷ []) u (seg_quote l inner (u ++ 34 ∷ after) x d) y.leads)
      (lead_to l after _ _ _ (34 ∷ []) (seg_unquote l inner after y.draft)
      (λ p. part_read l inner (mode.Behind delimiter.Quote) effect.Nothing (mode.BehindPair delimiter.Quote) after (moved inner (34 ∷ []) (perform effect.Word) y.draft) (behind_ends l inner delimiter.Quote o) q p
      ∙ ap (λ z. read l after (at inner mode.Gap 0 z) p) (quoted_finished inner x v ws n d y.draft u ps fr y.behind)))
  plain_lead l L n after t ps (words.Plain.braced {t = u} {v = w} i) inner o x v ws d e fr q nh =
      subst (λ z. Leads l after (at inner (entry_mode x) 0 d) (123 ∷ u ++ 125 ∷ []) (at inner mode.Gap 0 z)) (braced_finished inner x v ws n d u w fr)
      (lead_both l after _ _ _ (123 ∷ []) (u ++ 125 ∷ []) (seg_brace l inner (u ++ 125 ∷ [] ++ after) x d) (brace_goes_on l inner o after u w x (moved inner (123 ∷ []) (perform (entry_effect x)) d) i q))

  one_lead : (l L : Level) (n : ℕ) (after t : List ℕ) (w : Word) → OneWord L n after t w → (inner : List Opener) → OutermostIn l inner → (x : Entry) (ws : List Word) (d : Draft) → L ≡ level_in l inner → entry_brace x ≡ mode.BraceFirst →
      Fresh inner x false ws n d → Parted (level_in l inner) after → NoHash x t → Leads l after (at inner (entry_mode x) 0 d) t (at inner mode.Gap 0 (worded inner t ws (w ∷ []) d))
  one_lead l L n after t w (words.OneWord.alone {ps = ps} r) inner o x ws d e k fr q nh =
      subst (λ z. Leads l after (at inner (entry_mode x) 0 d) t (at inner mode.Gap 0 z)) (alone_finished inner ws t ps d) (plain_lead l L n after t ps r inner o x false ws d e fr q nh)
  one_lead l L n after t w (words.OneWord.expanded {t = u} {ps = ps} r) inner o x ws d e k fr q nh =
      let f = λ (y : Draft). add (42 ∷ []) (perform (entry_effect x) y) in
      let d1 = moved inner (123 ∷ 42 ∷ 125 ∷ []) f d in
      subst (λ z. Leads l after (at inner (entry_mode x) 0 d) (123 ∷ 42 ∷ 125 ∷ u) (at inner mode.Gap 0 z)) (prefix_finished inner ws u ps d f)
      (lead_both l after _ _ _ (123 ∷ 42 ∷ 125 ∷ []) u (seg_prefix l inner (u ++ after) x k d) (plain_lead l L n after u ps r inner o at_star true ws d1 e (prefixed inner x ws n d fr) q (star_text u)))

  words_lead : (l L : Level) (n : ℕ) (after t : List ℕ) (vs : List Word) → Words L n after t vs → (inner : List Opener) → OutermostIn l inner → (ws : List Word) (d : Draft) → L ≡ level_in l inner →
      Fresh inner at_gap false ws n d → Leads l after (at inner mode.Gap 0 d) t (at inner mode.Gap 0 (worded inner t ws vs d))
  words_lead l L n after t vs (words.Words.no_words g) inner o ws d e fr =
      subst (λ z. Leads l after (at inner mode.Gap 0 d) t (at inner mode.Gap 0 z)) (no_words inner ws n t d fr) (seg_gap l inner after t (subst (λ x. Gap x t) e g) d)
  words_lead l L n after t vs (words.Words.word {g = g} {u = u} {t = r} {w = w} {ws = us} gap one q more) inner o ws d e fr =
      let d1 = moved inner g same d in
      let d2 = worded inner u ws (w ∷ []) d1 in
      let fr1 = gap_fresh inner at_gap at_gap ws n g d refl refl fr in
      subst (λ z. Leads l after (at inner mode.Gap 0 d) (g ++ u ++ r) (at inner mode.Gap 0 z)) (worded_both inner g u r ws (w ∷ []) us d)
      (lead_both l after _ _ _ (g ++ u) r
      (lead_both l (r ++ after) _ _ _ g u (seg_gap l inner (u ++ (r ++ after)) g (subst (λ x. Gap x g) e gap) d)
      (one_lead l L n (r ++ after) u w one inner o at_gap ws d1 e refl fr1 (subst (λ x. Parted x (r ++ after)) e q) (gap_text u)))
      (words_lead l L n after r us more inner o (ws ++ w ∷ []) d2 e (word_fresh inner ws (w ∷ []) n u at_gap d1 fr1)))

  command_lead : (l L : Level) (n : ℕ) (after t : List ℕ) (vs : List Word) → OneCommand L n after t vs → (inner : List Opener) → OutermostIn l inner → (ws : List Word) (d : Draft) → L ≡ level_in l inner → HasCommands (level_in l inner) →
      Fresh inner at_gap false ws n d → Leads l after (at inner mode.Start 0 d) t (at inner (mode_of vs) 0 (commanded inner t ws vs d))
  command_lead l L n after t vs (words.OneCommand.no_command sk) inner o ws d e hc fr = seg_skipped l inner after t hc sk d
  command_lead l L n after t vs (words.OneCommand.command {s = s} {u = u} {t = r} {w = w} {ws = us} sk nh one q more) inner o ws d e hc fr =
      let d1 = moved inner s same d in
      let d2 = worded inner u ws (w ∷ []) d1 in
      let fr1 = gap_fresh inner at_gap at_start ws n s d refl refl fr in
      subst (λ z. Leads l after (at inner mode.Start 0 d) (s ++ u ++ r) (at inner mode.Gap 0 z)) (worded_both inner s u r ws (w ∷ []) us d)
      (lead_both l after _ _ _ (s ++ u) r
      (lead_both l (r ++ after) _ _ _ s u (seg_skipped l inner (u ++ (r ++ after)) s hc (subst (λ x. Skipped x s) (append_assoc u r after) sk) d)
      (one_lead l L n (r ++ after) u w one inner o at_start ws d1 e refl fr1 (subst (λ x. Parted x (r ++ after)) e q) (start_text u nh)))
      (words_lead l L n after r us more inner o (ws ++ w ∷ []) d2 e (word_fresh inner ws (w ∷ []) n u at_start d1 fr1)))

  pub script_lead : (l : Level) (n : ℕ) (after t : List ℕ) → Script n after t → (r : List ℕ) → after ≡ 93 ∷ r → (b : Opener) (os : List Opener) (d : Draft) → Room n (b ∷ os) d →
      Leads l after (at (b ∷ os) mode.Start 0 d) t (at (b ∷ os) mode.Gap 0 (add t d))
  script_lead l n after t (words.Script.last {ws = vs} c) r e b os d rm =
      lead_to l after _ _ _ t (command_lead l level.Inside n after t vs c (b ∷ os) tt [] d refl tt rm) (λ p. mode_closes l b os t r after vs d p e)
  script_lead l n after t (words.Script.more {u = u} {t = v} {ws = vs} k h c sc) r e b os d rm =
      let d2 = add (k ∷ []) (add u d) in
      subst (λ z. Leads l after (at (b ∷ os) mode.Start 0 d) (u ++ k ∷ v) (at (b ∷ os) mode.Gap 0 z)) (ap (add v) (add_add u (k ∷ []) d) ∙ add_add (u ++ k ∷ []) v d ∙ ap (λ x. add x d) (append_assoc u (k ∷ []) v))
      (lead_both l after _ _ _ u (k ∷ v) (command_lead l level.Inside n (k ∷ v ++ after) u vs c (b ∷ os) tt [] d refl tt rm)
      (lead_both l after _ _ _ (k ∷ []) v (ender_lead l b os (v ++ after) u vs d k (class_of k) refl h) (script_lead l n after v sc r e b os d2 rm)))

-- the whole
list_stops : (ws : List Word) (p : ℕ) → read level.List [] (at [] mode.Gap 0 (base false ws)) p ≡ Ok (ws, p)
unfolding read stop ends
list_stops ws p = refl

command_stops : (t : List ℕ) (ws : List Word) (p : ℕ) → read level.Top [] (at [] (mode_of ws) 0 (commanded [] t [] ws (base false []))) p ≡ Ok (ws, p)
unfolding read stop ends
command_stops t [] p = refl
command_stops t (w ∷ ws) p = refl

gap_over : (c : Class) (b : ℕ) (rest : List ℕ) (ws : List Word) (p : ℕ) → class_of b ≡ c → ends_command level.Top c ≡ true → step level.Top (at [] mode.Gap 0 (base false ws)) b ≡ Over ws 1
unfolding transition
gap_over class.Newline b rest ws p e h = step_by level.Top (at [] mode.Gap 0 (base false ws)) b class.Newline (does effect.Nothing target.End) e refl
gap_over class.Semicolon b rest ws p e h = step_by level.Top (at [] mode.Gap 0 (base false ws)) b class.Semicolon (does effect.Nothing target.End) e refl
gap_over c b rest ws p e h = absurd cc

gap_ends : (b : ℕ) (rest : List ℕ) (ws : List Word) (p : ℕ) → ends_command level.Top (class_of b) ≡ true → read level.Top (b ∷ rest) (at [] mode.Gap 0 (base false ws)) p ≡ Ok (ws, p + 1)
unfolding read
gap_ends b rest ws p h = ap (λ m. onward m p (λ k. read level.Top rest k (p + 1))) (gap_over (class_of b) b rest ws p refl h)

begun_read : (text : List ℕ) (ws : List Word) (n p : ℕ) → Begun text ws n → read level.Top text (fresh mode.Start) p ≡ Ok (ws, p + n)
begun_read text ws n p (words.Begun.whole c) =
    let x = (command_lead level.Top level.Top 100 [] text ws c [] tt [] (base false []) refl tt (refl, refl)).on p in
    ap (λ t. read level.Top t (fresh mode.Start) p) (sym (append-nil text)) ∙ x ∙ command_stops text ws (p + length text)
begun_read text ws n p (words.Begun.ended {t = t} {rest = rest} {w = w} {ws = vs} b h c) =
    (command_lead level.Top level.Top 100 (b ∷ rest) t (w ∷ vs) c [] tt [] (base false []) refl tt (refl, refl)).on p
    ∙ gap_ends b rest (w ∷ vs) (p + length t) h ∙ ap (λ q. Ok (w ∷ vs, q)) (omega arith)

pub spelled_command_is_read : (text : List ℕ) (at n : ℕ) (ws : List Word) → Begun (drop at text) ws n → command_at text at ≡ Ok (ws, at + n)
unfolding command_at
spelled_command_is_read text at n ws h = ap kind_of (begun_read (drop at text) ws n at h)

pub spelled_words_are_read : (text : List ℕ) (ws : List Word) → WordsOf text ws → words_of text ≡ Ok ws
unfolding words_of
spelled_words_are_read text ws h =
    let x = (words_lead level.List level.List 100 [] text ws h [] tt [] (base false []) refl (refl, refl)).on 0 in
    ap words_only (ap (λ t. read level.List t (fresh mode.Gap) 0) (sym (append-nil text)) ∙ x ∙ list_stops ws (0 + length text))
