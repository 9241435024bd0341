-- Parts that are read are spelled.
use Rattle.std.specs.Prelude.{◌≡◌, ◌≢◌, ℕ, zero, suc, ◌-◌, ◌≤◌, List, [], ◌∷◌, ◌++◌, refl, Bool, true, false, not, Option, None, Some, ◌==◌}
use Rattle.std.proofs.Common.{inl, inr, ◌∙◌, ap, sym, arith, subst}
use Rattle.std.proofs.lemmas.Bool.{eqb-true, eqb-false}
use Rattle.dg_lists.specs.declared.fault.WordFault.{WordFault}
use Rattle.dg_lists.specs.declared.fault.WordFault.TheVariants.{BadCodePoint, MissingBracket, MissingParen, MissingQuote}
use Rattle.dg_lists.specs.declared.kinds.Class.{Class}
use Rattle.dg_lists.specs.declared.kinds.Class.TheVariants as class
use Rattle.dg_lists.specs.declared.kinds.Effect.{Effect}
use Rattle.dg_lists.specs.declared.kinds.Effect.TheVariants as effect
use Rattle.dg_lists.specs.declared.kinds.Delimiter.TheVariants as delimiter
use Rattle.dg_lists.specs.declared.kinds.Ending.TheVariants as ending
use Rattle.dg_lists.specs.declared.kinds.Escape.{Escape}
use Rattle.dg_lists.specs.declared.kinds.Escape.TheVariants.{Octal}
use Rattle.dg_words.specs.declared.kinds.Level.{Level}
use Rattle.dg_words.specs.declared.kinds.Level.TheVariants as level
use Rattle.dg_lists.specs.declared.kinds.Mode.TheVariants as mode
use Rattle.dg_lists.specs.declared.kinds.Target.TheVariants as target
use Rattle.dg_words.specs.declared.kinds.Opener.{Opener}
use Rattle.dg_words.specs.declared.kinds.Opener.TheVariants as opener
use Rattle.dg_lists.specs.declared.kinds.Context.{Context}
use Rattle.dg_lists.specs.declared.kinds.Context.TheVariants as context
use Rattle.dg_lists.specs.declared.kinds.Transition.{Transition}
use Rattle.dg_lists.specs.Classes.{class_of}
use Rattle.dg_lists.specs.Transitions.{base_of, behind_effect, behind_number, digits_of, does, escaped, goes, is_space, letter_of, most_of, puts, whole, with_digit, written}
use Rattle.dg_words.specs.Transitions.{ends, in_context, number_ends, numbered, transition}
use Rattle.dg_words.specs.Machine.{is_none}
use Rattle.dg_lists.specs.Grammar.Escapes as spec
use Rattle.dg_lists.specs.Grammar.Escapes.{Escaped, stands_for, value_from}
use Rattle.dg_words.specs.Grammar.Words as grammar
use Rattle.dg_words.specs.Grammar.Words.{blanks, begins_with_colon, ends_command, ends_word, Named, Parted, plain, variable_by, begins_with_colon, Named, variable_by}
use Rattle.dg_lists.proofs.GrammarLemmas.Numbers.{and_both, Paired, paired, no_digits, no_room, more_digits, digit_some, octal_small, number, whole_behind, some_digits, next_value}
use Rattle.dg_lists.proofs.GrammarLemmas.Bytes.{is_class}
use Rattle.dg_lists.proofs.GrammarLemmas.ListRead.{left, newline_is}
use Rattle.dg_lists.proofs.GrammarLemmas.ListSpelled.{first_same, letter_writes}
use Rattle.dg_words.proofs.GrammarLemmas.Segments.{pend_read}
use Rattle.dg_words.proofs.GrammarLemmas.Pieces.{plain_transition, joined_transition, space_transition, pair_transition, dollar_transition, bracket_transition, pends_join, pends_number, number_transition, escaped_transition, colon_is, plain_colon}
use Rattle.dg_words.proofs.GrammarLemmas.Between.{part_read, bare_ends}
use Rattle.dg_words.proofs.GrammarLemmas.Readings.{level_at, level_stands, Reads, reads_as, Taken, taken, reads_to, Above, reads_bracket, reads_leave, reads_command, reads_bad, stops_bad, stops_inside, quote_open, index_open}
use Rattle.dg_words.proofs.GrammarLemmas.Rests.{PartsLeft, PartsEnd, WordsLeft, CommandEnd, left_nothing, left_byte, left_escape, left_joined, left_substitution, left_last, words_none, words_blank, words_line, BehindLeft, quoted_end, left_braced_variable, left_dollar, left_element, left_variable}
use Rattle.dg_words.proofs.GrammarLemmas.Claims.{alone_left, behind_bracket, behind_index, DollarLeft, in_bracket, JoinLeft, NameEnd, NumberLeft, outermost_in, Rec, Standing}

-- what ends a word, read between words
pub gap_ends : (l : Level) (stack : List Opener) (n : ℕ) → Standing l stack n context.Bare → (c : Class) (b : ℕ) (bs : List ℕ) → class_of b ≡ c → ends_word (level_at l stack) c ≡ true → Rec l bs →
    Reads l mode.Gap 0 stack (b ∷ bs) → WordsLeft l stack n (b ∷ bs)
unfolding transition
gap_ends level.Top [] n g class.Blank b bs e h rec r =
    words_blank level.Top [] n b bs (ap (blanks level.Top) e) (rec mode.Gap 0 [] n (reads_to level.Top effect.Nothing effect.Nothing mode.Gap 0 [] b bs (taken level.Top mode.Gap 0 [] b bs class.Blank (goes mode.Gap) e refl r)) refl g)
gap_ends level.Top [] n g class.Newline b bs e h rec r = words_none level.Top [] n (b ∷ bs) (CommandEnd.at_ender b bs refl (ap (ends_command level.Top) e))
gap_ends level.Top [] n g class.Semicolon b bs e h rec r = words_none level.Top [] n (b ∷ bs) (CommandEnd.at_ender b bs refl (ap (ends_command level.Top) e))
gap_ends level.Top [] n g c b bs e h rec r = absurd cc
gap_ends level.List [] n g class.Blank b bs e h rec r =
    words_blank level.List [] n b bs (ap (blanks level.List) e) (rec mode.Gap 0 [] n (reads_to level.List effect.Nothing effect.Nothing mode.Gap 0 [] b bs (taken level.List mode.Gap 0 [] b bs class.Blank (goes mode.Gap) e refl r)) refl g)
gap_ends level.List [] n g class.Newline b bs e h rec r =
    words_blank level.List [] n b bs (ap (blanks level.List) e) (rec mode.Gap 0 [] n (reads_to level.List effect.Nothing effect.Nothing mode.Gap 0 [] b bs (taken level.List mode.Gap 0 [] b bs class.Newline (goes mode.Gap) e refl r)) refl g)
gap_ends level.List [] n g c b bs e h rec r = absurd cc
gap_ends level.Inside [] n g c b bs e h rec r = absurd g.sound
gap_ends level.Alone [] n g c b bs e h rec r = absurd g.sound
gap_ends l (opener.Paren s ∷ stack) n g c b bs e h rec r = absurd g.sound
gap_ends l (opener.Bracket s ∷ stack) n g class.Blank b bs e h rec r =
    let open_now = opener.Bracket s ∷ stack in
    words_blank l open_now n b bs (ap (blanks level.Inside) e) (rec mode.Gap 0 open_now n (reads_to l effect.Nothing effect.Nothing mode.Gap 0 open_now b bs (taken l mode.Gap 0 open_now b bs class.Blank (goes mode.Gap) e refl r)) refl g)
gap_ends l (opener.Bracket s ∷ stack) n g class.Newline b bs e h rec r =
    let open_now = opener.Bracket s ∷ stack in
    words_none l open_now n (b ∷ bs)
    (CommandEnd.more b bs (ap (ends_command level.Inside) e) (rec mode.Start 0 open_now n (reads_command l 0 s stack b bs (taken l mode.Gap 0 open_now b bs class.Newline (does effect.Nothing target.End) e refl r)) refl g tt))
gap_ends l (opener.Bracket s ∷ stack) n g class.Semicolon b bs e h rec r =
    let open_now = opener.Bracket s ∷ stack in
    words_none l open_now n (b ∷ bs)
    (CommandEnd.more b bs (ap (ends_command level.Inside) e) (rec mode.Start 0 open_now n (reads_command l 0 s stack b bs (taken l mode.Gap 0 open_now b bs class.Semicolon (does effect.Nothing target.End) e refl r)) refl g tt))
gap_ends l (opener.Bracket s ∷ stack) n g class.RightBracket b bs e h rec r =
    let open_now = opener.Bracket s ∷ stack in
    subst (λ x. WordsLeft l open_now n (x ∷ bs)) (sym (is_class b class.RightBracket e))
    (words_none l open_now n (93 ∷ bs)
    (CommandEnd.closed bs (rec (mode.In s) 0 stack (suc n) (reads_leave l 0 (opener.Bracket s) stack b bs (taken l mode.Gap 0 open_now b bs class.RightBracket (does effect.Nothing target.Leave) e refl r)) refl (behind_bracket l stack n s g))))
gap_ends l (opener.Bracket s ∷ stack) n g c b bs e h rec r = absurd cc

-- A word ends where it is read so, with what parts it from the next.
bare_gap : (l : Level) (stack : List Opener) (n : ℕ) → Standing l stack n context.Bare → (b : ℕ) (bs : List ℕ) → ends_word (level_at l stack) (class_of b) ≡ true → Reads l (mode.In context.Bare) 0 stack (b ∷ bs) → Reads l mode.Gap 0 stack (b ∷ bs)
bare_gap l stack n g b bs h r =
    reads_as l (mode.In context.Bare) mode.Gap 0 stack (b ∷ bs) effect.Word r
    (λ p. part_read l r.inner (mode.In context.Bare) effect.Word (mode.Pair context.Bare) (b ∷ bs) r.draft (bare_ends l r.inner (outermost_in l stack n g r.inner r.draft.indices r.stands))
    (grammar.Parted.at_byte b (ap (λ y. ends_word y (class_of b)) (level_stands l (mode.In context.Bare) 0 stack (b ∷ bs) r) ∙ h)) p)

bare_ended : (l : Level) (stack : List Opener) (n : ℕ) → Standing l stack n context.Bare → (b : ℕ) (bs : List ℕ) → ends_word (level_at l stack) (class_of b) ≡ true → Rec l bs →
    Reads l (mode.In context.Bare) 0 stack (b ∷ bs) → PartsLeft l stack n context.Bare (b ∷ bs)
bare_ended l stack n g b bs h rec r =
    left_nothing l stack n context.Bare (b ∷ bs) (PartsEnd.bare (grammar.Parted.at_byte b h) (gap_ends l stack n g (class_of b) b bs refl h rec (bare_gap l stack n g b bs h r)))

plain_case : (l : Level) (stack : List Opener) (n : ℕ) (s : Context) → Standing l stack n s → (b : ℕ) (bs : List ℕ) → plain (level_at l stack) s (class_of b) ≡ true → Rec l bs →
    Reads l (mode.In s) 0 stack (b ∷ bs) → PartsLeft l stack n s (b ∷ bs)
unfolding transition
plain_case l stack n s g b bs h rec r =
    left_byte l stack n s b bs h
    (rec (mode.In s) 0 stack n (reads_to l effect.Nothing (effect.Byte b) (mode.In s) 0 stack b bs (taken l (mode.In s) 0 stack b bs (class_of b) (puts b (mode.In s)) refl (plain_transition (level_at l stack) s (class_of b) b h) r)) refl g)

-- a bracket opens
substituted : (l : Level) (stack : List Opener) (n : ℕ) (s : Context) → Standing l stack n s → (bs : List ℕ) → Rec l bs → Above l mode.Start 0 stack (opener.Bracket s) bs → PartsLeft l stack n s (91 ∷ bs)
substituted l stack zero s g bs rec a = absurd (omega (arith, g.room, a.0))
substituted l stack (suc k) s g bs rec a = left_substitution l stack k s bs (rec mode.Start 0 (opener.Bracket s ∷ stack) k a.1 refl (in_bracket l stack k s g) tt)

bracket_case : (l : Level) (stack : List Opener) (n : ℕ) (s : Context) → Standing l stack n s → s ≢ context.Alone → (b : ℕ) (bs : List ℕ) → class_of b ≡ class.LeftBracket → Rec l bs → Reads l (mode.In s) 0 stack (b ∷ bs) → PartsLeft l stack n s (b ∷ bs)
unfolding transition
bracket_case l stack n s g na b bs e rec r =
    subst (λ x. PartsLeft l stack n s (x ∷ bs)) (sym (is_class b class.LeftBracket e))
    (substituted l stack n s g bs rec
    (reads_bracket l s 0 stack b bs (taken l (mode.In s) 0 stack b bs class.LeftBracket (does effect.Nothing (target.Bracket s)) e (bracket_transition (level_at l stack) s b na) r)))

-- a backslash, a dollar sign
backslash_case : (l : Level) (stack : List Opener) (n : ℕ) (s : Context) → Standing l stack n s → s ≢ context.Alone → (b : ℕ) (bs : List ℕ) → class_of b ≡ class.Backslash → Rec l bs → Reads l (mode.In s) 0 stack (b ∷ bs) → PartsLeft l stack n s (b ∷ bs)
unfolding transition
backslash_case l stack n s g na b bs e rec r =
    subst (λ x. PartsLeft l stack n s (x ∷ bs)) (sym (is_class b class.Backslash e))
    (rec (mode.Pair s) 0 stack n
    (reads_to l effect.Nothing effect.Nothing (mode.Pair s) 0 stack b bs (taken l (mode.In s) 0 stack b bs class.Backslash (goes (mode.Pair s)) e (pair_transition (level_at l stack) s b na) r)) refl g)

-- what a dollar sign begins
element_of : (l : Level) (stack : List Opener) (n k : ℕ) (s : Context) (name t rest : List ℕ) → Named name → n ≡ suc k → t ≡ 40 ∷ rest → PartsLeft l (opener.Paren s ∷ stack) k context.Index rest → PartsLeft l stack n s (36 ∷ name ++ t)
element_of l stack n k s name t rest nm e f p =
    subst (λ y. PartsLeft l stack y s (36 ∷ name ++ t)) (sym e) (subst (λ y. PartsLeft l stack (suc k) s (36 ∷ name ++ y)) (sym f) (left_element l stack k s name rest nm p))

named : (l : Level) (stack : List Opener) (n : ℕ) (s : Context) (name t : List ℕ) → Named name → name ≢ [] → NameEnd l stack n s t → PartsLeft l stack n s (36 ∷ name ++ t)
named l stack n s name t nm ne (inl x) = left_variable l stack n s name t nm ne x.0 x.1
named l stack n s name t nm ne (inr x) = element_of l stack n x.0 s name t x.1 nm x.2 x.3 x.4

lone_colon : (l : Level) (stack : List Opener) (n : ℕ) (s : Context) (t : List ℕ) → s ≢ context.Alone → begins_with_colon t ≡ false → PartsLeft l stack n s t → PartsLeft l stack n s (36 ∷ 58 ∷ t)
lone_colon l stack n s t na h p =
    left_dollar l stack n s (58 ∷ t) (ap (λ y. variable_by y t) colon_is ∙ h) (left_byte l stack n s 58 t (ap (plain (level_at l stack) s) colon_is ∙ plain_colon (level_at l stack) s na) p)

dollar_left : (l : Level) (stack : List Opener) (n : ℕ) (s : Context) (t : List ℕ) → s ≢ context.Alone → DollarLeft l stack n s t → PartsLeft l stack n s (36 ∷ t)
dollar_left l stack n s t na (DollarLeft.named name rest e nm ne x) = subst (λ y. PartsLeft l stack n s (36 ∷ y)) (sym e) (named l stack n s name rest nm ne x)
dollar_left l stack n s t na (DollarLeft.nameless k rest e f p) = element_of l stack n k s [] t rest (grammar.Named.local refl) e f p
dollar_left l stack n s t na (DollarLeft.braced name rest e h p) = subst (λ y. PartsLeft l stack n s (36 ∷ y)) (sym e) (left_braced_variable l stack n s name rest h p)
dollar_left l stack n s t na (DollarLeft.lone h k p) = left_dollar l stack n s t h p
dollar_left l stack n s t na (DollarLeft.lone_colon rest e h p) = subst (λ y. PartsLeft l stack n s (36 ∷ y)) (sym e) (lone_colon l stack n s rest na h p)

dollar_case : (l : Level) (stack : List Opener) (n : ℕ) (s : Context) → Standing l stack n s → s ≢ context.Alone → (b : ℕ) (bs : List ℕ) → class_of b ≡ class.Dollar → Rec l bs → Reads l (mode.In s) 0 stack (b ∷ bs) → PartsLeft l stack n s (b ∷ bs)
unfolding transition
dollar_case l stack n s g na b bs e rec r =
    subst (λ x. PartsLeft l stack n s (x ∷ bs)) (sym (is_class b class.Dollar e))
    (dollar_left l stack n s bs na
    (rec (mode.Dollar s) 0 stack n
    (reads_to l effect.Nothing effect.Nothing (mode.Dollar s) 0 stack b bs (taken l (mode.In s) 0 stack b bs class.Dollar (goes (mode.Dollar s)) e (dollar_transition (level_at l stack) s b na) r)) refl g))

-- a quote, a closing parenthesis
quote_case : (l : Level) (stack : List Opener) (n : ℕ) → Standing l stack n context.Quoted → (b : ℕ) (bs : List ℕ) → class_of b ≡ class.Quote → Rec l bs → Reads l (mode.In context.Quoted) 0 stack (b ∷ bs) → PartsLeft l stack n context.Quoted (b ∷ bs)
unfolding transition
quote_case l stack n g b bs e rec r =
    let x : BehindLeft l stack n bs =
    rec (mode.Behind delimiter.Quote) 0 stack n
    (reads_to l effect.Nothing effect.Word (mode.Behind delimiter.Quote) 0 stack b bs (taken l (mode.In context.Quoted) 0 stack b bs class.Quote (does effect.Word (target.To (mode.Behind delimiter.Quote))) e refl r)) refl g in
    left_nothing l stack n context.Quoted (b ∷ bs) (quoted_end l stack n (b ∷ bs) bs (ap (λ y. y ∷ bs) (is_class b class.Quote e)) x)

paren_case : (l : Level) (stack : List Opener) (n : ℕ) → Standing l stack n context.Index → (b : ℕ) (bs : List ℕ) → class_of b ≡ class.RightParen → Rec l bs → Reads l (mode.In context.Index) 0 stack (b ∷ bs) → PartsLeft l stack n context.Index (b ∷ bs)
unfolding transition
paren_case l [] n g b bs e rec r = absurd g.sound
paren_case l (opener.Bracket s ∷ stack) n g b bs e rec r = absurd g.sound
paren_case l (opener.Paren s ∷ stack) n g b bs e rec r =
    let t = taken l (mode.In context.Index) 0 (opener.Paren s ∷ stack) b bs class.RightParen (does effect.Nothing target.Leave) e refl r in
    left_nothing l (opener.Paren s ∷ stack) n context.Index (b ∷ bs)
    (PartsEnd.index bs (ap (λ y. y ∷ bs) (is_class b class.RightParen e)) (rec (mode.In s) 0 stack (suc n) (reads_leave l 0 (opener.Paren s) stack b bs t) refl (behind_index l stack n s g)))

bare_case : (l : Level) (stack : List Opener) (n : ℕ) → Standing l stack n context.Bare → (x : Bool) (b : ℕ) (bs : List ℕ) → ends_word (level_at l stack) (class_of b) ≡ x →
    plain (level_at l stack) context.Bare (class_of b) ≡ not (ends_word (level_at l stack) (class_of b)) → Rec l bs → Reads l (mode.In context.Bare) 0 stack (b ∷ bs) → PartsLeft l stack n context.Bare (b ∷ bs)
bare_case l stack n g true b bs e h rec r = bare_ended l stack n g b bs e rec r
bare_case l stack n g false b bs e h rec r = plain_case l stack n context.Bare g b bs (h ∙ ap not e) rec r

abbrev PlainAs : Level → Class → ℕ → Type 0
PlainAs l c b = plain l context.Bare c ≡ not (ends_word l c) → plain l context.Bare (class_of b) ≡ not (ends_word l (class_of b))

plain_as : (l : Level) (c : Class) (b : ℕ) → class_of b ≡ c → PlainAs l c b
plain_as l c b e h = ap (plain l context.Bare) e ∙ h ∙ ap (λ x. not (ends_word l x)) (sym e)

pub parts_case : (l : Level) (stack : List Opener) (n : ℕ) (s : Context) → Standing l stack n s → (c : Class) (b : ℕ) (bs : List ℕ) → class_of b ≡ c → Rec l bs →
    Reads l (mode.In s) 0 stack (b ∷ bs) → PartsLeft l stack n s (b ∷ bs)
parts_case l stack n context.Alone g c b bs e rec r = alone_left l stack n (b ∷ bs) g
parts_case l stack n s g class.LeftBracket b bs e rec r = bracket_case l stack n s g (λ y. absurd cc) b bs e rec r
parts_case l stack n s g class.Backslash b bs e rec r = backslash_case l stack n s g (λ y. absurd cc) b bs e rec r
parts_case l stack n s g class.Dollar b bs e rec r = dollar_case l stack n s g (λ y. absurd cc) b bs e rec r
parts_case l stack n context.Quoted g class.Quote b bs e rec r = quote_case l stack n g b bs e rec r
parts_case l stack n context.Quoted g c b bs e rec r = plain_case l stack n context.Quoted g b bs (ap (plain (level_at l stack) context.Quoted) e) rec r
parts_case l stack n context.Index g class.RightParen b bs e rec r = paren_case l stack n g b bs e rec r
parts_case l stack n context.Index g c b bs e rec r = plain_case l stack n context.Index g b bs (ap (plain (level_at l stack) context.Index) e) rec r
parts_case l stack n context.Bare g c b bs e rec r = bare_case l stack n g (ends_word (level_at l stack) (class_of b)) b bs refl (plain_as (level_at l stack) c b e refl) rec r

-- the text ends
pub last_words : (l : Level) (n : ℕ) → WordsLeft l [] n []
last_words l n = words_none l [] n [] CommandEnd.at_end

pub parts_stop : (l : Level) (stack : List Opener) (n : ℕ) (s : Context) → Standing l stack n s → Reads l (mode.In s) 0 stack [] → PartsLeft l stack n s []
unfolding ends
parts_stop l [] n context.Bare g r = left_nothing l [] n context.Bare [] (PartsEnd.bare grammar.Parted.at_end (last_words l n))
parts_stop l (opener.Bracket s ∷ stack) n context.Bare g r = absurd (stops_inside l (mode.In context.Bare) 0 s stack r)
parts_stop l (opener.Paren s ∷ stack) n context.Bare g r = absurd g.sound
parts_stop l stack n context.Quoted g r = absurd (stops_bad l (mode.In context.Quoted) 0 stack r MissingQuote (quote_open (is_none r.inner) effect.Nothing effect.Nothing))
parts_stop l stack n context.Index g r = absurd (stops_bad l (mode.In context.Index) 0 stack r MissingParen (index_open (is_none r.inner) effect.Nothing effect.Nothing))
parts_stop l stack n context.Alone g r = alone_left l stack n [] g

-- behind a backslash
pub pair_stop : (l : Level) (stack : List Opener) (n : ℕ) (s : Context) → Standing l stack n s → Reads l (mode.Pair s) 0 stack [] → PartsLeft l stack n s (92 ∷ [])
unfolding ends
pair_stop l [] n context.Bare g r = left_last l [] n context.Bare (PartsEnd.bare grammar.Parted.at_end (last_words l n))
pair_stop l (opener.Bracket s ∷ stack) n context.Bare g r = absurd (stops_inside l (mode.Pair context.Bare) 0 s stack r)
pair_stop l (opener.Paren s ∷ stack) n context.Bare g r = absurd g.sound
pair_stop l stack n context.Quoted g r = absurd (stops_bad l (mode.Pair context.Quoted) 0 stack r MissingQuote (quote_open (is_none r.inner) effect.Nothing (effect.Byte 92)))
pair_stop l stack n context.Index g r = absurd (stops_bad l (mode.Pair context.Index) 0 stack r MissingParen (index_open (is_none r.inner) effect.Nothing (effect.Byte 92)))
pair_stop l stack n context.Alone g r = alone_left l stack n (92 ∷ []) g

-- a joined line
joined_bare : (l : Level) (stack : List Opener) (n : ℕ) → Standing l stack n context.Bare → (bs : List ℕ) → Rec l bs → Reads l (mode.Pair context.Bare) 0 stack (10 ∷ bs) → PartsLeft l stack n context.Bare (92 ∷ 10 ∷ bs)
unfolding transition
joined_bare l stack n g bs rec r =
    left_nothing l stack n context.Bare (92 ∷ 10 ∷ bs)
    (PartsEnd.bare grammar.Parted.at_joined_line
    (words_line l stack n bs
    (rec mode.Gap 0 stack n (reads_to l effect.Nothing effect.Word mode.Gap 0 stack 10 bs (taken l (mode.Pair context.Bare) 0 stack 10 bs class.Newline (does effect.Word (target.To mode.Gap)) newline_is refl r)) refl g)))

joined_behind : (l : Level) (stack : List Opener) (n : ℕ) (s : Context) (bs : List ℕ) → s ≢ context.Bare → JoinLeft l stack n s bs → PartsLeft l stack n s (92 ∷ 10 ∷ bs)
joined_behind l stack n s bs nb j = subst (λ x. PartsLeft l stack n s (92 ∷ 10 ∷ x)) (sym j.2) (left_joined l stack n s j.0 j.1 nb j.3 j.4)

joined_other : (l : Level) (stack : List Opener) (n : ℕ) (s : Context) → Standing l stack n s → s ≢ context.Bare → (bs : List ℕ) → Rec l bs → Reads l (mode.Pair s) 0 stack (10 ∷ bs) → PartsLeft l stack n s (92 ∷ 10 ∷ bs)
unfolding transition
joined_other l stack n s g nb bs rec r =
    joined_behind l stack n s bs nb
    (rec (mode.Join s) 0 stack n (reads_to l effect.Nothing (effect.Byte 32) (mode.Join s) 0 stack 10 bs (taken l (mode.Pair s) 0 stack 10 bs class.Newline (puts 32 (mode.Join s)) newline_is (joined_transition s nb) r)) refl g)

newline_case : (l : Level) (stack : List Opener) (n : ℕ) (s : Context) → Standing l stack n s → (bs : List ℕ) → Rec l bs → Reads l (mode.Pair s) 0 stack (10 ∷ bs) → PartsLeft l stack n s (92 ∷ 10 ∷ bs)
newline_case l stack n context.Bare g bs rec r = joined_bare l stack n g bs rec r
newline_case l stack n context.Quoted g bs rec r = joined_other l stack n context.Quoted g (λ e. absurd cc) bs rec r
newline_case l stack n context.Index g bs rec r = joined_other l stack n context.Index g (λ e. absurd cc) bs rec r
newline_case l stack n context.Alone g bs rec r = alone_left l stack n (92 ∷ 10 ∷ bs) g

-- an escape
letter_case : (l : Level) (stack : List Opener) (n : ℕ) (s : Context) (e : Escape) (b : ℕ) (bs : List ℕ) → e ≢ Octal → b ≡ letter_of e → NumberLeft l stack n s (number e (digits_of e) 0) bs → PartsLeft l stack n s (92 ∷ b ∷ bs)
letter_case l stack n s e b bs ne i r =
    subst (λ x. PartsLeft l stack n s (92 ∷ x)) (sym (ap (λ x. x ∷ bs) i ∙ ap (λ x. letter_of e ∷ x) r.split))
    (left_escape l stack n s (letter_of e ∷ r.digits) _ r.rest (spec.Escaped.number e ne r.they (letter_writes e r.digits r.effect r.is)) r.parts)

octal_case : (l : Level) (stack : List Opener) (n : ℕ) (s : Context) (b : ℕ) (bs : List ℕ) → spec.is_octal b ≡ true → NumberLeft l stack n s (number Octal 2 (b - 48)) bs → PartsLeft l stack n s (92 ∷ b ∷ bs)
octal_case l stack n s b bs o r =
    subst (λ x. PartsLeft l stack n s (92 ∷ b ∷ x)) (sym r.split) (left_escape l stack n s (b ∷ r.digits) _ r.rest (spec.Escaped.octal b o r.they) r.parts)

escape_case : (l : Level) (stack : List Opener) (n : ℕ) (s : Context) → Standing l stack n s → (b v : ℕ) (t : Transition) (bs : List ℕ) → b ≢ 10 → Paired s b t v → escaped s b ≡ t → stands_for b ≡ v → Rec l bs → Taken l t 0 stack b bs →
    PartsLeft l stack n s (92 ∷ b ∷ bs)
escape_case l stack n s g b v t bs nl (Paired.one i) e f rec r =
    left_escape l stack n s (b ∷ []) (stands_for b ∷ []) bs (spec.Escaped.byte b nl i) (rec (mode.In s) 0 stack n (reads_to l effect.Nothing (effect.Byte v) (mode.In s) 0 stack b bs r) refl g)
escape_case l stack n s g b v t bs nl (Paired.letter k ne i) e f rec r =
    letter_case l stack n s k b bs ne i
    (rec (mode.Number s (number k (digits_of k) 0)) 0 stack n (reads_to l effect.Nothing effect.Nothing (mode.Number s (number k (digits_of k) 0)) 0 stack b bs r) refl g (omega arith))
escape_case l stack n s g b v t bs nl (Paired.eight o) e f rec r =
    octal_case l stack n s b bs o
    (rec (mode.Number s (number Octal 2 (b - 48))) 0 stack n (reads_to l effect.Nothing effect.Nothing (mode.Number s (number Octal 2 (b - 48))) 0 stack b bs r) refl g (octal_small b o))

pub pair_case : (l : Level) (stack : List Opener) (n : ℕ) (s : Context) → Standing l stack n s → (x : Bool) (b : ℕ) (bs : List ℕ) → (b == 10) ≡ x → Rec l bs → Reads l (mode.Pair s) 0 stack (b ∷ bs) → PartsLeft l stack n s (92 ∷ b ∷ bs)
pair_case l stack n s g true b bs e rec r =
    let is = eqb-true b 10 e in
    subst (λ y. PartsLeft l stack n s (92 ∷ y ∷ bs)) (sym is) (newline_case l stack n s g bs rec (subst (λ y. Reads l (mode.Pair s) 0 stack (y ∷ bs)) is r))
pair_case l stack n s g false b bs e rec r =
    let nl = eqb-false b 10 e in
    escape_case l stack n s g b (stands_for b) (escaped s b) bs nl (paired s b) refl refl rec
    (taken l (mode.Pair s) 0 stack b bs (class_of b) (escaped s b) refl (escaped_transition (level_at l stack) s (class_of b) b (λ y. nl (is_class b class.Newline y))) r)

-- behind a joined line
pub join_case : (l : Level) (stack : List Opener) (n : ℕ) (s : Context) → Standing l stack n s → (x : Bool) (b : ℕ) (bs : List ℕ) → is_space b ≡ x → Rec l bs → Reads l (mode.Join s) 0 stack (b ∷ bs) → JoinLeft l stack n s (b ∷ bs)
unfolding transition
join_case l stack n s g true b bs e rec r =
    let x : JoinLeft l stack n s bs = rec (mode.Join s) 0 stack n (reads_to l effect.Nothing effect.Nothing (mode.Join s) 0 stack b bs (taken l (mode.Join s) 0 stack b bs (class_of b) (goes (mode.Join s)) refl (space_transition (level_at l stack) s (class_of b) b e) r)) refl g in
    let y = x.3 in
    (b ∷ x.0, x.1, ap (λ z. b ∷ z) x.2, (and_both _ _ e y.0, y.1), x.4)
join_case l stack n s g false b bs e rec r = (
  [],
  b ∷ bs,
  refl,
  (refl, e),
  parts_case l stack n s g (class_of b) b bs refl rec
      (reads_as l (mode.Join s) (mode.In s) 0 stack (b ∷ bs) effect.Nothing r (λ p. pend_read l r.inner (b ∷ bs) (mode.Join s) s effect.Nothing r.draft (pends_join l r.inner (b ∷ bs) s e) p)),
)

pub join_stop : (l : Level) (stack : List Opener) (n : ℕ) (s : Context) → Standing l stack n s → Reads l (mode.Join s) 0 stack [] → JoinLeft l stack n s []
join_stop l stack n s g r =
    ([], [], refl, (refl, refl), parts_stop l stack n s g (reads_as l (mode.Join s) (mode.In s) 0 stack [] effect.Nothing r (λ p. pend_read l r.inner [] (mode.Join s) s effect.Nothing r.draft (pends_join l r.inner [] s refl) p)))

-- behind digits
numbers_none : (l : Level) (stack : List Opener) (n : ℕ) (s : Context) (e : Escape) (k v : ℕ) (d : Effect) (t : List ℕ) → v ≤ most_of e → whole (number e k v) ≡ Some d → ((b : ℕ) (rest : List ℕ) → t ≡ b ∷ rest → with_digit (number e k v) b ≡ None) →
    PartsLeft l stack n s t → NumberLeft l stack n s (number e k v) t
numbers_none l stack n s e k v d t m i none p = record { digits = []; rest = t; effect = d; split = refl; they = no_digits e k v t m none; is = i; parts = p }

no_digit_case : (l : Level) (stack : List Opener) (n : ℕ) (s : Context) → Standing l stack n s → (e : Escape) (k v : ℕ) (x : Option Effect) (b : ℕ) (bs : List ℕ) → v ≤ most_of e → with_digit (number e k v) b ≡ None →
    whole (number e k v) ≡ x → Rec l bs → Reads l (mode.Number s (number e k v)) 0 stack (b ∷ bs) → NumberLeft l stack n s (number e k v) (b ∷ bs)
unfolding transition
no_digit_case l stack n s g e k v (Some d) b bs most none i rec r =
    let no_other = λ (c : ℕ) (rest : List ℕ) (y : b ∷ bs ≡ c ∷ rest). subst (λ z. with_digit (number e k v) z ≡ None) (first_same y) none in
    numbers_none l stack n s e k v d (b ∷ bs) most i no_other
    (parts_case l stack n s g (class_of b) b bs refl rec
    (reads_as l (mode.Number s (number e k v)) (mode.In s) 0 stack (b ∷ bs) d r (λ p. pend_read l r.inner (b ∷ bs) (mode.Number s (number e k v)) s d r.draft (pends_number l r.inner (b ∷ bs) s (number e k v) d i no_other) p)))
no_digit_case l stack n s g e k v None b bs most none i rec r =
    absurd (reads_bad l BadCodePoint 0 stack b bs
    (taken l (mode.Number s (number e k v)) 0 stack b bs (class_of b) (does effect.Nothing (target.Bad BadCodePoint)) refl
    (ap (λ x. numbered (level_at l stack) s (number e k v) (class_of b) b x) none ∙ ap (λ x. behind_number x (in_context (level_at l stack) s (class_of b) b)) i) r))

last_digit_case : (l : Level) (stack : List Opener) (n : ℕ) (s : Context) → Standing l stack n s → (e : Escape) (v w : ℕ) (x : Option Effect) (b : ℕ) (bs : List ℕ) → with_digit (number e (suc zero) v) b ≡ Some w → written e w ≡ x → Rec l bs →
    Reads l (mode.Number s (number e (suc zero) v)) 0 stack (b ∷ bs) → NumberLeft l stack n s (number e (suc zero) v) (b ∷ bs)
last_digit_case l stack n s g e v w (Some d) b bs h i rec r =
    let told = digit_some e (suc zero) v b w h in
    record {
      digits = b ∷ [];
      rest = bs;
      effect = d;
      split = refl;
      they = more_digits e zero v b w [] bs h (no_room e w bs told.2);
      is = whole_behind e 0 (next_value e v b) (some_digits e) ∙ ap (λ y. written e y) (sym told.1) ∙ i;
      parts = rec (mode.In s) 0 stack n
          (reads_to l d effect.Nothing (mode.In s) 0 stack b bs
          (taken l (mode.Number s (number e (suc zero) v)) 0 stack b bs (class_of b) (behind_effect d (goes (mode.In s))) refl
          (number_transition (level_at l stack) s (number e (suc zero) v) (class_of b) b w h ∙ ap (λ y. behind_number y (goes (mode.In s))) i) r)) refl g;
    }
last_digit_case l stack n s g e v w None b bs h i rec r =
    absurd (reads_bad l BadCodePoint 0 stack b bs
    (taken l (mode.Number s (number e (suc zero) v)) 0 stack b bs (class_of b) (does effect.Nothing (target.Bad BadCodePoint)) refl
    (number_transition (level_at l stack) s (number e (suc zero) v) (class_of b) b w h ∙ ap (λ y. behind_number y (goes (mode.In s))) i) r))

digit_case : (l : Level) (stack : List Opener) (n : ℕ) (s : Context) → Standing l stack n s → (e : Escape) (k v w b : ℕ) (bs : List ℕ) → with_digit (number e k v) b ≡ Some w → Rec l bs →
    Reads l (mode.Number s (number e k v)) 0 stack (b ∷ bs) → NumberLeft l stack n s (number e k v) (b ∷ bs)
digit_case l stack n s g e zero v w b bs h rec r =
    absurd (reads_bad l BadCodePoint 0 stack b bs
    (taken l (mode.Number s (number e zero v)) 0 stack b bs (class_of b) (does effect.Nothing (target.Bad BadCodePoint)) refl (number_transition (level_at l stack) s (number e zero v) (class_of b) b w h) r))
digit_case l stack n s g e (suc zero) v w b bs h rec r = last_digit_case l stack n s g e v w (written e w) b bs h refl rec r
digit_case l stack n s g e (suc (suc k)) v w b bs h rec r =
    let told = digit_some e (suc (suc k)) v b w h in
    let x : NumberLeft l stack n s (number e (suc k) w) bs =
    rec (mode.Number s (number e (suc k) w)) 0 stack n
    (reads_to l effect.Nothing effect.Nothing (mode.Number s (number e (suc k) w)) 0 stack b bs
    (taken l (mode.Number s (number e (suc (suc k)) v)) 0 stack b bs (class_of b) (goes (mode.Number s (number e (suc k) w))) refl (number_transition (level_at l stack) s (number e (suc (suc k)) v) (class_of b) b w h) r)) refl g told.2 in
    record {
      digits = b ∷ x.digits;
      rest = x.rest;
      effect = x.effect;
      split = ap (λ y. b ∷ y) x.split;
      they = more_digits e (suc k) v b w x.digits x.rest h x.they;
      is = subst (λ y. whole (number e (left (suc k) x.digits) (value_from (base_of e) y x.digits)) ≡ Some x.effect) told.1 x.is;
      parts = x.parts;
    }

pub number_case : (l : Level) (stack : List Opener) (n : ℕ) (s : Context) → Standing l stack n s → (e : Escape) (k v : ℕ) (x : Option ℕ) (b : ℕ) (bs : List ℕ) → v ≤ most_of e → with_digit (number e k v) b ≡ x → Rec l bs →
    Reads l (mode.Number s (number e k v)) 0 stack (b ∷ bs) → NumberLeft l stack n s (number e k v) (b ∷ bs)
number_case l stack n s g e k v None b bs most i rec r = no_digit_case l stack n s g e k v (whole (number e k v)) b bs most i refl rec r
number_case l stack n s g e k v (Some w) b bs most i rec r = digit_case l stack n s g e k v w b bs i rec r

number_bad : (x : Bool) (s : Context) → (f : WordFault) × (number_ends x s None ≡ ending.Bad f)
number_bad true context.Bare = (BadCodePoint, refl)
number_bad true context.Quoted = (MissingQuote, refl)
number_bad true context.Index = (MissingParen, refl)
number_bad true context.Alone = (BadCodePoint, refl)
number_bad false context.Bare = (MissingBracket, refl)
number_bad false context.Quoted = (MissingQuote, refl)
number_bad false context.Index = (MissingParen, refl)
number_bad false context.Alone = (MissingBracket, refl)

pub number_stop : (l : Level) (stack : List Opener) (n : ℕ) (s : Context) → Standing l stack n s → (e : Escape) (k v : ℕ) (x : Option Effect) → v ≤ most_of e → whole (number e k v) ≡ x → Reads l (mode.Number s (number e k v)) 0 stack [] → NumberLeft l stack n s (number e k v) []
unfolding ends
number_stop l stack n s g e k v None most i r =
    let f = number_bad (is_none r.inner) s in
    absurd (stops_bad l (mode.Number s (number e k v)) 0 stack r f.0 (ap (λ x. number_ends (is_none r.inner) s x) i ∙ f.1))
number_stop l stack n s g e k v (Some d) most i r =
    numbers_none l stack n s e k v d [] most i (λ b rest y. absurd cc)
    (parts_stop l stack n s g (reads_as l (mode.Number s (number e k v)) (mode.In s) 0 stack [] d r
    (λ p. pend_read l r.inner [] (mode.Number s (number e k v)) s d r.draft (pends_number l r.inner [] s (number e k v) d i (λ b rest y. absurd cc)) p)))
