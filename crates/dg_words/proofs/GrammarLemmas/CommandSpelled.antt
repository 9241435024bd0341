-- Commands that are read are spelled.
use Rattle.std.specs.Prelude.{◌≡◌, ◌≢◌, ℕ, suc, ◌+◌, List, [], ◌∷◌, ◌++◌, length, refl, Ok, Err, Result, Bool, true, false, ◌==◌, drop}
use Rattle.std.proofs.Common.{inl, inr, ◌∙◌, ap, sym, arith, subst, append_assoc}
use Rattle.std.proofs.lemmas.List.{append-nil}
use Rattle.std.proofs.lemmas.Bool.{eqb-true, eqb-false}
use Rattle.dg_words.specs.Piece.{Piece}
use Rattle.dg_lists.specs.declared.fault.WordFault.{WordFault}
use Rattle.dg_lists.specs.declared.fault.WordFault.TheVariants.{MissingBrace}
use Rattle.dg_lists.specs.declared.kinds.Class.{Class}
use Rattle.dg_lists.specs.declared.kinds.Class.TheVariants as class
use Rattle.dg_lists.specs.declared.kinds.Effect.TheVariants as effect
use Rattle.dg_words.specs.declared.kinds.Level.{Level}
use Rattle.dg_words.specs.declared.kinds.Level.TheVariants as level
use Rattle.dg_lists.specs.declared.kinds.Mode.{Mode}
use Rattle.dg_lists.specs.declared.kinds.Mode.TheVariants as mode
use Rattle.dg_lists.specs.declared.kinds.Target.TheVariants as target
use Rattle.dg_words.specs.declared.kinds.Opener.{Opener}
use Rattle.dg_words.specs.declared.kinds.Opener.TheVariants as opener
use Rattle.dg_lists.specs.declared.kinds.Context.TheVariants as context
use Rattle.dg_words.specs.declared.word.Word.{Word}
use Rattle.dg_lists.specs.Classes.{class_of}
use Rattle.dg_lists.specs.Transitions.{does, goes, is_space, whole, with_digit}
use Rattle.dg_words.specs.Transitions.{ends, transition}
use Rattle.dg_words.specs.Machine.{Answer, fresh, read}
use Rattle.dg_words.specs.Grammar.Operands as operands
use Rattle.dg_words.proofs.GrammarLemmas.OperandRead.{spelled_operand_is_read}
use Rattle.dg_words.specs.Reading.{operand_at, command_at, kind_of, words_of, words_only}
use Rattle.dg_words.specs.Grammar.Words as grammar
use Rattle.dg_words.specs.Grammar.Words.{begins, begins_with_hash, Begun, Comment, ends_word, is_hash, OneCommand, plain_comment, Script, skipped, Words, WordsOf}
use Rattle.dg_lists.proofs.GrammarLemmas.Bytes.{is_class}
use Rattle.dg_lists.proofs.GrammarLemmas.ListRead.{backslash_is, newline_is, quote_is}
use Rattle.dg_words.proofs.GrammarLemmas.Segments.{at}
use Rattle.dg_words.proofs.GrammarLemmas.Pieces.{open_is}
use Rattle.dg_words.proofs.GrammarLemmas.Between.{comment_transition, gap_backslash, HasCommands, Outermost, skip_transition, start_backslash, start_hash}
use Rattle.dg_words.proofs.GrammarLemmas.PartRead.{at_gap, at_star, at_start, no_hash}
use Rattle.dg_words.proofs.GrammarLemmas.WordRead.{entry_open, spelled_command_is_read, spelled_words_are_read}
use Rattle.dg_words.proofs.GrammarLemmas.Readings.{level_at, Reads, reads_leave, reads_to, stops_bad, stops_inside, taken}
use Rattle.dg_words.proofs.GrammarLemmas.Rests.{CommandEnd, ScriptLeft, skips_byte, skips_comment, skips_line, start_front, start_word, StartLeft, words_line, words_word, WordsLeft}
use Rattle.dg_words.proofs.GrammarLemmas.OperandSpelled.{operand_case, operand_stop}
use Rattle.dg_words.proofs.GrammarLemmas.Claims.{outermost, OperandLeft, CommentLeft, Rec, Standing, behind_bracket}
use Rattle.dg_words.proofs.GrammarLemmas.PartSpelled.{gap_ends, join_case, join_stop, last_words, number_case, number_stop, pair_case, pair_stop, parts_case, parts_stop}
use Rattle.dg_words.proofs.GrammarLemmas.NameSpelled.{brace_name_case, colon_behind, colon_stop, dollar_behind, dollar_stop, name_case, name_stop}
use Rattle.dg_words.proofs.GrammarLemmas.WordSpelled.{alone, behind_case, behind_pair_case, behind_pair_stop, behind_star_case, behind_star_stop, behind_stop, brace_first_case, brace_star_case, braced_case, braced_join_case, braced_pair_case, entry_bare, entry_escaped, entry_last, entry_quoted, expanded, star_pair_case}

-- between words
gap_bare : (l : Level) (stack : List Opener) (n : ℕ) → Standing l stack n context.Bare → (c : Class) (b : ℕ) (bs : List ℕ) → class_of b ≡ c → begins c ≡ true → c ≢ class.Backslash → ends_word (level_at l stack) (class_of b) ≡ false → Rec l bs →
    Reads l mode.Gap 0 stack (b ∷ bs) → WordsLeft l stack n (b ∷ bs)
gap_bare l stack n g c b bs e h nb x rec r = words_word l stack n (b ∷ bs) (alone l stack n (b ∷ bs) (entry_bare l stack n g at_gap b bs (ap begins e ∙ h) x (λ y. nb (sym e ∙ y)) refl rec r))

gap_word : (l : Level) (stack : List Opener) (n : ℕ) → Standing l stack n context.Bare → (c : Class) (b : ℕ) (bs : List ℕ) → class_of b ≡ c → ends_word (level_at l stack) (class_of b) ≡ false → Rec l bs →
    Reads l mode.Gap 0 stack (b ∷ bs) → WordsLeft l stack n (b ∷ bs)
gap_word l stack n g class.Quote b bs e x rec r =
    let is = is_class b class.Quote e in
    subst (λ y. WordsLeft l stack n (y ∷ bs)) (sym is) (words_word l stack n (34 ∷ bs) (alone l stack n (34 ∷ bs) (entry_quoted l stack n g at_gap bs rec (subst (λ y. Reads l mode.Gap 0 stack (y ∷ bs)) is r))))
gap_word l stack n g class.Open b bs e x rec r =
    let is = is_class b class.Open e in
    let s = subst (λ y. Reads l mode.Gap 0 stack (y ∷ bs)) is r in
    subst (λ y. WordsLeft l stack n (y ∷ bs)) (sym is)
    (words_word l stack n (123 ∷ bs)
    (rec mode.BraceFirst 0 stack n (reads_to l effect.Nothing effect.Nothing mode.BraceFirst 0 stack 123 bs (taken l mode.Gap 0 stack 123 bs class.Open (goes mode.BraceFirst) open_is (entry_open (level_at l stack) at_gap) s)) refl g))
gap_word l stack n g class.Backslash b bs e x rec r =
    subst (λ y. WordsLeft l stack n (y ∷ bs)) (sym (is_class b class.Backslash e))
    (rec mode.GapPair 0 stack n (reads_to l effect.Nothing effect.Nothing mode.GapPair 0 stack b bs (taken l mode.Gap 0 stack b bs class.Backslash (goes mode.GapPair) e (gap_backslash (level_at l stack) b) r)) refl g)
gap_word l stack n g c b bs e x rec r = gap_bare l stack n g c b bs e refl (λ y. absurd cc) x rec r

gap_case : (l : Level) (stack : List Opener) (n : ℕ) → Standing l stack n context.Bare → (x : Bool) (b : ℕ) (bs : List ℕ) → ends_word (level_at l stack) (class_of b) ≡ x → Rec l bs → Reads l mode.Gap 0 stack (b ∷ bs) → WordsLeft l stack n (b ∷ bs)
gap_case l stack n g true b bs e rec r = gap_ends l stack n g (class_of b) b bs refl e rec r
gap_case l stack n g false b bs e rec r = gap_word l stack n g (class_of b) b bs refl e rec r

gap_stop : (l : Level) (stack : List Opener) (n : ℕ) → Standing l stack n context.Bare → Reads l mode.Gap 0 stack [] → WordsLeft l stack n []
gap_stop l [] n g r = last_words l n
gap_stop l (opener.Bracket s ∷ stack) n g r = absurd (stops_inside l mode.Gap 0 s stack r)
gap_stop l (opener.Paren s ∷ stack) n g r = absurd g.sound

gap_pair_case : (l : Level) (stack : List Opener) (n : ℕ) → Standing l stack n context.Bare → (x : Bool) (b : ℕ) (bs : List ℕ) → (b == 10) ≡ x → Rec l bs → Reads l mode.GapPair 0 stack (b ∷ bs) → WordsLeft l stack n (92 ∷ b ∷ bs)
unfolding transition
gap_pair_case l stack n g true b bs e rec r =
    let is = eqb-true b 10 e in
    let s = subst (λ y. Reads l mode.GapPair 0 stack (y ∷ bs)) is r in
    subst (λ y. WordsLeft l stack n (92 ∷ y ∷ bs)) (sym is)
    (words_line l stack n bs (rec mode.Gap 0 stack n (reads_to l effect.Nothing effect.Nothing mode.Gap 0 stack 10 bs (taken l mode.GapPair 0 stack 10 bs class.Newline (goes mode.Gap) newline_is refl s)) refl g))
gap_pair_case l stack n g false b bs e rec r = words_word l stack n (92 ∷ b ∷ bs) (alone l stack n (92 ∷ b ∷ bs) (entry_escaped l stack n g at_gap b bs (eqb-false b 10 e) e rec r))

-- before a command
no_hash_first : (c : Class) (b : ℕ) (bs : List ℕ) → class_of b ≡ c → is_hash c ≡ false → begins_with_hash (b ∷ bs) ≡ false
no_hash_first c b bs e h = ap is_hash e ∙ h

start_skips : (l : Level) (stack : List Opener) (n : ℕ) → Standing l stack n context.Bare → HasCommands (level_at l stack) → (b : ℕ) (bs : List ℕ) → skipped (class_of b) ≡ true → Rec l bs → Reads l mode.Start 0 stack (b ∷ bs) → StartLeft l stack n (b ∷ bs)
start_skips l stack n g hc b bs h rec r =
    start_front l stack n (b ∷ []) bs (skips_byte b h)
    (rec mode.Start 0 stack n (reads_to l effect.Nothing effect.Nothing mode.Start 0 stack b bs (taken l mode.Start 0 stack b bs (class_of b) (goes mode.Start) refl (skip_transition (level_at l stack) (class_of b) b hc h) r)) refl g hc)

-- a comment
last_comment : (l : Level) (stack : List Opener) (n : ℕ) (t : List ℕ) → stack ≡ [] → Comment [] t → StartLeft l stack n (35 ∷ t)
last_comment l [] n t e i = ([], length (35 ∷ t), grammar.Begun.whole (grammar.OneCommand.no_command (grammar.Skipped.last_comment refl i)))
last_comment l (opener.Bracket s ∷ stack) n t e i = absurd cc
last_comment l (opener.Paren s ∷ stack) n t e i = absurd cc

comment_begins : (l : Level) (stack : List Opener) (n : ℕ) (t : List ℕ) → CommentLeft l stack n t → StartLeft l stack n (35 ∷ t)
comment_begins l stack n t (inl x) =
    subst (λ y. StartLeft l stack n (35 ∷ y)) (append_assoc x.0 (10 ∷ []) x.1 ∙ sym x.2) (start_front l stack n (35 ∷ x.0 ++ 10 ∷ []) x.1 (skips_comment x.0 x.3) x.4)
comment_begins l stack n t (inr x) = last_comment l stack n t x.1 x.0

comment_front : (l : Level) (stack : List Opener) (n : ℕ) (a t : List ℕ) → ((after c : List ℕ) → Comment after c → Comment after (a ++ c)) → CommentLeft l stack n t → CommentLeft l stack n (a ++ t)
comment_front l stack n a t f (inl x) = inl (a ++ x.0, x.1, ap (λ y. a ++ y) x.2 ∙ sym (append_assoc a x.0 (10 ∷ x.1)), f (10 ∷ []) x.0 x.3, x.4)
comment_front l stack n a t f (inr x) = inr (f [] t x.0, x.1)

comment_more : (l : Level) (stack : List Opener) (n : ℕ) → Standing l stack n context.Bare → HasCommands (level_at l stack) → (b : ℕ) (bs : List ℕ) → plain_comment (class_of b) ≡ true → Rec l bs → Reads l mode.Comment 0 stack (b ∷ bs) → CommentLeft l stack n (b ∷ bs)
unfolding transition
comment_more l stack n g hc b bs h rec r =
    comment_front l stack n (b ∷ []) bs (λ after c i. grammar.Comment.byte b h i)
    (rec mode.Comment 0 stack n (reads_to l effect.Nothing effect.Nothing mode.Comment 0 stack b bs (taken l mode.Comment 0 stack b bs (class_of b) (goes mode.Comment) refl (comment_transition (class_of b) h) r)) refl g hc)

comment_case : (l : Level) (stack : List Opener) (n : ℕ) → Standing l stack n context.Bare → HasCommands (level_at l stack) → (c : Class) (b : ℕ) (bs : List ℕ) → class_of b ≡ c → Rec l bs → Reads l mode.Comment 0 stack (b ∷ bs) → CommentLeft l stack n (b ∷ bs)
unfolding transition
comment_case l stack n g hc class.Newline b bs e rec r =
    inl ([], bs, ap (λ y. y ∷ bs) (is_class b class.Newline e), grammar.Comment.nothing, rec mode.Start 0 stack n (reads_to l effect.Nothing effect.Nothing mode.Start 0 stack b bs (taken l mode.Comment 0 stack b bs class.Newline (goes mode.Start) e refl r)) refl g hc)
comment_case l stack n g hc class.Backslash b bs e rec r =
    subst (λ y. CommentLeft l stack n (y ∷ bs)) (sym (is_class b class.Backslash e))
    (rec mode.CommentPair 0 stack n (reads_to l effect.Nothing effect.Nothing mode.CommentPair 0 stack b bs (taken l mode.Comment 0 stack b bs class.Backslash (goes mode.CommentPair) e refl r)) refl g hc)
comment_case l stack n g hc c b bs e rec r = comment_more l stack n g hc b bs (ap plain_comment e) rec r

comment_pair_case : (l : Level) (stack : List Opener) (n : ℕ) → Standing l stack n context.Bare → HasCommands (level_at l stack) → (b : ℕ) (bs : List ℕ) → Rec l bs → Reads l mode.CommentPair 0 stack (b ∷ bs) → CommentLeft l stack n (92 ∷ b ∷ bs)
unfolding transition
comment_pair_case l stack n g hc b bs rec r =
    comment_front l stack n (92 ∷ b ∷ []) bs (λ after c i. grammar.Comment.pair b i)
    (rec mode.Comment 0 stack n (reads_to l effect.Nothing effect.Nothing mode.Comment 0 stack b bs (taken l mode.CommentPair 0 stack b bs (class_of b) (goes mode.Comment) refl refl r)) refl g hc)

comment_stop : (l : Level) (stack : List Opener) (n : ℕ) → Standing l stack n context.Bare → Reads l mode.Comment 0 stack [] → CommentLeft l stack n []
comment_stop l [] n g r = inr (grammar.Comment.nothing, refl)
comment_stop l (opener.Bracket s ∷ stack) n g r = absurd (stops_inside l mode.Comment 0 s stack r)
comment_stop l (opener.Paren s ∷ stack) n g r = absurd g.sound

comment_pair_stop : (l : Level) (stack : List Opener) (n : ℕ) → Standing l stack n context.Bare → Reads l mode.CommentPair 0 stack [] → CommentLeft l stack n (92 ∷ [])
comment_pair_stop l [] n g r = inr (grammar.Comment.last_backslash refl, refl)
comment_pair_stop l (opener.Bracket s ∷ stack) n g r = absurd (stops_inside l mode.CommentPair 0 s stack r)
comment_pair_stop l (opener.Paren s ∷ stack) n g r = absurd g.sound

-- a command begins with a word
start_bare : (l : Level) (stack : List Opener) (n : ℕ) → Standing l stack n context.Bare → HasCommands (level_at l stack) → (c : Class) (b : ℕ) (bs : List ℕ) → class_of b ≡ c → begins c ≡ true → ends_word (level_at l stack) c ≡ false →
    c ≢ class.Backslash → is_hash c ≡ false → no_hash at_start c ≡ true → Rec l bs → Reads l mode.Start 0 stack (b ∷ bs) → StartLeft l stack n (b ∷ bs)
start_bare l stack n g hc c b bs e h x nb nh na rec r =
    start_word l stack (outermost l stack n g) hc n (b ∷ bs) g.room (no_hash_first c b bs e nh)
    (alone l stack n (b ∷ bs) (entry_bare l stack n g at_start b bs (ap begins e ∙ h) (ap (ends_word (level_at l stack)) e ∙ x) (λ y. nb (sym e ∙ y)) (ap (no_hash at_start) e ∙ na) rec r))

start_quote : (l : Level) (stack : List Opener) (n : ℕ) → Standing l stack n context.Bare → HasCommands (level_at l stack) → (b : ℕ) (bs : List ℕ) → class_of b ≡ class.Quote → Rec l bs → Reads l mode.Start 0 stack (b ∷ bs) → StartLeft l stack n (b ∷ bs)
start_quote l stack n g hc b bs e rec r =
    let is = is_class b class.Quote e in
    subst (λ y. StartLeft l stack n (y ∷ bs)) (sym is)
    (start_word l stack (outermost l stack n g) hc n (34 ∷ bs) g.room (no_hash_first class.Quote 34 bs quote_is refl) (alone l stack n (34 ∷ bs) (entry_quoted l stack n g at_start bs rec (subst (λ y. Reads l mode.Start 0 stack (y ∷ bs)) is r))))

start_open : (l : Level) (stack : List Opener) (n : ℕ) → Standing l stack n context.Bare → HasCommands (level_at l stack) → (b : ℕ) (bs : List ℕ) → class_of b ≡ class.Open → Rec l bs → Reads l mode.Start 0 stack (b ∷ bs) → StartLeft l stack n (b ∷ bs)
start_open l stack n g hc b bs e rec r =
    let is = is_class b class.Open e in
    let s = subst (λ y. Reads l mode.Start 0 stack (y ∷ bs)) is r in
    subst (λ y. StartLeft l stack n (y ∷ bs)) (sym is)
    (start_word l stack (outermost l stack n g) hc n (123 ∷ bs) g.room (no_hash_first class.Open 123 bs open_is refl)
    (rec mode.BraceFirst 0 stack n (reads_to l effect.Nothing effect.Nothing mode.BraceFirst 0 stack 123 bs (taken l mode.Start 0 stack 123 bs class.Open (goes mode.BraceFirst) open_is (entry_open (level_at l stack) at_start) s)) refl g))

start_escape : (l : Level) (stack : List Opener) (n : ℕ) → Standing l stack n context.Bare → HasCommands (level_at l stack) → (b : ℕ) (bs : List ℕ) → class_of b ≡ class.Backslash → Rec l bs → Reads l mode.Start 0 stack (b ∷ bs) → StartLeft l stack n (b ∷ bs)
start_escape l stack n g hc b bs e rec r =
    subst (λ y. StartLeft l stack n (y ∷ bs)) (sym (is_class b class.Backslash e))
    (rec mode.StartPair 0 stack n (reads_to l effect.Nothing effect.Nothing mode.StartPair 0 stack b bs (taken l mode.Start 0 stack b bs class.Backslash (goes mode.StartPair) e (start_backslash (level_at l stack) b) r)) refl g hc)

start_comment : (l : Level) (stack : List Opener) (n : ℕ) → Standing l stack n context.Bare → HasCommands (level_at l stack) → (b : ℕ) (bs : List ℕ) → class_of b ≡ class.Hash → Rec l bs → Reads l mode.Start 0 stack (b ∷ bs) → StartLeft l stack n (b ∷ bs)
start_comment l stack n g hc b bs e rec r =
    subst (λ y. StartLeft l stack n (y ∷ bs)) (sym (is_class b class.Hash e))
    (comment_begins l stack n bs (rec mode.Comment 0 stack n (reads_to l effect.Nothing effect.Nothing mode.Comment 0 stack b bs (taken l mode.Start 0 stack b bs class.Hash (goes mode.Comment) e (start_hash (level_at l stack) b hc) r)) refl g hc))

-- what begins a bare word at each level that has commands
opens_word : Class → Bool
opens_word class.Blank = false
opens_word class.Newline = false
opens_word class.Semicolon = false
opens_word class.Hash = false
opens_word class.Quote = false
opens_word class.Open = false
opens_word class.RightBracket = false
opens_word class.Backslash = false
opens_word c = true

start_closes : (l : Level) (stack : List Opener) (n : ℕ) → Standing l stack n context.Bare → HasCommands (level_at l stack) → (b : ℕ) (bs : List ℕ) → class_of b ≡ class.RightBracket → Rec l bs → Reads l mode.Start 0 stack (b ∷ bs) → StartLeft l stack n (b ∷ bs)
unfolding transition
start_closes level.Top [] n g hc b bs e rec r = start_bare level.Top [] n g hc class.RightBracket b bs e refl refl (λ y. absurd cc) refl refl rec r
start_closes level.List [] n g hc b bs e rec r = absurd hc
start_closes level.Inside [] n g hc b bs e rec r = absurd g.sound
start_closes level.Alone [] n g hc b bs e rec r = absurd g.sound
start_closes l (opener.Bracket s ∷ stack) n g hc b bs e rec r =
    let p = rec (mode.In s) 0 stack (suc n) (reads_leave l 0 (opener.Bracket s) stack b bs (taken l mode.Start 0 (opener.Bracket s ∷ stack) b bs class.RightBracket (does effect.Nothing target.Leave) e refl r)) refl (behind_bracket l stack n s g) in
    ScriptLeft.script [] bs (ap (λ y. y ∷ bs) (is_class b class.RightBracket e)) (grammar.Script.last (grammar.OneCommand.no_command grammar.Skipped.nothing)) p
start_closes l (opener.Paren s ∷ stack) n g hc b bs e rec r = absurd g.sound

never_ends : (l : Level) (c : Class) → opens_word c ≡ true → ends_word l c ≡ false
unfolding opens_word
never_ends l class.Blank h = absurd cc
never_ends l class.Newline h = absurd cc
never_ends l class.Semicolon h = absurd cc
never_ends l class.RightBracket h = absurd cc
never_ends level.Top c h = refl
never_ends level.List c h = refl
never_ends level.Inside c h = refl
never_ends level.Alone c h = refl

start_case : (l : Level) (stack : List Opener) (n : ℕ) → Standing l stack n context.Bare → HasCommands (level_at l stack) → (c : Class) (b : ℕ) (bs : List ℕ) → class_of b ≡ c → Rec l bs → Reads l mode.Start 0 stack (b ∷ bs) → StartLeft l stack n (b ∷ bs)
unfolding opens_word
start_case l stack n g hc class.Blank b bs e rec r = start_skips l stack n g hc b bs (ap skipped e) rec r
start_case l stack n g hc class.Newline b bs e rec r = start_skips l stack n g hc b bs (ap skipped e) rec r
start_case l stack n g hc class.Semicolon b bs e rec r = start_skips l stack n g hc b bs (ap skipped e) rec r
start_case l stack n g hc class.Hash b bs e rec r = start_comment l stack n g hc b bs e rec r
start_case l stack n g hc class.Quote b bs e rec r = start_quote l stack n g hc b bs e rec r
start_case l stack n g hc class.Open b bs e rec r = start_open l stack n g hc b bs e rec r
start_case l stack n g hc class.RightBracket b bs e rec r = start_closes l stack n g hc b bs e rec r
start_case l stack n g hc class.Backslash b bs e rec r = start_escape l stack n g hc b bs e rec r
start_case l stack n g hc c b bs e rec r = start_bare l stack n g hc c b bs e refl (never_ends (level_at l stack) c refl) (λ y. absurd cc) refl refl rec r

start_stop : (l : Level) (stack : List Opener) (n : ℕ) → Standing l stack n context.Bare → Reads l mode.Start 0 stack [] → StartLeft l stack n []
start_stop l [] n g r = ([], 0, grammar.Begun.whole (grammar.OneCommand.no_command grammar.Skipped.nothing))
start_stop l (opener.Bracket s ∷ stack) n g r = absurd (stops_inside l mode.Start 0 s stack r)
start_stop l (opener.Paren s ∷ stack) n g r = tt

start_pair_case : (l : Level) (stack : List Opener) (n : ℕ) → Standing l stack n context.Bare → HasCommands (level_at l stack) → (x : Bool) (b : ℕ) (bs : List ℕ) → (b == 10) ≡ x → Rec l bs → Reads l mode.StartPair 0 stack (b ∷ bs) →
    StartLeft l stack n (92 ∷ b ∷ bs)
unfolding transition
start_pair_case l stack n g hc true b bs e rec r =
    let is = eqb-true b 10 e in
    let s = subst (λ y. Reads l mode.StartPair 0 stack (y ∷ bs)) is r in
    subst (λ y. StartLeft l stack n (92 ∷ y ∷ bs)) (sym is)
    (start_front l stack n (92 ∷ 10 ∷ []) bs skips_line
    (rec mode.Start 0 stack n (reads_to l effect.Nothing effect.Nothing mode.Start 0 stack 10 bs (taken l mode.StartPair 0 stack 10 bs class.Newline (goes mode.Start) newline_is refl s)) refl g hc))
start_pair_case l stack n g hc false b bs e rec r =
    start_word l stack (outermost l stack n g) hc n (92 ∷ b ∷ bs) g.room (no_hash_first class.Backslash 92 (b ∷ bs) backslash_is refl) (alone l stack n (92 ∷ b ∷ bs) (entry_escaped l stack n g at_start b bs (eqb-false b 10 e) e rec r))

start_pair_stop : (l : Level) (stack : List Opener) (n : ℕ) → Standing l stack n context.Bare → HasCommands (level_at l stack) → Reads l mode.StartPair 0 stack [] → StartLeft l stack n (92 ∷ [])
start_pair_stop l stack n g hc r = start_word l stack (outermost l stack n g) hc n (92 ∷ []) g.room (no_hash_first class.Backslash 92 [] backslash_is refl) (alone l stack n (92 ∷ []) (entry_last l stack n g at_start r))

-- every mode
closed_up : (l : Level) (m : Mode) (k : ℕ) (stack : List Opener) (t : List ℕ) → k ≡ 0 → Reads l m k stack t → Reads l m 0 stack t
closed_up l m k stack t e r = subst (λ x. Reads l m x stack t) e r

claim_next : (l : Level) (b : ℕ) (bs : List ℕ) → Rec l bs → Rec l (b ∷ bs)
claim_next l b bs rec mode.Start k stack n r = λ z g hc. start_case l stack n g hc (class_of b) b bs refl rec (closed_up l mode.Start k stack (b ∷ bs) z r)
claim_next l b bs rec mode.StartPair k stack n r = λ z g hc. start_pair_case l stack n g hc (b == 10) b bs refl rec (closed_up l mode.StartPair k stack (b ∷ bs) z r)
claim_next l b bs rec mode.Comment k stack n r = λ z g hc. comment_case l stack n g hc (class_of b) b bs refl rec (closed_up l mode.Comment k stack (b ∷ bs) z r)
claim_next l b bs rec mode.CommentPair k stack n r = λ z g hc. comment_pair_case l stack n g hc b bs rec (closed_up l mode.CommentPair k stack (b ∷ bs) z r)
claim_next l b bs rec mode.Gap k stack n r = λ z g. gap_case l stack n g (ends_word (level_at l stack) (class_of b)) b bs refl rec (closed_up l mode.Gap k stack (b ∷ bs) z r)
claim_next l b bs rec mode.GapPair k stack n r = λ z g. gap_pair_case l stack n g (b == 10) b bs refl rec (closed_up l mode.GapPair k stack (b ∷ bs) z r)
claim_next l b bs rec mode.Operand k stack n r = λ z g. operand_case l stack n g b bs rec (closed_up l mode.Operand k stack (b ∷ bs) z r)
claim_next l b bs rec (mode.In s) k stack n r = λ z g. parts_case l stack n s g (class_of b) b bs refl rec (closed_up l (mode.In s) k stack (b ∷ bs) z r)
claim_next l b bs rec (mode.Pair s) k stack n r = λ z g. pair_case l stack n s g (b == 10) b bs refl rec (closed_up l (mode.Pair s) k stack (b ∷ bs) z r)
claim_next l b bs rec (mode.Join s) k stack n r = λ z g. join_case l stack n s g (is_space b) b bs refl rec (closed_up l (mode.Join s) k stack (b ∷ bs) z r)
claim_next l b bs rec (mode.Dollar s) k stack n r = λ z g. dollar_behind l stack n s g (class_of b) b bs refl rec (closed_up l (mode.Dollar s) k stack (b ∷ bs) z r)
claim_next l b bs rec (mode.Colon s) k stack n r = λ z g. colon_behind l stack n s g (class_of b) b bs refl rec (closed_up l (mode.Colon s) k stack (b ∷ bs) z r)
claim_next l b bs rec (mode.Name s) k stack n r = λ z g. name_case l stack n s g (class_of b) b bs refl rec (closed_up l (mode.Name s) k stack (b ∷ bs) z r)
claim_next l b bs rec (mode.NameBrace s) k stack n r = λ z g. brace_name_case l stack n s g (class_of b) b bs refl rec (closed_up l (mode.NameBrace s) k stack (b ∷ bs) z r)
claim_next l b bs rec (mode.Number s x) k stack n r = λ z g most. number_case l stack n s g x.escape x.left x.value (with_digit x b) b bs most refl rec (closed_up l (mode.Number s x) k stack (b ∷ bs) z r)
claim_next l b bs rec mode.BraceFirst k stack n r = λ z g. brace_first_case l stack n g (class_of b) b bs refl rec (closed_up l mode.BraceFirst k stack (b ∷ bs) z r)
claim_next l b bs rec mode.BraceStar k stack n r = λ z g. brace_star_case l stack n g (class_of b) b bs refl rec (closed_up l mode.BraceStar k stack (b ∷ bs) z r)
claim_next l b bs rec mode.BehindStar k stack n r = λ z g. behind_star_case l stack n g (ends_word (level_at l stack) (class_of b)) b bs refl rec (closed_up l mode.BehindStar k stack (b ∷ bs) z r)
claim_next l b bs rec mode.StarPair k stack n r = λ z g. star_pair_case l stack n g (b == 10) b bs refl rec (closed_up l mode.StarPair k stack (b ∷ bs) z r)
claim_next l b bs rec mode.Braced k stack n r = λ g. braced_case l stack n k g (class_of b) b bs refl rec r
claim_next l b bs rec mode.BracedPair k stack n r = λ g. braced_pair_case l stack n k g (class_of b) b bs refl rec r
claim_next l b bs rec mode.BracedJoin k stack n r = λ g. braced_join_case l stack n k g (is_space b) b bs refl rec r
claim_next l b bs rec (mode.Behind d) k stack n r = λ z g. behind_case l stack n g d b bs rec (closed_up l (mode.Behind d) k stack (b ∷ bs) z r)
claim_next l b bs rec (mode.BehindPair d) k stack n r = λ z g. behind_pair_case l stack n g d (class_of b) b bs refl rec (closed_up l (mode.BehindPair d) k stack (b ∷ bs) z r)

claim_end : (l : Level) → Rec l []
unfolding ends
claim_end l mode.Start k stack n r = λ z g hc. start_stop l stack n g (closed_up l mode.Start k stack [] z r)
claim_end l mode.StartPair k stack n r = λ z g hc. start_pair_stop l stack n g hc (closed_up l mode.StartPair k stack [] z r)
claim_end l mode.Comment k stack n r = λ z g hc. comment_stop l stack n g (closed_up l mode.Comment k stack [] z r)
claim_end l mode.CommentPair k stack n r = λ z g hc. comment_pair_stop l stack n g (closed_up l mode.CommentPair k stack [] z r)
claim_end l mode.Gap k stack n r = λ z g. gap_stop l stack n g (closed_up l mode.Gap k stack [] z r)
claim_end l mode.GapPair k stack n r = λ z g. words_word l stack n (92 ∷ []) (alone l stack n (92 ∷ []) (entry_last l stack n g at_gap (closed_up l mode.GapPair k stack [] z r)))
claim_end l mode.Operand k stack n r = λ z g. operand_stop
claim_end l (mode.In s) k stack n r = λ z g. parts_stop l stack n s g (closed_up l (mode.In s) k stack [] z r)
claim_end l (mode.Pair s) k stack n r = λ z g. pair_stop l stack n s g (closed_up l (mode.Pair s) k stack [] z r)
claim_end l (mode.Join s) k stack n r = λ z g. join_stop l stack n s g (closed_up l (mode.Join s) k stack [] z r)
claim_end l (mode.Dollar s) k stack n r = λ z g. dollar_stop l stack n s g (closed_up l (mode.Dollar s) k stack [] z r)
claim_end l (mode.Colon s) k stack n r = λ z g. colon_stop l stack n s g (closed_up l (mode.Colon s) k stack [] z r)
claim_end l (mode.Name s) k stack n r = λ z g. name_stop l stack n s g (closed_up l (mode.Name s) k stack [] z r)
claim_end l (mode.NameBrace s) k stack n r = λ z g. absurd (stops_bad l (mode.NameBrace s) k stack r MissingBrace refl)
claim_end l (mode.Number s x) k stack n r = λ z g most. number_stop l stack n s g x.escape x.left x.value (whole x) most refl (closed_up l (mode.Number s x) k stack [] z r)
claim_end l mode.BraceFirst k stack n r = λ z g. absurd (stops_bad l mode.BraceFirst k stack r MissingBrace refl)
claim_end l mode.BraceStar k stack n r = λ z g. absurd (stops_bad l mode.BraceStar k stack r MissingBrace refl)
claim_end l mode.BehindStar k stack n r = λ z g. behind_star_stop l stack n g (closed_up l mode.BehindStar k stack [] z r)
claim_end l mode.StarPair k stack n r = λ z g. expanded l stack n (92 ∷ []) (entry_last l stack n g at_star (closed_up l mode.StarPair k stack [] z r))
claim_end l mode.Braced k stack n r = λ g. absurd (stops_bad l mode.Braced k stack r MissingBrace refl)
claim_end l mode.BracedPair k stack n r = λ g. absurd (stops_bad l mode.BracedPair k stack r MissingBrace refl)
claim_end l mode.BracedJoin k stack n r = λ g. absurd (stops_bad l mode.BracedJoin k stack r MissingBrace refl)
claim_end l (mode.Behind d) k stack n r = λ z g. behind_stop l stack n g d (closed_up l (mode.Behind d) k stack [] z r)
claim_end l (mode.BehindPair d) k stack n r = λ z g. absurd (behind_pair_stop l stack d (closed_up l (mode.BehindPair d) k stack [] z r))

claims : (l : Level) (t : List ℕ) → Rec l t
claims l [] = claim_end l
claims l (b ∷ bs) = claim_next l b bs (claims l bs)

-- from the beginning
nothing_open : (l : Level) → Outermost l → Standing l [] 100 context.Bare
nothing_open l o = record { room = omega arith; sound = o }

begins_so : (l : Level) (m : Mode) (t : List ℕ) (p : ℕ) (a : List Word × ℕ) → read l t (fresh m) p ≡ Ok a → Reads l m 0 [] t
begins_so l m t p a h = record { inner = []; draft = (fresh m).draft; place = p; answer = a; stands = refl; rooted = tt; is = h }

-- what is spelled is read as one thing only
words_in : Result (List Word) WordFault → List Word
words_in (Ok ws) = ws
words_in (Err f) = []

words_same : {ws vs : List Word} → ◌≡◌ {A = Result (List Word) WordFault} (Ok ws) (Ok vs) → ws ≡ vs
unfolding words_in
words_same {ws} {vs} e = ap words_in e

words_end : (t u a : List ℕ) (ws vs : List Word) → t ≡ u ++ a → Words level.List 100 a u vs → CommandEnd level.List [] 100 a → words_of t ≡ Ok ws → WordsOf t ws
words_end t u a ws vs e w CommandEnd.at_end h =
    let x : WordsOf t vs = subst (λ y. WordsOf y vs) (sym (append-nil u) ∙ sym e) w in
    subst (λ y. WordsOf t y) (words_same (sym (spelled_words_are_read t vs x) ∙ h)) x
words_end t u a ws vs e w (CommandEnd.at_ender b rest g i) h = absurd cc

words_spelled : (t : List ℕ) (ws : List Word) → WordsLeft level.List [] 100 t → words_of t ≡ Ok ws → WordsOf t ws
words_spelled t ws (WordsLeft.words u a vs e w q) h = words_end t u a ws vs e w q h

place_known : (a : Answer) (ws : List Word) → words_only a ≡ Ok ws → (x : List Word × ℕ) × (a ≡ Ok x)
place_known (Ok x) ws h = (x, refl)
place_known (Err f) ws h = absurd cc

pub read_words_are_spelled : (text : List ℕ) (ws : List Word) → words_of text ≡ Ok ws → WordsOf text ws
unfolding words_of
read_words_are_spelled text ws h =
    let x = place_known (read level.List text (fresh mode.Gap) 0) ws h in
    words_spelled text ws (claims level.List text mode.Gap 0 [] 100 (begins_so level.List mode.Gap text 0 x.0 x.1) refl (nothing_open level.List tt)) h

command_in : Result (List Word × ℕ) WordFault → List Word × ℕ
command_in (Ok x) = x
command_in (Err f) = ([], 0)

command_same : {x y : List Word × ℕ} → ◌≡◌ {A = Result (List Word × ℕ) WordFault} (Ok x) (Ok y) → x ≡ y
unfolding command_in
command_same {x} {y} e = ap command_in e

command_known : (a : Answer) (y : List Word × ℕ) → kind_of a ≡ Ok y → (x : List Word × ℕ) × (a ≡ Ok x)
command_known (Ok x) y h = (x, refl)
command_known (Err f) y h = absurd cc

command_spelled : (text : List ℕ) (at next : ℕ) (ws : List Word) → StartLeft level.Top [] 100 (drop at text) → command_at text at ≡ Ok (ws, next) → (n : ℕ) × (next ≡ at + n) × Begun (drop at text) ws n
command_spelled text at next ws x h =
    let same : (x.0, at + x.1) ≡ (ws, next) = command_same (sym (spelled_command_is_read text at x.1 x.0 x.2) ∙ h) in
    (x.1, sym (ap (λ y. y.1) same), subst (λ y. Begun (drop at text) y x.1) (ap (λ y. y.0) same) x.2)

pub read_command_is_spelled : (text : List ℕ) (at next : ℕ) (ws : List Word) → command_at text at ≡ Ok (ws, next) → (n : ℕ) × (next ≡ at + n) × Begun (drop at text) ws n
unfolding command_at
read_command_is_spelled text at next ws h =
    let x = command_known (read level.Top (drop at text) (fresh mode.Start) at) (ws, next) h in
    command_spelled text at next ws (claims level.Top (drop at text) mode.Start 0 [] 100 (begins_so level.Top mode.Start (drop at text) at x.0 x.1) refl (nothing_open level.Top tt) tt) h

operand_spelled : (text : List ℕ) (at next : ℕ) (ws : List Word) → OperandLeft (drop at text) → operand_at text at ≡ Ok (ws, next) →
    (ps : List Piece) × (n : ℕ) × (ws ≡ record { expand = false; parts = ps } ∷ []) × (next ≡ at + n) × operands.Begun (drop at text) ps n
operand_spelled text at next ws x h =
    let same : (record { expand = false; parts = x.0 } ∷ [], at + x.1) ≡ (ws, next) = command_same (sym (spelled_operand_is_read text at x.1 x.0 x.2) ∙ h) in
    (x.0, x.1, sym (ap (λ y. y.0) same), sym (ap (λ y. y.1) same), x.2)

pub read_operand_is_spelled : (text : List ℕ) (at next : ℕ) (ws : List Word) → operand_at text at ≡ Ok (ws, next) →
    (ps : List Piece) × (n : ℕ) × (ws ≡ record { expand = false; parts = ps } ∷ []) × (next ≡ at + n) × operands.Begun (drop at text) ps n
unfolding operand_at
read_operand_is_spelled text at next ws h =
    let x = command_known (read level.Alone (drop at text) (fresh mode.Operand) at) (ws, next) h in
    operand_spelled text at next ws (claims level.Alone (drop at text) mode.Operand 0 [] 100 (begins_so level.Alone mode.Operand (drop at text) at x.0 x.1) refl (record { room = omega arith; sound = refl })) h
