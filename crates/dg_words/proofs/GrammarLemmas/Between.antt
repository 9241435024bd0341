-- Words end, gaps and comments are passed, braces are taken, and words begin.
use Rattle.std.specs.Prelude.{◌≡◌, ◌≢◌, ℕ, ◌+◌, ◌-◌, List, [], ◌∷◌, ◌++◌, refl, Bool, true, false, cond, nat_lt}
use Rattle.std.proofs.Common.{◌∙◌, ap, sym, arith, subst}
use Rattle.std.proofs.lemmas.List.{append-nil}
use Rattle.std.proofs.lemmas.Bool.{lt-ltb}
use Rattle.dg_lists.specs.declared.kinds.Class.{Class}
use Rattle.dg_lists.specs.declared.kinds.Class.TheVariants as class
use Rattle.dg_lists.specs.declared.kinds.Effect.{Effect}
use Rattle.dg_lists.specs.declared.kinds.Effect.TheVariants as effect
use Rattle.dg_words.specs.declared.kinds.Level.{Level}
use Rattle.dg_words.specs.declared.kinds.Level.TheVariants as level
use Rattle.dg_lists.specs.declared.kinds.Mode.{Mode}
use Rattle.dg_lists.specs.declared.kinds.Mode.TheVariants as mode
use Rattle.dg_lists.specs.declared.kinds.Target.TheVariants as target
use Rattle.dg_words.specs.declared.kinds.Opener.{Opener}
use Rattle.dg_lists.specs.declared.kinds.Context.TheVariants as context
use Rattle.dg_lists.specs.Classes.{class_of}
use Rattle.dg_lists.specs.Transitions.{behind_effect, does, goes, puts}
use Rattle.dg_words.specs.Transitions.{ends, transition}
use Rattle.dg_words.specs.Machine.{Draft, Go, add, level_in, perform, read, stop, take_transition}
use Rattle.dg_lists.specs.Transitions.{is_space}
use Rattle.dg_words.specs.Transitions.{in_braced}
use Rattle.dg_lists.specs.Grammar.Escapes.{each, begins_with_space}
use Rattle.dg_words.specs.Grammar.Words as words
use Rattle.dg_words.specs.Grammar.Words.{ends_word, blanks}
use Rattle.dg_lists.proofs.GrammarLemmas.Numbers.{and_left, and_right}
use Rattle.dg_lists.proofs.GrammarLemmas.Bytes.{is_class}
use Rattle.dg_lists.proofs.GrammarLemmas.ListRead.{backslash_is, newline_is}
use Rattle.dg_words.proofs.GrammarLemmas.Segments.{at, Leads, lead_same, lead_none, lead_one, step_by, read_step, read_end, moved, add_add, add_none, Seg, seg_both, seg_one, seg_then, does_in}
use Rattle.dg_words.specs.Transitions.{in_braced_join, in_braced_pair, in_comment}
use Rattle.dg_lists.specs.declared.kinds.Delimiter.{Delimiter}
use Rattle.dg_lists.specs.Grammar.Lists.{plain_braced}
use Rattle.dg_words.specs.Grammar.Words.{Parted, Gap, Skipped, Comment, Braced, plain_comment, skipped}
use Rattle.dg_words.proofs.GrammarLemmas.Pieces.{close_is, open_is, pair_transition, same, seg_as}

-- where a reading may be outermost
abbrev pub Outermost : Level → Type 0
Outermost level.Top = Unit {0}
Outermost level.List = Unit {0}
Outermost l = ⊥

-- within brackets any reading may be
abbrev pub OutermostIn : Level → List Opener → Type 0
OutermostIn l [] = Outermost l
OutermostIn l (o ∷ os) = Unit {0}

-- where commands are read
abbrev pub HasCommands : Level → Type 0
HasCommands level.Top = Unit {0}
HasCommands level.Inside = Unit {0}
HasCommands l = ⊥

-- A mode in which a word ends as it does between words, behind this effect.
pub record WordEnds (l : Level) (inner : List Opener) (m : Mode) (e : Effect) (pair : Mode) : Type 0 where
  pub stops : (d : Draft) → stop (at inner m 0 d) ≡ stop (at inner mode.Gap 0 (does_in inner e d))
  pub transitions : (c : Class) (b : ℕ) (d : Draft) → ends_word (level_in l inner) c ≡ true →
      take_transition (transition (level_in l inner) false m c b) 0 inner d b ≡ take_transition (transition (level_in l inner) false mode.Gap c b) 0 inner (does_in inner e d) b
  pub backslash : transition (level_in l inner) false m class.Backslash 92 ≡ goes pair
  pub newline : transition (level_in l inner) false pair class.Newline 10 ≡ does e (target.To mode.Gap)

pub gap_backslash : (l : Level) (b : ℕ) → transition l false mode.Gap class.Backslash b ≡ goes mode.GapPair
unfolding transition
gap_backslash level.Top b = refl
gap_backslash level.List b = refl
gap_backslash level.Inside b = refl
gap_backslash level.Alone b = refl

gap_newline : (l : Level) (b : ℕ) → transition l false mode.GapPair class.Newline b ≡ goes mode.Gap
unfolding transition
gap_newline l b = refl

pub seg_gap_line : (l : Level) (inner : List Opener) (after : List ℕ) → Seg l inner after mode.Gap 0 (92 ∷ 10 ∷ []) same mode.Gap 0
seg_gap_line l inner after =
    seg_then l inner after mode.Gap mode.GapPair mode.Gap 0 0 0 92 (10 ∷ []) same same
    (seg_one l inner (10 ∷ after) mode.Gap mode.GapPair 0 92 class.Backslash effect.Nothing effect.Nothing backslash_is (gap_backslash (level_in l inner) 92))
    (seg_one l inner after mode.GapPair mode.Gap 0 10 class.Newline effect.Nothing effect.Nothing newline_is (gap_newline (level_in l inner) 10))

line_drafts : (inner : List Opener) (e : Effect) (a : List ℕ) (d : Draft) → moved inner a (perform e) d ≡ moved inner a same (does_in inner e d)
line_drafts [] e a d = refl
line_drafts (o ∷ os) e a d = refl

pub part_read : (l : Level) (inner : List Opener) (m : Mode) (e : Effect) (pair : Mode) (after : List ℕ) (d : Draft) → WordEnds l inner m e pair → Parted (level_in l inner) after → (p : ℕ) →
    read l after (at inner m 0 d) p ≡ read l after (at inner mode.Gap 0 (does_in inner e d)) p
part_read l inner m e pair after d w words.Parted.at_end p = read_end l _ _ p (w.stops d)
part_read l inner m e pair after d w (words.Parted.at_byte {t = t} b h) p =
    read_step l _ _ b t p (step_by l (at inner m 0 d) b (class_of b) _ refl refl ∙ w.transitions (class_of b) b d h ∙ sym (step_by l (at inner mode.Gap 0 (does_in inner e d)) b (class_of b) _ refl refl))
part_read l inner m e pair after d w (words.Parted.at_joined_line {t = t}) p =
    let here = seg_then l inner t m pair mode.Gap 0 0 0 92 (10 ∷ []) same (perform e)
    (seg_one l inner (10 ∷ t) m pair 0 92 class.Backslash effect.Nothing effect.Nothing backslash_is w.backslash)
    (seg_one l inner t pair mode.Gap 0 10 class.Newline effect.Nothing e newline_is w.newline) in
    (here d).on p ∙ ap (λ x. read l t (at inner mode.Gap 0 x) (p + 2)) (line_drafts inner e (92 ∷ 10 ∷ []) d) ∙ sym ((seg_gap_line l inner t (does_in inner e d)).on p)

bare_stops : (inner : List Opener) (d : Draft) → stop (at inner (mode.In context.Bare) 0 d) ≡ stop (at inner mode.Gap 0 (does_in inner effect.Word d))
unfolding stop ends
bare_stops [] d = refl
bare_stops (o ∷ os) d = refl

star_stops : (inner : List Opener) (d : Draft) → stop (at inner mode.BehindStar 0 d) ≡ stop (at inner mode.Gap 0 (does_in inner effect.Word d))
unfolding stop ends
star_stops [] d = refl
star_stops (o ∷ os) d = refl

behind_stops : (inner : List Opener) (k : Delimiter) (d : Draft) → stop (at inner (mode.Behind k) 0 d) ≡ stop (at inner mode.Gap 0 (does_in inner effect.Nothing d))
unfolding stop ends
behind_stops [] k d = refl
behind_stops (o ∷ os) k d = refl

abbrev SameTurn : Level → List Opener → Mode → Effect → Class → Type 0
SameTurn l inner m e c = (b : ℕ) (d : Draft) → ends_word (level_in l inner) c ≡ true →
    take_transition (transition (level_in l inner) false m c b) 0 inner d b ≡ take_transition (transition (level_in l inner) false mode.Gap c b) 0 inner (does_in inner e d) b

bare_transitions : (l : Level) (inner : List Opener) (c : Class) → OutermostIn l inner → SameTurn l inner (mode.In context.Bare) effect.Word c
unfolding transition
bare_transitions level.Top [] class.Blank o = λ b d h. refl
bare_transitions level.Top [] class.Newline o = λ b d h. refl
bare_transitions level.Top [] class.Semicolon o = λ b d h. refl
bare_transitions level.Top [] c o = λ b d h. absurd cc
bare_transitions level.List [] class.Blank o = λ b d h. refl
bare_transitions level.List [] class.Newline o = λ b d h. refl
bare_transitions level.List [] c o = λ b d h. absurd cc
bare_transitions level.Inside [] c o = absurd o
bare_transitions level.Alone [] c o = absurd o
bare_transitions l (p ∷ ps) class.Blank o = λ b d h. refl
bare_transitions l (p ∷ ps) class.Newline o = λ b d h. refl
bare_transitions l (p ∷ ps) class.Semicolon o = λ b d h. refl
bare_transitions l (p ∷ ps) class.RightBracket o = λ b d h. refl
bare_transitions l (p ∷ ps) c o = λ b d h. absurd cc

star_transitions : (l : Level) (inner : List Opener) (c : Class) → OutermostIn l inner → SameTurn l inner mode.BehindStar effect.Word c
unfolding transition
star_transitions level.Top [] class.Blank o = λ b d h. refl
star_transitions level.Top [] class.Newline o = λ b d h. refl
star_transitions level.Top [] class.Semicolon o = λ b d h. refl
star_transitions level.Top [] c o = λ b d h. absurd cc
star_transitions level.List [] class.Blank o = λ b d h. refl
star_transitions level.List [] class.Newline o = λ b d h. refl
star_transitions level.List [] c o = λ b d h. absurd cc
star_transitions level.Inside [] c o = absurd o
star_transitions level.Alone [] c o = absurd o
star_transitions l (p ∷ ps) class.Blank o = λ b d h. refl
star_transitions l (p ∷ ps) class.Newline o = λ b d h. refl
star_transitions l (p ∷ ps) class.Semicolon o = λ b d h. refl
star_transitions l (p ∷ ps) class.RightBracket o = λ b d h. refl
star_transitions l (p ∷ ps) c o = λ b d h. absurd cc

behind_transitions : (k : Delimiter) (l : Level) (inner : List Opener) (c : Class) → OutermostIn l inner → SameTurn l inner (mode.Behind k) effect.Nothing c
unfolding transition
behind_transitions k level.Top [] class.Blank o = λ b d h. refl
behind_transitions k level.Top [] class.Newline o = λ b d h. refl
behind_transitions k level.Top [] class.Semicolon o = λ b d h. refl
behind_transitions k level.Top [] c o = λ b d h. absurd cc
behind_transitions k level.List [] class.Blank o = λ b d h. refl
behind_transitions k level.List [] class.Newline o = λ b d h. refl
behind_transitions k level.List [] c o = λ b d h. absurd cc
behind_transitions k level.Inside [] c o = absurd o
behind_transitions k level.Alone [] c o = absurd o
behind_transitions k l (p ∷ ps) class.Blank o = λ b d h. refl
behind_transitions k l (p ∷ ps) class.Newline o = λ b d h. refl
behind_transitions k l (p ∷ ps) class.Semicolon o = λ b d h. refl
behind_transitions k l (p ∷ ps) class.RightBracket o = λ b d h. refl
behind_transitions k l (p ∷ ps) c o = λ b d h. absurd cc

star_backslash : (l : Level) → transition l false mode.BehindStar class.Backslash 92 ≡ goes mode.StarPair
unfolding transition
star_backslash level.Top = refl
star_backslash level.List = refl
star_backslash level.Inside = refl
star_backslash level.Alone = refl

behind_backslash : (l : Level) (inner : List Opener) (k : Delimiter) → OutermostIn l inner → transition (level_in l inner) false (mode.Behind k) class.Backslash 92 ≡ goes (mode.BehindPair k)
unfolding transition
behind_backslash level.Top [] k o = refl
behind_backslash level.List [] k o = refl
behind_backslash level.Inside [] k o = absurd o
behind_backslash level.Alone [] k o = absurd o
behind_backslash l (p ∷ ps) k o = refl

pub bare_ends : (l : Level) (inner : List Opener) → OutermostIn l inner → WordEnds l inner (mode.In context.Bare) effect.Word (mode.Pair context.Bare)
unfolding transition
bare_ends l inner o = record {
  stops = bare_stops inner;
  transitions = λ c. bare_transitions l inner c o;
  backslash = pair_transition (level_in l inner) context.Bare 92 (λ e. absurd cc);
  newline = refl;
}

pub star_ends : (l : Level) (inner : List Opener) → OutermostIn l inner → WordEnds l inner mode.BehindStar effect.Word mode.StarPair
unfolding transition
star_ends l inner o = record { stops = star_stops inner; transitions = λ c. star_transitions l inner c o; backslash = star_backslash (level_in l inner); newline = refl }

pub behind_ends : (l : Level) (inner : List Opener) (k : Delimiter) → OutermostIn l inner → WordEnds l inner (mode.Behind k) effect.Nothing (mode.BehindPair k)
unfolding transition
behind_ends l inner k o = record { stops = behind_stops inner k; transitions = λ c. behind_transitions k l inner c o; backslash = behind_backslash l inner k o; newline = refl }

-- between words
blank_transition : (l : Level) (c : Class) (b : ℕ) → blanks l c ≡ true → transition l false mode.Gap c b ≡ goes mode.Gap
unfolding transition
blank_transition level.Top class.Blank b h = refl
blank_transition level.Top c b h = absurd cc
blank_transition level.List class.Blank b h = refl
blank_transition level.List class.Newline b h = refl
blank_transition level.List c b h = absurd cc
blank_transition level.Inside class.Blank b h = refl
blank_transition level.Inside c b h = absurd cc
blank_transition level.Alone class.Blank b h = refl
blank_transition level.Alone c b h = absurd cc

pub stay : (l : Level) (inner : List Opener) (after : List ℕ) (m : Mode) (n : ℕ) → Seg l inner after m n [] same m n
stay l [] after m n = λ d. lead_none l after _
stay l (o ∷ os) after m n = λ d. subst (λ x. Leads l after (at (o ∷ os) m n d) [] (at (o ∷ os) m n x)) (sym (add_none d)) (lead_none l after _)

pub seg_gap : (l : Level) (inner : List Opener) (after t : List ℕ) → Gap (level_in l inner) t → Seg l inner after mode.Gap 0 t same mode.Gap 0
seg_gap l inner after t words.Gap.nothing = stay l inner after mode.Gap 0
seg_gap l inner after t (words.Gap.blank {t = u} b h g) =
    seg_then l inner after mode.Gap mode.Gap mode.Gap 0 0 0 b u same same
    (seg_one l inner (u ++ after) mode.Gap mode.Gap 0 b (class_of b) effect.Nothing effect.Nothing refl (blank_transition (level_in l inner) (class_of b) b h)) (seg_gap l inner after u g)
seg_gap l inner after t (words.Gap.joined_line {t = u} g) =
    seg_both l inner after mode.Gap mode.Gap mode.Gap 0 0 0 (92 ∷ 10 ∷ []) u same same (seg_gap_line l inner (u ++ after)) (seg_gap l inner after u g)

-- before a command
pub skip_transition : (l : Level) (c : Class) (b : ℕ) → HasCommands l → skipped c ≡ true → transition l false mode.Start c b ≡ goes mode.Start
unfolding transition
skip_transition level.Top class.Blank b o h = refl
skip_transition level.Top class.Newline b o h = refl
skip_transition level.Top class.Semicolon b o h = refl
skip_transition level.Top c b o h = absurd cc
skip_transition level.Inside class.Blank b o h = refl
skip_transition level.Inside class.Newline b o h = refl
skip_transition level.Inside class.Semicolon b o h = refl
skip_transition level.Inside c b o h = absurd cc
skip_transition level.List c b o h = absurd o
skip_transition level.Alone c b o h = absurd o

pub start_backslash : (l : Level) (b : ℕ) → transition l false mode.Start class.Backslash b ≡ goes mode.StartPair
unfolding transition
start_backslash level.Top b = refl
start_backslash level.List b = refl
start_backslash level.Inside b = refl
start_backslash level.Alone b = refl

pub start_hash : (l : Level) (b : ℕ) → HasCommands l → transition l false mode.Start class.Hash b ≡ goes mode.Comment
unfolding transition
start_hash level.Top b o = refl
start_hash level.List b o = absurd o
start_hash level.Inside b o = refl
start_hash level.Alone b o = absurd o

pub hash_is : class_of 35 ≡ class.Hash
unfolding class_of
hash_is = refl

pub comment_transition : (c : Class) → plain_comment c ≡ true → in_comment c ≡ goes mode.Comment
comment_transition class.Newline h = absurd cc
comment_transition class.Backslash h = absurd cc
comment_transition c h = refl

comment_stops : (inner : List Opener) (d : Draft) → stop (at inner mode.CommentPair 0 d) ≡ stop (at inner mode.Comment 0 d)
unfolding stop ends
comment_stops inner d = refl

start_stops : (inner : List Opener) (d : Draft) → stop (at inner mode.Comment 0 d) ≡ stop (at inner mode.Start 0 d)
unfolding stop ends
start_stops inner d = refl

ended_as : (l : Level) (inner : List Opener) (m k : Mode) → ((d : Draft) → stop (at inner m 0 d) ≡ stop (at inner k 0 d)) → Seg l inner [] m 0 [] same k 0
ended_as l [] m k h = λ d. lead_same l [] _ _ (λ p. read_end l _ _ p (h d))
ended_as l (o ∷ os) m k h = λ d. subst (λ x. Leads l [] (at (o ∷ os) m 0 d) [] (at (o ∷ os) k 0 x)) (sym (add_none d)) (lead_same l [] _ _ (λ p. read_end l _ _ p (h d)))

seg_comment : (l : Level) (inner : List Opener) (after c t : List ℕ) → Comment c t → c ≡ after → Seg l inner after mode.Comment 0 t same mode.Comment 0
unfolding transition
seg_comment l inner after c t words.Comment.nothing e = stay l inner after mode.Comment 0
seg_comment l inner after c t (words.Comment.byte {t = u} b h i) e =
    seg_then l inner after mode.Comment mode.Comment mode.Comment 0 0 0 b u same same
    (seg_one l inner (u ++ after) mode.Comment mode.Comment 0 b (class_of b) effect.Nothing effect.Nothing refl (comment_transition (class_of b) h)) (seg_comment l inner after c u i e)
seg_comment l inner after c t (words.Comment.pair {t = u} b i) e =
    seg_then l inner after mode.Comment mode.CommentPair mode.Comment 0 0 0 92 (b ∷ u) same same
    (seg_one l inner (b ∷ u ++ after) mode.Comment mode.CommentPair 0 92 class.Backslash effect.Nothing effect.Nothing backslash_is refl)
    (seg_then l inner after mode.CommentPair mode.Comment mode.Comment 0 0 0 b u same same
    (seg_one l inner (u ++ after) mode.CommentPair mode.Comment 0 b (class_of b) effect.Nothing effect.Nothing refl refl) (seg_comment l inner after c u i e))
seg_comment l inner after c t (words.Comment.last_backslash x) e =
    subst (λ y. Seg l inner y mode.Comment 0 (92 ∷ []) same mode.Comment 0) (sym x ∙ e)
    (seg_then l inner [] mode.Comment mode.CommentPair mode.Comment 0 0 0 92 [] same same
    (seg_one l inner [] mode.Comment mode.CommentPair 0 92 class.Backslash effect.Nothing effect.Nothing backslash_is refl) (ended_as l inner mode.CommentPair mode.Comment (comment_stops inner)))

-- a comment that ends in a newline does not look further
comment_line : (l : Level) (inner : List Opener) (rest t : List ℕ) → Comment (10 ∷ []) t → Seg l inner rest mode.Comment 0 t same mode.Comment 0
unfolding transition
comment_line l inner rest t words.Comment.nothing = stay l inner rest mode.Comment 0
comment_line l inner rest t (words.Comment.byte {t = u} b h i) =
    seg_then l inner rest mode.Comment mode.Comment mode.Comment 0 0 0 b u same same
    (seg_one l inner (u ++ rest) mode.Comment mode.Comment 0 b (class_of b) effect.Nothing effect.Nothing refl (comment_transition (class_of b) h)) (comment_line l inner rest u i)
comment_line l inner rest t (words.Comment.pair {t = u} b i) =
    seg_then l inner rest mode.Comment mode.CommentPair mode.Comment 0 0 0 92 (b ∷ u) same same
    (seg_one l inner (b ∷ u ++ rest) mode.Comment mode.CommentPair 0 92 class.Backslash effect.Nothing effect.Nothing backslash_is refl)
    (seg_then l inner rest mode.CommentPair mode.Comment mode.Comment 0 0 0 b u same same
    (seg_one l inner (u ++ rest) mode.CommentPair mode.Comment 0 b (class_of b) effect.Nothing effect.Nothing refl refl) (comment_line l inner rest u i))
comment_line l inner rest t (words.Comment.last_backslash x) = absurd cc

pub seg_skipped : (l : Level) (inner : List Opener) (after t : List ℕ) → HasCommands (level_in l inner) → Skipped after t → Seg l inner after mode.Start 0 t same mode.Start 0
unfolding transition
seg_skipped l inner after t o words.Skipped.nothing = stay l inner after mode.Start 0
seg_skipped l inner after t o (words.Skipped.byte {t = u} b h i) =
    seg_then l inner after mode.Start mode.Start mode.Start 0 0 0 b u same same
    (seg_one l inner (u ++ after) mode.Start mode.Start 0 b (class_of b) effect.Nothing effect.Nothing refl (skip_transition (level_in l inner) (class_of b) b o h)) (seg_skipped l inner after u o i)
seg_skipped l inner after t o (words.Skipped.joined_line {t = u} i) =
    seg_then l inner after mode.Start mode.StartPair mode.Start 0 0 0 92 (10 ∷ u) same same
    (seg_one l inner (10 ∷ u ++ after) mode.Start mode.StartPair 0 92 class.Backslash effect.Nothing effect.Nothing backslash_is (start_backslash (level_in l inner) 92))
    (seg_then l inner after mode.StartPair mode.Start mode.Start 0 0 0 10 u same same
    (seg_one l inner (u ++ after) mode.StartPair mode.Start 0 10 class.Newline effect.Nothing effect.Nothing newline_is refl) (seg_skipped l inner after u o i))
seg_skipped l inner after t o (words.Skipped.comment {c = c} {t = u} k i) =
    seg_then l inner after mode.Start mode.Comment mode.Start 0 0 0 35 (c ++ 10 ∷ u) same same
    (seg_one l inner (c ++ 10 ∷ u ++ after) mode.Start mode.Comment 0 35 class.Hash effect.Nothing effect.Nothing hash_is (start_hash (level_in l inner) 35 o))
    (seg_both l inner after mode.Comment mode.Comment mode.Start 0 0 0 c (10 ∷ u) same same (comment_line l inner (10 ∷ u ++ after) c k)
    (seg_then l inner after mode.Comment mode.Start mode.Start 0 0 0 10 u same same
    (seg_one l inner (u ++ after) mode.Comment mode.Start 0 10 class.Newline effect.Nothing effect.Nothing newline_is refl) (seg_skipped l inner after u o i)))
seg_skipped l inner after t o (words.Skipped.last_comment {c = c} e k) =
    subst (λ y. Seg l inner y mode.Start 0 (35 ∷ c) same mode.Start 0) (sym e)
    (seg_then l inner [] mode.Start mode.Comment mode.Start 0 0 0 35 c same same
    (seg_one l inner (c ++ []) mode.Start mode.Comment 0 35 class.Hash effect.Nothing effect.Nothing hash_is (start_hash (level_in l inner) 35 o))
    (subst (λ y. Seg l inner [] mode.Comment 0 y same mode.Start 0) (append-nil c)
    (seg_both l inner [] mode.Comment mode.Comment mode.Start 0 0 0 c [] same same (seg_comment l inner [] [] c k refl) (ended_as l inner mode.Comment mode.Start (start_stops inner)))))

-- the inside of a braced word
pub plain_braced_transition : (deep : Bool) (c : Class) (b : ℕ) → plain_braced c ≡ true → in_braced deep c b ≡ puts b mode.Braced
plain_braced_transition deep class.Open b e = absurd cc
plain_braced_transition deep class.Close b e = absurd cc
plain_braced_transition deep class.Backslash b e = absurd cc
plain_braced_transition true c b e = refl
plain_braced_transition false c b e = refl

pub braced_backslash : (deep : Bool) (b : ℕ) → in_braced deep class.Backslash b ≡ goes mode.BracedPair
braced_backslash true b = refl
braced_backslash false b = refl

braced_pair_transition : (c : Class) (b : ℕ) → c ≢ class.Newline → in_braced_pair c b ≡ behind_effect (effect.Byte 92) (puts b mode.Braced)
braced_pair_transition class.Newline b n = absurd (n refl)
braced_pair_transition c b n = refl

pub braced_close : (deep : Bool) (b : ℕ) → deep ≡ true → in_braced deep class.Close b ≡ does (effect.Byte b) target.Shallower
braced_close true b h = refl
braced_close false b h = absurd cc

deeper : (inner : List Opener) (n : ℕ) (d : Draft) → take_transition (does (effect.Byte 123) target.Deeper) n inner d 123 ≡ Go (at inner mode.Braced (n + 1) (moved inner (123 ∷ []) (add (123 ∷ [])) d))
deeper [] n d = refl
deeper (o ∷ os) n d = refl

shallower : (inner : List Opener) (n : ℕ) (d : Draft) → take_transition (does (effect.Byte 125) target.Shallower) (n + 1) inner d 125 ≡ Go (at inner mode.Braced n (moved inner (125 ∷ []) (add (125 ∷ [])) d))
shallower [] n d = let less : n + 1 - 1 ≡ n = omega arith in ap (λ k. Go (at [] mode.Braced k (add (125 ∷ []) d))) less
shallower (o ∷ os) n d = let less : n + 1 - 1 ≡ n = omega arith in ap (λ k. Go (at (o ∷ os) mode.Braced k (add (125 ∷ []) d))) less

seg_open : (l : Level) (inner : List Opener) (after : List ℕ) (n : ℕ) → Seg l inner after mode.Braced n (123 ∷ []) (add (123 ∷ [])) mode.Braced (n + 1)
unfolding transition
seg_open l inner after n = λ d. lead_one l after _ _ 123 (step_by l (at inner mode.Braced n d) 123 class.Open (does (effect.Byte 123) target.Deeper) open_is refl ∙ deeper inner n d)

seg_close : (l : Level) (inner : List Opener) (after : List ℕ) (n : ℕ) → Seg l inner after mode.Braced (n + 1) (125 ∷ []) (add (125 ∷ [])) mode.Braced n
unfolding transition
seg_close l inner after n = λ d. lead_one l after _ _ 125
    (step_by l (at inner mode.Braced (n + 1) d) 125 class.Close (does (effect.Byte 125) target.Shallower) close_is (braced_close (nat_lt 0 (n + 1)) 125 (lt-ltb 0 (n + 1) (omega arith))) ∙ shallower inner n d)

no_space_both : (t u : List ℕ) → begins_with_space t ≡ false → begins_with_space u ≡ false → begins_with_space (t ++ u) ≡ false
no_space_both [] u h e = e
no_space_both (b ∷ bs) u h e = h

pub join_read : (l : Level) (inner : List Opener) (after : List ℕ) (n : ℕ) (d : Draft) (p : ℕ) → begins_with_space after ≡ false → read l after (at inner mode.BracedJoin n d) p ≡ read l after (at inner mode.Braced n d) p
unfolding transition stop ends
join_read l inner [] n d p h = read_end l _ _ p refl
join_read l inner (b ∷ bs) n d p h =
    read_step l _ _ b bs p
    (step_by l (at inner mode.BracedJoin n d) b (class_of b) (in_braced (nat_lt 0 n) (class_of b) b) refl (ap (λ x. cond x (goes mode.BracedJoin) (in_braced (nat_lt 0 n) (class_of b) b)) h)
    ∙ sym (step_by l (at inner mode.Braced n d) b (class_of b) (in_braced (nat_lt 0 n) (class_of b) b) refl refl))

seg_braced_join : (l : Level) (inner : List Opener) (after : List ℕ) (n : ℕ) → begins_with_space after ≡ false → Seg l inner after mode.BracedJoin n [] same mode.Braced n
seg_braced_join l [] after n h = λ d. lead_same l after _ _ (λ p. join_read l [] after n d p h)
seg_braced_join l (o ∷ os) after n h = λ d.
    subst (λ x. Leads l after (at (o ∷ os) mode.BracedJoin n d) [] (at (o ∷ os) mode.Braced n x)) (sym (add_none d)) (lead_same l after _ _ (λ p. join_read l (o ∷ os) after n d p h))

pub braced_space : (deep : Bool) (c : Class) (b : ℕ) → is_space b ≡ true → in_braced_join deep c b ≡ goes mode.BracedJoin
braced_space deep c b h = ap (λ x. cond x (goes mode.BracedJoin) (in_braced deep c b)) h

seg_braced_spaces : (l : Level) (inner : List Opener) (after g : List ℕ) (n : ℕ) → each is_space g ≡ true → begins_with_space after ≡ false → Seg l inner after mode.BracedJoin n g same mode.Braced n
unfolding transition
seg_braced_spaces l inner after [] n h e = seg_braced_join l inner after n e
seg_braced_spaces l inner after (b ∷ bs) n h e =
    seg_then l inner after mode.BracedJoin mode.BracedJoin mode.Braced n n n b bs same same
    (seg_one l inner (bs ++ after) mode.BracedJoin mode.BracedJoin n b (class_of b) effect.Nothing effect.Nothing refl (braced_space (nat_lt 0 n) (class_of b) b (and_left _ _ h)))
    (seg_braced_spaces l inner after bs n (and_right _ _ h) e)

pub seg_braced : (l : Level) (inner : List Opener) (after : List ℕ) (n : ℕ) (t v : List ℕ) → begins_with_space after ≡ false → Braced t v → Seg l inner after mode.Braced n t (add v) mode.Braced n
unfolding transition
seg_braced l inner after n t v e words.Braced.nothing = seg_as l inner after mode.Braced mode.Braced n n [] same (add []) (λ d. sym (add_none d)) (stay l inner after mode.Braced n)
seg_braced l inner after n t v e (words.Braced.byte {t = u} {v = x} b h i) =
    seg_as l inner after mode.Braced mode.Braced n n (b ∷ u) (λ d. add x (add (b ∷ []) d)) (add (b ∷ x)) (λ d. add_add (b ∷ []) x d)
    (seg_then l inner after mode.Braced mode.Braced mode.Braced n n n b u (add (b ∷ [])) (add x)
    (seg_one l inner (u ++ after) mode.Braced mode.Braced n b (class_of b) effect.Nothing (effect.Byte b) refl (plain_braced_transition (nat_lt 0 n) (class_of b) b h)) (seg_braced l inner after n u x e i))
seg_braced l inner after n t v e (words.Braced.pair {t = u} {v = x} b h i) =
    seg_as l inner after mode.Braced mode.Braced n n (92 ∷ b ∷ u) (λ d. add x (add (b ∷ []) (add (92 ∷ []) d))) (add (92 ∷ b ∷ x)) (λ d. ap (add x) (add_add (92 ∷ []) (b ∷ []) d) ∙ add_add (92 ∷ b ∷ []) x d)
    (seg_then l inner after mode.Braced mode.BracedPair mode.Braced n n n 92 (b ∷ u) same (λ d. add x (add (b ∷ []) (add (92 ∷ []) d)))
    (seg_one l inner (b ∷ u ++ after) mode.Braced mode.BracedPair n 92 class.Backslash effect.Nothing effect.Nothing backslash_is (braced_backslash (nat_lt 0 n) 92))
    (seg_then l inner after mode.BracedPair mode.Braced mode.Braced n n n b u (λ d. add (b ∷ []) (add (92 ∷ []) d)) (add x)
    (seg_one l inner (u ++ after) mode.BracedPair mode.Braced n b (class_of b) (effect.Byte 92) (effect.Byte b) refl (braced_pair_transition (class_of b) b (λ z. h (is_class b class.Newline z))))
    (seg_braced l inner after n u x e i)))
seg_braced l inner after n t v e (words.Braced.joined_line {t = u} {v = x} g s i) =
    seg_as l inner after mode.Braced mode.Braced n n (92 ∷ 10 ∷ g ++ u) (λ d. add x (add (32 ∷ []) d)) (add (32 ∷ x)) (λ d. add_add (32 ∷ []) x d)
    (seg_then l inner after mode.Braced mode.BracedPair mode.Braced n n n 92 (10 ∷ g ++ u) same (λ d. add x (add (32 ∷ []) d))
    (seg_one l inner (10 ∷ g ++ u ++ after) mode.Braced mode.BracedPair n 92 class.Backslash effect.Nothing effect.Nothing backslash_is (braced_backslash (nat_lt 0 n) 92))
    (seg_then l inner after mode.BracedPair mode.BracedJoin mode.Braced n n n 10 (g ++ u) (add (32 ∷ [])) (add x)
    (seg_one l inner (g ++ u ++ after) mode.BracedPair mode.BracedJoin n 10 class.Newline effect.Nothing (effect.Byte 32) newline_is refl)
    (seg_both l inner after mode.BracedJoin mode.Braced mode.Braced n n n g u same (add x)
    (seg_braced_spaces l inner (u ++ after) g n s.0 (no_space_both u after s.1 e)) (seg_braced l inner after n u x e i))))
seg_braced l inner after n t v e (words.Braced.braces {t = u} {u = r} {v = x} {w = y} i j) =
    seg_as l inner after mode.Braced mode.Braced n n (123 ∷ u ++ 125 ∷ r) (λ d. add y (add (125 ∷ []) (add x (add (123 ∷ []) d)))) (add (123 ∷ x ++ 125 ∷ y))
    (λ d. ap (λ z. add y (add (125 ∷ []) z)) (add_add (123 ∷ []) x d) ∙ add_add (125 ∷ []) y (add (123 ∷ x) d) ∙ add_add (123 ∷ x) (125 ∷ y) d)
    (seg_then l inner after mode.Braced mode.Braced mode.Braced n (n + 1) n 123 (u ++ 125 ∷ r) (add (123 ∷ [])) (λ d. add y (add (125 ∷ []) (add x d)))
    (seg_open l inner (u ++ 125 ∷ r ++ after) n)
    (seg_both l inner after mode.Braced mode.Braced mode.Braced (n + 1) (n + 1) n u (125 ∷ r) (add x) (λ d. add y (add (125 ∷ []) d)) (seg_braced l inner (125 ∷ r ++ after) (n + 1) u x refl i)
    (seg_then l inner after mode.Braced mode.Braced mode.Braced (n + 1) n n 125 r (add (125 ∷ [])) (add y) (seg_close l inner (r ++ after) n) (seg_braced l inner after n r y e j))))
