-- Bytes, escapes, variables and joined lines are read as they are spelled.
use Rattle.std.specs.Prelude.{◌≡◌, ◌≢◌, ℕ, zero, suc, ◌+◌, ◌-◌, ◌≤◌, List, [], ◌∷◌, ◌++◌, length, refl, true, false, not, None, Some, cond, ◌⊎◌}
use Rattle.std.proofs.Common.{inl, inr, ◌∙◌, ap, sym, arith, subst}
use Rattle.std.proofs.lemmas.List.{append-nil}
use Rattle.dg_words.specs.Piece.{Variable}
use Rattle.dg_lists.specs.declared.kinds.Class.{Class}
use Rattle.dg_lists.specs.declared.kinds.Class.TheVariants as class
use Rattle.dg_lists.specs.declared.kinds.Effect.{Effect}
use Rattle.dg_lists.specs.declared.kinds.Effect.TheVariants as effect
use Rattle.dg_lists.specs.declared.kinds.Digits as kinds
use Rattle.dg_lists.specs.declared.kinds.Escape.{Escape}
use Rattle.dg_lists.specs.declared.kinds.Escape.TheVariants.{Octal, Byte, Short, Long}
use Rattle.dg_words.specs.declared.kinds.Level.{Level}
use Rattle.dg_words.specs.declared.kinds.Level.TheVariants as level
use Rattle.dg_lists.specs.declared.kinds.Mode.{Mode}
use Rattle.dg_lists.specs.declared.kinds.Mode.TheVariants as mode
use Rattle.dg_lists.specs.declared.kinds.Target.TheVariants as target
use Rattle.dg_words.specs.declared.kinds.Opener.{Opener}
use Rattle.dg_lists.specs.declared.kinds.Context.{Context}
use Rattle.dg_lists.specs.declared.kinds.Context.TheVariants as context
use Rattle.dg_lists.specs.declared.kinds.Transition.{Transition}
use Rattle.dg_lists.specs.Classes.{class_of}
use Rattle.dg_lists.specs.Transitions.{behind_effect, does, goes, puts}
use Rattle.dg_words.specs.Transitions.{ends, in_context, transition}
use Rattle.dg_words.specs.Machine.{Draft, Go, State, add, close, closed, is_none, level_in, onward, perform, read, step}
use Rattle.dg_lists.specs.Transitions.{base_of, behind_number, counted, digits_of, escaped, is_space, letter_of, whole, with_digit}
use Rattle.dg_words.specs.Transitions.{in_colon, in_dollar, in_join, in_name, number_ends, numbered}
use Rattle.dg_words.specs.Transitions as transitions
use Rattle.dg_lists.specs.Grammar.Escapes as spec
use Rattle.dg_lists.specs.Grammar.Escapes.{each, begins_with_space, Digits, Escaped, Spaces, stands_for, value_from}
use Rattle.dg_words.specs.Grammar.Words as words
use Rattle.dg_words.specs.Grammar.Words.{plain, ends_word, Named, name_byte, name_goes_on, goes_on, begins_variable, variable_by, begins_with_colon, is_colon, is_name, brace_name_byte, no_close}
use Rattle.dg_lists.proofs.GrammarLemmas.Numbers.{and_left, and_right, paired, one_transition, octal_transition, letter_transition, number, with_more, is_none as no_digit, bytes_of, IsWriting, whole_behind, some_digits, next_value}
use Rattle.dg_lists.proofs.GrammarLemmas.Bytes.{is_class}
use Rattle.dg_lists.proofs.GrammarLemmas.ListSpelled.{first_same}
use Rattle.dg_lists.proofs.GrammarLemmas.ListRead.{backslash_is, left, newline_is, number_writes, octal_writes}
use Rattle.dg_words.proofs.GrammarLemmas.Segments.{at, Leads, lead_same, lead_none, step_by, moved, add_add, add_none, Seg, seg_both, seg_one, seg_then, context_first, does_in, done, Pends, pend_read, seg_pend}

-- a byte of text
pub plain_transition : (l : Level) (s : Context) (c : Class) (b : ℕ) → plain l s c ≡ true → in_context l s c b ≡ puts b (mode.In s)
plain_transition l s class.LeftBracket b e = absurd cc
plain_transition l s class.Backslash b e = absurd cc
plain_transition l s class.Dollar b e = absurd cc
plain_transition l context.Quoted class.Quote b e = absurd cc
plain_transition l context.Quoted c b e = refl
plain_transition l context.Index class.RightParen b e = absurd cc
plain_transition l context.Index c b e = refl
plain_transition l context.Alone c b e = absurd cc
plain_transition l context.Bare class.Blank b e = absurd cc
plain_transition l context.Bare class.Newline b e = absurd (newline_ends l e)
  where
    newline_ends : (l : Level) → not (ends_word l class.Newline) ≡ true → ⊥
    newline_ends level.Top e = absurd cc
    newline_ends level.List e = absurd cc
    newline_ends level.Inside e = absurd cc
    newline_ends level.Alone e = absurd cc
plain_transition level.List context.Bare class.Semicolon b e = refl
plain_transition level.List context.Bare c b e = refl
plain_transition level.Top context.Bare class.Semicolon b e = absurd cc
plain_transition level.Top context.Bare c b e = refl
plain_transition level.Alone context.Bare class.Semicolon b e = absurd cc
plain_transition level.Alone context.Bare c b e = refl
plain_transition level.Inside context.Bare class.Semicolon b e = absurd cc
plain_transition level.Inside context.Bare class.RightBracket b e = absurd cc
plain_transition level.Inside context.Bare c b e = refl

pub pair_transition : (l : Level) (s : Context) (b : ℕ) → s ≢ context.Alone → in_context l s class.Backslash b ≡ goes (mode.Pair s)
pair_transition level.Top context.Bare b n = refl
pair_transition level.List context.Bare b n = refl
pair_transition level.Inside context.Bare b n = refl
pair_transition level.Alone context.Bare b n = refl
pair_transition l context.Quoted b n = refl
pair_transition l context.Index b n = refl
pair_transition l context.Alone b n = absurd (n refl)

pub dollar_transition : (l : Level) (s : Context) (b : ℕ) → s ≢ context.Alone → in_context l s class.Dollar b ≡ goes (mode.Dollar s)
dollar_transition level.Top context.Bare b n = refl
dollar_transition level.List context.Bare b n = refl
dollar_transition level.Inside context.Bare b n = refl
dollar_transition level.Alone context.Bare b n = refl
dollar_transition l context.Quoted b n = refl
dollar_transition l context.Index b n = refl
dollar_transition l context.Alone b n = absurd (n refl)

pub bracket_transition : (l : Level) (s : Context) (b : ℕ) → s ≢ context.Alone → in_context l s class.LeftBracket b ≡ does effect.Nothing (target.Bracket s)
bracket_transition level.Top context.Bare b n = refl
bracket_transition level.List context.Bare b n = refl
bracket_transition level.Inside context.Bare b n = refl
bracket_transition level.Alone context.Bare b n = refl
bracket_transition l context.Quoted b n = refl
bracket_transition l context.Index b n = refl
bracket_transition l context.Alone b n = absurd (n refl)

pub left_bracket_is : class_of 91 ≡ class.LeftBracket
unfolding class_of
left_bracket_is = refl

pub right_bracket_is : class_of 93 ≡ class.RightBracket
unfolding class_of
right_bracket_is = refl

pub right_paren_is : class_of 41 ≡ class.RightParen
unfolding class_of
right_paren_is = refl

pub dollar_is : class_of 36 ≡ class.Dollar
unfolding class_of
dollar_is = refl

pub colon_is : class_of 58 ≡ class.Colon
unfolding class_of
colon_is = refl

pub paren_is : class_of 40 ≡ class.LeftParen
unfolding class_of
paren_is = refl

pub open_is : class_of 123 ≡ class.Open
unfolding class_of
open_is = refl

pub close_is : class_of 125 ≡ class.Close
unfolding class_of
close_is = refl

-- segments that begin where parts stand
abbrev pub same : Draft → Draft
same d = d

moved_as : (inner : List Opener) (a : List ℕ) (f g : Draft → Draft) (d : Draft) → f d ≡ g d → moved inner a f d ≡ moved inner a g d
moved_as [] a f g d e = e
moved_as (o ∷ os) a f g d e = refl

pub seg_as : (l : Level) (inner : List Opener) (after : List ℕ) (m k : Mode) (n o : ℕ) (a : List ℕ) (f g : Draft → Draft) → ((d : Draft) → f d ≡ g d) →
    Seg l inner after m n a f k o → Seg l inner after m n a g k o
seg_as l inner after m k n o a f g e x = λ d. subst (λ z. Leads l after (at inner m n d) a (at inner k o z)) (moved_as inner a f g d (e d)) (x d)

pub seg_byte : (l : Level) (inner : List Opener) (after : List ℕ) (s : Context) (b : ℕ) → plain (level_in l inner) s (class_of b) ≡ true →
    Seg l inner after (mode.In s) 0 (b ∷ []) (add (b ∷ [])) (mode.In s) 0
unfolding transition
seg_byte l inner after s b h = seg_one l inner after (mode.In s) (mode.In s) 0 b (class_of b) effect.Nothing (effect.Byte b) refl (plain_transition (level_in l inner) s (class_of b) b h)

pub seg_backslash : (l : Level) (inner : List Opener) (after : List ℕ) (s : Context) → s ≢ context.Alone → Seg l inner after (mode.In s) 0 (92 ∷ []) same (mode.Pair s) 0
unfolding transition
seg_backslash l inner after s n = seg_one l inner after (mode.In s) (mode.Pair s) 0 92 class.Backslash effect.Nothing effect.Nothing backslash_is (pair_transition (level_in l inner) s 92 n)

pub seg_dollar : (l : Level) (inner : List Opener) (after : List ℕ) (s : Context) → s ≢ context.Alone → Seg l inner after (mode.In s) 0 (36 ∷ []) same (mode.Dollar s) 0
unfolding transition
seg_dollar l inner after s n = seg_one l inner after (mode.In s) (mode.Dollar s) 0 36 class.Dollar effect.Nothing effect.Nothing dollar_is (dollar_transition (level_in l inner) s 36 n)

-- a joined line
pub behind_nothing : (t : Transition) → t.first ≡ effect.Nothing → t ≡ behind_effect effect.Nothing t
behind_nothing t h = ap (λ x. record { first = x; second = t.second; next = t.next }) h

pub pends_join : (l : Level) (inner : List Opener) (after : List ℕ) (s : Context) → begins_with_space after ≡ false → Pends l inner after (mode.Join s) s effect.Nothing
unfolding transition ends
pends_join l inner after s h = record {
  transitions = λ b rest e.
      let no_space : is_space b ≡ false = ap begins_with_space (sym e) ∙ h in
      ap (λ x. cond x (goes (mode.Join s)) (in_context (level_in l inner) s (class_of b) b)) no_space ∙ behind_nothing (in_context (level_in l inner) s (class_of b) b) (context_first (level_in l inner) s (class_of b) b);
  stops = refl;
}

pub space_transition : (l : Level) (s : Context) (c : Class) (b : ℕ) → is_space b ≡ true → in_join l s c b ≡ goes (mode.Join s)
space_transition l s c b h = ap (λ x. cond x (goes (mode.Join s)) (in_context l s c b)) h

pub seg_spaces : (l : Level) (inner : List Opener) (after g : List ℕ) (s : Context) → each is_space g ≡ true → begins_with_space after ≡ false → Seg l inner after (mode.Join s) 0 g same (mode.In s) 0
unfolding transition
seg_spaces l inner after [] s h e = seg_pend l inner after (mode.Join s) s effect.Nothing (pends_join l inner after s e)
seg_spaces l inner after (b ∷ bs) s h e =
    seg_then l inner after (mode.Join s) (mode.Join s) (mode.In s) 0 0 0 b bs same same
    (seg_one l inner (bs ++ after) (mode.Join s) (mode.Join s) 0 b (class_of b) effect.Nothing effect.Nothing refl (space_transition (level_in l inner) s (class_of b) b (and_left _ _ h)))
    (seg_spaces l inner after bs s (and_right _ _ h) e)

pub joined_transition : (s : Context) → s ≢ context.Bare → transitions.joined s ≡ puts 32 (mode.Join s)
joined_transition context.Bare n = absurd (n refl)
joined_transition context.Quoted n = refl
joined_transition context.Index n = refl
joined_transition context.Alone n = refl

pub seg_joined : (l : Level) (inner : List Opener) (after g : List ℕ) (s : Context) → s ≢ context.Alone → s ≢ context.Bare → Spaces g after → Seg l inner after (mode.In s) 0 (92 ∷ 10 ∷ g) (add (32 ∷ [])) (mode.In s) 0
unfolding transition
seg_joined l inner after g s na nb h =
    seg_then l inner after (mode.In s) (mode.Pair s) (mode.In s) 0 0 0 92 (10 ∷ g) same (add (32 ∷ [])) (seg_backslash l inner (10 ∷ g ++ after) s na)
    (seg_then l inner after (mode.Pair s) (mode.Join s) (mode.In s) 0 0 0 10 g (add (32 ∷ [])) same
    (seg_one l inner (g ++ after) (mode.Pair s) (mode.Join s) 0 10 class.Newline effect.Nothing (effect.Byte 32) newline_is (joined_transition s nb))
    (seg_spaces l inner after g s h.0 h.1))

-- a number
pub pends_number : (l : Level) (inner : List Opener) (after : List ℕ) (s : Context) (n : kinds.Digits) (e : Effect) → whole n ≡ Some e → ((b : ℕ) (rest : List ℕ) → after ≡ b ∷ rest → with_digit n b ≡ None) →
    Pends l inner after (mode.Number s n) s e
unfolding transition ends
pends_number l inner after s n e h none = record {
  transitions = λ b rest x.
      let t : Transition = in_context (level_in l inner) s (class_of b) b in
      ap (λ v. numbered (level_in l inner) s n (class_of b) b v) (none b rest x) ∙ ap (λ r. behind_number r t) h;
  stops = ap (λ r. number_ends (is_none inner) s r) h;
}

pub number_transition : (l : Level) (s : Context) (n : kinds.Digits) (c : Class) (b v : ℕ) → with_digit n b ≡ Some v → transition l false (mode.Number s n) c b ≡ counted s n.escape n.left v
unfolding transition
number_transition l s n c b v e = ap (λ x. numbered l s n c b x) e

pub seg_digits : (l : Level) (inner : List Opener) (s : Context) (e : Escape) (n v : ℕ) (ds after : List ℕ) (w : Effect) → Digits e (suc n) v ds after →
    whole (number e (left (suc n) ds) (value_from (base_of e) v ds)) ≡ Some w → Seg l inner after (mode.Number s (number e (suc n) v)) 0 ds (perform w) (mode.In s) 0
seg_digits l inner s e n v [] after w h f = seg_pend l inner after (mode.Number s (number e (suc n) v)) s w (pends_number l inner after s (number e (suc n) v) w f (λ b rest x. no_digit e n v after h b rest x))
seg_digits l inner s e zero v (b ∷ []) after w h f =
    let m = with_more e (suc zero) v b [] after h in
    seg_one l inner after (mode.Number s (number e 1 v)) (mode.In s) 0 b (class_of b) w effect.Nothing refl
    (number_transition (level_in l inner) s (number e 1 v) (class_of b) b (next_value e v b) m.2
    ∙ ap (λ r. behind_number r (goes (mode.In s))) (sym (whole_behind e 0 (next_value e v b) (some_digits e)) ∙ f))
seg_digits l inner s e zero v (b ∷ c ∷ ds) after w h f = let long : suc (suc (length ds)) ≤ 1 = h.fit.1 in absurd (omega arith)
seg_digits l inner s e (suc n) v (b ∷ ds) after w h f =
    let m = with_more e (suc (suc n)) v b ds after h in
    let less : m.0 ≡ suc n = omega (arith, m.1) in
    seg_then l inner after (mode.Number s (number e (suc (suc n)) v)) (mode.Number s (number e (suc n) (next_value e v b))) (mode.In s) 0 0 0 b ds same (perform w)
    (seg_one l inner (ds ++ after) (mode.Number s (number e (suc (suc n)) v)) (mode.Number s (number e (suc n) (next_value e v b))) 0 b (class_of b) effect.Nothing effect.Nothing refl
    (number_transition (level_in l inner) s (number e (suc (suc n)) v) (class_of b) b (next_value e v b) m.2))
    (seg_digits l inner s e n (next_value e v b) ds after w (subst (λ k. Digits e k (next_value e v b) ds after) less m.3) f)

seg_number : (l : Level) (inner : List Opener) (s : Context) (e : Escape) (ds after : List ℕ) (w : Effect) → Digits e (digits_of e) 0 ds after →
    whole (number e (left (digits_of e) ds) (value_from (base_of e) 0 ds)) ≡ Some w → Seg l inner after (mode.Number s (number e (digits_of e) 0)) 0 ds (perform w) (mode.In s) 0
seg_number l inner s Octal ds after w h f = seg_digits l inner s Octal 2 0 ds after w h f
seg_number l inner s Byte ds after w h f = seg_digits l inner s Byte 1 0 ds after w h f
seg_number l inner s Short ds after w h f = seg_digits l inner s Short 3 0 ds after w h f
seg_number l inner s Long ds after w h f = seg_digits l inner s Long 7 0 ds after w h f

pub writing_adds : (e : Effect) (d : Draft) → IsWriting e → perform e d ≡ add (bytes_of e) d
writing_adds (effect.Byte b) d h = refl
writing_adds (effect.Code c) d h = refl
writing_adds e d h = absurd h

pub escaped_transition : (l : Level) (s : Context) (c : Class) (b : ℕ) → c ≢ class.Newline → transition l false (mode.Pair s) c b ≡ escaped s b
unfolding transition
escaped_transition l s class.Newline b n = absurd (n refl)
escaped_transition l s c b n = refl

seg_escape_byte : (l : Level) (inner : List Opener) (after : List ℕ) (s : Context) (b : ℕ) (k : Mode) (f g : Effect) → b ≢ 10 → escaped s b ≡ record { first = f; second = g; next = target.To k } →
    Seg l inner after (mode.Pair s) 0 (b ∷ []) (λ x. perform g (perform f x)) k 0
seg_escape_byte l inner after s b k f g n h =
    seg_one l inner after (mode.Pair s) k 0 b (class_of b) f g refl (escaped_transition (level_in l inner) s (class_of b) b (λ x. n (is_class b class.Newline x)) ∙ h)

pub letter_line : (e : Escape) → e ≢ Octal → letter_of e ≢ 10
letter_line Octal n h = n refl
letter_line Byte n h = omega arith
letter_line Short n h = omega arith
letter_line Long n h = omega arith

pub octal_line : (b : ℕ) → spec.is_octal b ≡ true → b ≢ 10
octal_line b h e = let x : spec.is_octal 10 ≡ true = subst (λ y. spec.is_octal y ≡ true) e h in absurd cc

pub seg_pair : (l : Level) (inner : List Opener) (after : List ℕ) (s : Context) (e w : List ℕ) → Escaped after e w → Seg l inner after (mode.Pair s) 0 e (add w) (mode.In s) 0
seg_pair l inner after s e w (spec.Escaped.byte b n h) =
    seg_escape_byte l inner after s b (mode.In s) effect.Nothing (effect.Byte (stands_for b)) n (one_transition s b (stands_for b) (escaped s b) (paired s b) h)
seg_pair l inner after s e w (spec.Escaped.number {ds = ds} {w = u} k n dg nw) =
    let r = number_writes k ds u dg.fit.2 nw in
    seg_as l inner after (mode.Pair s) (mode.In s) 0 0 (letter_of k ∷ ds) (perform r.does) (add u) (λ d. writing_adds r.does d r.writing ∙ ap (λ x. add x d) r.bytes)
    (seg_then l inner after (mode.Pair s) (mode.Number s (number k (digits_of k) 0)) (mode.In s) 0 0 0 (letter_of k) ds same (perform r.does)
    (seg_escape_byte l inner (ds ++ after) s (letter_of k) (mode.Number s (number k (digits_of k) 0)) effect.Nothing effect.Nothing (letter_line k n) (letter_transition s k n))
    (seg_number l inner s k ds after r.does dg r.is))
seg_pair l inner after s e w (spec.Escaped.octal {ds = ds} b o dg) =
    let r = octal_writes (b - 48) ds dg.fit.2 in
    seg_as l inner after (mode.Pair s) (mode.In s) 0 0 (b ∷ ds) (perform r.does) (add (value_from 8 (b - 48) ds ∷ [])) (λ d. writing_adds r.does d r.writing ∙ ap (λ x. add x d) r.bytes)
    (seg_then l inner after (mode.Pair s) (mode.Number s (number Octal 2 (b - 48))) (mode.In s) 0 0 0 b ds same (perform r.does)
    (seg_escape_byte l inner (ds ++ after) s b (mode.Number s (number Octal 2 (b - 48))) effect.Nothing effect.Nothing (octal_line b o) (octal_transition s b (stands_for b) (escaped s b) (paired s b) o))
    (seg_digits l inner s Octal 1 (b - 48) ds after r.does dg r.is))

pub seg_escape : (l : Level) (inner : List Opener) (after : List ℕ) (s : Context) (e w : List ℕ) → s ≢ context.Alone → Escaped after e w → Seg l inner after (mode.In s) 0 (92 ∷ e) (add w) (mode.In s) 0
seg_escape l inner after s e w n h = seg_then l inner after (mode.In s) (mode.Pair s) (mode.In s) 0 0 0 92 e same (add w) (seg_backslash l inner (e ++ after) s n) (seg_pair l inner after s e w h)

pub pends_last : (l : Level) (inner : List Opener) (s : Context) → Pends l inner [] (mode.Pair s) s (effect.Byte 92)
unfolding ends
pends_last l inner s = record { transitions = λ b rest e. absurd cc; stops = refl }

pub seg_last : (l : Level) (inner : List Opener) (s : Context) → s ≢ context.Alone → Seg l inner [] (mode.In s) 0 (92 ∷ []) (add (92 ∷ [])) (mode.In s) 0
seg_last l inner s n =
    seg_then l inner [] (mode.In s) (mode.Pair s) (mode.In s) 0 0 0 92 [] same (add (92 ∷ [])) (seg_backslash l inner [] s n) (seg_pend l inner [] (mode.Pair s) s (effect.Byte 92) (pends_last l inner s))

-- a dollar sign that begins no variable
pub plain_colon : (l : Level) (s : Context) → s ≢ context.Alone → plain l s class.Colon ≡ true
plain_colon level.Top context.Bare n = refl
plain_colon level.List context.Bare n = refl
plain_colon level.Inside context.Bare n = refl
plain_colon level.Alone context.Bare n = refl
plain_colon l context.Quoted n = refl
plain_colon l context.Index n = refl
plain_colon l context.Alone n = absurd (n refl)

pub lone_dollar_transition : (l : Level) (s : Context) (c : Class) (b : ℕ) (t : List ℕ) → variable_by c t ≡ false → c ≢ class.Colon → in_dollar l s c b ≡ behind_effect effect.Dollar (in_context l s c b)
lone_dollar_transition l s class.Name b t h n = absurd cc
lone_dollar_transition l s class.LeftParen b t h n = absurd cc
lone_dollar_transition l s class.Open b t h n = absurd cc
lone_dollar_transition l s class.Colon b t h n = absurd (n refl)
lone_dollar_transition l s c b t h n = refl

pub lone_colon_transition : (l : Level) (s : Context) (c : Class) (b : ℕ) → is_colon c ≡ false → in_colon l s c b ≡ behind_effect effect.DollarColon (in_context l s c b)
lone_colon_transition l s class.Colon b h = absurd cc
lone_colon_transition l s c b h = refl

pub pends_dollar_end : (l : Level) (inner : List Opener) (s : Context) → Pends l inner [] (mode.Dollar s) s effect.Dollar
unfolding ends
pends_dollar_end l inner s = record { transitions = λ b rest e. absurd cc; stops = refl }

pub pends_dollar : (l : Level) (inner : List Opener) (b : ℕ) (bs : List ℕ) (s : Context) → variable_by (class_of b) bs ≡ false → class_of b ≢ class.Colon → Pends l inner (b ∷ bs) (mode.Dollar s) s effect.Dollar
unfolding transition ends
pends_dollar l inner b bs s h n = record {
  transitions = λ c rest e. subst (λ x. in_dollar (level_in l inner) s (class_of x) x ≡ behind_effect effect.Dollar (in_context (level_in l inner) s (class_of x) x)) (first_same e) (lone_dollar_transition (level_in l inner) s (class_of b) b bs h n);
  stops = refl;
}

pub pends_colon : (l : Level) (inner : List Opener) (after : List ℕ) (s : Context) → begins_with_colon after ≡ false → Pends l inner after (mode.Colon s) s effect.DollarColon
unfolding transition ends
pends_colon l inner after s h = record {
  transitions = λ b rest e. lone_colon_transition (level_in l inner) s (class_of b) b (ap begins_with_colon (sym e) ∙ h);
  stops = refl;
}

pub dollar_colon_step : (l : Level) (inner : List Opener) (s : Context) (d : Draft) → step l (at inner (mode.Dollar s) 0 d) 58 ≡ Go (at inner (mode.Colon s) 0 (moved inner (58 ∷ []) same d))
unfolding transition
dollar_colon_step l [] s d = step_by l (at [] (mode.Dollar s) 0 d) 58 class.Colon (goes (mode.Colon s)) colon_is refl
dollar_colon_step l (o ∷ os) s d = step_by l (at (o ∷ os) (mode.Dollar s) 0 d) 58 class.Colon (goes (mode.Colon s)) colon_is refl

colon_step : (l : Level) (inner : List Opener) (s : Context) (d : Draft) → s ≢ context.Alone → step l (at inner (mode.In s) 0 d) 58 ≡ Go (at inner (mode.In s) 0 (add (58 ∷ []) d))
unfolding transition
colon_step l [] s d n = step_by l (at [] (mode.In s) 0 d) 58 class.Colon (puts 58 (mode.In s)) colon_is (plain_transition (level_in l []) s class.Colon 58 (plain_colon (level_in l []) s n))
colon_step l (o ∷ os) s d n = step_by l (at (o ∷ os) (mode.In s) 0 d) 58 class.Colon (puts 58 (mode.In s)) colon_is (plain_transition (level_in l (o ∷ os)) s class.Colon 58 (plain_colon (level_in l (o ∷ os)) s n))

pub read_on : (l : Level) (s n : State) (b : ℕ) (bs : List ℕ) (p : ℕ) → step l s b ≡ Go n → read l (b ∷ bs) s p ≡ read l bs n (p + 1)
unfolding read
read_on l s n b bs p e = ap (λ m. onward m p (λ k. read l bs k (p + 1))) e

colon_drafts : (inner : List Opener) (d : Draft) → does_in inner effect.DollarColon (moved inner (58 ∷ []) same d) ≡ add (58 ∷ []) (does_in inner effect.Dollar d)
colon_drafts [] d = sym (add_add (36 ∷ []) (58 ∷ []) d)
colon_drafts (o ∷ os) d = refl

pub lone_dollar_colon : (l : Level) (inner : List Opener) (bs : List ℕ) (s : Context) (d : Draft) (p : ℕ) → s ≢ context.Alone → begins_with_colon bs ≡ false →
    read l (58 ∷ bs) (at inner (mode.Dollar s) 0 d) p ≡ read l (58 ∷ bs) (at inner (mode.In s) 0 (does_in inner effect.Dollar d)) p
lone_dollar_colon l inner bs s d p n h =
    read_on l _ _ 58 bs p (dollar_colon_step l inner s d)
    ∙ pend_read l inner bs (mode.Colon s) s effect.DollarColon (moved inner (58 ∷ []) same d) (pends_colon l inner bs s h) (p + 1)
    ∙ ap (λ x. read l bs (at inner (mode.In s) 0 x) (p + 1)) (colon_drafts inner d)
    ∙ sym (read_on l _ _ 58 bs p (colon_step l inner s (does_in inner effect.Dollar d) n))

class_case : (c : Class) → (c ≡ class.Colon → ⊥) ⊎ (c ≡ class.Colon)
class_case class.Colon = inr refl
class_case c = inl (λ e. absurd cc)

lone_dollar_at : (l : Level) (inner : List Opener) (b : ℕ) (bs : List ℕ) (s : Context) (d : Draft) (p : ℕ) → s ≢ context.Alone → variable_by (class_of b) bs ≡ false → (class_of b ≡ class.Colon → ⊥) ⊎ (class_of b ≡ class.Colon) →
    read l (b ∷ bs) (at inner (mode.Dollar s) 0 d) p ≡ read l (b ∷ bs) (at inner (mode.In s) 0 (does_in inner effect.Dollar d)) p
lone_dollar_at l inner b bs s d p n h (inl e) = pend_read l inner (b ∷ bs) (mode.Dollar s) s effect.Dollar d (pends_dollar l inner b bs s h e) p
lone_dollar_at l inner b bs s d p n h (inr e) =
    subst (λ x. read l (x ∷ bs) (at inner (mode.Dollar s) 0 d) p ≡ read l (x ∷ bs) (at inner (mode.In s) 0 (does_in inner effect.Dollar d)) p) (sym (is_class b class.Colon e))
    (lone_dollar_colon l inner bs s d p n (ap (λ c. variable_by c bs) (sym e) ∙ h))

pub lone_dollar : (l : Level) (inner : List Opener) (after : List ℕ) (s : Context) (d : Draft) (p : ℕ) → s ≢ context.Alone → begins_variable after ≡ false →
    read l after (at inner (mode.Dollar s) 0 d) p ≡ read l after (at inner (mode.In s) 0 (does_in inner effect.Dollar d)) p
lone_dollar l inner [] s d p n h = pend_read l inner [] (mode.Dollar s) s effect.Dollar d (pends_dollar_end l inner s) p
lone_dollar l inner (b ∷ bs) s d p n h = lone_dollar_at l inner b bs s d p n h (class_case (class_of b))

pub seg_lone_dollar : (l : Level) (inner : List Opener) (after : List ℕ) (s : Context) → s ≢ context.Alone → begins_variable after ≡ false → Seg l inner after (mode.In s) 0 (36 ∷ []) (add (36 ∷ [])) (mode.In s) 0
seg_lone_dollar l inner after s n h =
    seg_then l inner after (mode.In s) (mode.Dollar s) (mode.In s) 0 0 0 36 [] same (add (36 ∷ [])) (seg_dollar l inner after s n)
    (λ d. subst (λ x. Leads l after (at inner (mode.Dollar s) 0 d) [] (at inner (mode.In s) 0 x)) (done inner effect.Dollar d) (lead_same l after _ _ (λ p. lone_dollar l inner after s d p n h)))

-- a variable
abbrev pub begun : List ℕ → Draft → Draft
begun name d = record d { parts = closed d.parts d.text; text = name }

name_class : (c : Class) → is_name c ≡ true → c ≡ class.Name
name_class class.Name e = refl
name_class c e = absurd cc

pub seg_name : (l : Level) (inner : List Opener) (after : List ℕ) (s : Context) (t : List ℕ) → each name_byte t ≡ true → Seg l inner after (mode.Name s) 0 t (add t) (mode.Name s) 0
unfolding transition
seg_name l inner after s [] h = seg_as l inner after (mode.Name s) (mode.Name s) 0 0 [] same (add []) (λ d. sym (add_none d)) (λ d. stay l inner after d)
  where
    stay : (l : Level) (inner : List Opener) (after : List ℕ) (d : Draft) → Leads l after (at inner (mode.Name s) 0 d) [] (at inner (mode.Name s) 0 (moved inner [] same d))
    stay l [] after d = lead_none l after _
    stay l (o ∷ os) after d = subst (λ x. Leads l after (at (o ∷ os) (mode.Name s) 0 d) [] (at (o ∷ os) (mode.Name s) 0 x)) (sym (add_none d)) (lead_none l after _)
seg_name l inner after s (b ∷ bs) h =
    seg_as l inner after (mode.Name s) (mode.Name s) 0 0 (b ∷ bs) (λ d. add bs (add (b ∷ []) d)) (add (b ∷ bs)) (λ d. add_add (b ∷ []) bs d)
    (seg_then l inner after (mode.Name s) (mode.Name s) (mode.Name s) 0 0 0 b bs (add (b ∷ [])) (add bs)
    (seg_one l inner (bs ++ after) (mode.Name s) (mode.Name s) 0 b class.Name effect.Nothing (effect.Byte b) (name_class (class_of b) (and_left _ _ h)) refl)
    (seg_name l inner after s bs (and_right _ _ h)))

pub seg_begun : (l : Level) (inner : List Opener) (after : List ℕ) (s : Context) (name : List ℕ) → Named name → name ≢ [] → Seg l inner after (mode.Dollar s) 0 name (begun name) (mode.Name s) 0
unfolding transition
seg_begun l inner after s name (words.Named.local {t = []} h) n = absurd (n refl)
seg_begun l inner after s name (words.Named.local {t = b ∷ bs} h) n =
    seg_then l inner after (mode.Dollar s) (mode.Name s) (mode.Name s) 0 0 0 b bs (λ d. add (b ∷ []) (close d)) (add bs)
    (seg_one l inner (bs ++ after) (mode.Dollar s) (mode.Name s) 0 b class.Name effect.Close (effect.Byte b) (name_class (class_of b) (and_left _ _ h)) refl)
    (seg_name l inner after s bs (and_right _ _ h))
seg_begun l inner after s name (words.Named.global {t = t} h) n =
    seg_then l inner after (mode.Dollar s) (mode.Colon s) (mode.Name s) 0 0 0 58 (58 ∷ t) same (begun (58 ∷ 58 ∷ t))
    (seg_one l inner (58 ∷ t ++ after) (mode.Dollar s) (mode.Colon s) 0 58 class.Colon effect.Nothing effect.Nothing colon_is refl)
    (seg_then l inner after (mode.Colon s) (mode.Name s) (mode.Name s) 0 0 0 58 t (begun (58 ∷ 58 ∷ [])) (add t)
    (seg_one l inner (t ++ after) (mode.Colon s) (mode.Name s) 0 58 class.Colon effect.Nothing effect.Global colon_is refl)
    (seg_name l inner after s t h))

pub seg_named : (l : Level) (inner : List Opener) (after : List ℕ) (s : Context) (name : List ℕ) → s ≢ context.Alone → Named name → name ≢ [] → Seg l inner after (mode.In s) 0 (36 ∷ name) (begun name) (mode.Name s) 0
seg_named l inner after s name na h n =
    seg_then l inner after (mode.In s) (mode.Dollar s) (mode.Name s) 0 0 0 36 name same (begun name) (seg_dollar l inner (name ++ after) s na) (seg_begun l inner after s name h n)

pub name_end_transition : (l : Level) (s : Context) (c : Class) (b : ℕ) → goes_on c ≡ false → in_name l s c b ≡ behind_effect effect.Value (in_context l s c b)
name_end_transition l s class.Name b h = absurd cc
name_end_transition l s class.LeftParen b h = absurd cc
name_end_transition l s c b h = refl

pub pends_name : (l : Level) (inner : List Opener) (after : List ℕ) (s : Context) → name_goes_on after ≡ false → Pends l inner after (mode.Name s) s effect.Value
unfolding transition ends
pends_name l inner after s h = record { transitions = λ b rest e. name_end_transition (level_in l inner) s (class_of b) b (ap name_goes_on (sym e) ∙ h); stops = refl }

-- what a variable makes
abbrev pub varied : List ℕ → Draft → Draft
varied name d = record d { parts = closed d.parts d.text ++ Variable name ∷ []; text = [] }

pub seg_variable : (l : Level) (inner : List Opener) (after : List ℕ) (s : Context) (name : List ℕ) → s ≢ context.Alone → Named name → name ≢ [] → name_goes_on after ≡ false →
    Seg l inner after (mode.In s) 0 (36 ∷ name) (varied name) (mode.In s) 0
seg_variable l inner after s name na h n e =
    subst (λ a. Seg l inner after (mode.In s) 0 a (varied name) (mode.In s) 0) (append-nil (36 ∷ name))
    (seg_both l inner after (mode.In s) (mode.Name s) (mode.In s) 0 0 0 (36 ∷ name) [] (begun name) (perform effect.Value)
    (seg_named l inner after s name na h n) (seg_pend l inner after (mode.Name s) s effect.Value (pends_name l inner after s e)))

pub brace_name_transition : (s : Context) (c : Class) (b : ℕ) → no_close c ≡ true → transitions.in_name_brace s c b ≡ puts b (mode.NameBrace s)
brace_name_transition s class.Close b h = absurd cc
brace_name_transition s c b h = refl

pub seg_brace_name : (l : Level) (inner : List Opener) (after : List ℕ) (s : Context) (t : List ℕ) → each brace_name_byte t ≡ true → Seg l inner after (mode.NameBrace s) 0 (t ++ 125 ∷ []) (λ d. perform effect.Value (add t d)) (mode.In s) 0
unfolding transition
seg_brace_name l inner after s [] h =
    seg_as l inner after (mode.NameBrace s) (mode.In s) 0 0 (125 ∷ []) (perform effect.Value) (λ d. perform effect.Value (add [] d)) (λ d. ap (perform effect.Value) (sym (add_none d)))
    (seg_one l inner after (mode.NameBrace s) (mode.In s) 0 125 class.Close effect.Nothing effect.Value close_is refl)
seg_brace_name l inner after s (b ∷ bs) h =
    seg_as l inner after (mode.NameBrace s) (mode.In s) 0 0 (b ∷ bs ++ 125 ∷ []) (λ d. perform effect.Value (add bs (add (b ∷ []) d))) (λ d. perform effect.Value (add (b ∷ bs) d)) (λ d. ap (perform effect.Value) (add_add (b ∷ []) bs d))
    (seg_then l inner after (mode.NameBrace s) (mode.NameBrace s) (mode.In s) 0 0 0 b (bs ++ 125 ∷ []) (add (b ∷ [])) (λ d. perform effect.Value (add bs d))
    (seg_one l inner (bs ++ 125 ∷ [] ++ after) (mode.NameBrace s) (mode.NameBrace s) 0 b (class_of b) effect.Nothing (effect.Byte b) refl (brace_name_transition s (class_of b) b (and_left _ _ h)))
    (seg_brace_name l inner after s bs (and_right _ _ h)))

pub seg_braced_variable : (l : Level) (inner : List Opener) (after : List ℕ) (s : Context) (name : List ℕ) → s ≢ context.Alone → each brace_name_byte name ≡ true →
    Seg l inner after (mode.In s) 0 (36 ∷ 123 ∷ name ++ 125 ∷ []) (varied name) (mode.In s) 0
unfolding transition
seg_braced_variable l inner after s name na h =
    seg_then l inner after (mode.In s) (mode.Dollar s) (mode.In s) 0 0 0 36 (123 ∷ name ++ 125 ∷ []) same (varied name) (seg_dollar l inner (123 ∷ name ++ 125 ∷ [] ++ after) s na)
    (seg_then l inner after (mode.Dollar s) (mode.NameBrace s) (mode.In s) 0 0 0 123 (name ++ 125 ∷ []) close (λ d. perform effect.Value (add name d))
    (seg_one l inner (name ++ 125 ∷ [] ++ after) (mode.Dollar s) (mode.NameBrace s) 0 123 class.Open effect.Nothing effect.Close open_is refl)
    (seg_brace_name l inner after s name h))
