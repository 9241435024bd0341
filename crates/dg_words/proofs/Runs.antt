-- Reading goes on over a run of bytes that only add to what is open.
use Rattle.std.specs.Prelude.{◌≡◌, ℕ, zero, suc, ◌+◌, ◌-◌, ◌≤◌, ◌<◌, List, [], ◌∷◌, ◌++◌, length, drop, get_or, refl, Bool, true, false, nat_lt}
use Rattle.std.specs.List.{slice_range}
use Rattle.std.proofs.Common.{◌∙◌, ap, sym, arith, subst, append_assoc, append-nil, lt-ltb}
use Rattle.std.proofs.lemmas.List.Edits.{between_more, between_none}
use Rattle.dg_lists.specs.declared.kinds.Class.{Class}
use Rattle.dg_lists.specs.declared.kinds.Class.TheVariants as class
use Rattle.dg_lists.specs.declared.kinds.Effect.TheVariants as effect
use Rattle.dg_words.specs.declared.kinds.Level.{Level}
use Rattle.dg_words.specs.declared.kinds.Level.TheVariants as level
use Rattle.dg_lists.specs.declared.kinds.Mode.{Mode}
use Rattle.dg_lists.specs.declared.kinds.Mode.TheVariants.{Comment, In, Braced}
use Rattle.dg_lists.specs.declared.kinds.Target.TheVariants as target
use Rattle.dg_words.specs.declared.kinds.Opener.{Opener}
use Rattle.dg_lists.specs.declared.kinds.Context.{Context}
use Rattle.dg_lists.specs.declared.kinds.Context.TheVariants.{Bare, Quoted, Index, Alone}
use Rattle.dg_lists.specs.Classes.{class_of}
use Rattle.dg_words.specs.Transitions.{heard}
use Rattle.dg_lists.specs.Transitions.{does, goes, puts}
use Rattle.dg_words.specs.Transitions.{in_bare, in_braced, in_comment, in_index, in_quoted, in_context, transition}
use Rattle.dg_words.specs.Machine.{Draft, State, Go, add, is_none, level_in, read, step, take_transition}
use Rattle.dg_lists.specs.Braces.{Continues, IsBracedRun}
use Rattle.dg_lists.specs.Grammar.Lists.{plain_braced}
use Rattle.dg_words.specs.Runs.{Reaches, commented, in_mode, is_comment, is_text}
use Rattle.dg_words.proofs.Loop.{reads_move, step_depth}

-- one byte further
pub reaches_more : (text : List ℕ) (from : ℕ) (old : State) (i : ℕ) (n m : State) → Reaches text from old i n → i < length text → ((l : Level) → step l n (get_or text i 0) ≡ Go m) → Reaches text from old (i + 1) m
reaches_more text from old i n m h lt e =
    let falls = step_depth level.Top n m (get_or text i 0) (e level.Top) in
    let before = h.onward in
    let deep = h.deep in
    record {
      onward = omega arith;
      within = omega arith;
      deep = omega arith;
      reads = λ l. h.reads l ∙ reads_move l text n i (Go m) lt (e l);
    }

-- a byte that is put
puts_goes : (l : Level) (n : ℕ) (os : List Opener) (d : Draft) (b : ℕ) (m k : Mode) → transition (level_in l os) (nat_lt 0 n) m (class_of b) b ≡ puts b k → step l (in_mode m n os d) b ≡ Go (in_mode k n os (add (b ∷ []) d))
unfolding step
puts_goes l n [] d b m k e = ap (λ t. take_transition t n [] d b) e
puts_goes l n (o ∷ os) d b m k e = ap (λ t. take_transition t n (o ∷ os) d b) e

-- a brace within
deeper_goes : (l : Level) (n : ℕ) (os : List Opener) (d : Draft) (b : ℕ) → transition (level_in l os) (nat_lt 0 n) Braced (class_of b) b ≡ does (effect.Byte b) target.Deeper → step l (in_mode Braced n os d) b ≡ Go (in_mode Braced (n + 1) os (add (b ∷ []) d))
unfolding step
deeper_goes l n [] d b e = ap (λ t. take_transition t n [] d b) e
deeper_goes l n (o ∷ os) d b e = ap (λ t. take_transition t n (o ∷ os) d b) e

shallower_goes : (l : Level) (n : ℕ) (os : List Opener) (d : Draft) (b : ℕ) → transition (level_in l os) (nat_lt 0 n) Braced (class_of b) b ≡ does (effect.Byte b) target.Shallower → step l (in_mode Braced n os d) b ≡ Go (in_mode Braced (n - 1) os (add (b ∷ []) d))
unfolding step
shallower_goes l n [] d b e = ap (λ t. take_transition t n [] d b) e
shallower_goes l n (o ∷ os) d b e = ap (λ t. take_transition t n (o ∷ os) d b) e

comment_goes : (l : Level) (n : ℕ) (os : List Opener) (d : Draft) (b : ℕ) → transition (level_in l os) (nat_lt 0 n) Comment (class_of b) b ≡ goes Comment → step l (in_mode Comment n os d) b ≡ Go (in_mode Comment n os (commented os (b ∷ []) d))
unfolding step
comment_goes l n [] d b e = ap (λ t. take_transition t n [] d b) e
comment_goes l n (o ∷ os) d b e = ap (λ t. take_transition t n (o ∷ os) d b) e

-- what the bytes of a run make
braced_puts : (x : Bool) (c : Class) (b : ℕ) → plain_braced c ≡ true → in_braced x c b ≡ puts b Braced
braced_puts true class.Open b e = absurd cc
braced_puts true class.Close b e = absurd cc
braced_puts true class.Backslash b e = absurd cc
braced_puts true c b e = refl
braced_puts false class.Open b e = absurd cc
braced_puts false class.Close b e = absurd cc
braced_puts false class.Backslash b e = absurd cc
braced_puts false c b e = refl

comment_stays : (c : Class) → is_comment c ≡ true → in_comment c ≡ goes Comment
comment_stays class.Newline e = absurd cc
comment_stays class.Backslash e = absurd cc
comment_stays c e = refl

bare_puts : (l : Level) (c : Class) (b : ℕ) → is_text Bare c ≡ true → in_bare l (heard l c) b ≡ puts b (In Bare)
bare_puts l class.Blank b e = absurd cc
bare_puts l class.Newline b e = absurd cc
bare_puts l class.Semicolon b e = absurd cc
bare_puts l class.LeftBracket b e = absurd cc
bare_puts l class.RightBracket b e = absurd cc
bare_puts l class.Backslash b e = absurd cc
bare_puts l class.Dollar b e = absurd cc
bare_puts level.Top c b e = refl
bare_puts level.List c b e = refl
bare_puts level.Inside c b e = refl
bare_puts level.Alone c b e = refl

quoted_puts : (c : Class) (b : ℕ) → is_text Quoted c ≡ true → in_quoted c b ≡ puts b (In Quoted)
quoted_puts class.Quote b e = absurd cc
quoted_puts class.LeftBracket b e = absurd cc
quoted_puts class.Backslash b e = absurd cc
quoted_puts class.Dollar b e = absurd cc
quoted_puts c b e = refl

index_puts : (c : Class) (b : ℕ) → is_text Index c ≡ true → in_index c b ≡ puts b (In Index)
index_puts class.RightParen b e = absurd cc
index_puts class.LeftBracket b e = absurd cc
index_puts class.Backslash b e = absurd cc
index_puts class.Dollar b e = absurd cc
index_puts c b e = refl

context_puts : (l : Level) (s : Context) (c : Class) (b : ℕ) → is_text s c ≡ true → in_context l s c b ≡ puts b (In s)
context_puts l Bare c b e = bare_puts l c b e
context_puts l Quoted c b e = quoted_puts c b e
context_puts l Index c b e = index_puts c b e
context_puts l Alone c b e = absurd cc

-- one byte more of a run's text
add_more : (text : List ℕ) (from i : ℕ) (d : Draft) → from ≤ i → i < length text → add (get_or text i 0 ∷ []) (add (slice_range text from i) d) ≡ add (slice_range text from (i + 1)) d
add_more text from i d le lt = ap (λ t. record d { text = t }) (append_assoc d.text (slice_range text from i) (get_or text i 0 ∷ []) ∙ ap (λ t. d.text ++ t) (sym (between_more text from i 0 le lt)))

commented_more : (text : List ℕ) (from i : ℕ) (os : List Opener) (d : Draft) → from ≤ i → i < length text → commented os (get_or text i 0 ∷ []) (commented os (slice_range text from i) d) ≡ commented os (slice_range text from (i + 1)) d
commented_more text from i [] d le lt = refl
commented_more text from i (o ∷ os) d le lt = add_more text from i d le lt

-- a run of a braced word, from a place to another, with n braces open at first and then m
abbrev pub BracedTo : List ℕ → ℕ → ℕ → ℕ → ℕ → Type 0
BracedTo text from n to m = (os : List Opener) (d : Draft) → Reaches text from (in_mode Braced n os d) to (in_mode Braced m os (add (slice_range text from to) d))

braced_step : (text : List ℕ) (from n i m k : ℕ) → BracedTo text from n i m → i < length text → ((l : Level) (os : List Opener) (d : Draft) → step l (in_mode Braced m os d) (get_or text i 0) ≡ Go (in_mode Braced k os (add (get_or text i 0 ∷ []) d))) → BracedTo text from n (i + 1) k
braced_step text from n i m k h lt e = λ os d.
    let run = h os d in
    subst (λ x. Reaches text from (in_mode Braced n os d) (i + 1) (in_mode Braced k os x)) (add_more text from i d run.onward lt)
    (reaches_more text from (in_mode Braced n os d) i (in_mode Braced m os (add (slice_range text from i) d)) _ run lt (λ l. e l os (add (slice_range text from i) d)))

braced_plain : (text : List ℕ) (from n i m : ℕ) (c : Class) → BracedTo text from n i m → i < length text → c ≡ class_of (get_or text i 0) → plain_braced c ≡ true → BracedTo text from n (i + 1) m
unfolding transition
braced_plain text from n i m c h lt e plain = braced_step text from n i m m h lt
    (λ l os d. puts_goes l m os d (get_or text i 0) Braced Braced (braced_puts (nat_lt 0 m) (class_of (get_or text i 0)) (get_or text i 0) (ap plain_braced (sym e) ∙ plain)))

braced_open : (text : List ℕ) (from n i m : ℕ) → BracedTo text from n i m → i < length text → class.Open ≡ class_of (get_or text i 0) → BracedTo text from n (i + 1) (m + 1)
unfolding transition
braced_open text from n i m h lt e = braced_step text from n i m (m + 1) h lt
    (λ l os d. deeper_goes l m os d (get_or text i 0) (ap (λ c. in_braced (nat_lt 0 m) c (get_or text i 0)) (sym e)))

braced_close : (text : List ℕ) (from n i m : ℕ) → BracedTo text from n i m → i < length text → class.Close ≡ class_of (get_or text i 0) → nat_lt 0 m ≡ true → BracedTo text from n (i + 1) (m - 1)
unfolding transition
braced_close text from n i m h lt e some = braced_step text from n i m (m - 1) h lt
    (λ l os d. shallower_goes l m os d (get_or text i 0) (ap (λ c. in_braced (nat_lt 0 m) c (get_or text i 0)) (sym e) ∙ ap (λ x. in_braced x class.Close (get_or text i 0)) some))

braced_byte : (text : List ℕ) (from n i k m : ℕ) (c : Class) → BracedTo text from n i k → i < length text → c ≡ class_of (get_or text i 0) → Continues c k m → BracedTo text from n (i + 1) m
braced_byte text from n i k m class.Backslash h lt e x = absurd x
braced_byte text from n i k m class.Open h lt e x = subst (BracedTo text from n (i + 1)) (sym x) (braced_open text from n i k h lt e)
braced_byte text from n i k m class.Close h lt e x =
    let back : k - 1 ≡ m = omega (arith, x) in
    subst (BracedTo text from n (i + 1)) back (braced_close text from n i k h lt e (lt-ltb 0 k (omega (arith, x))))
braced_byte text from n i k m c h lt e x = subst (BracedTo text from n (i + 1)) (sym x) (braced_plain text from n i k c h lt e refl)

no_braced_bytes : (text : List ℕ) (from n : ℕ) → from ≤ length text → BracedTo text from n from n
no_braced_bytes text from n le = λ os d. record {
  onward = omega arith;
  within = le;
  deep = omega arith;
  reads = λ l. ap (λ x. read l (drop from text) (in_mode Braced n os (record d { text = x })) from) (sym (append-nil d.text) ∙ ap (λ x. d.text ++ x) (sym (between_none text from)));
}

braced_bytes : (text : List ℕ) (from n count m : ℕ) → from + count ≤ length text → IsBracedRun text from n count m → BracedTo text from n (from + count) m
braced_bytes text from n zero m le e =
    let here : from ≡ from + zero = omega arith in
    subst (λ i. BracedTo text from n i m) here (subst (BracedTo text from n from) (sym e) (no_braced_bytes text from n (omega (arith, le))))
braced_bytes text from n (suc count) m le (k, run, x) =
    let behind : from + count + 1 ≡ from + suc count = omega arith in
    subst (λ i. BracedTo text from n i m) behind (braced_byte text from n (from + count) k m (class_of (get_or text (from + count) 0)) (braced_bytes text from n count k (omega (arith, le)) run) (omega (arith, le)) refl x)

pub braced_to : (text : List ℕ) (from n to m : ℕ) → from ≤ to → to ≤ length text → IsBracedRun text from n (to - from) m → BracedTo text from n to m
braced_to text from n to m le within run =
    let there : from + (to - from) ≡ to = omega (arith, le) in
    subst (λ i. BracedTo text from n i m) there (braced_bytes text from n (to - from) m (omega (arith, le, within)) run)

-- a run of text, and of a comment
abbrev pub TextTo : List ℕ → Context → ℕ → ℕ → Type 0
TextTo text s from to = (n : ℕ) (os : List Opener) (d : Draft) → Reaches text from (in_mode (In s) n os d) to (in_mode (In s) n os (add (slice_range text from to) d))

pub text_more : (text : List ℕ) (s : Context) (from i : ℕ) → TextTo text s from i → i < length text → is_text s (class_of (get_or text i 0)) ≡ true → TextTo text s from (i + 1)
unfolding transition
text_more text s from i h lt plain = λ n os d.
    let run = h n os d in
    subst (λ x. Reaches text from (in_mode (In s) n os d) (i + 1) (in_mode (In s) n os x)) (add_more text from i d run.onward lt)
    (reaches_more text from (in_mode (In s) n os d) i (in_mode (In s) n os (add (slice_range text from i) d)) _ run lt
    (λ l. puts_goes l n os (add (slice_range text from i) d) (get_or text i 0) (In s) (In s) (context_puts (level_in l os) s (class_of (get_or text i 0)) (get_or text i 0) plain)))

abbrev pub CommentTo : List ℕ → ℕ → ℕ → Type 0
CommentTo text from to = (n : ℕ) (os : List Opener) (d : Draft) → Reaches text from (in_mode Comment n os d) to (in_mode Comment n os (commented os (slice_range text from to) d))

pub comment_more : (text : List ℕ) (from i : ℕ) → CommentTo text from i → i < length text → is_comment (class_of (get_or text i 0)) ≡ true → CommentTo text from (i + 1)
unfolding transition
comment_more text from i h lt plain = λ n os d.
    let run = h n os d in
    subst (λ x. Reaches text from (in_mode Comment n os d) (i + 1) (in_mode Comment n os x)) (commented_more text from i os d run.onward lt)
    (reaches_more text from (in_mode Comment n os d) i (in_mode Comment n os (commented os (slice_range text from i) d)) _ run lt
    (λ l. comment_goes l n os (commented os (slice_range text from i) d) (get_or text i 0) (comment_stays (class_of (get_or text i 0)) plain)))

-- the run that a state passes over
pub run_passes : (text : List ℕ) (from to : ℕ) (old : State) (m k : Mode) (n e : ℕ) (os : List Opener) (d x y : Draft) → m ≡ k → in_mode m n os d ≡ old → y ≡ x → Reaches text from (in_mode k n os d) to (in_mode k e os x) → Reaches text from old to (in_mode m e os y)
run_passes text from to old m k n e os d x y mode view draft run =
    subst (λ s. Reaches text from s to (in_mode m e os y)) (ap (λ j. in_mode j n os d) (sym mode) ∙ view)
    (subst (λ s. Reaches text from (in_mode k n os d) to s) (ap (λ j. in_mode j e os x) (sym mode) ∙ ap (in_mode m e os) (sym draft)) run)

pub commented_outside : (os : List Opener) (t : List ℕ) (d : Draft) → is_none os ≡ true → d ≡ commented os t d
commented_outside [] t d e = refl
commented_outside (o ∷ os) t d e = absurd cc

pub commented_inside : (os : List Opener) (t : List ℕ) (d : Draft) → is_none os ≡ false → add t d ≡ commented os t d
commented_inside [] t d e = absurd cc
commented_inside (o ∷ os) t d e = refl
