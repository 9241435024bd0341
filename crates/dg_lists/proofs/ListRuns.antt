-- Reading of a list goes on over a run of bytes that only add to the element that is open.
use Rattle.std.specs.Prelude.{◌≡◌, ℕ, zero, suc, ◌+◌, ◌-◌, ◌≤◌, ◌<◌, List, [], ◌∷◌, ◌++◌, length, drop, get_or, refl, Bool, true, false, nat_lt, Ok}
use Rattle.std.specs.List.{slice_range}
use Rattle.std.proofs.Common.{◌∙◌, ap, sym, arith, subst, append_assoc, append-nil, lt-ltb}
use Rattle.std.proofs.lemmas.List.Edits.{between_more, between_none}
use Rattle.dg_lists.specs.declared.kinds.Class.{Class}
use Rattle.dg_lists.specs.declared.kinds.Class.TheVariants as class
use Rattle.dg_lists.specs.declared.kinds.Effect.TheVariants as effect
use Rattle.dg_lists.specs.declared.kinds.Mode.{Mode}
use Rattle.dg_lists.specs.declared.kinds.Mode.TheVariants.{In, Braced}
use Rattle.dg_lists.specs.declared.kinds.Target.TheVariants as target
use Rattle.dg_lists.specs.declared.kinds.Context.{Context}
use Rattle.dg_lists.specs.declared.kinds.Context.TheVariants.{Bare, Quoted, Index, Alone}
use Rattle.dg_lists.specs.declared.kinds.Transition.{Transition}
use Rattle.dg_lists.specs.Classes.{class_of}
use Rattle.dg_lists.specs.Transitions.{does, puts}
use Rattle.dg_lists.specs.Elements.{Listing, list_bare, list_braced, list_effect, list_follow, list_quoted, list_read, list_context, list_step, list_transition}
use Rattle.dg_lists.specs.Braces.{Continues, IsBracedRun}
use Rattle.dg_lists.specs.Grammar.Lists.{plain_braced}
use Rattle.dg_lists.specs.ListRuns.{Passes, in_list, is_element_text}
use Rattle.dg_lists.proofs.Listing.{list_move, step_depth}

-- one byte further
passes_more : (text : List ℕ) (from : ℕ) (old : Listing) (i : ℕ) (n m : Listing) → Passes text from old i n → i < length text → list_step n (get_or text i 0) ≡ Ok m → Passes text from old (i + 1) m
passes_more text from old i n m h lt e =
    let falls = step_depth n m (get_or text i 0) e in
    let before = h.onward in
    let deep = h.deep in
    record {
      onward = omega arith;
      within = omega arith;
      deep = omega arith;
      reads = h.reads ∙ list_move text n i (Ok m) lt e;
    }

-- a byte that is put, and a brace within
puts_on : (n : ℕ) (xs : List (List ℕ)) (t : List ℕ) (b : ℕ) (m k : Mode) → list_transition (nat_lt 0 n) m (class_of b) b ≡ puts b k → list_step (in_list m n xs t) b ≡ Ok (in_list k n xs (t ++ b ∷ []))
unfolding list_step
puts_on n xs t b m k e = ap (λ (x : Transition). list_follow x.next (list_effect x.second (list_effect x.first (in_list m n xs t)))) e

deeper_on : (n : ℕ) (xs : List (List ℕ)) (t : List ℕ) (b : ℕ) → list_transition (nat_lt 0 n) Braced (class_of b) b ≡ does (effect.Byte b) target.Deeper → list_step (in_list Braced n xs t) b ≡ Ok (in_list Braced (n + 1) xs (t ++ b ∷ []))
unfolding list_step
deeper_on n xs t b e = ap (λ (x : Transition). list_follow x.next (list_effect x.second (list_effect x.first (in_list Braced n xs t)))) e

shallower_on : (n : ℕ) (xs : List (List ℕ)) (t : List ℕ) (b : ℕ) → list_transition (nat_lt 0 n) Braced (class_of b) b ≡ does (effect.Byte b) target.Shallower → list_step (in_list Braced n xs t) b ≡ Ok (in_list Braced (n - 1) xs (t ++ b ∷ []))
unfolding list_step
shallower_on n xs t b e = ap (λ (x : Transition). list_follow x.next (list_effect x.second (list_effect x.first (in_list Braced n xs t)))) e

-- what the bytes of a run make
braced_puts : (x : Bool) (c : Class) (b : ℕ) → plain_braced c ≡ true → list_braced x c b ≡ puts b Braced
braced_puts true class.Open b e = absurd cc
braced_puts true class.Close b e = absurd cc
braced_puts true class.Backslash b e = absurd cc
braced_puts true c b e = refl
braced_puts false class.Open b e = absurd cc
braced_puts false class.Close b e = absurd cc
braced_puts false class.Backslash b e = absurd cc
braced_puts false c b e = refl

quoted_puts : (c : Class) (b : ℕ) → is_element_text Quoted c ≡ true → list_quoted c b ≡ puts b (In Quoted)
quoted_puts class.Quote b e = absurd cc
quoted_puts class.Backslash b e = absurd cc
quoted_puts c b e = refl

bare_puts : (c : Class) (b : ℕ) → is_element_text Bare c ≡ true → list_bare c b ≡ puts b (In Bare)
bare_puts class.Blank b e = absurd cc
bare_puts class.Newline b e = absurd cc
bare_puts class.Backslash b e = absurd cc
bare_puts c b e = refl

context_puts : (s : Context) (c : Class) (b : ℕ) → is_element_text s c ≡ true → list_context s c b ≡ puts b (In s)
context_puts Bare c b e = bare_puts c b e
context_puts Quoted c b e = quoted_puts c b e
context_puts Index c b e = absurd cc
context_puts Alone c b e = absurd cc

-- one byte more of a run's text
more_text : (text : List ℕ) (from i : ℕ) (t : List ℕ) → from ≤ i → i < length text → (t ++ slice_range text from i) ++ get_or text i 0 ∷ [] ≡ t ++ slice_range text from (i + 1)
more_text text from i t le lt = append_assoc t (slice_range text from i) (get_or text i 0 ∷ []) ∙ ap (λ x. t ++ x) (sym (between_more text from i 0 le lt))

-- a run of a braced element, from a place to another, with n braces open at first and then m
abbrev pub BracedOn : List ℕ → ℕ → ℕ → ℕ → ℕ → Type 0
BracedOn text from n to m = (xs : List (List ℕ)) (t : List ℕ) → Passes text from (in_list Braced n xs t) to (in_list Braced m xs (t ++ slice_range text from to))

on_step : (text : List ℕ) (from n i m k : ℕ) → BracedOn text from n i m → i < length text → ((xs : List (List ℕ)) (t : List ℕ) → list_step (in_list Braced m xs t) (get_or text i 0) ≡ Ok (in_list Braced k xs (t ++ get_or text i 0 ∷ []))) → BracedOn text from n (i + 1) k
on_step text from n i m k h lt e = λ xs t.
    let run = h xs t in
    subst (λ x. Passes text from (in_list Braced n xs t) (i + 1) (in_list Braced k xs x)) (more_text text from i t run.onward lt)
    (passes_more text from (in_list Braced n xs t) i (in_list Braced m xs (t ++ slice_range text from i)) _ run lt (e xs (t ++ slice_range text from i)))

on_plain : (text : List ℕ) (from n i m : ℕ) (c : Class) → BracedOn text from n i m → i < length text → c ≡ class_of (get_or text i 0) → plain_braced c ≡ true → BracedOn text from n (i + 1) m
unfolding list_transition
on_plain text from n i m c h lt e plain = on_step text from n i m m h lt
    (λ xs t. puts_on m xs t (get_or text i 0) Braced Braced (braced_puts (nat_lt 0 m) (class_of (get_or text i 0)) (get_or text i 0) (ap plain_braced (sym e) ∙ plain)))

on_open : (text : List ℕ) (from n i m : ℕ) → BracedOn text from n i m → i < length text → class.Open ≡ class_of (get_or text i 0) → BracedOn text from n (i + 1) (m + 1)
unfolding list_transition
on_open text from n i m h lt e = on_step text from n i m (m + 1) h lt
    (λ xs t. deeper_on m xs t (get_or text i 0) (ap (λ c. list_braced (nat_lt 0 m) c (get_or text i 0)) (sym e)))

on_close : (text : List ℕ) (from n i m : ℕ) → BracedOn text from n i m → i < length text → class.Close ≡ class_of (get_or text i 0) → nat_lt 0 m ≡ true → BracedOn text from n (i + 1) (m - 1)
unfolding list_transition
on_close text from n i m h lt e some = on_step text from n i m (m - 1) h lt
    (λ xs t. shallower_on m xs t (get_or text i 0) (ap (λ c. list_braced (nat_lt 0 m) c (get_or text i 0)) (sym e) ∙ ap (λ x. list_braced x class.Close (get_or text i 0)) some))

on_byte : (text : List ℕ) (from n i k m : ℕ) (c : Class) → BracedOn text from n i k → i < length text → c ≡ class_of (get_or text i 0) → Continues c k m → BracedOn text from n (i + 1) m
on_byte text from n i k m class.Backslash h lt e x = absurd x
on_byte text from n i k m class.Open h lt e x = subst (BracedOn text from n (i + 1)) (sym x) (on_open text from n i k h lt e)
on_byte text from n i k m class.Close h lt e x =
    let back : k - 1 ≡ m = omega (arith, x) in
    subst (BracedOn text from n (i + 1)) back (on_close text from n i k h lt e (lt-ltb 0 k (omega (arith, x))))
on_byte text from n i k m c h lt e x = subst (BracedOn text from n (i + 1)) (sym x) (on_plain text from n i k c h lt e refl)

no_bytes_on : (text : List ℕ) (from n : ℕ) → from ≤ length text → BracedOn text from n from n
no_bytes_on text from n le = λ xs t. record {
  onward = omega arith;
  within = le;
  deep = omega arith;
  reads = ap (λ x. list_read (drop from text) (in_list Braced n xs x) from) (sym (append-nil t) ∙ ap (λ x. t ++ x) (sym (between_none text from)));
}

bytes_on : (text : List ℕ) (from n count m : ℕ) → from + count ≤ length text → IsBracedRun text from n count m → BracedOn text from n (from + count) m
bytes_on text from n zero m le e =
    let here : from ≡ from + zero = omega arith in
    subst (λ i. BracedOn text from n i m) here (subst (BracedOn text from n from) (sym e) (no_bytes_on text from n (omega (arith, le))))
bytes_on text from n (suc count) m le (k, run, x) =
    let behind : from + count + 1 ≡ from + suc count = omega arith in
    subst (λ i. BracedOn text from n i m) behind (on_byte text from n (from + count) k m (class_of (get_or text (from + count) 0)) (bytes_on text from n count k (omega (arith, le)) run) (omega (arith, le)) refl x)

pub braced_on : (text : List ℕ) (from n to m : ℕ) → from ≤ to → to ≤ length text → IsBracedRun text from n (to - from) m → BracedOn text from n to m
braced_on text from n to m le within run =
    let there : from + (to - from) ≡ to = omega (arith, le) in
    subst (λ i. BracedOn text from n i m) there (bytes_on text from n (to - from) m (omega (arith, le, within)) run)

-- a run of a bare or a quoted element
abbrev pub ElementOn : List ℕ → Context → ℕ → ℕ → Type 0
ElementOn text s from to = (n : ℕ) (xs : List (List ℕ)) (t : List ℕ) → Passes text from (in_list (In s) n xs t) to (in_list (In s) n xs (t ++ slice_range text from to))

pub element_more : (text : List ℕ) (s : Context) (from i : ℕ) → ElementOn text s from i → i < length text → is_element_text s (class_of (get_or text i 0)) ≡ true → ElementOn text s from (i + 1)
unfolding list_transition
element_more text s from i h lt plain = λ n xs t.
    let run = h n xs t in
    subst (λ x. Passes text from (in_list (In s) n xs t) (i + 1) (in_list (In s) n xs x)) (more_text text from i t run.onward lt)
    (passes_more text from (in_list (In s) n xs t) i (in_list (In s) n xs (t ++ slice_range text from i)) _ run lt
    (puts_on n xs (t ++ slice_range text from i) (get_or text i 0) (In s) (In s) (context_puts s (class_of (get_or text i 0)) (get_or text i 0) plain)))

-- the run that a list passes over
pub run_on : (text : List ℕ) (from to : ℕ) (old : Listing) (m k : Mode) (n e : ℕ) (xs : List (List ℕ)) (t x y : List ℕ) → m ≡ k → in_list m n xs t ≡ old → y ≡ x → Passes text from (in_list k n xs t) to (in_list k e xs x) → Passes text from old to (in_list m e xs y)
run_on text from to old m k n e xs t x y mode view more run =
    subst (λ s. Passes text from s to (in_list m e xs y)) (ap (λ j. in_list j n xs t) (sym mode) ∙ view)
    (subst (λ s. Passes text from (in_list k n xs t) to s) (ap (λ j. in_list j e xs x) (sym mode) ∙ ap (in_list m e xs) (sym more)) run)
