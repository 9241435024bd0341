-- Counts of lists that follow one another.
use Rattle.std.proofs.Common.{◌≡◌, ◌∙◌, sym, ◌+◌, ◌<◌, ◌≤◌, ◌^◌, ap, ℕ, List, ◌++◌, length, length-append, take, get_or, arith, refl}
use Rattle.std.specs.List.{flat_map}
use Rattle.std.proofs.lemmas.List.Sums.{count_by-le-length}
use Rattle.std.proofs.lemmas.Grind.{common_steps}
use Rattle.dg_results.specs.Tally.{count_of, is_class, tally_of, sum_of, FitTogether}
use Rattle.dg_results.specs.declared.verdict.Line.{Line}
use Rattle.dg_results.specs.declared.verdict.Tally.{Tally}
use Rattle.dg_results.specs.declared.class.Class.{Class}
use Rattle.dg_sum.proofs.TextLemmas.{then}
use Rattle.dg_sum.proofs.LengthLemmas.{longer}
use Rattle.dg_results.specs.declared.class.Class.TheVariants.{Pass, Fail, XPass, XFail, KPass, KFail, Unresolved, Untested, Unsupported}

count_of-append : (c : Class) (xs ys : List Line) → count_of c (xs ++ ys) ≡ count_of c xs + count_of c ys
count_of-append c xs ys = grind (arith, common_steps)

-- the counts of two lists are the counts of both together
tally_both : (xs ys : List Line) → tally_of (xs ++ ys) ≡ sum_of (tally_of xs) (tally_of ys)
unfolding tally_of sum_of
tally_both xs ys =
    rw (count_of-append Pass xs ys, count_of-append Fail xs ys, count_of-append XPass xs ys, count_of-append XFail xs ys, count_of-append KPass xs ys, count_of-append KFail xs ys, count_of-append Unresolved xs ys, count_of-append Untested xs ys, count_of-append Unsupported xs ys) refl

fits : (c : Class) (xs ys : List Line) → length xs + length ys < 2 ^ 64 → count_of c xs + count_of c ys < 2 ^ 64
fits c xs ys h = omega (arith, count_by-le-length (λ (l : Line). is_class c l.class) xs, count_by-le-length (λ (l : Line). is_class c l.class) ys)

tally_fits : (xs ys : List Line) → length xs + length ys < 2 ^ 64 → FitTogether (tally_of xs) (tally_of ys)
unfolding tally_of
tally_fits xs ys h = record {
  passes = fits Pass xs ys h;
  failures = fits Fail xs ys h;
  unexpected_successes = fits XPass xs ys h;
  expected_failures = fits XFail xs ys h;
  unknown_successes = fits KPass xs ys h;
  known_failures = fits KFail xs ys h;
  unresolved = fits Unresolved xs ys h;
  untested = fits Untested xs ys h;
  unsupported = fits Unsupported xs ys h;
}

-- the counts of the items so far and of the next one can be added, where each item's text is no shorter than its lines
pub next_fits : {X : Type 0} (f : X → List Line) (g : X → List ℕ) → ((y : X) → length (f y) ≤ length (g y)) → (xs : List X) (i : ℕ) (x : X) (t m : Tally) (start before after : List ℕ)
    → before ≡ start ++ flat_map g (take i xs) → after ≡ before ++ g x → length after < 2 ^ 64 → t ≡ tally_of (flat_map f (take i xs)) → m ≡ tally_of (f x) → FitTogether t m
next_fits f g each xs i x t m start before after first second fits so_far more =
    let few : length (flat_map f (take i xs)) + length (f x) < 2 ^ 64 =
    omega (arith, longer f g each (take i xs), each x, ap length first, ap length second, length-append start (flat_map g (take i xs)), length-append before (g x), fits) in
    rw (so_far, more) (tally_fits (flat_map f (take i xs)) (f x) few)

-- the items so far and the next one
pub flat_map_next : {X A : Type 0} (f : X → List A) (xs : List X) (i : ℕ) (x : X) → i < length xs → x ≡ get_or xs i x → flat_map f (take (i + 1) xs) ≡ flat_map f (take i xs) ++ f x
flat_map_next f xs i x lt is = grind (arith, common_steps)

-- the texts of the items so far and of the next one
pub next_text : {X : Type 0} (g : X → List ℕ) (xs : List X) (i : ℕ) (x : X) (start before after : List ℕ) → i < length xs → x ≡ get_or xs i x
    → before ≡ start ++ flat_map g (take i xs) → after ≡ before ++ g x → after ≡ start ++ flat_map g (take (i + 1) xs)
next_text g xs i x start before after lt is first second =
    then start before after (flat_map g (take i xs)) (g x) second first ∙ ap (λ t. start ++ t) (sym (flat_map_next g xs i x lt is))

-- the counts of the items so far and of the next one
pub next_tally : {X : Type 0} (f : X → List Line) (xs : List X) (i : ℕ) (x : X) (t m r : Tally) → i < length xs → x ≡ get_or xs i x → t ≡ tally_of (flat_map f (take i xs)) → m ≡ tally_of (f x) → r ≡ sum_of t m → r ≡ tally_of (flat_map f (take (i + 1) xs))
next_tally f xs i x t m r lt is so_far more both =
    let added : sum_of t m ≡ sum_of (tally_of (flat_map f (take i xs))) (tally_of (f x)) = ap (λ a. sum_of a m) so_far ∙ ap (sum_of (tally_of (flat_map f (take i xs)))) more in
    both ∙ added ∙ sym (tally_both (flat_map f (take i xs)) (f x)) ∙ ap tally_of (sym (flat_map_next f xs i x lt is))
