-- What tries of patterns have compared, and what is remembered of them.
use Rattle.std.proofs.Common.{◌≡◌, ℕ, zero, suc, ◌+◌, ◌<◌, ◌≤◌, List, [], ◌∷◌, Result, Ok, Err, length, take, get_or, refl, sym, ap, ap₂, ◌∙◌, arith}
use Rattle.std.specs.Prelude.{OnOk}
use Rattle.dg_match.specs.Held.{Held}
use Rattle.dg_match.specs.Searches.{compared_by, searched, sought}
use Rattle.dg_match.specs.declared.starts.Sought.{Sought}
use Rattle.dg_match.specs.declared.starts.Sought.TheVariants.{Text}
use Rattle.dg_match.specs.declared.pattern.Pattern.TheVariants.{Regex}
use Rattle.dg_match.specs.Tries.{AreTried, all_tried, counted, known, once_sought, once_tried, remembered}
use Rattle.dg_match.specs.declared.starts.Progress.{Progress}
use Rattle.dg_match.specs.declared.pattern.Pattern.{Pattern}
use Rattle.dg_match.proofs.StartLemmas.{remembered_length}

-- one pattern more was tried
more_tried : (j i : ℕ) (patterns : List Pattern) (d : Pattern) (h : Held) → i < length patterns →
    all_tried j (take (suc i) patterns) h ≡ once_tried (j + i) (get_or patterns i d) (all_tried j (take i patterns) h)
unfolding all_tried
more_tried j i [] d h low = absurd (omega arith)
more_tried j zero (p ∷ patterns) d h low = let e : j ≡ j + 0 = omega arith in ap (λ (n : ℕ). once_tried n p h) e
more_tried j (suc i) (p ∷ patterns) d h low =
    let e : j + 1 + i ≡ j + suc i = omega arith in
    more_tried (j + 1) i patterns d (once_tried j p h) (omega arith)
    ∙ ap (λ (n : ℕ). once_tried n (get_or patterns i d) (all_tried (j + 1) (take i patterns) (once_tried j p h))) e

pub tried_step : (i : ℕ) (patterns : List Pattern) (p : Pattern) (h so_far new : Held) → i < length patterns → p ≡ get_or patterns i p →
    so_far ≡ all_tried 0 (take i patterns) h → new ≡ once_tried i p so_far → new ≡ all_tried 0 (take (i + 1) patterns) h
tried_step i patterns p h so_far new low at so e =
    let zero_and : 0 + i ≡ i = omega arith in
    let more : i + 1 ≡ suc i = omega arith in
    e ∙ (ap₂ (λ (q : Pattern) (g : Held). once_tried i q g) at so
    ∙ (ap (λ (n : ℕ). once_tried n (get_or patterns i p) (all_tried 0 (take i patterns) h)) (sym zero_and)
    ∙ (sym (more_tried 0 i patterns p h low) ∙ ap (λ (n : ℕ). all_tried 0 (take n patterns) h) (sym more))))

-- and what is remembered of it has its place
pub tried_length : (i : ℕ) (p : Pattern) (so_far new : Held) → i ≤ length so_far.starts → new ≡ once_tried i p so_far → i + 1 ≤ length new.starts
unfolding once_tried
tried_length i p so_far new low e =
    let s : Progress = searched so_far.bytes (known i (sought p) so_far.starts) in
    let same : length new.starts ≡ length (remembered i s so_far.starts) = ap (λ (h : Held). length h.starts) e in
    let more : i + 1 ≤ length (remembered i s so_far.starts) = remembered_length i s so_far.starts low in
    omega arith

-- no pattern was tried yet
pub none_tried : (h : Held) → h ≡ all_tried 0 [] h
unfolding all_tried
none_tried h = refl

-- the buffer once it was searched, and what was compared is counted
pub sought_once : (i : ℕ) (k : Sought) (h middle new : Held) (n : ℕ) → middle ≡ record h { starts = remembered i (searched h.bytes (known i k h.starts)) h.starts } →
    n ≡ compared_by h.bytes (known i k h.starts) → new ≡ record middle { compared = counted (middle.compared + n) } → new ≡ once_sought i k h
sought_once i k h middle new n is count e = e ∙ ap₂ (λ (m : Held) (c : ℕ). record m { compared = counted (m.compared + c) }) is count

pub regex_tried : (i : ℕ) (text : List ℕ) (h new : Held) → new ≡ once_sought i (Text []) h → new ≡ once_tried i (Regex text) h
unfolding once_tried
regex_tried i text h new e = e

-- so is a pattern tried
pub tried_ok : {A E : Type 0} (r : Result A E) (i : ℕ) (p : Pattern) (h new : Held) → OnOk r (new ≡ once_sought i (sought p) h) → OnOk r (new ≡ once_tried i p h)
unfolding once_tried
tried_ok (Ok a) i p h new e = e
tried_ok (Err f) i p h new e = e

pub some_tried : (i : ℕ) (patterns : List Pattern) (h new : Held) → new ≡ all_tried 0 (take i patterns) h → AreTried patterns h new
some_tried i patterns h new e = record { count = i; tried = e }
