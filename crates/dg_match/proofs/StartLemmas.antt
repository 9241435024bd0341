-- What is remembered of starts, as the buffer changes.
use Rattle.std.proofs.Common.{◌≡◌, ⊎_elim, ℕ, zero, suc, ◌+◌, ◌-◌, ◌≤◌, ◌<◌, List, [], ◌∷◌, ◌++◌, Bool, true, false, cond, refl, length, take, drop, get_or, set, subst, sym, ap, ap₂, ◌∙◌, map, arith, append-nil}
use Rattle.std.proofs.lemmas.List.{take_all, drop_all, get_or_default}
use Rattle.std.proofs.lemmas.List.Edits.{map_over_more}
use Rattle.std.proofs.lemmas.List.Elements.{All-map, All-push, All-set, All-weaker, All-get_or}
use Rattle.std.proofs.lemmas.Bool.{cases_lt, cond-true, cond-false}
use Rattle.std.specs.Cmp.Lexicographic.{bytes_decides}
use Rattle.dg_glob.proofs.PartLemmas.{trail_begins, trail_cut, trail_more}
use Rattle.dg_match.specs.Held.{later}
use Rattle.dg_match.specs.Searches.{is_same_sought, nothing_known, searched}
use Rattle.dg_match.specs.Tries.{known, remembered}
use Rattle.dg_match.specs.declared.starts.Sought.{Sought}
use Rattle.dg_match.specs.declared.starts.Sought.TheVariants.{Text, Glob}
use Rattle.dg_match.specs.declared.starts.Progress.{Progress}
use Rattle.dg_match.specs.Starts.{IsOut, IsKept, AllKept}
use Rattle.dg_match.proofs.OccursLemmas.{none_passed, passed_cut, passed_more}

abbrev pub made : Sought → ℕ → ℕ → Progress
made k f p = record { sought = k; found = f; passed = p }

out_cut : (bytes : List ℕ) (n : ℕ) (k : Sought) (f p : ℕ) → n ≤ length bytes → IsOut bytes k f p → IsOut (drop n bytes) k f (p - n)
out_cut bytes n (Text t) f p h out = passed_cut t bytes p n h out
out_cut bytes n (Glob g) f p h out = trail_cut g f bytes p n h out

out_more : (bytes more : List ℕ) (k : Sought) (f p : ℕ) → IsOut bytes k f p → IsOut (bytes ++ more) k f p
out_more bytes more (Text t) f p out = passed_more t bytes more p out
out_more bytes more (Glob g) f p out = trail_more g f bytes more p out

-- where nothing is known, nothing is claimed
pub out_begins : (bytes : List ℕ) (k : Sought) → IsOut bytes k 0 0
out_begins bytes (Text t) = none_passed t bytes
out_begins bytes (Glob g) = trail_begins g bytes

pub all_later : (bytes : List ℕ) (n : ℕ) (starts : List Progress) → n ≤ length bytes → AllKept bytes starts → AllKept (drop n bytes) (map (later n) starts)
all_later bytes n starts h all =
    All-map (IsKept (drop n bytes)) (later n) starts (All-weaker (IsKept bytes) (λ s. IsKept (drop n bytes) (later n s)) (λ s p. out_cut bytes n s.sought s.found s.passed h p) starts all)

pub all_more : (bytes more : List ℕ) (starts : List Progress) → AllKept bytes starts → AllKept (bytes ++ more) starts
all_more bytes more starts all = All-weaker (IsKept bytes) (IsKept (bytes ++ more)) (λ s p. out_more bytes more s.sought s.found s.passed p) starts all

-- what is remembered for an index stands in the place of what was, or behind all
pub remembered_set : (i : ℕ) (s : Progress) (starts : List Progress) → i < length starts → set starts i s ≡ remembered i s starts
remembered_set i s [] low = absurd (omega arith)
remembered_set zero s (old ∷ starts) low = refl
remembered_set (suc i) s (old ∷ starts) low = ap (λ (r : List Progress). old ∷ r) (remembered_set i s starts (omega arith))

pub remembered_push : (i : ℕ) (s : Progress) (starts : List Progress) → length starts ≤ i → starts ++ s ∷ [] ≡ remembered i s starts
remembered_push i s [] high = refl
remembered_push zero s (old ∷ starts) high = absurd (omega arith)
remembered_push (suc i) s (old ∷ starts) high = ap (λ (r : List Progress). old ∷ r) (remembered_push i s starts (omega arith))

pub all_remembered : (bytes : List ℕ) (i : ℕ) (s : Progress) (starts : List Progress) → AllKept bytes starts → IsKept bytes s → AllKept bytes (remembered i s starts)
all_remembered bytes i s starts all here =
    ⊎_elim
    (λ low. subst (AllKept bytes) (remembered_set i s starts low) (All-set (IsKept bytes) starts i s here all))
    (λ high. subst (AllKept bytes) (remembered_push i s starts high) (All-push (IsKept bytes) starts s all here))
    (cases_lt i (length starts))

pub remembered_length : (i : ℕ) (s : Progress) (starts : List Progress) → i ≤ length starts → i + 1 ≤ length (remembered i s starts)
remembered_length i s [] low = omega arith
remembered_length zero s (old ∷ starts) low = omega arith
remembered_length (suc i) s (old ∷ starts) low = let more = remembered_length i s starts (omega arith) in omega arith

-- what is remembered of an index is what was put there last
pub remembered_at : (i : ℕ) (s d : Progress) (starts : List Progress) → i ≤ length starts → get_or (remembered i s starts) i d ≡ s
remembered_at zero s d [] low = refl
remembered_at (suc i) s d [] low = absurd (omega arith)
remembered_at zero s d (old ∷ starts) low = refl
remembered_at (suc i) s d (old ∷ starts) low = remembered_at i s d starts (omega arith)

pub remembered_twice : (i : ℕ) (s r : Progress) (starts : List Progress) → i ≤ length starts → remembered i s (remembered i r starts) ≡ remembered i s starts
remembered_twice zero s r [] low = refl
remembered_twice (suc i) s r [] low = absurd (omega arith)
remembered_twice zero s r (old ∷ starts) low = refl
remembered_twice (suc i) s r (old ∷ starts) low = ap (λ (ss : List Progress). old ∷ ss) (remembered_twice i s r starts (omega arith))

remembered_same : (i : ℕ) (d : Progress) (starts : List Progress) → i < length starts → remembered i (get_or starts i d) starts ≡ starts
remembered_same i d [] low = absurd (omega arith)
remembered_same zero d (s ∷ starts) low = refl
remembered_same (suc i) d (s ∷ starts) low = ap (λ (ss : List Progress). s ∷ ss) (remembered_same i d starts (omega arith))

-- what is known of an index is remembered there, if it was for the same
known_at : (i : ℕ) (k : Sought) (starts : List Progress) (d : Progress) → i < length starts →
    known i k starts ≡ cond (is_same_sought (get_or starts i d).sought k) (get_or starts i d) (nothing_known k)
known_at i k [] d low = absurd (omega arith)
known_at zero k (s ∷ starts) d low = refl
known_at (suc i) k (s ∷ starts) d low = known_at i k starts d (omega arith)

pub known_behind : (i : ℕ) (k : Sought) (items starts : List Progress) → length items ≤ i → items ≡ starts → known i k starts ≡ nothing_known k
known_behind i k items starts high same = sym (ap (known i k) same) ∙ known_none i k items high
  where
    known_none : (i : ℕ) (k : Sought) (starts : List Progress) → length starts ≤ i → known i k starts ≡ nothing_known k
    known_none i k [] high = refl
    known_none zero k (s ∷ starts) high = absurd (omega arith)
    known_none (suc i) k (s ∷ starts) high = known_none i k starts (omega arith)

pub known_hit : (i : ℕ) (k : Sought) (items starts : List Progress) (s : Progress) → i < length items → s ≡ get_or items i s → items ≡ starts →
    is_same_sought s.sought k ≡ true → remembered i (known i k starts) starts ≡ starts
known_hit i k items starts s low at same hit =
    let is : known i k items ≡ get_or items i s = known_at i k items s low ∙ cond-true _ _ _ (ap (λ (x : Progress). is_same_sought x.sought k) (sym at) ∙ hit) in
    sym (ap (λ (ss : List Progress). remembered i (known i k ss) ss) same) ∙ (ap (λ (x : Progress). remembered i x items) is ∙ (remembered_same i s items low ∙ same))

pub known_miss : (i : ℕ) (k : Sought) (items starts : List Progress) (s : Progress) → i < length items → s ≡ get_or items i s → items ≡ starts →
    is_same_sought s.sought k ≡ false → known i k starts ≡ nothing_known k
known_miss i k items starts s low at same miss =
    sym (ap (known i k) same) ∙ (known_at i k items s low ∙ cond-false _ _ _ (ap (λ (x : Progress). is_same_sought x.sought k) (sym at) ∙ miss))

same_is : (a b : Sought) → is_same_sought a b ≡ true → a ≡ b
same_is (Text a) (Text b) h = ap Text ((bytes_decides a b).0 h)
same_is (Text a) (Glob b) h = cc
same_is (Glob a) (Text b) h = cc
same_is (Glob a) (Glob b) h = ap Glob ((bytes_decides a b).0 h)

chosen_sought : (s : Progress) (k : Sought) (b : Bool) → is_same_sought s.sought k ≡ b → (cond b s (nothing_known k)).sought ≡ k
chosen_sought s k true h = same_is s.sought k h
chosen_sought s k false h = refl

pub known_sought : (i : ℕ) (k : Sought) (starts : List Progress) → (known i k starts).sought ≡ k
known_sought i k [] = refl
known_sought zero k (s ∷ starts) = chosen_sought s k (is_same_sought s.sought k) refl
known_sought (suc i) k (s ∷ starts) = known_sought i k starts

chosen_kept : (bytes : List ℕ) (s : Progress) (k : Sought) (b : Bool) → IsKept bytes s → IsKept bytes (cond b s (nothing_known k))
chosen_kept bytes s k true h = h
chosen_kept bytes s k false h = out_begins bytes k

-- and it is so
pub known_kept : (bytes : List ℕ) (i : ℕ) (k : Sought) (starts : List Progress) → AllKept bytes starts → IsKept bytes (known i k starts)
known_kept bytes i k starts all =
    ⊎_elim
    (λ low.
    let d : Progress = nothing_known k in
    subst (IsKept bytes) (sym (known_at i k starts d low))
    (chosen_kept bytes (get_or starts i d) k (is_same_sought (get_or starts i d).sought k) (All-get_or (IsKept bytes) starts i d low all)))
    (λ high. subst (IsKept bytes) (sym (known_behind i k starts starts high refl)) (out_begins bytes k))
    (cases_lt i (length starts))

pub at_known : (i : ℕ) (s : Progress) (starts now : List Progress) → i ≤ length starts → now ≡ remembered i s starts → s ≡ get_or now i s
at_known i s starts now low is = sym (ap (λ (ss : List Progress). get_or ss i s) is ∙ remembered_at i s s starts low)

-- what is remembered of an index once it was searched for
pub searched_at : (bytes : List ℕ) (i : ℕ) (items starts : List Progress) (x new : Progress) → i < length items → x ≡ get_or items i x → items ≡ starts → new ≡ searched bytes x →
    (s : Progress) → s ≡ get_or starts i s → set items i new ≡ remembered i (searched bytes s) starts
searched_at bytes i items starts x new low at same is s here =
    let one : x ≡ s = at ∙ (get_or_default items i x s low ∙ (ap (λ (ss : List Progress). get_or ss i s) same ∙ sym here)) in
    ap (set items i) (is ∙ ap (searched bytes) one) ∙ (remembered_set i (searched bytes s) items low ∙ ap (remembered i (searched bytes s)) same)

-- one start more has so many places fewer
pub cut_step : (n i : ℕ) (old now : List Progress) (x s : Progress) → i < length old → now ≡ map (later n) (take i old) ++ drop i old → x ≡ get_or now i x →
    s ≡ later n (get_or now i x) → set now i s ≡ map (later n) (take (i + 1) old) ++ drop (i + 1) old
cut_step n i old now x s low so at is = ap (set now i) (is ∙ ap (later n) (sym at)) ∙ map_over_more (later n) old now i x low so at

-- all have
pub cut_all : (n i : ℕ) (old now : List Progress) → length old ≤ i → now ≡ map (later n) (take i old) ++ drop i old → now ≡ map (later n) old
cut_all n i old now h so = so ∙ ap₂ (λ (a b : List Progress). map (later n) a ++ b) (take_all i old h) (drop_all i old h) ∙ append-nil (map (later n) old)

-- what was lent comes back whole
pub lent_back : (len : ℕ) (now items : List Progress) → length now ≡ length items → len ≡ length items → take len (now ++ drop (length now) items) ≡ now
lent_back len now items h e = ap (λ r. take len (now ++ r)) (drop_all (length now) items (omega arith)) ∙ ap (take len) (append-nil now) ∙ take_all len now (omega arith)
