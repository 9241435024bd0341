-- The search behind a `*`: the next text, the next `*`, and its end.
use Rattle.std.proofs.Common.{◌≡◌, ◌≤◌, ◌+◌, ◌-◌, ◌⊎◌, inl, inr, ⊎_elim, ℕ, zero, suc, min, Bool, true, IsTrue, List, [], ◌∷◌, ◌++◌, Option, Some, None, IfSome, is_some, length, take, drop, refl, sym, ap, ◌∙◌, subst, arith, append_assoc}
use Rattle.std.proofs.lemmas.List.{drop-drop, take-append-drop, drop_at, append-nil, length-append}
use Rattle.std.proofs.lemmas.Bool.{cases_lt}
use Rattle.dg_glob.specs.Glob.{Matches}
use Rattle.dg_glob.specs.Search.{Leaves, Ends, IsRun, IsLongest, IsAnswer, fewest, IsAtStar, IsSkipped, IsAhead}
use Rattle.dg_glob.proofs.LeavesLemmas.{leaves_star, star_leaves, leaves_all, all_left}

-- the rest of a text is no shorter than the best one so far
abbrev pub Covered : Option ℕ → List ℕ → Type 0
Covered None r = ⊥
Covered (Some n) r = n ≤ length r

-- A search for the longest match of a `*` and a pattern behind it has come to a pattern behind a `*` and a text.
pub record IsSearch (whole : Bool) (pattern text to_pattern to_text : List ℕ) (best : Option ℕ) : Type 0 where
  pub shorter : length to_pattern ≤ length pattern
  pub sound : (r : List ℕ) → Leaves (42 ∷ to_pattern) to_text r → Leaves (42 ∷ pattern) text r
  pub covers : (r : List ℕ) → Ends whole (42 ∷ pattern) text r → Covered best r ⊎ Leaves (42 ∷ to_pattern) to_text r
  pub found : (n : ℕ) → best ≡ Some n → (r : List ℕ) × Ends whole (42 ∷ pattern) text r × (length r ≡ n)

-- a star that matches at a place matches before it
pub star_wider : (p x y r : List ℕ) → Leaves (42 ∷ p) y r → Leaves (42 ∷ p) (x ++ y) r
star_wider p x y r l =
    let some = star_leaves p y r l in
    let wide = leaves_star p (x ++ some.front) some.back r some.leaves in
    let e : (x ++ some.front) ++ some.back ≡ x ++ y = append_assoc x some.front some.back ∙ ap (λ s. x ++ s) (sym some.split) in
    subst (λ s. Leaves (42 ∷ p) s r) e wide

pub star_here : (p t r : List ℕ) → Leaves p t r → Leaves (42 ∷ p) t r
star_here p t r l = leaves_star p [] t r l

pub star_next : (p : List ℕ) (c : ℕ) (t r : List ℕ) → Leaves (42 ∷ p) t r → Leaves (42 ∷ p) (c ∷ t) r
star_next p c t r l = star_wider p (c ∷ []) t r l

-- what is left of a text is left of what comes later in it
part_of_drop : (k : ℕ) (f b : List ℕ) → (w : List ℕ) × (drop k (f ++ b) ≡ w ++ drop k b)
part_of_drop k [] b = ([], refl)
part_of_drop zero (x ∷ f) b = (x ∷ f, refl)
part_of_drop (suc k) (x ∷ f) b =
    let h = part_of_drop k f b in
    let n : k + 1 ≡ suc k = omega arith in
    let e : drop 1 (drop k b) ≡ drop (suc k) b = drop-drop 1 k b ∙ ap (λ n. drop n b) n in
    (h.0 ++ take 1 (drop k b), h.1 ∙ ap (λ s. h.0 ++ s) (sym (take-append-drop 1 (drop k b)) ∙ ap (λ s. take 1 (drop k b) ++ s) e) ∙ sym (append_assoc h.0 (take 1 (drop k b)) (drop (suc k) b)))

-- a star in front of a pattern may take what the pattern matches nowhere
star_beyond : (p t : List ℕ) (n : ℕ) (r : List ℕ) → IsSkipped p t n → Leaves (42 ∷ p) t r → Leaves (42 ∷ p) (drop n t) r
star_beyond p t n r skipped l =
    let some = star_leaves p t r l in
    let back_is : drop (length some.front) t ≡ some.back = ap (drop (length some.front)) some.split ∙ drop_at some.front some.back (length some.front) refl in
    ⊎_elim
    (λ low. absurd (skipped (length some.front) low r (subst (λ y. Leaves p y r) (sym back_is) some.leaves)))
    (λ high.
    let m : n + (length some.front - n) ≡ length some.front = omega arith in
    let later : drop (length some.front - n) (drop n t) ≡ some.back = drop-drop (length some.front - n) n t ∙ ap (λ k. drop k t) m ∙ back_is in
    subst (λ y. Leaves (42 ∷ p) y r) (take-append-drop (length some.front - n) (drop n t)) (star_wider p (take (length some.front - n) (drop n t)) (drop (length some.front - n) (drop n t)) r (star_here p (drop (length some.front - n) (drop n t)) r (subst (λ y. Leaves p y r) (sym later) some.leaves))))
    (cases_lt (length some.front) n)

-- what a star leaves at a text or at its first byte
pub star_or_next : (p : List ℕ) (c : ℕ) (t r : List ℕ) → Leaves (42 ∷ p) (c ∷ t) r → Leaves p (c ∷ t) r ⊎ Leaves (42 ∷ p) t r
star_or_next p c t r l = let some = star_leaves p (c ∷ t) r l in go some.front some.back some.split some.leaves
  where
    go : (f b : List ℕ) → c ∷ t ≡ f ++ b → Leaves p b r → Leaves p (c ∷ t) r ⊎ Leaves (42 ∷ p) t r
    go [] b e m = inl (subst (λ s. Leaves p s r) (sym e) m)
    go (x ∷ f) b e m = inr (subst (λ s. Leaves (42 ∷ p) s r) (sym (let same : t ≡ f ++ b = cc in same)) (leaves_star p f b r m))

pub star_at_end : (p r : List ℕ) → Leaves (42 ∷ p) [] r → Leaves p [] r
star_at_end p r l = let some = star_leaves p [] r l in go some.front some.back some.split some.leaves
  where
    go : (f b : List ℕ) → [] ≡ f ++ b → Leaves p b r → Leaves p [] r
    go [] b e m = subst (λ s. Leaves p s r) (sym e) m
    go (x ∷ f) b e m = absurd (cc)

-- the least of two answers
covered_one : (b o : Option ℕ) (r : List ℕ) → Covered b r → Covered (fewest b o) r
covered_one None o r h = absurd h
covered_one (Some n) None r h = h
covered_one (Some n) (Some m) r h = omega arith

covered_other : (b o : Option ℕ) (r : List ℕ) → Covered o r → Covered (fewest b o) r
covered_other None o r h = h
covered_other (Some n) None r h = absurd h
covered_other (Some n) (Some m) r h = omega arith

abbrev Found : Bool → List ℕ → List ℕ → ℕ → Type 0
Found whole p t n = (r : List ℕ) × Ends whole p t r × (length r ≡ n)

min_cases : (n m k : ℕ) → min n m ≡ k → (n ≡ k) ⊎ (m ≡ k)
min_cases n m k e = grind arith

found_fewest : (whole : Bool) (p t : List ℕ) (b o : Option ℕ) → ((n : ℕ) → b ≡ Some n → Found whole p t n) → ((n : ℕ) → o ≡ Some n → Found whole p t n) → (n : ℕ) → fewest b o ≡ Some n → Found whole p t n
found_fewest whole p t None o f g n e = g n e
found_fewest whole p t (Some k) None f g n e = f n e
found_fewest whole p t (Some k) (Some m) f g n e =
    ⊎_elim (λ h. f n (ap Some h)) (λ h. g n (ap Some h)) (min_cases k m n (cc))

-- an answer says what is found and that all is covered
pub record IsFull (whole : Bool) (p t : List ℕ) (o : Option ℕ) : Type 0 where
  pub all : (r : List ℕ) → Ends whole p t r → Covered o r
  pub some : (n : ℕ) → o ≡ Some n → (r : List ℕ) × Ends whole p t r × (length r ≡ n)

pub full_answer : (whole : Bool) (p t : List ℕ) (o : Option ℕ) → IsAnswer whole p t o → IsFull whole p t o
full_answer whole p t None h = record { all = h; some = λ n e. absurd (cc) }
full_answer whole p t (Some m) h = record {
  all = h.least;
  some = λ n e. (h.rest, h.ends, h.count ∙ (let same : m ≡ n = cc in same));
}

pub answer_full : (whole : Bool) (p t : List ℕ) (o : Option ℕ) → IsFull whole p t o → IsAnswer whole p t o
answer_full whole p t None h = h.all
answer_full whole p t (Some m) h = let one = h.some m refl in record { rest = one.0; ends = one.1; count = one.2; least = h.all }

-- a pattern at its end leaves the whole text
pub end_leaves : (whole : Bool) (t : List ℕ) → (IsTrue whole → t ≡ []) → IsLongest whole [] t (length t)
end_leaves whole t h = record {
  rest = t;
  ends = record { leaves = leaves_all t; all = h };
  count = refl;
  least = λ r e. let same = all_left t r e.leaves in let n = ap length same in omega arith;
}

-- a star at the pattern's end takes the whole text
star_takes_all : (t : List ℕ) → Leaves (42 ∷ []) t []
star_takes_all t = subst (λ s. Leaves (42 ∷ []) s []) (append-nil t) (leaves_star [] t [] [] (leaves_all []))

-- an answer at the end of a run is one at its start
pub answer_along : (whole : Bool) (p t q u : List ℕ) (s : Bool) (o : Option ℕ) → IsRun p t s q u → IsAnswer whole q u o → IsAnswer whole p t o
answer_along whole p t q u s o run h =
    let full = full_answer whole q u o h in
    answer_full whole p t o (record {
      all = λ r e. full.all r (record { leaves = run.forward r e.leaves; all = e.all });
      some = λ n e. let one = full.some n e in (one.0, record { leaves = run.back one.0 one.1.leaves; all = one.1.all }, one.2);
    })

pub no_answer : (whole : Bool) (p t : List ℕ) → ((r : List ℕ) → Leaves p t r → ⊥) → IsAnswer whole p t None
no_answer whole p t h r e = h r e.leaves

-- no match leaves more than the text
pub answer_within : (whole : Bool) (p t : List ℕ) (o : Option ℕ) → IsAnswer whole p t o → IfSome o (λ n. n ≤ length t)
answer_within whole p t None h = tt
answer_within whole p t (Some n) h =
    let size = ap length h.ends.leaves.split ∙ length-append h.ends.leaves.taken h.rest in
    let count = h.count in
    omega arith

-- a pattern at a star, and what stands behind it
pub at_star : (q' q : List ℕ) (x : ℕ) → q' ≡ x ∷ q → IsAtStar q' → q' ≡ 42 ∷ q
at_star q' q x is star = let x_is : x ≡ 42 = subst IsAtStar is star in is ∙ ap (λ y. y ∷ q) x_is

-- an answer at the end of a run, whose pattern is known
pub answer_along_is : (whole : Bool) (p t q u v : List ℕ) (s : Bool) (o o' : Option ℕ) → IsRun p t s q u → q ≡ v → IsAnswer whole v u o → o' ≡ o → IsAnswer whole p t o'
answer_along_is whole p t q u v s o o' run is h same =
    subst (IsAnswer whole p t) (sym same) (answer_along whole p t q u s o run (subst (λ y. IsAnswer whole y u o) (sym is) h))

-- the search begins
pub search_begins : (whole : Bool) (p t : List ℕ) → IsSearch whole p t p t None
search_begins whole p t = record {
  shorter = omega arith;
  sound = λ r l. l;
  covers = λ r e. inr e.leaves;
  found = λ n e. absurd (cc);
}

module _ (whole : Bool) (P T p t : List ℕ) (b : Option ℕ) (at : IsSearch whole P T p t b) where
  -- a steady run to the next star leaves the first one behind
  pub search_jump : (q q' u : List ℕ) (x : ℕ) (s : Bool) → IsRun p t s q' u → q' ≡ x ∷ q → IsAtStar q' → s ≡ true → IsSearch whole P T q u b
  search_jump q q' u x s run is star steady =
      let q_is = at_star q' q x is star in
      record {
        shorter = let n = ap length q_is in let h = run.shorter in let g = at.shorter in omega arith;
        sound = λ r l. at.sound r (star_here p t r (run.back r (subst (λ y. Leaves y u r) (sym q_is) l)));
        covers = λ r e. ⊎_elim (λ c. inl c) (λ l.
            let some = star_leaves p t r l in
            let later = run.steadily steady some.back r some.leaves in
            let part = part_of_drop run.passed some.front some.back in
            let u_is : part.0 ++ drop run.passed some.back ≡ u = sym (run.left ∙ ap (λ y. drop run.passed y) some.split ∙ part.1) in
            inr (subst (λ y. Leaves (42 ∷ q) y r) u_is (star_wider q part.0 (drop run.passed some.back) r (subst (λ y. Leaves y (drop run.passed some.back) r) q_is later)))) (at.covers r e);
        found = at.found;
      }

  -- the search passes over places at which the pattern doesn't match
  pub search_skip : (u : List ℕ) → IsAhead p t u → IsSearch whole P T p u b
  search_skip u ahead = record {
    shorter = at.shorter;
    sound = λ r l. at.sound r (subst (λ y. Leaves (42 ∷ p) y r) (ap (λ y. take ahead.skipped t ++ y) ahead.left ∙ take-append-drop ahead.skipped t) (star_wider p (take ahead.skipped t) u r l));
    covers = λ r e. ⊎_elim (λ c. inl c) (λ l. inr (subst (λ y. Leaves (42 ∷ p) y r) (sym ahead.left) (star_beyond p t ahead.skipped r ahead.nowhere l))) (at.covers r e);
    found = at.found;
  }

  -- what is found here counts
  found_here : (o : Option ℕ) → IsAnswer whole p t o → (n : ℕ) → fewest b o ≡ Some n → Found whole (42 ∷ P) T n
  found_here o h = found_fewest whole (42 ∷ P) T b o at.found (λ n e.
      let one = (full_answer whole p t o h).some n e in
      (one.0, record { leaves = at.sound one.0 (star_here p t one.0 one.1.leaves); all = one.1.all }, one.2))

  -- the search goes on at the next byte
  pub search_next : (c : ℕ) (u : List ℕ) (o : Option ℕ) → t ≡ c ∷ u → IsAnswer whole p t o → IsSearch whole P T p u (fewest b o)
  search_next c u o is h = record {
    shorter = at.shorter;
    sound = λ r l. at.sound r (subst (λ y. Leaves (42 ∷ p) y r) (sym is) (star_next p c u r l));
    covers = λ r e. ⊎_elim (λ g. inl (covered_one b o r g)) (λ l. ⊎_elim
        (λ m. inl (covered_other b o r ((full_answer whole p t o h).all r (record { leaves = subst (λ y. Leaves p y r) (sym is) m; all = e.all }))))
        (λ m. inr m)
        (star_or_next p c u r (subst (λ y. Leaves (42 ∷ p) y r) is l))) (at.covers r e);
    found = found_here o h;
  }

  -- the search ends with the text
  pub search_ends : (o : Option ℕ) → t ≡ [] → IsAnswer whole p t o → IsAnswer whole (42 ∷ P) T (fewest b o)
  search_ends o is h = answer_full whole (42 ∷ P) T (fewest b o) (record {
    all = λ r e. ⊎_elim (λ g. covered_one b o r g) (λ l. covered_other b o r ((full_answer whole p t o h).all r (record { leaves = subst (λ y. Leaves p y r) (sym is) (star_at_end p r (subst (λ y. Leaves (42 ∷ p) y r) is l)); all = e.all }))) (at.covers r e);
    some = found_here o h;
  })

  -- an answer for all that is left of the search ends it
  pub search_closes : (o : Option ℕ) → IsAnswer whole (42 ∷ p) t o → IsAnswer whole (42 ∷ P) T (fewest b o)
  search_closes o h =
      let full = full_answer whole (42 ∷ p) t o h in
      answer_full whole (42 ∷ P) T (fewest b o) (record {
        all = λ r e. ⊎_elim (λ g. covered_one b o r g) (λ l. covered_other b o r (full.all r (record { leaves = l; all = e.all }))) (at.covers r e);
        some = found_fewest whole (42 ∷ P) T b o at.found (λ n e. let one = full.some n e in (one.0, record { leaves = at.sound one.0 one.1.leaves; all = one.1.all }, one.2));
      })

  -- a last star takes all
  pub search_takes_all : p ≡ [] → IsLongest whole (42 ∷ P) T 0
  search_takes_all is = record {
    rest = [];
    ends = record { leaves = at.sound [] (subst (λ y. Leaves (42 ∷ y) t []) (sym is) (star_takes_all t)); all = λ h. refl };
    count = refl;
    least = λ r e. omega arith;
  }

-- where a steady run leads to a star that nothing matches, there is no match later either
pub none_later : (whole : Bool) (p t q' q u : List ℕ) (s : Bool) (o : Option ℕ) → IsRun p t s q' u → q' ≡ 42 ∷ q → IsAnswer whole (42 ∷ q) u o → s ≡ true → o ≡ None → (k : ℕ) (r : List ℕ) → Ends whole p (drop k t) r → ⊥
none_later whole p t q' q u s o run is h steady none k r e =
    let later : Leaves (42 ∷ q) (drop run.passed (drop k t)) r = subst (λ y. Leaves y (drop run.passed (drop k t)) r) is (run.steadily steady (drop k t) r e.leaves) in
    let n : k + run.passed ≡ run.passed + k = omega arith in
    let same : drop run.passed (drop k t) ≡ drop k u = drop-drop run.passed k t ∙ ap (λ m. drop m t) n ∙ sym (drop-drop k run.passed t) ∙ ap (drop k) (sym run.left) in
    let here : Leaves (42 ∷ q) u r = subst (λ y. Leaves (42 ∷ q) y r) (take-append-drop k u) (star_wider q (take k u) (drop k u) r (subst (λ y. Leaves (42 ∷ q) y r) same later)) in
    let covered : Covered None r = subst (λ x. Covered x r) none ((full_answer whole (42 ∷ q) u o h).all r (record { leaves = here; all = e.all })) in
    covered

-- an answer on the whole text says whether it matches
pub whole_matches : (p t : List ℕ) (o : Option ℕ) → IsAnswer true p t o → is_some o ≡ true → Matches p t
whole_matches p t None h e = absurd (cc)
whole_matches p t (Some n) h e =
    let l = h.ends.leaves in
    let none : h.rest ≡ [] = h.ends.all refl in
    subst (Matches p) (sym (l.split ∙ ap (λ r. l.taken ++ r) none ∙ append-nil l.taken)) l.matched

pub matches_whole : (p t : List ℕ) (o : Option ℕ) → IsAnswer true p t o → Matches p t → is_some o ≡ true
matches_whole p t None h m = absurd (h [] (record { leaves = record { taken = t; split = sym (append-nil t); matched = m }; all = λ e. refl }))
matches_whole p t (Some n) h m = refl
