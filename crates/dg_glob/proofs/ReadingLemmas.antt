-- Parts as they are read, and where they stand.
use Rattle.std.proofs.Common.{◌≡◌, ℕ, zero, suc, ◌+◌, ◌-◌, ◌<◌, ◌≤◌, Bool, true, false, cond, ◌&&◌, nat_le, List, [], ◌∷◌, ◌++◌, Some, None, length, take, drop, get_or, refl, sym, ap, ap₂, ◌∙◌, subst, ⊎_elim, ◌⊎◌, arith}
use Rattle.std.specs.Option.{is_some}
use Rattle.std.proofs.lemmas.Bool.{and_from, and_parts, false≢true, cases_lt, le-leb, leb-true}
use Rattle.std.proofs.lemmas.Bool.Decides.{nat_tests}
use Rattle.std.proofs.lemmas.List.{length-drop, length-append, get_or-drop, get_or_append_left, get_or-append_right, take_rest}
use Rattle.memchr.specs.Find.{OccursAt}
use Rattle.dg_glob.specs.Items.{after_item, is_plain}
use Rattle.dg_glob.specs.Parts.{Item, begins_steadily, behind_item, stands, least_stand}
use Rattle.dg_glob.specs.Reading.{Steps, plain_front, IsByte, IsRun, IsRead}
use Rattle.dg_glob.specs.Reading.Steps.{no_step, step}
use Rattle.dg_glob.proofs.ItemLemmas.{past_close_shorter}
use Rattle.dg_glob.proofs.LeastLemmas.{least-none, least-some}
use Rattle.dg_glob.proofs.PartLemmas.{stands_fits, steady_behind}

steps_join : {p q r : List ℕ} {fs gs : List Item} → Steps p fs q → Steps q gs r → Steps p (fs ++ gs) r
steps_join (no_step p) more = more
steps_join (step p q fs steady rest) more = step p _ _ steady (steps_join rest more)

-- what is left behind an item is shorter
behind_cons : (x : ℕ) (p : List ℕ) → length (behind_item (x ∷ p)) ≤ length p
behind_cons x [] = grind (arith, nat_tests)
behind_cons x (y ∷ p) = let h = past_close_shorter (y ∷ p) in grind (arith, nat_tests)

pub behind_shorter : (p : List ℕ) → begins_steadily p ≡ true → length (behind_item p) < length p
behind_shorter [] steady = absurd (false≢true steady)
behind_shorter (x ∷ p) steady = let h = behind_cons x p in omega arith

-- bytes that stand for themselves
plain_items : List ℕ → List Item
plain_items [] = []
plain_items (x ∷ p) = cond (is_plain x) ((x ∷ p) ∷ plain_items p) []

plain_steady : (x : ℕ) (p : List ℕ) → is_plain x ≡ true → begins_steadily (x ∷ p) ≡ true
plain_steady x p plain = grind (arith, nat_tests)

plain_behind : (x : ℕ) (p : List ℕ) → is_plain x ≡ true → behind_item (x ∷ p) ≡ p
plain_behind x p plain = grind (arith, nat_tests)

plain_step : (x : ℕ) (p : List ℕ) (b : Bool) → is_plain x ≡ b → Steps p (plain_items p) (drop (length (plain_front p)) p) →
    Steps (x ∷ p) (cond b ((x ∷ p) ∷ plain_items p) []) (drop (length (cond b (x ∷ plain_front p) [])) (x ∷ p))
plain_step x p true plain rest = step (x ∷ p) _ _ (plain_steady x p plain) (subst (λ q. Steps q (plain_items p) (drop (length (plain_front p)) p)) (sym (plain_behind x p plain)) rest)
plain_step x p false plain rest = no_step (x ∷ p)

plain_steps : (p : List ℕ) → Steps p (plain_items p) (drop (length (plain_front p)) p)
unfolding plain_items
plain_steps [] = no_step []
plain_steps (x ∷ p) = plain_step x p (is_plain x) refl (plain_steps p)

plain_count_at : (x : ℕ) (p : List ℕ) (b : Bool) → length (plain_items p) ≡ length (plain_front p) → length (cond b ((x ∷ p) ∷ plain_items p) []) ≡ length (cond b (x ∷ plain_front p) [])
plain_count_at x p true h = ap suc h
plain_count_at x p false h = refl

plain_count : (p : List ℕ) → length (plain_items p) ≡ length (plain_front p)
unfolding plain_items
plain_count [] = refl
plain_count (x ∷ p) = plain_count_at x p (is_plain x) (plain_count p)

plain_byte_at : (x : ℕ) (p : List ℕ) (b : Bool) (j : ℕ) → is_plain x ≡ b → j < length (cond b (x ∷ plain_front p) []) → ((i : ℕ) → i < length (plain_front p) → IsByte (get_or (plain_items p) i []) (get_or (plain_front p) i 0)) →
    IsByte (get_or (cond b ((x ∷ p) ∷ plain_items p) []) j []) (get_or (cond b (x ∷ plain_front p) []) j 0)
plain_byte_at x p true zero plain low rest = record { behind = p; split = refl; plain = plain }
plain_byte_at x p true (suc j) plain low rest = rest j (omega arith)
plain_byte_at x p false j plain low rest = absurd (omega arith)

plain_byte : (p : List ℕ) (j : ℕ) → j < length (plain_front p) → IsByte (get_or (plain_items p) j []) (get_or (plain_front p) j 0)
unfolding plain_items
plain_byte [] j low = absurd (omega arith)
plain_byte (x ∷ p) j low = plain_byte_at x p (is_plain x) j refl low (plain_byte p)

run_kept : (fs gs : List Item) (run : List ℕ) (lead : ℕ) → IsRun fs run lead → IsRun (fs ++ gs) run lead
run_kept fs gs run lead h =
    let within = h.within in
    let size = length-append fs gs in
    record {
      within = omega arith;
      bytes = λ j low. subst (λ i. IsByte i (get_or run j 0)) (sym (get_or_append_left fs gs [] (lead + j) (omega arith))) (h.bytes j low);
    }

pub read_begins : (p : List ℕ) → IsRead p 0 0 [] p
read_begins p = record { items = []; steps = no_step p; count = refl; has_run = record { within = omega arith; bytes = λ j low. absurd (omega arith) } }

module _ (p : List ℕ) (size lead : ℕ) (run rest : List ℕ) (h : IsRead p size lead run rest) where
  joined : Steps p (h.items ++ plain_items rest) (drop (length (plain_front rest)) rest)
  joined = steps_join h.steps (plain_steps rest)

  joined_count : length (h.items ++ plain_items rest) ≡ size + length (plain_front rest)
  joined_count = let more = length-append h.items (plain_items rest) in let one = h.count in let two = plain_count rest in omega arith

  -- past bytes that stand for themselves, with the run from before or with these
  pub read_kept : IsRead p (size + length (plain_front rest)) lead run (drop (length (plain_front rest)) rest)
  read_kept = record { items = h.items ++ plain_items rest; steps = joined; count = joined_count; has_run = run_kept h.items (plain_items rest) run lead h.has_run }

  pub read_new : IsRead p (size + length (plain_front rest)) size (plain_front rest) (drop (length (plain_front rest)) rest)
  read_new = record {
    items = h.items ++ plain_items rest;
    steps = joined;
    count = joined_count;
    has_run = record {
      within = let e = joined_count in omega arith;
      bytes = λ j low.
          let count = h.count in
          let place : size + j - length h.items ≡ j = omega arith in
          subst (λ i. IsByte i (get_or (plain_front rest) j 0)) (sym (get_or-append_right h.items (plain_items rest) (length h.items) (size + j) [] refl (omega arith) ∙ ap (λ i. get_or (plain_items rest) i []) place)) (plain_byte rest j low);
    };
  }

  -- past one more item
  pub read_more : begins_steadily rest ≡ true → IsRead p (size + 1) lead run (behind_item rest)
  read_more steady = record {
    items = h.items ++ rest ∷ [];
    steps = steps_join h.steps (step rest _ _ steady (no_step (behind_item rest)));
    count = let more = length-append h.items (rest ∷ []) in let one = h.count in omega arith;
    has_run = run_kept h.items (rest ∷ []) run lead h.has_run;
  }

-- past such bytes, with one of the runs
pub read_passed : (p : List ℕ) (size lead : ℕ) (run rest plain : List ℕ) (l : ℕ) (r : List ℕ) → IsRead p size lead run rest → plain ≡ plain_front rest →
    ((l ≡ size) × (r ≡ plain)) ⊎ ((l ≡ lead) × (r ≡ run)) → IsRead p (size + length plain) l r (take (length rest - length plain) (drop (length plain) rest))
read_passed p size lead run rest plain l r h is which =
    rw (take_rest rest (length plain))
    (rw is
    (⊎_elim
    (λ new. rw (new.0, new.1 ∙ is) (read_new p size lead run rest h))
    (λ old. rw (old.0, old.1) (read_kept p size lead run rest h))
    which))

-- the items from an end of a pattern on
record Taken (p : List ℕ) (gs : List Item) (rest : List ℕ) : Type 0 where
  later : List Item
  split : gs ≡ p ∷ later
  steps : Steps (behind_item p) later rest

step_taken : {p rest : List ℕ} {gs : List Item} → Steps p gs rest → begins_steadily p ≡ true → begins_steadily rest ≡ false → Taken p gs rest
step_taken (no_step p) steady ends = absurd (false≢true (sym ends ∙ steady))
step_taken (step p q gs steady more) going ends = record { later = gs; split = refl; steps = more }

none_taken : {p rest : List ℕ} {gs : List Item} → Steps p gs rest → begins_steadily p ≡ false → gs ≡ []
none_taken (no_step p) ends = refl
none_taken (step p q gs steady more) ends = absurd (false≢true (sym ends ∙ steady))

-- a walk over items and a text has come to these parts of them
abbrev pub IsWalk : List ℕ → List ℕ → List ℕ → List ℕ → Type 0
IsWalk P T p t = (items : List Item) (rest : List ℕ) → Steps P items rest → begins_steadily rest ≡ false →
    (gs : List Item) × (Steps p gs rest × (stands items T ≡ stands gs t))

steady_left : (p q : List ℕ) (c : ℕ) → begins_steadily p ≡ true → after_item p c ≡ Some q → q ≡ behind_item p
steady_left [] q c steady e = absurd (false≢true steady)
steady_left (x ∷ p) q c steady e = steady_behind x c p q steady e

module _ (P T p t : List ℕ) (walk : IsWalk P T p t) where
  pub walk_goes : (q u : List ℕ) (c : ℕ) → begins_steadily p ≡ true → t ≡ c ∷ u → after_item p c ≡ Some q → IsWalk P T q u
  walk_goes q u c steady split e items rest steps ends =
      let (gs, (left, same)) = walk items rest steps ends in
      let taken = step_taken left steady ends in
      let takes : is_some (after_item p c) ≡ true = ap is_some e in (
        taken.later,
        (
          subst (λ r. Steps r taken.later rest) (sym (steady_left p q c steady e)) taken.steps,
          same ∙ (ap₂ stands taken.split split ∙ ap (λ b. b && stands taken.later u) takes),
        ),
      )

  pub walk_wants : begins_steadily p ≡ true → t ≡ [] → (items : List Item) (rest : List ℕ) → Steps P items rest → begins_steadily rest ≡ false → false ≡ stands items T
  walk_wants steady split items rest steps ends =
      let (gs, (left, same)) = walk items rest steps ends in
      let taken = step_taken left steady ends in
      sym (same ∙ ap₂ stands taken.split split)

  pub walk_stops : (u : List ℕ) (c : ℕ) → begins_steadily p ≡ true → t ≡ c ∷ u → after_item p c ≡ None → (items : List Item) (rest : List ℕ) → Steps P items rest → begins_steadily rest ≡ false → false ≡ stands items T
  walk_stops u c steady split e items rest steps ends =
      let (gs, (left, same)) = walk items rest steps ends in
      let taken = step_taken left steady ends in
      let takes : is_some (after_item p c) ≡ false = ap is_some e in
      sym (same ∙ (ap₂ stands taken.split split ∙ ap (λ b. b && stands taken.later u) takes))

  pub walk_ends : begins_steadily p ≡ false → (items : List Item) (rest : List ℕ) → Steps P items rest → begins_steadily rest ≡ false → true ≡ stands items T
  walk_ends over items rest steps ends =
      let (gs, (left, same)) = walk items rest steps ends in
      sym (same ∙ ap (λ g. stands g t) (none_taken left over))

-- where a part stands, its run of bytes does
plain_byte_taken : (x c : ℕ) (p : List ℕ) → is_plain x ≡ true → is_some (after_item (x ∷ p) c) ≡ true → c ≡ x
plain_byte_taken x c p plain h = grind (arith, nat_tests)

stands_item : (items : List Item) (t : List ℕ) (m : ℕ) → stands items t ≡ true → m < length items → is_some (after_item (get_or items m []) (get_or t m 0)) ≡ true
stands_item [] t m h low = absurd (omega arith)
stands_item (i ∷ items) [] m h low = absurd (false≢true h)
stands_item (i ∷ items) (c ∷ t) zero h low = (and_parts _ _ h).0
stands_item (i ∷ items) (c ∷ t) (suc m) h low = stands_item items t m (and_parts _ _ h).1 (omega arith)

byte_stands : (i : Item) (x c : ℕ) → IsByte i x → is_some (after_item i c) ≡ true → c ≡ x
byte_stands i x c h takes = plain_byte_taken x c h.behind h.plain (ap (λ j. is_some (after_item j c)) (sym h.split) ∙ takes)

pub stands_run : (items : List Item) (t run : List ℕ) (lead : ℕ) → IsRun items run lead → stands items t ≡ true → OccursAt t run lead
stands_run items t run lead h there =
    let within = h.within in
    let fits = stands_fits items t there in
    record {
      fits = omega arith;
      reads = λ j low. byte_stands (get_or items (lead + j) []) (get_or run j 0) (get_or t (lead + j) 0) (h.bytes j low) (stands_item items t (lead + j) there (omega arith));
    }

-- seen from behind another place
pub run_from : (items : List Item) (t run : List ℕ) (lead place k : ℕ) → IsRun items run lead → place ≤ k → k ≤ length t → stands items (drop k t) ≡ true → OccursAt (drop lead (drop place t)) run (k - place)
run_from items t run lead place k h low within there =
    let at = stands_run items (drop k t) run lead h there in
    let fits = at.fits in
    let one = length-drop k t in
    let two = length-drop lead (drop place t) in
    let three = length-drop place t in
    record {
      fits = omega arith;
      reads = λ j less.
          let e : place + (lead + (k - place + j)) ≡ k + (lead + j) = omega arith in
          get_or-drop lead (drop place t) (k - place + j) 0 ∙ get_or-drop place t (lead + (k - place + j)) 0 ∙ ap (λ n. get_or t n 0) e ∙ sym (get_or-drop k t (lead + j) 0) ∙ at.reads j less;
    }

-- the least place as a function
not_stands : (b c : Bool) → (b ≡ true → c ≡ false) → (b && c) ≡ false
not_stands true c h = h refl
not_stands false c h = refl

pub least_is_none : (part : List Item) (t : List ℕ) (n : ℕ) → ((k : ℕ) → n ≤ k → k ≤ length t → stands part (drop k t) ≡ false) → least_stand part t n ≡ None
unfolding least_stand
least_is_none part t n none = least-none (λ k. nat_le n k && stands part (drop k t)) (length t + 1) (λ k low. not_stands (nat_le n k) (stands part (drop k t)) (λ h. none k (leb-true n k h) (omega arith)))

pub least_is_some : (part : List Item) (t : List ℕ) (n k : ℕ) → n ≤ k → k ≤ length t → stands part (drop k t) ≡ true → ((j : ℕ) → n ≤ j → j < k → stands part (drop j t) ≡ false) → least_stand part t n ≡ Some k
unfolding least_stand
least_is_some part t n k low within there before =
    least-some (λ k. nat_le n k && stands part (drop k t)) (length t + 1) k (omega arith) (and_from _ _ (le-leb n k low) there)
    (λ j less. not_stands (nat_le n j) (stands part (drop j t)) (λ h. before j (leb-true n j h) less))

-- a search for a part by its run of bytes, from one place on to another
not_true : (b : Bool) → (b ≡ true → ⊥) → b ≡ false
not_true true h = absurd (h refl)
not_true false h = refl

module _ (part : List Item) (t : List ℕ) (from place : ℕ) (low : from ≤ place) (none : (k : ℕ) → from ≤ k → k < place → stands part (drop k t) ≡ false) where
  -- no place behind the text, and none where the part doesn't fit
  pub place_past : length t < place → None ≡ least_stand part t from
  place_past past = sym (least_is_none part t from (λ k at within. none k at (omega arith)))

  pub place_short : (size : ℕ) → length part ≡ size → length t - place < size → None ≡ least_stand part t from
  place_short size count short =
      sym (least_is_none part t from (λ k at within. ⊎_elim
      (λ early. none k at early)
      (λ late. not_true (stands part (drop k t)) (λ there. let fits = stands_fits part (drop k t) there in let left = length-drop k t in omega arith))
      (cases_lt k place)))

  module _ (run hay : List ℕ) (lead : ℕ) (has_run : IsRun part run lead) (is : hay ≡ drop lead (drop place t)) where
    occurs : (k : ℕ) → place ≤ k → k ≤ length t → stands part (drop k t) ≡ true → OccursAt hay run (k - place)
    occurs k at within there = subst (λ h. OccursAt h run (k - place)) (sym is) (run_from part t run lead place k has_run at within there)

    pub place_vain : ((k : ℕ) → 0 ≤ k → k < length hay + 1 → OccursAt hay run k → ⊥) → None ≡ least_stand part t from
    place_vain vain =
        sym (least_is_none part t from (λ k at within. ⊎_elim
        (λ early. none k at early)
        (λ late. not_true (stands part (drop k t)) (λ there. let o = occurs k late within there in let fits = o.fits in vain (k - place) (omega arith) (omega arith) o))
        (cases_lt k place)))

    -- no place before the run's
    pub place_ahead : (j : ℕ) → place + j ≤ length t → ((k : ℕ) → 0 ≤ k → k < j → OccursAt hay run k → ⊥) → (k : ℕ) → from ≤ k → k < place + j → stands part (drop k t) ≡ false
    place_ahead j fits vain k at less = ⊎_elim
        (λ early. none k at early)
        (λ late. not_true (stands part (drop k t)) (λ there. vain (k - place) (omega arith) (omega arith) (occurs k late (omega arith) there)))
        (cases_lt k place)

pub place_more : (part : List Item) (t : List ℕ) (from place : ℕ) → ((k : ℕ) → from ≤ k → k < place → stands part (drop k t) ≡ false) → stands part (drop place t) ≡ false →
    (k : ℕ) → from ≤ k → k < place + 1 → stands part (drop k t) ≡ false
place_more part t from place none here k at less = ⊎_elim
    (λ early. none k at early)
    (λ late. let e : place ≡ k = omega arith in ap (λ n. stands part (drop n t)) (sym e) ∙ here)
    (cases_lt k place)
