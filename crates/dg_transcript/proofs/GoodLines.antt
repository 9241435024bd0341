-- What a good line is, and what the lines so far come to.
use Rattle.std.proofs.Common.{◌≡◌, ℕ, zero, suc, ◌+◌, ◌≤◌, Bool, true, false, cond, List, [], ◌∷◌, ◌++◌, length, take, drop, Option, Some, None, Ok, Err, refl, sym, ap, subst, ◌∙◌, append_assoc, arith}
use Rattle.std.specs.Prelude.{Result, ◌==◌, slice_get, codes, count_by}
use Rattle.std.proofs.lemmas.Bool.{and_parts, leb-false}
use Rattle.std.proofs.lemmas.List.{length-append, append-nil}
use Rattle.std.proofs.lemmas.List.Sums.{sum_by-append}
use Rattle.bstr.specs.Text.{lines_of}
use Rattle.dg_transcript.specs.declared.cause.Cause.{Cause}
use Rattle.dg_transcript.specs.declared.cause.Cause.TheVariants as cause
use Rattle.dg_transcript.specs.declared.line.Line.{Line}
use Rattle.dg_transcript.specs.declared.line.Line.TheVariants as line
use Rattle.dg_transcript.specs.declared.line.Role.{Role}
use Rattle.dg_transcript.specs.declared.line.Role.TheVariants as role
use Rattle.dg_transcript.specs.declared.line.Place.{Place}
use Rattle.dg_transcript.specs.declared.line.Place.TheVariants as place
use Rattle.dg_transcript.specs.Order.{role_of, admits, opens_session, after_role, after_line}
use Rattle.dg_bytes.specs.Chain.{◌>>=◌}
use Rattle.dg_transcript.specs.Fields.{Fails, read_line}
use Rattle.dg_bytes.specs.Same.{same_bytes}
use Rattle.dg_transcript.specs.Lines.{is_session, is_said, is_over, place_from, place_of, may_come, is_past, placed, ends_line, body, whole_line_at, line_at, line_behind, Say, IsBad, IsFault, Takes}
use Rattle.dg_transcript.specs.Kept.{Keeps, next_of, other_lines}

-- the line says l, which may come there
pub record MayCome (p : Place) (sessions entries : ℕ) (text : List ℕ) (l : Line) : Type 0 where
  pub read : read_line (body text) ≡ Ok l
  pub comes : may_come p sessions l ≡ true
  pub within : is_past sessions entries l ≡ false

abbrev pub IsGoodAt : Place → ℕ → ℕ → List ℕ → Line → Type 0
IsGoodAt place.Top s e text l = (same_bytes text (codes "dejagnu-transcript 1\n") ≡ true) × (l ≡ line.Header)
IsGoodAt place.Over s e text l = ⊥
IsGoodAt place.Between s e text l = MayCome place.Between s e text l
IsGoodAt place.Opened s e text l = MayCome place.Opened s e text l
IsGoodAt place.Running s e text l = MayCome place.Running s e text l
IsGoodAt place.Ended s e text l = MayCome place.Ended s e text l

pub guard_ok : {A : Type 0} (b : Bool) (r : Result A Cause) (c : Cause) (y : A) → cond b r (Err c) ≡ Ok y → (b ≡ true) × (r ≡ Ok y)
guard_ok true r c y e = (refl, e)
guard_ok false r c y e = absurd cc

bar_ok : {A : Type 0} (b : Bool) (r : Result A Cause) (c : Cause) (y : A) → cond b (Err c) r ≡ Ok y → (b ≡ false) × (r ≡ Ok y)
bar_ok true r c y e = absurd cc
bar_ok false r c y e = (refl, e)

pub bind_ok : {A B : Type 0} (r : Result A Cause) (f : A → Result B Cause) (y : B) → (r >>= f) ≡ Ok y → (x : A) × (r ≡ Ok x) × (f x ≡ Ok y)
bind_ok (Ok x) f y e = (x, refl, e)
bind_ok (Err c) f y e = absurd cc

pub ok_is : {A : Type 0} (x y : A) → (let r : Result A Cause = Ok x in r ≡ Ok y) → x ≡ y
ok_is x y e = cc

placed_ok : (p : Place) (s e : ℕ) (m l : Line) → placed p s e m ≡ Ok l → (m ≡ l) × (may_come p s l ≡ true) × (is_past s e l ≡ false)
placed_ok p s e m l h =
    let a = guard_ok (may_come p s m) (cond (is_past s e m) (Err cause.TooMany) (Ok m)) cause.SessionOrder l h in
    let b = bar_ok (is_past s e m) (Ok m) cause.TooMany l a.1 in
    let same : m ≡ l = ok_is m l b.1 in
    (same, subst (λ (x : Line). may_come p s x ≡ true) same a.0, subst (λ (x : Line). is_past s e x ≡ false) same b.0)

read_ok : (p : Place) (s e : ℕ) (text : List ℕ) (l : Line) → (read_line (body text) >>= placed p s e) ≡ Ok l → MayCome p s e text l
read_ok p s e text l h =
    let a = bind_ok (read_line (body text)) (placed p s e) l h in
    let b = placed_ok p s e a.0 l a.2 in
    record { read = a.1 ∙ ap (λ (x : Line). Ok x) b.0; comes = b.1; within = b.2 }

whole_ok : (p : Place) (s e : ℕ) (text : List ℕ) (l : Line) → whole_line_at p s e text ≡ Ok l → IsGoodAt p s e text l
unfolding whole_line_at
whole_ok place.Top s e text l h =
    let a = guard_ok (same_bytes text (codes "dejagnu-transcript 1\n")) (Ok line.Header) cause.Header l h in
    (a.0, sym (ok_is line.Header l a.1))
whole_ok place.Over s e text l h = absurd cc
whole_ok place.Between s e text l h = read_ok place.Between s e text l h
whole_ok place.Opened s e text l h = read_ok place.Opened s e text l h
whole_ok place.Running s e text l h = read_ok place.Running s e text l h
whole_ok place.Ended s e text l h = read_ok place.Ended s e text l h

pub line_ok : (p : Place) (s e : ℕ) (text : List ℕ) (l : Line) → line_at p s e text ≡ Ok l → (ends_line text ≡ true) × IsGoodAt p s e text l
unfolding line_at
line_ok p s e text l h =
    let a = guard_ok (ends_line text) (whole_line_at p s e text) cause.Truncated l h in
    (a.0, whole_ok p s e text l a.1)

-- a good line is read
come_read : (p : Place) (s e : ℕ) (text : List ℕ) (l : Line) → MayCome p s e text l → (read_line (body text) >>= placed p s e) ≡ Ok l
come_read p s e text l h = rw (h.read, h.comes, h.within) refl

whole_good : (p : Place) (s e : ℕ) (text : List ℕ) (l : Line) → IsGoodAt p s e text l → whole_line_at p s e text ≡ Ok l
unfolding whole_line_at
whole_good place.Top s e text l h = rw h.0 (ap (λ (x : Line). Ok x) (sym h.1))
whole_good place.Over s e text l h = absurd h
whole_good place.Between s e text l h = come_read place.Between s e text l h
whole_good place.Opened s e text l h = come_read place.Opened s e text l h
whole_good place.Running s e text l h = come_read place.Running s e text l h
whole_good place.Ended s e text l h = come_read place.Ended s e text l h

pub line_good : (p : Place) (s e : ℕ) (text : List ℕ) (l : Line) → ends_line text ≡ true → IsGoodAt p s e text l → line_at p s e text ≡ Ok l
unfolding line_at
line_good p s e text l ends h = rw ends (whole_good p s e text l h)

-- ---- counts

pub count-push : (test : Line → Bool) (ls : List Line) (l : Line) → count_by test (ls ++ l ∷ []) ≡ count_by test ls + cond (test l) 1 0
count-push test ls l = omega (arith, sum_by-append (λ (x : Line). cond (test x) 1 0) ls (l ∷ []))

pub place_from-push : (p : Place) (ls : List Line) (l : Line) → place_from p (ls ++ l ∷ []) ≡ after_line l
place_from-push p [] l = refl
place_from-push p (x ∷ ls) l = place_from-push (after_line x) ls l

after_counts : (r : Role) → other_lines (after_role r) ≡ 1
after_counts role.Start = refl
after_counts role.Failure = refl
after_counts role.Talk = refl
after_counts role.End = refl
after_counts role.Wait = refl

admits_counts : (p : Place) (r : Role) → admits p r ≡ true → other_lines p ≡ 1
admits_counts place.Top r h = absurd cc
admits_counts place.Between r h = refl
admits_counts place.Opened r h = refl
admits_counts place.Running r h = refl
admits_counts place.Ended r h = refl
admits_counts place.Over r h = absurd cc

role_counts : (p : Place) (r : Role) → admits p r ≡ true → other_lines (after_role r) ≡ other_lines p
role_counts p r h = after_counts r ∙ sym (admits_counts p r h)

opens_counts : (p : Place) → opens_session p ≡ true → other_lines p ≡ 1
opens_counts place.Between h = refl
opens_counts place.Running h = refl
opens_counts place.Ended h = refl
opens_counts place.Top h = absurd cc
opens_counts place.Opened h = absurd cc
opens_counts place.Over h = absurd cc

-- the counts behind a line that may come
step_come : (p : Place) (s e : ℕ) (l : Line) → s ≤ 64 → e ≤ 65536 → may_come p s l ≡ true → is_past s e l ≡ false
    → ((next_of l s e).1 ≤ 64) × ((next_of l s e).2 ≤ 65536) × (other_lines (next_of l s e).0 + (next_of l s e).1 + (next_of l s e).2 ≡ other_lines p + s + e + 1)
step_come p s e line.Header fs fe come past = absurd cc
step_come p s e (line.Session n) fs fe come past =
    let few = leb-false 64 s past in
    let one = opens_counts p (and_parts (opens_session p) (n == s + 1) come).0 in
    (omega arith, fe, omega (arith, one))
step_come p s e (line.Said x) fs fe come past =
    let few = leb-false 65536 e past in
    let same = role_counts p (role_of x) come in
    (fs, omega arith, omega (arith, same))
step_come p s e line.Done fs fe come past = let one = opens_counts p come in (fs, fe, omega (arith, one))

abbrev Counts : Place → ℕ → ℕ → Line → Type 0
Counts p s e l = ((next_of l s e).1 ≤ 64) × ((next_of l s e).2 ≤ 65536) × (other_lines (next_of l s e).0 + (next_of l s e).1 + (next_of l s e).2 ≡ other_lines p + s + e + 1)

step_good : (p : Place) (s e : ℕ) (text : List ℕ) (l : Line) → s ≤ 64 → e ≤ 65536 → IsGoodAt p s e text l → Counts p s e l
step_good place.Top s e text l fs fe h = subst (Counts place.Top s e) (sym h.1) (fs, fe, omega arith)
step_good place.Over s e text l fs fe h = absurd h
step_good place.Between s e text l fs fe h = step_come place.Between s e l fs fe h.comes h.within
step_good place.Opened s e text l fs fe h = step_come place.Opened s e l fs fe h.comes h.within
step_good place.Running s e text l fs fe h = step_come place.Running s e l fs fe h.comes h.within
step_good place.Ended s e text l fs fe h = step_come place.Ended s e l fs fe h.comes h.within

next_place : (l : Line) (s e : ℕ) → after_line l ≡ (next_of l s e).0
next_place line.Header s e = refl
next_place (line.Session n) s e = refl
next_place (line.Said x) s e = refl
next_place line.Done s e = refl

next_begun : (l : Line) (s e : ℕ) → s + cond (is_session l) 1 0 ≡ (next_of l s e).1
next_begun line.Header s e = omega arith
next_begun (line.Session n) s e = refl
next_begun (line.Said x) s e = omega arith
next_begun line.Done s e = omega arith

next_said : (l : Line) (s e : ℕ) → e + cond (is_said l) 1 0 ≡ (next_of l s e).2
next_said line.Header s e = omega arith
next_said (line.Session n) s e = omega arith
next_said (line.Said x) s e = refl
next_said line.Done s e = omega arith

pub keeps_more : (ls new : List Line) (p : Place) (s e : ℕ) (next : Place × ℕ × ℕ) (text : List ℕ) (l : Line) → Keeps ls p s e → line_at p s e text ≡ Ok l → new ≡ ls ++ l ∷ [] → next ≡ next_of l s e
    → Keeps new next.0 next.1 next.2
keeps_more ls new p s e next text l k read added goes =
    let counts = step_good p s e text l k.few_begun k.few_said (line_ok p s e text l read).1 in
    let made : Keeps (ls ++ l ∷ []) (next_of l s e).0 (next_of l s e).1 (next_of l s e).2 = record {
      here = place_from-push place.Top ls l ∙ next_place l s e;
      begun = count-push is_session ls l ∙ ap (λ n. n + cond (is_session l) 1 0) k.begun ∙ next_begun l s e;
      said = count-push is_said ls l ∙ ap (λ n. n + cond (is_said l) 1 0) k.said ∙ next_said l s e;
      few_begun = counts.0;
      few_said = counts.1;
      count = omega (arith, length-append ls (l ∷ []), k.count, counts.2);
    } in
    rw (added, goes) made

-- ---- lines that are good, one after the other

pub Say-push : (before : List Line) (texts : List (List ℕ)) (ls : List Line) (text : List ℕ) (l : Line) → Say before texts ls → line_behind (before ++ ls) text ≡ Ok l
    → Say before (texts ++ text ∷ []) (ls ++ l ∷ [])
Say-push before [] [] text l say good = (subst (λ (b : List Line). line_behind b text ≡ Ok l) (append-nil before) good, tt)
Say-push before [] (m ∷ ls) text l say good = absurd say
Say-push before (t ∷ texts) [] text l say good = absurd say
Say-push before (t ∷ texts) (m ∷ ls) text l say good =
    (say.0, Say-push (before ++ m ∷ []) texts ls text l say.1 (subst (λ (b : List Line). line_behind b text ≡ Ok l) (sym (append_assoc before (m ∷ []) ls)) good))

pub fault_is : (text : List ℕ) (n : ℕ) (why : Cause) (said : List Line) (t : List ℕ) → n ≡ suc (length said) → Say [] (take (length said) (lines_of text)) said → slice_get (lines_of text) (length said) ≡ Some t
    → Fails why (line_behind said t) → IsFault text n why
fault_is text n cause.Memory said t number say here bad = tt
fault_is text n cause.Header said t number say here bad = (said, number, say, subst (λ (o : Option (List ℕ)). IsBad said o cause.Header) (sym here) bad)
fault_is text n cause.Kind said t number say here bad = (said, number, say, subst (λ (o : Option (List ℕ)). IsBad said o cause.Kind) (sym here) bad)
fault_is text n cause.Field said t number say here bad = (said, number, say, subst (λ (o : Option (List ℕ)). IsBad said o cause.Field) (sym here) bad)
fault_is text n cause.SessionOrder said t number say here bad = (said, number, say, subst (λ (o : Option (List ℕ)). IsBad said o cause.SessionOrder) (sym here) bad)
fault_is text n cause.TooMany said t number say here bad = (said, number, say, subst (λ (o : Option (List ℕ)). IsBad said o cause.TooMany) (sym here) bad)
fault_is text n cause.Truncated said t number say here bad = (said, number, say, subst (λ (o : Option (List ℕ)). IsBad said o cause.Truncated) (sym here) bad)

none_at : (xs : List (List ℕ)) (k : ℕ) → drop k xs ≡ [] → slice_get xs k ≡ None
none_at [] k none = refl
none_at (x ∷ xs) zero none = absurd cc
none_at (x ∷ xs) (suc k) none = none_at xs k none

-- the text ends before the last line
pub cut_short : (text : List ℕ) (n : ℕ) (said : List Line) → n ≡ suc (length said) → Say [] (take (length said) (lines_of text)) said → drop (length said) (lines_of text) ≡ [] → is_over (place_of said) ≡ false
    → IsFault text n cause.Truncated
cut_short text n said number say none still = (said, number, say, subst (λ (o : Option (List ℕ)). IsBad said o cause.Truncated) (sym (none_at (lines_of text) (length said) none)) (still, refl))

pub some_at : (xs : List (List ℕ)) (k : ℕ) (t : List ℕ) (rest : List (List ℕ)) → drop k xs ≡ t ∷ rest → (slice_get xs k ≡ Some t) × (take (suc k) xs ≡ take k xs ++ t ∷ []) × (drop (suc k) xs ≡ rest)
some_at [] zero t rest e = absurd cc
some_at [] (suc k) t rest e = absurd cc
some_at (x ∷ xs) zero t rest e = let head : x ≡ t = cc in let tail : xs ≡ rest = cc in (ap (λ (y : List ℕ). Some y) head, ap (λ (y : List ℕ). y ∷ []) head, tail)
some_at (x ∷ xs) (suc k) t rest e = let r = some_at xs k t rest e in (r.0, ap (λ (ys : List (List ℕ)). x ∷ ys) r.1, r.2)

pub whole_at : (xs : List (List ℕ)) (k : ℕ) → drop k xs ≡ [] → take k xs ≡ xs
whole_at [] zero none = refl
whole_at [] (suc k) none = refl
whole_at (x ∷ xs) zero none = absurd cc
whole_at (x ∷ xs) (suc k) none = ap (λ (ys : List (List ℕ)). x ∷ ys) (whole_at xs k none)

-- one more good line, as a loop takes it
pub take_on : (texts : List (List ℕ)) (before new : List Line) (t : List ℕ) (rest : List (List ℕ)) → Say [] (take (length before) texts) before → drop (length before) texts ≡ t ∷ rest → Takes before t new
    → Say [] (take (length new) texts) new × (drop (length new) texts ≡ rest)
take_on texts before new t rest say at took =
    let s = some_at texts (length before) t rest at in
    let len : length new ≡ suc (length before) = omega (arith, ap length took.2, length-append before (took.0 ∷ [])) in
    let more = Say-push [] (take (length before) texts) before t took.0 say took.1 in
    (rw (len, s.1, took.2) more, rw len s.2)
