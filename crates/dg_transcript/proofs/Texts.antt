-- A text of good lines is that of a transcript, and each transcript's text has good lines.
use Rattle.std.proofs.Common.{◌≡◌, ℕ, suc, ◌+◌, ◌-◌, ◌<◌, ◌≤◌, true, false, cond, List, [], ◌∷◌, ◌++◌, length, map, flat_map, take, Option, Some, None, Ok, Err, refl, sym, ap, subst, ◌∙◌, append_assoc, arith}
use Rattle.std.specs.Prelude.{Result, ◌==◌, nat_lt, codes, slice_index, slice_get, count_by}
use Rattle.std.specs.List.{AllByRecursion, join_with_byte, concat}
use Rattle.std.proofs.lemmas.Bool.{and_parts, eqb-true, eq-eqb, leb-false, ltb-true, lt-ltb}
use Rattle.std.proofs.lemmas.List.{length-append, append-nil, take_at}
use Rattle.bstr.specs.Text.{lines_of}
use Rattle.bstr.proofs.lemmas.RestLemmas.{concat-lines_of}
use Rattle.dg_transcript.specs.declared.cause.Cause.{Cause}
use Rattle.dg_transcript.specs.declared.cause.Cause.TheVariants as cause
use Rattle.dg_transcript.specs.declared.entry.Entry.{Entry}
use Rattle.dg_transcript.specs.declared.line.Line.{Line}
use Rattle.dg_transcript.specs.declared.line.Line.TheVariants as line
use Rattle.dg_transcript.specs.declared.line.Place.{Place}
use Rattle.dg_transcript.specs.declared.line.Place.TheVariants as place
use Rattle.dg_transcript.specs.Order.{opens_session, after_line}
use Rattle.dg_transcript.specs.Limits.{IsTranscript}
use Rattle.dg_bytes.specs.Same.{same_bytes}
use Rattle.dg_transcript.specs.Fields.{read_line}
use Rattle.dg_transcript.specs.Text.{line_fields, line_text, sessions_lines, transcript_lines, text_of}
use Rattle.dg_transcript.specs.Sessions.{sessions_in}
use Rattle.dg_transcript.specs.Lines.{is_session, is_said, is_over, place_of, may_come, ends_line, body, line_at, line_behind, Say, IsBad, IsFirstBad, IsFault}
use Rattle.dg_transcript.proofs.GoodLines.{MayCome, IsGoodAt, line_ok, line_good, count-push, place_from-push}
use Rattle.dg_transcript.proofs.FieldsRead.{same_is}
use Rattle.dg_transcript.proofs.Ordered.{Fitting, Comes, Run, more_begun, more_said, whole, run_transcript, sessions_back}
use Rattle.dg_transcript.proofs.Plain.{has_no_feed, joined_no_feed, cut_lines}
use Rattle.dg_transcript.proofs.Spelled.{IsSmall, IsLower, line_takes, line_again, line_plain}

-- a line without its newline
abbrev front : Line → List ℕ
front l = join_with_byte 32 (line_fields l)

text-front : (l : Line) → line_text l ≡ front l ++ 10 ∷ []
unfolding line_text
text-front l = refl

-- ---- one line

body_again : (xs : List ℕ) → body (xs ++ 10 ∷ []) ≡ xs
body_again xs = let len : length xs ≡ length (xs ++ 10 ∷ []) - 1 = omega (arith, length-append xs (10 ∷ [])) in take_at xs (10 ∷ []) (length (xs ++ 10 ∷ []) - 1) len

last_is : (xs : List ℕ) → slice_index (xs ++ 10 ∷ []) (length xs) ≡ 10
last_is [] = refl
last_is (x ∷ xs) = last_is xs

ends_again : (xs : List ℕ) → ends_line (xs ++ 10 ∷ []) ≡ true
ends_again xs =
    let len = length-append xs (10 ∷ []) in
    let some : nat_lt 0 (length (xs ++ 10 ∷ [])) ≡ true = lt-ltb 0 (length (xs ++ 10 ∷ [])) (omega (arith, len)) in
    let place : length (xs ++ 10 ∷ []) - 1 ≡ length xs = omega (arith, len) in
    let ten : (slice_index (xs ++ 10 ∷ []) (length (xs ++ 10 ∷ []) - 1) == 10) ≡ true = eq-eqb _ 10 (ap (slice_index (xs ++ 10 ∷ [])) place ∙ last_is xs) in
    rw (some, ten) refl

body_and_last : (t : List ℕ) → 0 < length t → slice_index t (length t - 1) ≡ 10 → t ≡ body t ++ 10 ∷ []
body_and_last [] some last = absurd (omega arith)
body_and_last (x ∷ []) some last = ap (λ (y : ℕ). y ∷ []) last
body_and_last (x ∷ y ∷ t) some last =
    let place : length (x ∷ y ∷ t) - 1 ≡ suc (length (y ∷ t) - 1) = omega arith in
    let inner : slice_index (y ∷ t) (length (y ∷ t) - 1) ≡ 10 = subst (λ (k : ℕ). slice_index (x ∷ y ∷ t) k ≡ 10) place last in
    ap (λ (xs : List ℕ). x ∷ xs) (body_and_last (y ∷ t) (omega arith) inner) ∙ ap (λ (k : ℕ). take k (x ∷ y ∷ t) ++ 10 ∷ []) (sym place)

ended : (t : List ℕ) → ends_line t ≡ true → t ≡ body t ++ 10 ∷ []
ended t h =
    let parts = and_parts (nat_lt 0 (length t)) (slice_index t (length t - 1) == 10) h in
    body_and_last t (ltb-true 0 (length t) parts.0) (eqb-true _ 10 parts.1)

small_of : (p : Place) (s : ℕ) (l : Line) → s ≤ 64 → may_come p s l ≡ true → IsSmall l
small_of p s line.Header few come = tt
small_of p s (line.Session n) few come = let number = eqb-true n (s + 1) (and_parts (opens_session p) (n == s + 1) come).1 in omega (arith, number)
small_of p s (line.Said e) few come = tt
small_of p s line.Done few come = tt

lower_of : (p : Place) (s e : ℕ) (l : Line) → s ≤ 64 → Fitting p s e l → IsLower l
lower_of p s e line.Header few h = let bad = h.comes in absurd cc
lower_of p s e (line.Session n) few h = let number = eqb-true n (s + 1) (and_parts (opens_session p) (n == s + 1) h.comes).1 in omega (arith, number)
lower_of p s e (line.Said x) few h = h.fits
lower_of p s e line.Done few h = tt

come_takes : (p : Place) (s e : ℕ) (t : List ℕ) (l : Line) → s ≤ 64 → ends_line t ≡ true → MayCome p s e t l → (t ≡ line_text l) × Fitting p s e l
come_takes p s e t l few ends h =
    let r = line_takes (body t) l h.read (small_of p s l few h.comes) in
    (ended t ends ∙ ap (λ (xs : List ℕ). xs ++ 10 ∷ []) r.0 ∙ sym (text-front l), record { comes = h.comes; within = h.within; fits = r.1 })

good_takes : (p : Place) (s e : ℕ) (t : List ℕ) (l : Line) → s ≤ 64 → ends_line t ≡ true → IsGoodAt p s e t l → (t ≡ line_text l) × Comes p s e l
good_takes place.Top s e t l few ends h = (same_is t (codes "dejagnu-transcript 1\n") h.0 ∙ sym (ap line_text h.1 ∙ text-front line.Header), h.1)
good_takes place.Over s e t l few ends h = absurd h
good_takes place.Between s e t l few ends h = come_takes place.Between s e t l few ends h
good_takes place.Opened s e t l few ends h = come_takes place.Opened s e t l few ends h
good_takes place.Running s e t l few ends h = come_takes place.Running s e t l few ends h
good_takes place.Ended s e t l few ends h = come_takes place.Ended s e t l few ends h

fitting_good : (p : Place) (s e : ℕ) (l : Line) → s ≤ 64 → Fitting p s e l → MayCome p s e (front l ++ 10 ∷ []) l
fitting_good p s e l few h = record {
  read = ap read_line (body_again (front l)) ∙ line_again l (lower_of p s e l few h);
  comes = h.comes;
  within = h.within;
}

come_good : (p : Place) (s e : ℕ) (l : Line) → s ≤ 64 → Comes p s e l → IsGoodAt p s e (front l ++ 10 ∷ []) l
come_good place.Top s e l few h = (subst (λ (x : Line). same_bytes (front x ++ 10 ∷ []) (codes "dejagnu-transcript 1\n") ≡ true) (sym h) refl, h)
come_good place.Over s e l few h = absurd h
come_good place.Between s e l few h = fitting_good place.Between s e l few h
come_good place.Opened s e l few h = fitting_good place.Opened s e l few h
come_good place.Running s e l few h = fitting_good place.Running s e l few h
come_good place.Ended s e l few h = fitting_good place.Ended s e l few h

comes_good : (p : Place) (s e : ℕ) (l : Line) → s ≤ 64 → Comes p s e l → line_at p s e (line_text l) ≡ Ok l
comes_good p s e l few h = ap (line_at p s e) (text-front l) ∙ line_good p s e (front l ++ 10 ∷ []) l (ends_again (front l)) (come_good p s e l few h)

fitting_no_feed : (p : Place) (s e : ℕ) (l : Line) → s ≤ 64 → Fitting p s e l → has_no_feed (front l) ≡ true
fitting_no_feed p s e l few h = joined_no_feed (line_fields l) (line_plain l h.fits (small_of p s l few h.comes))

comes_no_feed : (p : Place) (s e : ℕ) (l : Line) → s ≤ 64 → Comes p s e l → has_no_feed (front l) ≡ true
comes_no_feed place.Top s e l few h = subst (λ (x : Line). has_no_feed (front x) ≡ true) (sym h) refl
comes_no_feed place.Over s e l few h = absurd h
comes_no_feed place.Between s e l few h = fitting_no_feed place.Between s e l few h
comes_no_feed place.Opened s e l few h = fitting_no_feed place.Opened s e l few h
comes_no_feed place.Running s e l few h = fitting_no_feed place.Running s e l few h
comes_no_feed place.Ended s e l few h = fitting_no_feed place.Ended s e l few h

begun_by : (p : Place) (s e : ℕ) (l : Line) → s ≤ 64 → Fitting p s e l → more_begun s l ≤ 64
begun_by p s e line.Header few h = omega arith
begun_by p s e (line.Session n) few h = let under = leb-false 64 s h.within in omega arith
begun_by p s e (line.Said x) few h = omega arith
begun_by p s e line.Done few h = omega arith

begun_few : (p : Place) (s e : ℕ) (l : Line) → s ≤ 64 → Comes p s e l → more_begun s l ≤ 64
begun_few place.Top s e l few h = subst (λ (x : Line). more_begun s x ≤ 64) (sym h) (omega arith)
begun_few place.Over s e l few h = absurd h
begun_few place.Between s e l few h = begun_by place.Between s e l few h
begun_few place.Opened s e l few h = begun_by place.Opened s e l few h
begun_few place.Running s e l few h = begun_by place.Running s e l few h
begun_few place.Ended s e l few h = begun_by place.Ended s e l few h

-- ---- all lines

-- what is kept of the lines so far
abbrev Behind : List Line → Place → ℕ → ℕ → Type 0
Behind before p s e = (place_of before ≡ p) × (count_by is_session before ≡ s) × (count_by is_said before ≡ e)

behind_more : (before : List Line) (p : Place) (s e : ℕ) (l : Line) → Behind before p s e → Behind (before ++ l ∷ []) (after_line l) (more_begun s l) (more_said e l)
behind_more before p s e l h = (
  place_from-push place.Top before l,
  count-push is_session before l ∙ ap (λ (k : ℕ). k + cond (is_session l) 1 0) h.1,
  count-push is_said before l ∙ ap (λ (k : ℕ). k + cond (is_said l) 1 0) h.2,
)

say_takes : (before : List Line) (p : Place) (s e : ℕ) (texts : List (List ℕ)) (ls : List Line) → Behind before p s e → s ≤ 64 → Say before texts ls → (concat texts ≡ flat_map line_text ls) × Run p s e ls
say_takes before p s e [] [] behind few say = (refl, tt)
say_takes before p s e [] (l ∷ ls) behind few say = absurd say
say_takes before p s e (t ∷ texts) [] behind few say = absurd say
say_takes before p s e (t ∷ texts) (l ∷ ls) behind few say =
    let read = rw (behind.0, behind.1, behind.2) at say.0 in
    let ok = line_ok p s e t l read in
    let good = good_takes p s e t l few ok.0 ok.1 in
    let rest = say_takes (before ++ l ∷ []) (after_line l) (more_begun s l) (more_said e l) texts ls (behind_more before p s e l behind) (begun_few p s e l few good.1) say.1 in
    (ap (λ (x : List ℕ). x ++ concat texts) good.0 ∙ ap (λ (x : List ℕ). line_text l ++ x) rest.0, (good.1, rest.1))

run_says : (before : List Line) (p : Place) (s e : ℕ) (ls : List Line) → Behind before p s e → s ≤ 64 → Run p s e ls → Say before (map line_text ls) ls
run_says before p s e [] behind few run = tt
run_says before p s e (l ∷ ls) behind few run =
    let read = comes_good p s e l few run.0 in (
      rw (behind.0, behind.1, behind.2) read,
      run_says (before ++ l ∷ []) (after_line l) (more_begun s l) (more_said e l) ls (behind_more before p s e l behind) (begun_few p s e l few run.0) run.1,
    )

run_no_feed : (p : Place) (s e : ℕ) (ls : List Line) → s ≤ 64 → Run p s e ls → AllByRecursion (λ l. has_no_feed (front l) ≡ true) ls
run_no_feed p s e [] few run = tt
run_no_feed p s e (l ∷ ls) few run =
    (comes_no_feed p s e l few run.0, run_no_feed (after_line l) (more_begun s l) (more_said e l) ls (begun_few p s e l few run.0) run.1)

nothing_behind : Behind [] place.Top 0 0
nothing_behind = (refl, refl, refl)

-- ---- the laws

pub text_found : (text : List ℕ) (ls : List Line) → Say [] (lines_of text) ls → is_over (place_of ls) ≡ true → IsTranscript (sessions_in ls) × (text ≡ text_of (sessions_in ls))
unfolding text_of
text_found text ls say over =
    let t = say_takes [] place.Top 0 0 (lines_of text) ls nothing_behind (omega arith) say in
    let w = whole ls t.1 over in
    (w.0, sym (concat-lines_of text) ∙ t.0 ∙ ap (flat_map line_text) w.1)

text_says : (text : List ℕ) (ss : List (List Entry)) → IsTranscript ss → text ≡ text_of ss → Say [] (lines_of text) (transcript_lines ss)
unfolding text_of
text_says text ss is e =
    let run = run_transcript ss is in
    let cut : lines_of text ≡ map line_text (transcript_lines ss) = ap lines_of e ∙ cut_lines line_text front text-front (transcript_lines ss) (run_no_feed place.Top 0 0 (transcript_lines ss) (omega arith) run) in
    rw cut (run_says [] place.Top 0 0 (transcript_lines ss) nothing_behind (omega arith) run)

said_once : (r : Result Line Cause) (l m : Line) → r ≡ Ok l → r ≡ Ok m → m ≡ l
said_once (Ok x) l m a b = cc
said_once (Err c) l m a b = absurd cc

differs : (r : Result Line Cause) (l : Line) (c : Cause) → r ≡ Ok l → r ≡ Err c → ⊥
differs (Ok x) l c a b = cc
differs (Err d) l c a b = cc

same_said : (before : List Line) (texts : List (List ℕ)) (ls ms : List Line) → Say before texts ls → Say before texts ms → ls ≡ ms
same_said before [] [] [] a b = refl
same_said before [] [] (m ∷ ms) a b = absurd b
same_said before [] (l ∷ ls) ms a b = absurd a
same_said before (t ∷ texts) [] ms a b = absurd a
same_said before (t ∷ texts) (l ∷ ls) [] a b = absurd b
same_said before (t ∷ texts) (l ∷ ls) (m ∷ ms) a b =
    let same : m ≡ l = said_once (line_behind before t) l m a.0 b.0 in
    ap (λ (x : Line). x ∷ ls) (sym same) ∙ ap (λ (xs : List Line). m ∷ xs) (same_said (before ++ l ∷ []) texts ls ms a.1 (subst (λ (x : Line). Say (before ++ x ∷ []) texts ms) same b.1))

pub text_only : (text : List ℕ) (ss : List (List Entry)) (ls : List Line) → IsTranscript ss → text ≡ text_of ss → Say [] (lines_of text) ls → sessions_in ls ≡ ss
text_only text ss ls is e say = ap sessions_in (same_said [] (lines_of text) ls (transcript_lines ss) say (text_says text ss is e)) ∙ sessions_back 1 ss

-- good lines to the end have no bad one among them
no_clash : (before : List Line) (texts : List (List ℕ)) (ls said : List Line) (why : Cause) → Say before texts ls → is_over (place_of (before ++ ls)) ≡ true → Say before (take (length said) texts) said
    → IsBad (before ++ said) (slice_get texts (length said)) why → ⊥
no_clash before [] [] [] why all over some bad = let open_still : is_over (place_of (before ++ [])) ≡ false = bad.0 in cc
no_clash before [] (l ∷ ls) said why all over some bad = absurd all
no_clash before [] [] (m ∷ said) why all over some bad = absurd some
no_clash before (t ∷ texts) [] said why all over some bad = absurd all
no_clash before (t ∷ texts) (l ∷ ls) [] why all over some bad =
    let here : line_behind before t ≡ Err why = subst (λ (b : List Line). line_behind b t ≡ Err why) (append-nil before) bad in
    differs (line_behind before t) l why all.0 here
no_clash before (t ∷ texts) (l ∷ ls) (m ∷ said) why all over some bad =
    let same : m ≡ l = said_once (line_behind before t) l m all.0 some.0 in
    no_clash (before ++ l ∷ []) texts ls said why all.1
    (subst (λ (xs : List Line). is_over (place_of xs) ≡ true) (sym (append_assoc before (l ∷ []) ls)) over)
    (subst (λ (x : Line). Say (before ++ x ∷ []) (take (length said) texts) said) same some.1)
    (subst (λ (x : Line). IsBad ((before ++ x ∷ []) ++ said) (slice_get texts (length said)) why) same
    (subst (λ (xs : List Line). IsBad xs (slice_get texts (length said)) why) (sym (append_assoc before (m ∷ []) said)) bad))

over_at_end : (ss : List (List Entry)) → is_over (place_of (transcript_lines ss)) ≡ true
over_at_end ss = ap is_over (place_from-push place.Between (sessions_lines 1 ss) line.Done)

first_bad_none : (text : List ℕ) (ss : List (List Entry)) (n : ℕ) (why : Cause) → IsTranscript ss → text ≡ text_of ss → IsFirstBad text n why → ⊥
first_bad_none text ss n why is e bad = no_clash [] (lines_of text) (transcript_lines ss) bad.0 why (text_says text ss is e) (over_at_end ss) bad.2 bad.3

-- the text of a transcript has no fault but want of memory
pub text_no_fault : (text : List ℕ) (ss : List (List Entry)) (n : ℕ) (why : Cause) → IsTranscript ss → text ≡ text_of ss → IsFault text n why → why ≡ cause.Memory
text_no_fault text ss n cause.Memory is e fault = refl
text_no_fault text ss n cause.Header is e fault = absurd (first_bad_none text ss n cause.Header is e fault)
text_no_fault text ss n cause.Kind is e fault = absurd (first_bad_none text ss n cause.Kind is e fault)
text_no_fault text ss n cause.Field is e fault = absurd (first_bad_none text ss n cause.Field is e fault)
text_no_fault text ss n cause.SessionOrder is e fault = absurd (first_bad_none text ss n cause.SessionOrder is e fault)
text_no_fault text ss n cause.TooMany is e fault = absurd (first_bad_none text ss n cause.TooMany is e fault)
text_no_fault text ss n cause.Truncated is e fault = absurd (first_bad_none text ss n cause.Truncated is e fault)

pub text_unique : (ss ts : List (List Entry)) → IsTranscript ss → IsTranscript ts → text_of ss ≡ text_of ts → ss ≡ ts
text_unique ss ts a b e = sym (sessions_back 1 ss) ∙ text_only (text_of ss) ts (transcript_lines ss) b e (text_says (text_of ss) ss a refl)

-- ---- a text has one first bad line

same_fault : (r : Result Line Cause) (why other : Cause) → r ≡ Err why → r ≡ Err other → why ≡ other
same_fault (Ok x) why other a b = absurd cc
same_fault (Err c) why other a b = cc

bad_here : (before : List Line) (o : Option (List ℕ)) (why other : Cause) → IsBad before o why → IsBad before o other → why ≡ other
bad_here before None why other a b = a.1 ∙ sym b.1
bad_here before (Some t) why other a b = same_fault (line_behind before t) why other a b

bad_is_not_good : (before : List Line) (texts : List (List ℕ)) (l : Line) (ls : List Line) (why : Cause) → Say before (take (suc (length ls)) texts) (l ∷ ls) → IsBad before (slice_get texts 0) why → ⊥
bad_is_not_good before [] l ls why say bad = say
bad_is_not_good before (t ∷ texts) l ls why say bad = differs (line_behind before t) l why say.0 bad

one_bad : (before : List Line) (texts : List (List ℕ)) (ls ms : List Line) (why other : Cause) → Say before (take (length ls) texts) ls → IsBad (before ++ ls) (slice_get texts (length ls)) why
    → Say before (take (length ms) texts) ms → IsBad (before ++ ms) (slice_get texts (length ms)) other → (length ls ≡ length ms) × (why ≡ other)
one_bad before texts [] [] why other a bad b worse = (refl, bad_here (before ++ []) (slice_get texts 0) why other bad worse)
one_bad before texts [] (m ∷ ms) why other a bad b worse = absurd (bad_is_not_good before texts m ms why b (subst (λ (xs : List Line). IsBad xs (slice_get texts 0) why) (append-nil before) bad))
one_bad before texts (l ∷ ls) [] why other a bad b worse = absurd (bad_is_not_good before texts l ls other a (subst (λ (xs : List Line). IsBad xs (slice_get texts 0) other) (append-nil before) worse))
one_bad before [] (l ∷ ls) (m ∷ ms) why other a bad b worse = absurd a
one_bad before (t ∷ texts) (l ∷ ls) (m ∷ ms) why other a bad b worse =
    let same : m ≡ l = said_once (line_behind before t) l m a.0 b.0 in
    let rest = one_bad (before ++ l ∷ []) texts ls ms why other a.1
    (subst (λ (xs : List Line). IsBad xs (slice_get texts (length ls)) why) (sym (append_assoc before (l ∷ []) ls)) bad)
    (subst (λ (x : Line). Say (before ++ x ∷ []) (take (length ms) texts) ms) same b.1)
    (subst (λ (x : Line). IsBad ((before ++ x ∷ []) ++ ms) (slice_get texts (length ms)) other) same
    (subst (λ (xs : List Line). IsBad xs (slice_get texts (length ms)) other) (sym (append_assoc before (m ∷ []) ms)) worse)) in
    (ap suc rest.0, rest.1)

pub one_first_bad : (text : List ℕ) (n m : ℕ) (why other : Cause) → IsFirstBad text n why → IsFirstBad text m other → (n ≡ m) × (why ≡ other)
one_first_bad text n m why other a b =
    let same = one_bad [] (lines_of text) a.0 b.0 why other a.2 a.3 b.2 b.3 in
    (a.1 ∙ ap suc same.0 ∙ sym b.1, same.1)

pub no_first_bad : (ss : List (List Entry)) (n : ℕ) (why : Cause) → IsTranscript ss → IsFirstBad (text_of ss) n why → ⊥
no_first_bad ss n why is bad = first_bad_none (text_of ss) ss n why is refl bad
