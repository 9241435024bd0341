-- Lines in order are the lines of a transcript, and the other way round.
use Rattle.std.proofs.Common.{◌≡◌, ℕ, suc, ◌+◌, ◌<◌, ◌≤◌, Bool, true, false, cond, List, [], ◌∷◌, ◌++◌, length, map, refl, sym, ap, subst, ◌∙◌, append_assoc, arith}
use Rattle.std.specs.Prelude.{nat_le, ◌==◌, sum_by}
use Rattle.std.specs.List.{AllByRecursion}
use Rattle.std.proofs.lemmas.Bool.{and_parts, eqb-true, leb-false, lt-leb, eq-eqb}
use Rattle.std.proofs.lemmas.List.{append-nil}
use Rattle.std.proofs.lemmas.List.Sums.{sum_by-cons}
use Rattle.std.proofs.Common.{add-zero}
use Rattle.dg_transcript.specs.declared.entry.Entry.{Entry}
use Rattle.dg_transcript.specs.declared.line.Line.{Line}
use Rattle.dg_transcript.specs.declared.line.Line.TheVariants as line
use Rattle.dg_transcript.specs.declared.line.Role.{Role}
use Rattle.dg_transcript.specs.declared.line.Role.TheVariants as role
use Rattle.dg_transcript.specs.declared.line.Place.{Place}
use Rattle.dg_transcript.specs.declared.line.Place.TheVariants as place
use Rattle.dg_transcript.specs.Order.{role_of, admits, opens_session, after_role, after_line}
use Rattle.dg_transcript.specs.Limits.{EntryFits, in_order, IsSession, IsTranscript}
use Rattle.dg_transcript.specs.Text.{sessions_lines, transcript_lines}
use Rattle.dg_transcript.specs.Sessions.{first_entries, sessions_in}
use Rattle.dg_transcript.specs.Lines.{is_session, is_said, is_over, place_from, may_come, is_past}

-- what a line says is within its limits
abbrev pub LineFits : Line → Type 0
LineFits line.Header = Unit {0}
LineFits (line.Session n) = Unit {0}
LineFits (line.Said e) = EntryFits e
LineFits line.Done = Unit {0}

pub record Fitting (p : Place) (s e : ℕ) (l : Line) : Type 0 where
  pub comes : may_come p s l ≡ true
  pub within : is_past s e l ≡ false
  pub fits : LineFits l

-- a line that may come
abbrev pub Comes : Place → ℕ → ℕ → Line → Type 0
Comes place.Top s e l = l ≡ line.Header
Comes place.Over s e l = ⊥
Comes place.Between s e l = Fitting place.Between s e l
Comes place.Opened s e l = Fitting place.Opened s e l
Comes place.Running s e l = Fitting place.Running s e l
Comes place.Ended s e l = Fitting place.Ended s e l

abbrev pub more_begun : ℕ → Line → ℕ
more_begun s l = s + cond (is_session l) 1 0

abbrev pub more_said : ℕ → Line → ℕ
more_said e l = e + cond (is_said l) 1 0

-- lines, each of which may come
abbrev pub Run : Place → ℕ → ℕ → List Line → Type 0
Run p s e [] = Unit {0}
Run p s e (l ∷ ls) = Comes p s e l × Run (after_line l) (more_begun s l) (more_said e l) ls

-- a place between the header and the last line
abbrev pub is_within : Place → Bool
is_within place.Top = false
is_within place.Over = false
is_within place.Between = true
is_within place.Opened = true
is_within place.Running = true
is_within place.Ended = true

within_comes : (p : Place) (s e : ℕ) (l : Line) → is_within p ≡ true → Comes p s e l → Fitting p s e l
within_comes place.Top s e l h come = absurd cc
within_comes place.Over s e l h come = absurd cc
within_comes place.Between s e l h come = come
within_comes place.Opened s e l h come = come
within_comes place.Running s e l h come = come
within_comes place.Ended s e l h come = come

comes_within : (p : Place) (s e : ℕ) (l : Line) → is_within p ≡ true → Fitting p s e l → Comes p s e l
comes_within place.Top s e l h come = absurd cc
comes_within place.Over s e l h come = absurd cc
comes_within place.Between s e l h come = come
comes_within place.Opened s e l h come = come
comes_within place.Running s e l h come = come
comes_within place.Ended s e l h come = come

role_within : (r : Role) → is_within (after_role r) ≡ true
role_within role.Start = refl
role_within role.Failure = refl
role_within role.Talk = refl
role_within role.End = refl
role_within role.Wait = refl

role_opens : (r : Role) → opens_session (after_role r) ≡ true
role_opens role.Start = refl
role_opens role.Failure = refl
role_opens role.Talk = refl
role_opens role.End = refl
role_opens role.Wait = refl

opens_within : (p : Place) → opens_session p ≡ true → is_within p ≡ true
opens_within place.Between h = refl
opens_within place.Running h = refl
opens_within place.Ended h = refl
opens_within place.Top h = absurd cc
opens_within place.Opened h = absurd cc
opens_within place.Over h = absurd cc

opens_not_opened : (p : Place) → opens_session p ≡ true → p ≡ place.Opened → ⊥
opens_not_opened p h e = let no_way : opens_session place.Opened ≡ true = subst (λ (q : Place). opens_session q ≡ true) e h in cc

over_within : (p : Place) → is_over p ≡ true → is_within p ≡ true → ⊥
over_within place.Top a b = cc
over_within place.Over a b = cc
over_within place.Between a b = cc
over_within place.Opened a b = cc
over_within place.Running a b = cc
over_within place.Ended a b = cc

-- what lines to the end tell of, from a place on
pub record Tells (p : Place) (s e : ℕ) (ls : List Line) : Type 0 where
  pub lines : ls ≡ map line.Said (first_entries ls) ++ (sessions_lines (suc s) (sessions_in ls) ++ line.Done ∷ [])
  pub ordered : in_order p (first_entries ls) ≡ true
  pub fits : AllByRecursion EntryFits (first_entries ls)
  pub each : AllByRecursion IsSession (sessions_in ls)
  pub few_begun : s + length (sessions_in ls) ≤ 64
  pub few_said : e + length (first_entries ls) + sum_by length (sessions_in ls) ≤ 65536
  pub some : p ≡ place.Opened → 0 < length (first_entries ls)

tells_done : (p : Place) (s e : ℕ) (ls : List Line) → s ≤ 64 → e ≤ 65536 → opens_session p ≡ true → Run place.Over s e ls → Tells p s e (line.Done ∷ ls)
unfolding sessions_lines
tells_done p s e [] fs fe opens run = record {
  lines = refl;
  ordered = refl;
  fits = tt;
  each = tt;
  few_begun = omega arith;
  few_said = omega arith;
  some = λ here. absurd (opens_not_opened p opens here);
}
tells_done p s e (l ∷ ls) fs fe opens run = absurd run.0

tells_session : (p : Place) (s e n : ℕ) (ls : List Line) → opens_session p ≡ true → n ≡ s + 1 → e ≤ 65536 → Tells place.Opened (s + 1) e ls → Tells p s e (line.Session n ∷ ls)
unfolding sessions_lines
tells_session p s e n ls opens number fe t =
    let first = first_entries ls in
    let rest = sessions_in ls in
    let up : s + 1 ≡ suc s = omega arith in
    let tail : ls ≡ map line.Said first ++ (sessions_lines (suc (suc s)) rest ++ line.Done ∷ []) = subst (λ (k : ℕ). ls ≡ map line.Said first ++ (sessions_lines (suc k) rest ++ line.Done ∷ [])) up t.lines in
    let sum : sum_by length (first ∷ rest) ≡ length first + sum_by length rest = sum_by-cons length first rest in
    record {
      lines = ap (λ (k : ℕ). line.Session k ∷ ls) (number ∙ up) ∙ ap (λ (xs : List Line). line.Session (suc s) ∷ xs) (tail ∙ sym (append_assoc (map line.Said first) (sessions_lines (suc (suc s)) rest) (line.Done ∷ [])));
      ordered = refl;
      fits = tt;
      each = ((t.some refl, t.ordered, t.fits), t.each);
      few_begun = omega (arith, t.few_begun);
      few_said = omega (arith, t.few_said, sum);
      some = λ here. absurd (opens_not_opened p opens here);
    }

tells_said : (p : Place) (s e : ℕ) (x : Entry) (ls : List Line) → admits p (role_of x) ≡ true → EntryFits x → Tells (after_role (role_of x)) s (e + 1) ls → Tells p s e (line.Said x ∷ ls)
tells_said p s e x ls come fits t = record {
  lines = ap (λ (xs : List Line). line.Said x ∷ xs) t.lines;
  ordered = rw (come, t.ordered) refl;
  fits = (fits, t.fits);
  each = t.each;
  few_begun = t.few_begun;
  few_said = omega (arith, t.few_said);
  some = λ _. omega arith;
}

pub tells : (p : Place) (s e : ℕ) (ls : List Line) → is_within p ≡ true → s ≤ 64 → e ≤ 65536 → Run p s e ls → is_over (place_from p ls) ≡ true → Tells p s e ls
tells p s e [] here fs fe run over = absurd (over_within p over here)
tells p s e (line.Header ∷ ls) here fs fe run over = let bad = (within_comes p s e line.Header here run.0).comes in absurd cc
tells p s e (line.Session n ∷ ls) here fs fe run over =
    let come = within_comes p s e (line.Session n) here run.0 in
    let parts = and_parts (opens_session p) (n == s + 1) come.comes in
    let few = leb-false 64 s come.within in
    tells_session p s e n ls parts.0 (eqb-true n (s + 1) parts.1) fe (tells place.Opened (s + 1) e ls refl (omega arith) fe (subst (λ (k : ℕ). Run place.Opened (s + 1) k ls) (add-zero e) run.1) over)
tells p s e (line.Said x ∷ ls) here fs fe run over =
    let come = within_comes p s e (line.Said x) here run.0 in
    let few = leb-false 65536 e come.within in
    tells_said p s e x ls come.comes come.fits
    (tells (after_role (role_of x)) s (e + 1) ls (role_within (role_of x)) fs (omega arith) (subst (λ (k : ℕ). Run (after_role (role_of x)) k (e + 1) ls) (add-zero s) run.1) over)
tells p s e (line.Done ∷ ls) here fs fe run over =
    let come = within_comes p s e line.Done here run.0 in
    tells_done p s e ls fs fe come.comes (subst (λ (k : ℕ). Run place.Over k e ls) (add-zero s) (subst (λ (k : ℕ). Run place.Over (s + 0) k ls) (add-zero e) run.1))

-- where only a session may come there is no entry in front of it
none_first : (p : Place) (es : List Entry) → p ≡ place.Between → in_order p es ≡ true → es ≡ []
none_first p [] here ordered = refl
none_first p (x ∷ es) here ordered =
    let bad : admits place.Between (role_of x) ≡ true = subst (λ (q : Place). admits q (role_of x) ≡ true) here (and_parts (admits p (role_of x)) (in_order (after_role (role_of x)) es) ordered).0 in
    absurd cc

whole_header : (l : Line) (ls : List Line) → l ≡ line.Header → Run (after_line l) (more_begun 0 l) (more_said 0 l) ls → is_over (place_from (after_line l) ls) ≡ true
    → IsTranscript (sessions_in (l ∷ ls)) × (l ∷ ls ≡ transcript_lines (sessions_in (l ∷ ls)))
whole_header line.Header ls e run over =
    let t = tells place.Between 0 0 ls refl (omega arith) (omega arith) run over in (
      record {
        sessions = omega (arith, t.few_begun);
        entries = omega (arith, t.few_said);
        each = t.each;
      },
      ap (λ (xs : List Line). line.Header ∷ xs) (t.lines ∙ ap (λ (es : List Entry). map line.Said es ++ (sessions_lines 1 (sessions_in ls) ++ line.Done ∷ [])) (none_first place.Between (first_entries ls) refl t.ordered)),
    )
whole_header (line.Session n) ls e run over = absurd cc
whole_header (line.Said x) ls e run over = absurd cc
whole_header line.Done ls e run over = absurd cc

-- lines from the top to the end are those of a transcript
pub whole : (ls : List Line) → Run place.Top 0 0 ls → is_over (place_from place.Top ls) ≡ true → IsTranscript (sessions_in ls) × (ls ≡ transcript_lines (sessions_in ls))
whole [] run over = absurd cc
whole (l ∷ ls) run over = whole_header l ls run.0 run.1 over

-- ---- and back

opens_either : (es : List Entry) (q : Place) (r : Role) → (length es ≡ 0 → q ≡ after_role r) → (0 < length es → opens_session q ≡ true) → opens_session q ≡ true
opens_either [] q r same opens = subst (λ (x : Place). opens_session x ≡ true) (sym (same refl)) (role_opens r)
opens_either (x ∷ es) q r same opens = opens (omega arith)

run_entries : (p : Place) (s e : ℕ) (es : List Entry) (rest : List Line) → is_within p ≡ true → in_order p es ≡ true → AllByRecursion EntryFits es → e + length es ≤ 65536
    → ((q : Place) → (length es ≡ 0 → q ≡ p) → (0 < length es → opens_session q ≡ true) → Run q s (e + length es) rest) → Run p s e (map line.Said es ++ rest)
run_entries p s e [] rest here ordered fits few after = subst (λ (k : ℕ). Run p s k rest) (add-zero e) (after p (λ _. refl) (λ h. absurd (omega arith)))
run_entries p s e (x ∷ es) rest here ordered fits few after =
    let parts = and_parts (admits p (role_of x)) (in_order (after_role (role_of x)) es) ordered in
    let under : nat_le 65536 e ≡ false = lt-leb 65536 e (omega arith) in
    let back : s + 0 ≡ s = omega arith in
    let come : Fitting p s e (line.Said x) = record { comes = parts.0; within = under; fits = fits.0 } in (
      comes_within p s e (line.Said x) here come,
      subst (λ (k : ℕ). Run (after_role (role_of x)) k (e + 1) (map line.Said es ++ rest)) (sym back)
          (run_entries (after_role (role_of x)) s (e + 1) es rest (role_within (role_of x)) parts.1 fits.1 (omega arith)
          (λ q same opens.
          let count : (e + 1) + length es ≡ e + length (x ∷ es) = omega arith in
          subst (λ (k : ℕ). Run q s k rest) (sym count) (after q (λ none. absurd (omega arith)) (λ _. opens_either es q (role_of x) same opens)))),
    )

pub run_sessions : (p : Place) (s e : ℕ) (ss : List (List Entry)) → opens_session p ≡ true → s + length ss ≤ 64 → e + sum_by length ss ≤ 65536 → AllByRecursion IsSession ss
    → Run p s e (sessions_lines (suc s) ss ++ line.Done ∷ [])
unfolding sessions_lines
run_sessions p s e [] opens fs fe each = (comes_within p s e line.Done (opens_within p opens) (record { comes = opens; within = refl; fits = tt }), tt)
run_sessions p s e (x ∷ ss) opens fs fe each =
    let sum : sum_by length (x ∷ ss) ≡ length x + sum_by length ss = sum_by-cons length x ss in
    let up : suc s ≡ s + 1 = omega arith in
    let number : (suc s == s + 1) ≡ true = eq-eqb (suc s) (s + 1) up in
    let under : nat_le 64 s ≡ false = lt-leb 64 s (omega arith) in
    let back : e + 0 ≡ e = omega arith in
    let rest = sessions_lines (suc (suc s)) ss ++ line.Done ∷ [] in
    let come : Fitting p s e (line.Session (suc s)) = record { comes = rw (opens, number) refl; within = under; fits = tt } in (
      comes_within p s e (line.Session (suc s)) (opens_within p opens) come,
      subst (λ (k : ℕ). Run place.Opened (s + 1) k ((map line.Said x ++ sessions_lines (suc (suc s)) ss) ++ line.Done ∷ [])) (sym back)
          (subst (λ (xs : List Line). Run place.Opened (s + 1) e xs) (sym (append_assoc (map line.Said x) (sessions_lines (suc (suc s)) ss) (line.Done ∷ [])))
          (run_entries place.Opened (s + 1) e x rest refl each.0.1 each.0.2 (omega (arith, sum))
          (λ q same opened.
          subst (λ (k : ℕ). Run q k (e + length x) rest) up
          (run_sessions q (suc s) (e + length x) ss (opened each.0.0) (omega arith) (omega (arith, sum)) each.1)))),
    )

pub run_transcript : (ss : List (List Entry)) → IsTranscript ss → Run place.Top 0 0 (transcript_lines ss)
run_transcript ss t = (refl, run_sessions place.Between 0 0 ss refl (omega (arith, t.sessions)) (omega (arith, t.entries)) t.each)

-- ---- the sessions of a transcript's lines are its sessions

entries_first : (es : List Entry) (rest : List Line) → first_entries (map line.Said es ++ rest) ≡ es ++ first_entries rest
entries_first [] rest = refl
entries_first (x ∷ es) rest = ap (λ (xs : List Entry). x ∷ xs) (entries_first es rest)

entries_skipped : (es : List Entry) (rest : List Line) → sessions_in (map line.Said es ++ rest) ≡ sessions_in rest
entries_skipped [] rest = refl
entries_skipped (x ∷ es) rest = entries_skipped es rest

none_before : (k : ℕ) (ss : List (List Entry)) → first_entries (sessions_lines k ss ++ line.Done ∷ []) ≡ []
unfolding sessions_lines
none_before k [] = refl
none_before k (s ∷ ss) = refl

pub sessions_back : (k : ℕ) (ss : List (List Entry)) → sessions_in (sessions_lines k ss ++ line.Done ∷ []) ≡ ss
unfolding sessions_lines
sessions_back k [] = refl
sessions_back k (s ∷ ss) =
    let rest = sessions_lines (suc k) ss ++ line.Done ∷ [] in
    let cut : (map line.Said s ++ sessions_lines (suc k) ss) ++ line.Done ∷ [] ≡ map line.Said s ++ rest = append_assoc (map line.Said s) (sessions_lines (suc k) ss) (line.Done ∷ []) in
    ap (λ (xs : List Line). first_entries xs ∷ sessions_in xs) cut
    ∙ ap (λ (xs : List Entry). xs ∷ sessions_in (map line.Said s ++ rest)) (entries_first s rest ∙ ap (λ (xs : List Entry). s ++ xs) (none_before (suc k) ss) ∙ append-nil s)
    ∙ ap (λ (xs : List (List Entry)). s ∷ xs) (entries_skipped s rest ∙ sessions_back (suc k) ss)
