-- What stands after one call more.
use Rattle.std.proofs.Common.{◌≡◌, ℕ, ◌+◌, ◌≤◌, Bool, true, false, cond, ◌||◌, nat_le, min, List, [], ◌∷◌, ◌++◌, Option, None, Some, Result, Ok, Err, OnOk, refl, ap, ◌∙◌, sym, arith, append_assoc, lit≤, if◌then◌else◌}
use Rattle.std.proofs.lemmas.Bool.Decides.{nat_tests}
use Rattle.std.specs.List.{filter_map}
use Rattle.std.proofs.lemmas.List.Elements.{filter_map-append}
use Rattle.std.proofs.lemmas.List.{append-nil}
use Rattle.dg_results.specs.declared.class.Class.{Class}
use Rattle.dg_results.specs.declared.class.Class.TheVariants as class
use Rattle.dg_results.specs.declared.verdict.Line.{Line}
use Rattle.dg_results.specs.declared.call.ResultCall.{ResultCall}
use Rattle.dg_results.specs.declared.call.ResultCall.TheVariants.{Perror, Warning, Note}
use Rattle.dg_results.specs.Calls.{is_result, xfail_choice, kfail_choice, error_given, warning_given}
use Rattle.dg_results.specs.Lines.{last_or, since_result, stands, counted, count_since, class_after, line, lines_of_call, lines_after, lines_of}
use Rattle.dg_results.specs.Standing.{Standing, after_calls}
use Rattle.dg_results.specs.Steps.{class_at, with_result, with_line, count_after}
use Rattle.dg_results.proofs.ListLemmas.{after_last-append_pass, after_last-append_other, last_or-append, counted-append_none, counted-append_some}

-- what follows of what holds where nothing failed
pub on_ok : {A E : Type 0} (r : Result A E) (P Q : Type 0) → (P → Q) → OnOk r P → OnOk r Q
on_ok (Ok x) P Q f h = f h
on_ok (Err e) P Q f h = tt

-- the lines of one call more
lines_after-append : (before calls : List ResultCall) (c : ResultCall) → lines_after before (calls ++ c ∷ []) ≡ lines_after before calls ++ lines_of_call (before ++ calls) c
lines_after-append before [] c = append-nil (lines_of_call before c) ∙ ap (λ b. lines_of_call b c) (sym (append-nil before))
lines_after-append before (d ∷ calls) c =
    ap (λ ls. lines_of_call before d ++ ls) (lines_after-append (before ++ d ∷ []) calls c)
    ∙ ap (λ b. lines_of_call before d ++ (lines_after (before ++ d ∷ []) calls ++ lines_of_call b c)) (append_assoc before (d ∷ []) calls)
    ∙ sym (append_assoc (lines_of_call before d) (lines_after (before ++ d ∷ []) calls) (lines_of_call (before ++ d ∷ calls) c))

pub lines_of-append : (calls : List ResultCall) (c : ResultCall) → lines_of (calls ++ c ∷ []) ≡ lines_of calls ++ lines_of_call calls c
unfolding lines_of
lines_of-append calls c = lines_after-append [] calls c

-- what a call gives, of the calls since the last result
given-append : {A : Type 0} (f : ResultCall → Option A) (calls : List ResultCall) (c : ResultCall) → is_result c ≡ false → filter_map f (since_result (calls ++ c ∷ [])) ≡ filter_map f (since_result calls) ++ filter_map f (c ∷ [])
given-append f calls c h =
    ap (λ cs. filter_map f cs) (after_last-append_other is_result calls c h) ∙ filter_map-append f (since_result calls) (c ∷ [])

given-append_result : {A : Type 0} (f : ResultCall → Option A) (calls : List ResultCall) (c : ResultCall) → is_result c ≡ true → filter_map f (since_result (calls ++ c ∷ [])) ≡ []
given-append_result f calls c h = ap (λ cs. filter_map f cs) (after_last-append_pass is_result calls c h)

-- a flag after a result
stands-result : (f : ResultCall → Option Bool) (calls : List ResultCall) (c : ResultCall) → is_result c ≡ true → stands f (calls ++ c ∷ []) ≡ false
stands-result f calls c h = ap (λ bs. last_or false bs) (given-append_result f calls c h)

-- a flag after another call
stands-other : (f : ResultCall → Option Bool) (calls : List ResultCall) (c : ResultCall) → is_result c ≡ false → filter_map f (c ∷ []) ≡ [] → stands f (calls ++ c ∷ []) ≡ stands f calls
stands-other f calls c h none =
    ap (λ bs. last_or false bs) (given-append f calls c h ∙ ap (λ bs. filter_map f (since_result calls) ++ bs) none ∙ append-nil (filter_map f (since_result calls)))

-- a flag after a setup or clear of its kind
stands-choice : (f : ResultCall → Option Bool) (calls : List ResultCall) (c : ResultCall) (b : Bool) → is_result c ≡ false → filter_map f (c ∷ []) ≡ b ∷ [] → stands f (calls ++ c ∷ []) ≡ b
stands-choice f calls c b h one =
    ap (λ bs. last_or false bs) (given-append f calls c h ∙ ap (λ bs. filter_map f (since_result calls) ++ bs) one)
    ∙ last_or-append false (filter_map f (since_result calls)) b

-- a count after a result
count-result : (f : ResultCall → Option (Option ℕ)) (calls : List ResultCall) (c : ResultCall) → is_result c ≡ true → count_since f (calls ++ c ∷ []) ≡ 0
count-result f calls c h = ap (λ ns. counted ns) (given-append_result f calls c h)

-- a count after another call
count-other : (f : ResultCall → Option (Option ℕ)) (calls : List ResultCall) (c : ResultCall) → is_result c ≡ false → filter_map f (c ∷ []) ≡ [] → count_since f (calls ++ c ∷ []) ≡ count_since f calls
count-other f calls c h none =
    ap (λ ns. counted ns) (given-append f calls c h ∙ ap (λ ns. filter_map f (since_result calls) ++ ns) none ∙ append-nil (filter_map f (since_result calls)))

-- a count after a call of its kind without a number
count-none : (f : ResultCall → Option (Option ℕ)) (calls : List ResultCall) (c : ResultCall) → is_result c ≡ false → filter_map f (c ∷ []) ≡ None ∷ [] → count_since f (calls ++ c ∷ []) ≡ count_since f calls + 1
count-none f calls c h one =
    ap (λ ns. counted ns) (given-append f calls c h ∙ ap (λ ns. filter_map f (since_result calls) ++ ns) one)
    ∙ counted-append_none (filter_map f (since_result calls))

-- a count after a call of its kind with a number
count-some : (f : ResultCall → Option (Option ℕ)) (calls : List ResultCall) (c : ResultCall) (n : ℕ) → is_result c ≡ false → filter_map f (c ∷ []) ≡ Some n ∷ [] → count_since f (calls ++ c ∷ []) ≡ n
count-some f calls c n h one =
    ap (λ ns. counted ns) (given-append f calls c h ∙ ap (λ ns. filter_map f (since_result calls) ++ ns) one)
    ∙ counted-append_some (filter_map f (since_result calls)) n

-- what stands, by its parts
same : (ls ls' : List Line) (x x' k k' : Bool) (e e' w w' : ℕ) → ls ≡ ls' → x ≡ x' → k ≡ k' → e ≡ e' → w ≡ w' → (let a : Standing = record { lines = ls; xfail = x; kfail = k; errors = e; warnings = w } in let b : Standing = record { lines = ls'; xfail = x'; kfail = k'; errors = e'; warnings = w' } in a ≡ b)
same ls ls' x x' k k' e e' w w' p q r s t = cc

-- a test of a small number sees the same of a capped count
nat_le-min : (k n : ℕ) → k ≤ 4294967295 → nat_le k (min n 4294967295) ≡ nat_le k n
nat_le-min k n h = grind (arith, nat_tests)

-- the class of a pass or fail
pub class_at-after : (calls : List ResultCall) (own under_xfail under_kfail : Class) → class_at (after_calls calls) own under_xfail under_kfail ≡ class_after calls own under_xfail under_kfail
unfolding after_calls
class_at-after calls own under_xfail under_kfail =
    let flagged = if stands kfail_choice calls then under_kfail else (if stands xfail_choice calls then under_xfail else own) in
    ap (λ b. cond (b || nat_le 3 (min (count_since warning_given calls) 4294967295)) class.Unresolved flagged) (nat_le-min 1 (count_since error_given calls) (lit≤ tt))
    ∙ ap (λ b. cond (nat_le 1 (count_since error_given calls) || b) class.Unresolved flagged) (nat_le-min 3 (count_since warning_given calls) (lit≤ tt))

-- after no call
pub after_calls-none : after_calls [] ≡ record { lines = []; xfail = false; kfail = false; errors = 0; warnings = 0 }
unfolding after_calls lines_of
after_calls-none = refl

-- after a result
pub after_calls-result : (calls : List ResultCall) (c : ResultCall) (of : Class) (m : List ℕ) → is_result c ≡ true → lines_of_call calls c ≡ line of m ∷ [] → after_calls (calls ++ c ∷ []) ≡ with_result (after_calls calls) of m
unfolding after_calls
after_calls-result calls c of m h one =
    same _ _ _ _ _ _ _ _ _ _ (lines_of-append calls c ∙ ap (λ ls. lines_of calls ++ ls) one)
    (stands-result xfail_choice calls c h)
    (stands-result kfail_choice calls c h)
    (ap (λ n. min n 4294967295) (count-result error_given calls c h))
    (ap (λ n. min n 4294967295) (count-result warning_given calls c h))

-- after a note
pub after_calls-note : (calls : List ResultCall) (m : List ℕ) → after_calls (calls ++ Note m ∷ []) ≡ with_line (after_calls calls) class.Note m
unfolding after_calls
after_calls-note calls m =
    let c = Note m in
    same _ _ _ _ _ _ _ _ _ _ (lines_of-append calls c)
    (stands-other xfail_choice calls c refl refl)
    (stands-other kfail_choice calls c refl refl)
    (ap (λ n. min n 4294967295) (count-other error_given calls c refl refl))
    (ap (λ n. min n 4294967295) (count-other warning_given calls c refl refl))

-- a capped count after a call of its kind
count-after : (f : ResultCall → Option (Option ℕ)) (calls : List ResultCall) (c : ResultCall) (given : Option ℕ) → is_result c ≡ false → filter_map f (c ∷ []) ≡ given ∷ [] → min (count_since f (calls ++ c ∷ [])) 4294967295 ≡ count_after (min (count_since f calls) 4294967295) given
count-after f calls c None h one = ap (λ n. min n 4294967295) (count-none f calls c h one) ∙ omega arith
count-after f calls c (Some n) h one = ap (λ n. min n 4294967295) (count-some f calls c n h one)

-- after an error
pub after_calls-perror : (calls : List ResultCall) (m : List ℕ) (given : Option ℕ) → after_calls (calls ++ Perror m given ∷ []) ≡ record (with_line (after_calls calls) class.Error m) { errors = count_after (after_calls calls).errors given }
unfolding after_calls
after_calls-perror calls m given =
    let c = Perror m given in
    same _ _ _ _ _ _ _ _ _ _ (lines_of-append calls c)
    (stands-other xfail_choice calls c refl refl)
    (stands-other kfail_choice calls c refl refl)
    (count-after error_given calls c given refl refl)
    (ap (λ n. min n 4294967295) (count-other warning_given calls c refl refl))

-- after a warning
pub after_calls-warning : (calls : List ResultCall) (m : List ℕ) (given : Option ℕ) → after_calls (calls ++ Warning m given ∷ []) ≡ record (with_line (after_calls calls) class.Warning m) { warnings = count_after (after_calls calls).warnings given }
unfolding after_calls
after_calls-warning calls m given =
    let c = Warning m given in
    same _ _ _ _ _ _ _ _ _ _ (lines_of-append calls c)
    (stands-other xfail_choice calls c refl refl)
    (stands-other kfail_choice calls c refl refl)
    (ap (λ n. min n 4294967295) (count-other error_given calls c refl refl))
    (count-after warning_given calls c given refl refl)

-- after a setup or clear of the xfail flag
pub after_calls-xfail : (calls : List ResultCall) (c : ResultCall) (b : Bool) → is_result c ≡ false → lines_of_call calls c ≡ [] → filter_map xfail_choice (c ∷ []) ≡ b ∷ [] → filter_map kfail_choice (c ∷ []) ≡ [] → filter_map error_given (c ∷ []) ≡ [] → filter_map warning_given (c ∷ []) ≡ [] → after_calls (calls ++ c ∷ []) ≡ record (after_calls calls) { xfail = b }
unfolding after_calls
after_calls-xfail calls c b h no_line one kfail errors warnings =
    same _ _ _ _ _ _ _ _ _ _ (lines_of-append calls c ∙ ap (λ ls. lines_of calls ++ ls) no_line ∙ append-nil (lines_of calls))
    (stands-choice xfail_choice calls c b h one)
    (stands-other kfail_choice calls c h kfail)
    (ap (λ n. min n 4294967295) (count-other error_given calls c h errors))
    (ap (λ n. min n 4294967295) (count-other warning_given calls c h warnings))

-- after a setup or clear of the kfail flag
pub after_calls-kfail : (calls : List ResultCall) (c : ResultCall) (b : Bool) → is_result c ≡ false → lines_of_call calls c ≡ [] → filter_map kfail_choice (c ∷ []) ≡ b ∷ [] → filter_map xfail_choice (c ∷ []) ≡ [] → filter_map error_given (c ∷ []) ≡ [] → filter_map warning_given (c ∷ []) ≡ [] → after_calls (calls ++ c ∷ []) ≡ record (after_calls calls) { kfail = b }
unfolding after_calls
after_calls-kfail calls c b h no_line one xfail errors warnings =
    same _ _ _ _ _ _ _ _ _ _ (lines_of-append calls c ∙ ap (λ ls. lines_of calls ++ ls) no_line ∙ append-nil (lines_of calls))
    (stands-other xfail_choice calls c h xfail)
    (stands-choice kfail_choice calls c b h one)
    (ap (λ n. min n 4294967295) (count-other error_given calls c h errors))
    (ap (λ n. min n 4294967295) (count-other warning_given calls c h warnings))

-- the lines of what stands
pub lines-after_calls : (calls : List ResultCall) → (after_calls calls).lines ≡ lines_of calls
unfolding after_calls
lines-after_calls calls = refl

-- the lines of what stands after these calls
lines-stood : (s : Standing) (calls : List ResultCall) → s ≡ after_calls calls → s.lines ≡ lines_of calls
lines-stood s calls stood = ap (λ (t : Standing). t.lines) stood ∙ lines-after_calls calls

-- one line more
pub lines-with_line : (s t : Standing) (calls : List ResultCall) (of : Class) (m : List ℕ) → s ≡ after_calls calls → t ≡ with_line s of m → t.lines ≡ lines_of calls ++ line of m ∷ []
lines-with_line s t calls of m stood more = ap (λ (u : Standing). u.lines) more ∙ ap (λ ls. ls ++ line of m ∷ []) (lines-stood s calls stood)

-- three lines more
pub lines-three : (s t u v : Standing) (calls : List ResultCall) (of of' of'' : Class) (m m' m'' : List ℕ) → s ≡ after_calls calls → t ≡ with_line s of m → u ≡ with_line t of' m' → v ≡ with_line u of'' m'' → v.lines ≡ lines_of calls ++ line of m ∷ line of' m' ∷ line of'' m'' ∷ []
lines-three s t u v calls of of' of'' m m' m'' stood first second third =
    ap (λ (w : Standing). w.lines) third
    ∙ ap (λ (w : Standing). w.lines ++ line of'' m'' ∷ []) second
    ∙ ap (λ ls. (ls ++ line of' m' ∷ []) ++ line of'' m'' ∷ []) (lines-with_line s t calls of m stood first)
    ∙ append_assoc (lines_of calls ++ line of m ∷ []) (line of' m' ∷ []) (line of'' m'' ∷ [])
    ∙ append_assoc (lines_of calls) (line of m ∷ []) (line of' m' ∷ line of'' m'' ∷ [])
