-- What a line says is what it is spelled of, and what is spelled is said again.
use Rattle.std.proofs.Common.{◌≡◌, ℕ, ◌^◌, ◌<◌, Bool, true, false, cond, List, [], ◌∷◌, length, map, Option, Some, None, Ok, refl, sym, ap, subst, ◌∙◌, arith}
use Rattle.std.specs.Prelude.{Result, codes, decimal, ok_or, find}
use Rattle.std.specs.List.{join_with_byte, slice_split}
use Rattle.std.proofs.lemmas.List.Splits.{join_with_byte-slice_split}
use Rattle.hex.specs.Hex.{encode_lower}
use Rattle.dg_transcript.specs.declared.cause.Cause.{Cause}
use Rattle.dg_transcript.specs.declared.cause.Cause.TheVariants as cause
use Rattle.dg_transcript.specs.declared.code.ErrorCode.{ErrorCode}
use Rattle.dg_transcript.specs.declared.code.ErrorCode.TheVariants.{NotFound, NotPermitted, BrokenPipe, Other}
use Rattle.dg_transcript.specs.declared.entry.Entry.{Entry}
use Rattle.dg_transcript.specs.declared.entry.Entry.TheVariants as entry
use Rattle.dg_transcript.specs.declared.line.Line.{Line}
use Rattle.dg_transcript.specs.declared.line.Line.TheVariants as line
use Rattle.dg_transcript.specs.declared.line.Kind.{Kind}
use Rattle.dg_transcript.specs.declared.line.Kind.TheVariants as kind
use Rattle.dg_bytes.specs.Same.{same_bytes}
use Rattle.dg_transcript.specs.Text.{code_number, word_field, entry_fields, line_fields}
use Rattle.dg_transcript.specs.Limits.{EntryFits}
use Rattle.dg_bytes.specs.Chain.{◌>>=◌}
use Rattle.dg_transcript.specs.Fields.{is_space, number_of, within, wait_of, code_of, bytes_of, words_of, only_field, first_field, no_field, keyword, kinds, kind_of, said, line_by, line_from, read_line}
use Rattle.dg_transcript.proofs.GoodLines.{bind_ok, ok_is}
use Rattle.dg_transcript.proofs.FieldsRead.{same_is, number_takes, number_again, within_takes, within_again, code_takes, code_again, bytes_takes, bytes_again, words_take, words_again}
use Rattle.dg_transcript.proofs.Ordered.{LineFits}
use Rattle.dg_transcript.proofs.Plain.{AllPlain, decimal_plain, hex_plain, words_plain, cut_again}

-- a session's number that is not past every limit
abbrev pub IsSmall : Line → Type 0
IsSmall line.Header = Unit {0}
IsSmall (line.Session n) = n < 10000000
IsSmall (line.Said e) = Unit {0}
IsSmall line.Done = Unit {0}

-- the fields are those of the line, and within its limits
abbrev pub Spells : List (List ℕ) → Line → Type 0
Spells fields l = (fields ≡ line_fields l) × LineFits l

only_is : (fs : List (List ℕ)) (f : List ℕ) → only_field fs ≡ Ok f → fs ≡ f ∷ []
only_is [] f h = absurd cc
only_is (g ∷ []) f h = ap (λ (x : List ℕ). x ∷ []) (ok_is g f h)
only_is (g ∷ k ∷ fs) f h = absurd cc

first_is : (fs : List (List ℕ)) (f : List ℕ × List (List ℕ)) → first_field fs ≡ Ok f → fs ≡ f.0 ∷ f.1
first_is [] f h = absurd cc
first_is (g ∷ gs) f h = let e = ok_is (g, gs) f h in ap (λ (p : List ℕ × List (List ℕ)). p.0 ∷ p.1) e

none_is : (fs : List (List ℕ)) (u : Unit {0}) → no_field fs ≡ Ok u → fs ≡ []
none_is [] u h = refl
none_is (g ∷ gs) u h = absurd cc

-- a line that is made of one field
module _ {A : Type 0} (read : List ℕ → Result A Cause) (make : A → Line) where
  one_takes : (fs : List (List ℕ)) (l : Line) → (only_field fs >>= λ f. read f >>= λ x. Ok (make x)) ≡ Ok l → (f : List ℕ) × (x : A) × (fs ≡ f ∷ []) × (read f ≡ Ok x) × (make x ≡ l)
  one_takes fs l h =
      let a = bind_ok (only_field fs) (λ f. read f >>= λ x. Ok (make x)) l h in
      let b = bind_ok (read a.0) (λ x. Ok (make x)) l a.2 in
      (a.0, b.0, only_is fs a.0 a.1, b.1, ok_is (make b.0) l b.2)

-- a line that is made of two
module _ {A B : Type 0} (first : List ℕ → Result A Cause) (read : List ℕ → Result B Cause) (make : A → B → Line) where
  two_take : (fs : List (List ℕ)) (l : Line) → (first_field fs >>= λ f. first f.0 >>= λ x. only_field f.1 >>= λ g. read g >>= λ y. Ok (make x y)) ≡ Ok l
      → (f : List ℕ) × (g : List ℕ) × (x : A) × (y : B) × (fs ≡ f ∷ g ∷ []) × (first f ≡ Ok x) × (read g ≡ Ok y) × (make x y ≡ l)
  two_take fs l h =
      let a = bind_ok (first_field fs) (λ f. first f.0 >>= λ x. only_field f.1 >>= λ g. read g >>= λ y. Ok (make x y)) l h in
      let b = bind_ok (first a.0.0) (λ x. only_field a.0.1 >>= λ g. read g >>= λ y. Ok (make x y)) l a.2 in
      let c = bind_ok (only_field a.0.1) (λ g. read g >>= λ y. Ok (make b.0 y)) l b.2 in
      let d = bind_ok (read c.0) (λ y. Ok (make b.0 y)) l c.2 in
      (a.0.0, c.0, b.0, d.0, first_is fs a.0 a.1 ∙ ap (λ (x : List (List ℕ)). a.0.0 ∷ x) (only_is a.0.1 c.0 c.1), b.1, d.1, ok_is (make b.0 d.0) l d.2)

pub by_takes : (k : Kind) (fs : List (List ℕ)) (l : Line) → line_by k fs ≡ Ok l → IsSmall l → Spells (keyword k ∷ fs) l
unfolding line_by
by_takes kind.Session fs l h small =
    let t = one_takes number_of (λ n. line.Session n) fs l h in
    let under : t.1 < 10000000 = subst IsSmall (sym t.4) small in
    subst (Spells (codes "session" ∷ fs)) t.4 (ap (λ (x : List (List ℕ)). codes "session" ∷ x) (t.2 ∙ ap (λ (x : List ℕ). x ∷ []) (number_takes t.0 t.1 t.3 under)), tt)
by_takes kind.Started fs l h small =
    let a = bind_ok (words_of fs) (λ words. said (entry.Started words)) l h in
    let t = words_take fs a.0 a.1 in
    subst (Spells (codes "started" ∷ fs)) (ok_is (line.Said (entry.Started a.0)) l a.2) (ap (λ (x : List (List ℕ)). codes "started" ∷ x) t.0, t.1)
by_takes kind.NoStart fs l h small =
    let a = bind_ok (first_field fs) (λ f. code_of f.0 >>= λ code. words_of f.1 >>= λ words. said (entry.NoStart code words)) l h in
    let b = bind_ok (code_of a.0.0) (λ code. words_of a.0.1 >>= λ words. said (entry.NoStart code words)) l a.2 in
    let c = bind_ok (words_of a.0.1) (λ words. said (entry.NoStart b.0 words)) l b.2 in
    let t = words_take a.0.1 c.0 c.1 in
    subst (Spells (codes "nostart" ∷ fs)) (ok_is (line.Said (entry.NoStart b.0 c.0)) l c.2)
    (ap (λ (x : List (List ℕ)). codes "nostart" ∷ x) (first_is fs a.0 a.1 ∙ ap (λ (x : List ℕ). x ∷ a.0.1) (code_takes a.0.0 b.0 b.1) ∙ ap (λ (x : List (List ℕ)). decimal (code_number b.0) ∷ x) t.0), t.1)
by_takes kind.Sent fs l h small =
    let t = one_takes (bytes_of 1048576) (λ bytes. line.Said (entry.Sent bytes)) fs l h in
    let b = bytes_takes 1048576 t.0 t.1 t.3 in
    subst (Spells (codes "sent" ∷ fs)) t.4 (ap (λ (x : List (List ℕ)). codes "sent" ∷ x) (t.2 ∙ ap (λ (x : List ℕ). x ∷ []) b.0), b.1)
by_takes kind.NoSend fs l h small =
    let t = two_take code_of (bytes_of 1048576) (λ code bytes. line.Said (entry.NoSend code bytes)) fs l h in
    let b = bytes_takes 1048576 t.1 t.3 t.6 in
    subst (Spells (codes "nosend" ∷ fs)) t.7 (ap (λ (x : List (List ℕ)). codes "nosend" ∷ x) (t.4 ∙ ap (λ (x : List ℕ). x ∷ t.1 ∷ []) (code_takes t.0 t.2 t.5) ∙ ap (λ (x : List ℕ). decimal (code_number t.2) ∷ x ∷ []) b.0), b.1)
by_takes kind.Chunk fs l h small =
    let t = two_take wait_of (bytes_of 4096) (λ wait bytes. line.Said (entry.Chunk wait bytes)) fs l h in
    let w = within_takes 0 3600000 t.0 t.2 (omega arith) t.5 in
    let b = bytes_takes 4096 t.1 t.3 t.6 in
    subst (Spells (codes "chunk" ∷ fs)) t.7 (ap (λ (x : List (List ℕ)). codes "chunk" ∷ x) (t.4 ∙ ap (λ (x : List ℕ). x ∷ t.1 ∷ []) w.0 ∙ ap (λ (x : List ℕ). decimal t.2 ∷ x ∷ []) b.0), (w.2, b.1))
by_takes kind.End fs l h small =
    let t = one_takes wait_of (λ wait. line.Said (entry.End wait)) fs l h in
    let w = within_takes 0 3600000 t.0 t.1 (omega arith) t.3 in
    subst (Spells (codes "end" ∷ fs)) t.4 (ap (λ (x : List (List ℕ)). codes "end" ∷ x) (t.2 ∙ ap (λ (x : List ℕ). x ∷ []) w.0), w.2)
by_takes kind.NoRead fs l h small =
    let t = one_takes code_of (λ code. line.Said (entry.NoRead code)) fs l h in
    subst (Spells (codes "noread" ∷ fs)) t.4 (ap (λ (x : List (List ℕ)). codes "noread" ∷ x) (t.2 ∙ ap (λ (x : List ℕ). x ∷ []) (code_takes t.0 t.1 t.3)), tt)
by_takes kind.Silence fs l h small =
    let t = one_takes wait_of (λ wait. line.Said (entry.Silence wait)) fs l h in
    let w = within_takes 0 3600000 t.0 t.1 (omega arith) t.3 in
    subst (Spells (codes "silence" ∷ fs)) t.4 (ap (λ (x : List (List ℕ)). codes "silence" ∷ x) (t.2 ∙ ap (λ (x : List ℕ). x ∷ []) w.0), w.2)
by_takes kind.Closed fs l h small =
    let a = bind_ok (no_field fs) (λ _. said entry.Closed) l h in
    subst (Spells (codes "closed" ∷ fs)) (ok_is (line.Said entry.Closed) l a.2) (ap (λ (x : List (List ℕ)). codes "closed" ∷ x) (none_is fs a.0 a.1), tt)
by_takes kind.NoClose fs l h small =
    let t = one_takes code_of (λ code. line.Said (entry.NoClose code)) fs l h in
    subst (Spells (codes "noclose" ∷ fs)) t.4 (ap (λ (x : List (List ℕ)). codes "noclose" ∷ x) (t.2 ∙ ap (λ (x : List ℕ). x ∷ []) (code_takes t.0 t.1 t.3)), tt)
by_takes kind.Exited fs l h small =
    let t = one_takes (within 0 255) (λ status. line.Said (entry.Exited status)) fs l h in
    let w = within_takes 0 255 t.0 t.1 (omega arith) t.3 in
    subst (Spells (codes "exited" ∷ fs)) t.4 (ap (λ (x : List (List ℕ)). codes "exited" ∷ x) (t.2 ∙ ap (λ (x : List ℕ). x ∷ []) w.0), w.2)
by_takes kind.Killed fs l h small =
    let t = one_takes (within 1 127) (λ signal. line.Said (entry.Killed signal)) fs l h in
    let w = within_takes 1 127 t.0 t.1 (omega arith) t.3 in
    subst (Spells (codes "killed" ∷ fs)) t.4 (ap (λ (x : List (List ℕ)). codes "killed" ∷ x) (t.2 ∙ ap (λ (x : List ℕ). x ∷ []) w.0), (w.1, w.2))
by_takes kind.NoWait fs l h small =
    let t = one_takes code_of (λ code. line.Said (entry.NoWait code)) fs l h in
    subst (Spells (codes "nowait" ∷ fs)) t.4 (ap (λ (x : List (List ℕ)). codes "nowait" ∷ x) (t.2 ∙ ap (λ (x : List ℕ). x ∷ []) (code_takes t.0 t.1 t.3)), tt)
by_takes kind.Done fs l h small =
    let a = bind_ok (no_field fs) (λ _. Ok line.Done) l h in
    subst (Spells (codes "done" ∷ fs)) (ok_is line.Done l a.2) (ap (λ (x : List (List ℕ)). codes "done" ∷ x) (none_is fs a.0 a.1), tt)

found_by : (b : Bool) (x : Kind) (test : Kind → Bool) (ks : List Kind) (k : Kind) → test x ≡ b → cond b (Some x) (find test ks) ≡ Some k → (find test ks ≡ Some k → test k ≡ true) → test k ≡ true
found_by true x test ks k here h rest = let same : x ≡ k = cc in ap test (sym same) ∙ here
found_by false x test ks k here h rest = rest h

found_is : (test : Kind → Bool) (ks : List Kind) (k : Kind) → find test ks ≡ Some k → test k ≡ true
found_is test [] k h = absurd cc
found_is test (x ∷ ks) k h = found_by (test x) x test ks k refl h (found_is test ks k)

some_is : (o : Option Kind) (k : Kind) → ok_or o cause.Kind ≡ Ok k → o ≡ Some k
some_is (Some x) k h = ap (λ (y : Kind). Some y) (ok_is x k h)
some_is None k h = absurd cc

from_takes : (fs : List (List ℕ)) (l : Line) → line_from fs ≡ Ok l → IsSmall l → Spells fs l
unfolding line_from kind_of
from_takes [] l h small = absurd cc
from_takes (w ∷ fs) l h small =
    let a = bind_ok (ok_or (kind_of w) cause.Kind) (λ k. line_by k fs) l h in
    let named : keyword a.0 ≡ w = same_is (keyword a.0) w (found_is (λ k. same_bytes (keyword k) w) kinds a.0 (some_is (kind_of w) a.0 a.1)) in
    subst (λ (x : List ℕ). Spells (x ∷ fs) l) named (by_takes a.0 fs l a.2 small)

-- what a line says spells it
pub line_takes : (text : List ℕ) (l : Line) → read_line text ≡ Ok l → IsSmall l → (text ≡ join_with_byte 32 (line_fields l)) × LineFits l
line_takes text l h small =
    let t = from_takes (slice_split is_space text) l h small in
    (sym (join_with_byte-slice_split 32 text) ∙ ap (join_with_byte 32) t.0, t.1)

-- ---- and back

kind_again : (k : Kind) → kind_of (keyword k) ≡ Some k
unfolding kind_of
kind_again kind.Session = refl
kind_again kind.Started = refl
kind_again kind.NoStart = refl
kind_again kind.Sent = refl
kind_again kind.NoSend = refl
kind_again kind.Chunk = refl
kind_again kind.End = refl
kind_again kind.NoRead = refl
kind_again kind.Silence = refl
kind_again kind.Closed = refl
kind_again kind.NoClose = refl
kind_again kind.Exited = refl
kind_again kind.Killed = refl
kind_again kind.NoWait = refl
kind_again kind.Done = refl

from_again : (k : Kind) (fs : List (List ℕ)) (l : Line) → line_by k fs ≡ Ok l → line_from (keyword k ∷ fs) ≡ Ok l
unfolding line_from
from_again k fs l h = rw (kind_again k) h

entry_again : (e : Entry) → EntryFits e → line_from (entry_fields e) ≡ Ok (line.Said e)
unfolding line_by
entry_again (entry.Started words) fits = from_again kind.Started (map word_field words) (line.Said (entry.Started words)) (rw (words_again words fits) refl)
entry_again (entry.NoStart code words) fits = from_again kind.NoStart (decimal (code_number code) ∷ map word_field words) (line.Said (entry.NoStart code words)) (rw (code_again code, words_again words fits) refl)
entry_again (entry.Sent bytes) fits = from_again kind.Sent (encode_lower bytes ∷ []) (line.Said (entry.Sent bytes)) (rw (bytes_again 1048576 bytes fits) refl)
entry_again (entry.NoSend code bytes) fits = from_again kind.NoSend (decimal (code_number code) ∷ encode_lower bytes ∷ []) (line.Said (entry.NoSend code bytes)) (rw (code_again code, bytes_again 1048576 bytes fits) refl)
entry_again (entry.Chunk wait bytes) fits = from_again kind.Chunk (decimal wait ∷ encode_lower bytes ∷ []) (line.Said (entry.Chunk wait bytes)) (rw (within_again 0 3600000 wait (omega arith) (omega arith) fits.0, bytes_again 4096 bytes fits.1) refl)
entry_again (entry.End wait) fits = from_again kind.End (decimal wait ∷ []) (line.Said (entry.End wait)) (rw (within_again 0 3600000 wait (omega arith) (omega arith) fits) refl)
entry_again (entry.NoRead code) fits = from_again kind.NoRead (decimal (code_number code) ∷ []) (line.Said (entry.NoRead code)) (rw (code_again code) refl)
entry_again (entry.Silence wait) fits = from_again kind.Silence (decimal wait ∷ []) (line.Said (entry.Silence wait)) (rw (within_again 0 3600000 wait (omega arith) (omega arith) fits) refl)
entry_again entry.Closed fits = from_again kind.Closed [] (line.Said entry.Closed) refl
entry_again (entry.NoClose code) fits = from_again kind.NoClose (decimal (code_number code) ∷ []) (line.Said (entry.NoClose code)) (rw (code_again code) refl)
entry_again (entry.Exited status) fits = from_again kind.Exited (decimal status ∷ []) (line.Said (entry.Exited status)) (rw (within_again 0 255 status (omega arith) (omega arith) fits) refl)
entry_again (entry.Killed signal) fits = from_again kind.Killed (decimal signal ∷ []) (line.Said (entry.Killed signal)) (rw (within_again 1 127 signal (omega arith) fits.0 fits.1) refl)
entry_again (entry.NoWait code) fits = from_again kind.NoWait (decimal (code_number code) ∷ []) (line.Said (entry.NoWait code)) (rw (code_again code) refl)

code_small : (c : ErrorCode) → code_number c < 2 ^ 64
code_small NotFound = omega arith
code_small NotPermitted = omega arith
code_small BrokenPipe = omega arith
code_small Other = omega arith

entry_plain : (e : Entry) → EntryFits e → AllPlain (entry_fields e)
entry_plain (entry.Started words) fits = (refl, words_plain words fits.2)
entry_plain (entry.NoStart code words) fits = (refl, (decimal_plain (code_number code) (code_small code), words_plain words fits.2))
entry_plain (entry.Sent bytes) fits = (refl, (hex_plain bytes fits.2, tt))
entry_plain (entry.NoSend code bytes) fits = (refl, (decimal_plain (code_number code) (code_small code), (hex_plain bytes fits.2, tt)))
entry_plain (entry.Chunk wait bytes) fits = (refl, (decimal_plain wait (omega (arith, fits.0)), (hex_plain bytes fits.1.2, tt)))
entry_plain (entry.End wait) fits = (refl, (decimal_plain wait (omega arith), tt))
entry_plain (entry.NoRead code) fits = (refl, (decimal_plain (code_number code) (code_small code), tt))
entry_plain (entry.Silence wait) fits = (refl, (decimal_plain wait (omega arith), tt))
entry_plain entry.Closed fits = (refl, tt)
entry_plain (entry.NoClose code) fits = (refl, (decimal_plain (code_number code) (code_small code), tt))
entry_plain (entry.Exited status) fits = (refl, (decimal_plain status (omega arith), tt))
entry_plain (entry.Killed signal) fits = (refl, (decimal_plain signal (omega (arith, fits.1)), tt))
entry_plain (entry.NoWait code) fits = (refl, (decimal_plain (code_number code) (code_small code), tt))

pub line_plain : (l : Line) → LineFits l → IsSmall l → AllPlain (line_fields l)
line_plain line.Header fits small = (refl, (refl, tt))
line_plain (line.Session n) fits small = (refl, (decimal_plain n (omega arith), tt))
line_plain (line.Said e) fits small = entry_plain e fits
line_plain line.Done fits small = (refl, tt)

-- a line behind the header
abbrev pub IsLower : Line → Type 0
IsLower line.Header = ⊥
IsLower (line.Session n) = n < 10000000
IsLower (line.Said e) = EntryFits e
IsLower line.Done = Unit {0}

cut_fields : (fs : List (List ℕ)) → 0 < length fs → AllPlain fs → slice_split is_space (join_with_byte 32 fs) ≡ fs
cut_fields [] some all = absurd (omega arith)
cut_fields (f ∷ fs) some all = cut_again f fs all

entry_some : (e : Entry) → 0 < length (entry_fields e)
entry_some (entry.Started words) = omega arith
entry_some (entry.NoStart code words) = omega arith
entry_some (entry.Sent bytes) = omega arith
entry_some (entry.NoSend code bytes) = omega arith
entry_some (entry.Chunk wait bytes) = omega arith
entry_some (entry.End wait) = omega arith
entry_some (entry.NoRead code) = omega arith
entry_some (entry.Silence wait) = omega arith
entry_some entry.Closed = omega arith
entry_some (entry.NoClose code) = omega arith
entry_some (entry.Exited status) = omega arith
entry_some (entry.Killed signal) = omega arith
entry_some (entry.NoWait code) = omega arith

pub line_again : (l : Line) → IsLower l → read_line (join_with_byte 32 (line_fields l)) ≡ Ok l
unfolding line_by
line_again line.Header low = absurd low
line_again (line.Session n) low = ap line_from (cut_again (codes "session") (decimal n ∷ []) (refl, (decimal_plain n (omega arith), tt))) ∙ from_again kind.Session (decimal n ∷ []) (line.Session n) (rw (number_again n low) refl)
line_again (line.Said e) low = ap line_from (cut_fields (entry_fields e) (entry_some e) (entry_plain e low)) ∙ entry_again e low
line_again line.Done low = ap line_from (cut_again (codes "done") [] (refl, tt)) ∙ from_again kind.Done [] line.Done refl
