-- Reading words one after the other, as a loop does.
use Rattle.std.proofs.Common.{◌≡◌, ℕ, ◌+◌, ◌<◌, ◌≤◌, Bool, true, false, cond, ◌&&◌, List, [], ◌∷◌, ◌++◌, length, Option, Some, None, Ok, Err, refl, sym, ap, ◌∙◌, append_assoc, arith}
use Rattle.std.specs.Prelude.{Result, ok_or, nat_lt}
use Rattle.std.specs.Result.{result_ok}
use Rattle.std.proofs.lemmas.List.{append-nil}
use Rattle.std.proofs.lemmas.Bool.{le-leb, lt-leb}
use Rattle.hex.specs.Hex.{encode_lower, decode_of}
use Rattle.dg_transcript.specs.declared.cause.Cause.{Cause}
use Rattle.dg_transcript.specs.declared.cause.Cause.TheVariants as cause
use Rattle.dg_bytes.specs.Same.{same_bytes}
use Rattle.dg_bytes.specs.Chain.{◌>>=◌}
use Rattle.dg_transcript.specs.Fields.{Fails, spelled_by, hex_of, word_of, each_word, words_of}

-- what was read before, and what is still read
abbrev pub with_front : List (List ℕ) → Result (List (List ℕ)) Cause → Result (List (List ℕ)) Cause
with_front front read = read >>= λ ws. Ok (front ++ ws)

regroup : (front : List (List ℕ)) (w : List ℕ) (read : Result (List (List ℕ)) Cause) → with_front front (read >>= λ ws. Ok (w ∷ ws)) ≡ with_front (front ++ w ∷ []) read
regroup front w (Ok ws) = ap (λ (v : List (List ℕ)). Ok v) (simp append_assoc)
regroup front w (Err e) = refl

pub goes_on : (front : List (List ℕ)) (f w : List ℕ) (fs : List (List ℕ)) (total : Result (List (List ℕ)) Cause) → word_of f ≡ Ok w
    → with_front front (each_word (f ∷ fs)) ≡ total → with_front (front ++ w ∷ []) (each_word fs) ≡ total
unfolding each_word
goes_on front f w fs total read so_far =
    let one : with_front front (each_word (f ∷ fs)) ≡ with_front (front ++ w ∷ []) (each_word fs) = rw read (regroup front w (each_word fs)) in
    sym one ∙ so_far

guard_err : {A : Type 0} (b : Bool) (x : A) (c : Cause) → cond b (Ok x) (Err cause.Field) ≡ Err c → c ≡ cause.Field
guard_err true x c e = absurd cc
guard_err false x c e = cc

spelled_err : (text : List ℕ) (o : Option (List ℕ)) (c : Cause) → (ok_or o cause.Field >>= spelled_by text) ≡ Err c → c ≡ cause.Field
spelled_err text None c e = cc
spelled_err text (Some bytes) c e = guard_err (same_bytes (encode_lower bytes) text && nat_lt 0 (length bytes)) bytes c e

pub hex_err : (text : List ℕ) (c : Cause) → hex_of text ≡ Err c → c ≡ cause.Field
unfolding hex_of
hex_err text c e = spelled_err text (result_ok (decode_of text)) c e

choice_err : (b : Bool) (x : List ℕ) (r : Result (List ℕ) Cause) (c : Cause) → cond b (Ok x) r ≡ Err c → r ≡ Err c
choice_err true x r c e = absurd cc
choice_err false x r c e = e

pub word_err : (text : List ℕ) (c : Cause) → word_of text ≡ Err c → c ≡ cause.Field
unfolding word_of
word_err text c e = hex_err text c (choice_err _ [] (hex_of text) c e)

-- a word that can't be read, in a loop that has read those before it
fails_at : (front : List (List ℕ)) (f : List ℕ) (fs : List (List ℕ)) (total : Result (List (List ℕ)) Cause) (c : Cause) → word_of f ≡ Err c
    → with_front front (each_word (f ∷ fs)) ≡ total → total ≡ Err c
unfolding each_word
fails_at front f fs total c bad so_far = let one : with_front front (each_word (f ∷ fs)) ≡ Err c = rw bad refl in sym so_far ∙ one

too_long : (fs : List (List ℕ)) → 64 < length fs → words_of fs ≡ Err cause.Field
unfolding words_of
too_long fs many = rw (lt-leb (length fs) 64 many, le-leb 1 (length fs) (omega arith)) refl

choose : (b : Bool) (r : Result (List (List ℕ)) Cause) → r ≡ Err cause.Field → cond b r (Err cause.Field) ≡ Err cause.Field
choose true r e = e
choose false r e = refl

pub words_fail : (all : List (List ℕ)) → each_word all ≡ Err cause.Field → words_of all ≡ Err cause.Field
unfolding words_of
words_fail all e = choose _ (each_word all) e

pub word_fails : (e : Cause) (front : List (List ℕ)) (f : List ℕ) (fs all : List (List ℕ)) → Fails e (word_of f) → with_front front (each_word (f ∷ fs)) ≡ each_word all → Fails e (words_of all)
word_fails cause.Memory front f fs all bad so_far = tt
word_fails cause.Field front f fs all bad so_far = words_fail all (fails_at front f fs (each_word all) cause.Field bad so_far)
word_fails cause.Header front f fs all bad so_far = let no_way = word_err f cause.Header bad in absurd cc
word_fails cause.Kind front f fs all bad so_far = let no_way = word_err f cause.Kind bad in absurd cc
word_fails cause.SessionOrder front f fs all bad so_far = let no_way = word_err f cause.SessionOrder bad in absurd cc
word_fails cause.TooMany front f fs all bad so_far = let no_way = word_err f cause.TooMany bad in absurd cc
word_fails cause.Truncated front f fs all bad so_far = let no_way = word_err f cause.Truncated bad in absurd cc

pub words_many : (fs : List (List ℕ)) → 64 < length fs → words_of fs ≡ Err cause.Field
words_many fs many = too_long fs many

pub words_done : (words all : List (List ℕ)) → 0 < length all → length all ≤ 64 → with_front words (each_word []) ≡ each_word all → words_of all ≡ Ok words
unfolding words_of each_word
words_done words all some few so_far = rw (le-leb 1 (length all) some, le-leb (length all) 64 few) (sym so_far ∙ ap (λ (v : List (List ℕ)). Ok v) (append-nil words))

pub words_none : (words all : List (List ℕ)) → length words ≡ 0 → length words + 0 ≡ length all → words_of all ≡ Err cause.Field
unfolding words_of
words_none words [] none total = refl
words_none words (f ∷ fs) none total = absurd (omega arith)
