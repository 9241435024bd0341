-- A text's reading, line after line, is the transcript that it spells, or its first bad line.
use Rattle.std.proofs.Common.{◌≡◌, ◌↔◌, ℕ, suc, ◌+◌, Bool, true, false, cond, List, [], ◌∷◌, ◌++◌, length, length-append, append_assoc, append-nil, take, refl, ap, sym, ◌∙◌, subst, arith}
use Rattle.std.specs.Prelude.{Result, Ok, Err, slice_get}
use Rattle.std.specs.Result.{result_map_both}
use Rattle.bstr.specs.Text.{lines_of}
use Rattle.dg_transcript.specs.declared.cause.Cause.{Cause}
use Rattle.dg_transcript.specs.declared.cause.Cause.TheVariants.{Truncated}
use Rattle.dg_transcript.specs.declared.entry.Entry.{Entry}
use Rattle.dg_transcript.specs.declared.line.Line.{Line}
use Rattle.dg_transcript.specs.Limits.{IsTranscript}
use Rattle.dg_transcript.specs.Lines.{is_over, line_behind, place_of, Say, IsBad, IsFirstBad}
use Rattle.dg_transcript.specs.Sessions.{sessions_in}
use Rattle.dg_transcript.specs.Text.{text_of}
use Rattle.dg_transcript.proofs.Texts.{text_found, text_unique, one_first_bad, no_first_bad}
use Rattle.dg_transcript.specs.Decoded.{on_line, said_behind, decoded}

abbrev Told : Type 0
Told = Result (List Line) (ℕ × Cause)

-- faults that are the same
pair : (n m : ℕ) (c d : Cause) → (let r : Told = Err (n, c) in r ≡ Err (m, d)) → (n ≡ m) × (c ≡ d)
pair n m c d h =
    let one : ℕ × Cause = (n, c) in
    let two : ℕ × Cause = (m, d) in
    let same : one ≡ two = cc in
    (ap (λ p. p.0) same, ap (λ p. p.1) same)

-- good lines behind others
record Good (before : List Line) (texts : List (List ℕ)) (all : List Line) : Type 0 where
  pub said : List Line
  pub whole : all ≡ before ++ said
  pub say : Say before texts said
  pub over : is_over (place_of all) ≡ true

said_ok : (before : List Line) (texts : List (List ℕ)) (all : List Line) → said_behind before texts ≡ Ok all → Good before texts all
said_ok before [] all h = step (is_over (place_of before)) refl h
  where
    step : (b : Bool) → is_over (place_of before) ≡ b → (let r : Told = cond b (Ok before) (Err (suc (length before), Truncated)) in r ≡ Ok all) → Good before [] all
    step true e g =
        let same : before ≡ all = cc in
        record { said = []; whole = sym same ∙ sym (append-nil before); say = tt; over = subst (λ ls. is_over (place_of ls) ≡ true) same e }
    step false e g = cc
said_ok before (t ∷ ts) all h = step (line_behind before t) refl h (λ l. said_ok (before ++ l ∷ []) ts all)
  where
    step : (r : Result Line Cause) → line_behind before t ≡ r → on_line (suc (length before)) r (λ l. said_behind (before ++ l ∷ []) ts) ≡ Ok all
        → ((l : Line) → said_behind (before ++ l ∷ []) ts ≡ Ok all → Good (before ++ l ∷ []) ts all) → Good before (t ∷ ts) all
    step (Ok l) e g rest =
        let more = rest l g in
        record { said = l ∷ more.said; whole = more.whole ∙ append_assoc before (l ∷ []) more.said; say = (e, more.say); over = more.over }
    step (Err why) e g rest = cc

-- a bad line behind good ones
record Bad (before : List Line) (texts : List (List ℕ)) (n : ℕ) (why : Cause) : Type 0 where
  pub said : List Line
  pub number : n ≡ suc (length before + length said)
  pub say : Say before (take (length said) texts) said
  pub bad : IsBad (before ++ said) (slice_get texts (length said)) why

said_err : (before : List Line) (texts : List (List ℕ)) (n : ℕ) (why : Cause) → said_behind before texts ≡ Err (n, why) → Bad before texts n why
said_err before [] n why h = step (is_over (place_of before)) refl h
  where
    step : (b : Bool) → is_over (place_of before) ≡ b → (let r : Told = cond b (Ok before) (Err (suc (length before), Truncated)) in r ≡ Err (n, why)) → Bad before [] n why
    step true e g = cc
    step false e g =
        let same = pair (suc (length before)) n Truncated why g in
        record {
          said = [];
          number = sym same.0 ∙ omega arith;
          say = tt;
          bad = (ap (λ ls. is_over (place_of ls)) (append-nil before) ∙ e, sym same.1);
        }
said_err before (t ∷ ts) n why h = step (line_behind before t) refl h (λ l. said_err (before ++ l ∷ []) ts n why)
  where
    step : (r : Result Line Cause) → line_behind before t ≡ r → on_line (suc (length before)) r (λ l. said_behind (before ++ l ∷ []) ts) ≡ Err (n, why)
        → ((l : Line) → said_behind (before ++ l ∷ []) ts ≡ Err (n, why) → Bad (before ++ l ∷ []) ts n why) → Bad before (t ∷ ts) n why
    step (Ok l) e g rest =
        let more = rest l g in
        record {
          said = l ∷ more.said;
          number = more.number ∙ omega (arith, length-append before (l ∷ []));
          say = (e, more.say);
          bad = subst (λ ls. IsBad ls (slice_get ts (length more.said)) why) (append_assoc before (l ∷ []) more.said) more.bad;
        }
    step (Err bad) e g rest =
        let same = pair (suc (length before)) n bad why g in
        record {
          said = [];
          number = sym same.0 ∙ omega arith;
          say = tt;
          bad = ap (λ ls. line_behind ls t) (append-nil before) ∙ e ∙ ap (λ c. Err c) same.1;
        }

decoded_ok : (text : List ℕ) (ss : List (List Entry)) → decoded text ≡ Ok ss → IsTranscript ss × (text ≡ text_of ss)
unfolding decoded
decoded_ok text ss h = step (said_behind [] (lines_of text)) refl h
  where
    step : (r : Told) → said_behind [] (lines_of text) ≡ r → result_map_both sessions_in (λ e. e) r ≡ Ok ss → IsTranscript ss × (text ≡ text_of ss)
    step (Ok all) e g =
        let good = said_ok [] (lines_of text) all e in
        let same : sessions_in all ≡ ss = cc in
        let over = subst (λ ls. is_over (place_of ls) ≡ true) good.whole good.over in
        let found = text_found text good.said good.say over in
        let these : sessions_in good.said ≡ ss = sym (ap sessions_in good.whole) ∙ same in
        (subst IsTranscript these found.0, found.1 ∙ ap text_of these)
    step (Err e) f g = cc

decoded_err : (text : List ℕ) (n : ℕ) (why : Cause) → decoded text ≡ Err (n, why) → IsFirstBad text n why
unfolding decoded
decoded_err text n why h = step (said_behind [] (lines_of text)) refl h
  where
    step : (r : Told) → said_behind [] (lines_of text) ≡ r → result_map_both sessions_in (λ e. e) r ≡ Err (n, why) → IsFirstBad text n why
    step (Ok all) e g = cc
    step (Err p) e g =
        let fault : ℕ × Cause = (n, why) in
        let same : p ≡ fault = cc in
        let bad = said_err [] (lines_of text) n why (e ∙ ap (λ q. Err q) same) in
        (bad.said, bad.number ∙ omega arith, bad.say, bad.bad)

-- what is spelled so is read
pub decoded_of_text : (text : List ℕ) (ss : List (List Entry)) → IsTranscript ss → text ≡ text_of ss → decoded text ≡ Ok ss
decoded_of_text text ss is same = step (decoded text) refl
  where
    step : (r : Result (List (List Entry)) (ℕ × Cause)) → decoded text ≡ r → decoded text ≡ Ok ss
    step (Ok ts) e = let found = decoded_ok text ts e in e ∙ ap (λ (x : List (List Entry)). Ok x) (text_unique ts ss found.0 is (sym found.1 ∙ same))
    step (Err p) e = absurd (no_first_bad ss p.0 p.1 is (subst (λ t. IsFirstBad t p.0 p.1) same (decoded_err text p.0 p.1 e)))

-- and a text with a first bad line is told by that
pub decoded_of_bad : (text : List ℕ) (n : ℕ) (why : Cause) → IsFirstBad text n why → decoded text ≡ Err (n, why)
decoded_of_bad text n why bad = step (decoded text) refl
  where
    step : (r : Result (List (List Entry)) (ℕ × Cause)) → decoded text ≡ r → decoded text ≡ Err (n, why)
    step (Ok ts) e = let found = decoded_ok text ts e in absurd (no_first_bad ts n why found.0 (subst (λ t. IsFirstBad t n why) found.1 bad))
    step (Err p) e =
        let same = one_first_bad text p.0 n p.1 why (decoded_err text p.0 p.1 e) bad in
        e ∙ (λ i. Err (same.0 i, same.1 i))

pub each_text : (text : List ℕ) → ((ss : List (List Entry)) → (decoded text ≡ Ok ss) ↔ (IsTranscript ss × (text ≡ text_of ss)))
    × ((n : ℕ) (why : Cause) → (decoded text ≡ Err (n, why)) ↔ IsFirstBad text n why)
each_text text =
    (λ ss. (decoded_ok text ss, λ h. decoded_of_text text ss h.0 h.1), λ n why. (decoded_err text n why, decoded_of_bad text n why))
