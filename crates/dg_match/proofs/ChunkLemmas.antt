-- Chunks that are added one after the other.
use Rattle.std.proofs.Common.{◌≡◌, ℕ, ◌+◌, ◌-◌, ◌≤◌, ◌==◌, not, List, [], ◌∷◌, ◌++◌, length, drop, sym, ap, ap₂, subst, map, ◌∙◌, arith, append_assoc, append-nil}
use Rattle.std.proofs.lemmas.List.{drop-drop, drop-append-le, length-drop, length-append}
use Rattle.std.proofs.lemmas.List.Elements.{filter-append}
use Rattle.std.specs.List.{concat}
use Rattle.dg_match.specs.Held.{Held, Output, heard, heard_all, last_bytes, later, with_last, without_first, without_nulls}
use Rattle.dg_match.specs.Starts.{AllKept}
use Rattle.dg_match.specs.declared.starts.Progress.{Progress}
use Rattle.dg_match.proofs.StartLemmas.{all_more}

-- the last bytes of few are all of them
pub last_of_few : (n : ℕ) (bytes : List ℕ) → length bytes ≤ n → last_bytes n bytes ≡ bytes
last_of_few n bytes low = let e : length bytes - n ≡ 0 = omega arith in ap (λ k. drop k bytes) e

pub length_last : (n : ℕ) (bytes : List ℕ) → length (last_bytes n bytes) ≤ n
length_last n bytes = let size = length-drop (length bytes - n) bytes in omega arith

-- what stands before the last bytes of the front isn't among the last bytes of both
last_of_last : (n : ℕ) (front more : List ℕ) → last_bytes n (last_bytes n front ++ more) ≡ last_bytes n (front ++ more)
last_of_last n front more =
    let cut = length front - n in
    let joined : drop cut front ++ more ≡ drop cut (front ++ more) = sym (drop-append-le cut front more (omega arith)) in
    let both = length-append front more in
    let size = length-drop cut (front ++ more) in
    let place : cut + (length (drop cut (front ++ more)) - n) ≡ length (front ++ more) - n = omega arith in
    ap (last_bytes n) joined
    ∙ (drop-drop (length (drop cut (front ++ more)) - n) cut (front ++ more)
    ∙ ap (λ k. drop k (front ++ more)) place)

abbrev output : ℕ → List ℕ → Output
output max bytes = record { bytes = bytes; max = max }

pub heard_together : (chunks : List (List ℕ)) (o : Output) → length o.bytes ≤ o.max →
    heard_all chunks o ≡ record o { bytes = last_bytes o.max (o.bytes ++ without_nulls (concat chunks)) }
heard_together [] o low = ap (output o.max) (sym (ap (last_bytes o.max) (append-nil o.bytes) ∙ last_of_few o.max o.bytes low))
heard_together (chunk ∷ chunks) o low =
    let rest = without_nulls (concat chunks) in
    heard_together chunks (heard chunk o) (length_last o.max (o.bytes ++ without_nulls chunk))
    ∙ ap (output o.max)
    (last_of_last o.max (o.bytes ++ without_nulls chunk) rest
    ∙ ap (last_bytes o.max) (append_assoc o.bytes (without_nulls chunk) rest ∙ ap (λ t. o.bytes ++ t) (sym (filter-append (λ b. not (b == 0)) chunk (concat chunks)))))

abbrev held : List ℕ → ℕ → ℕ → List Progress → Held
held bytes max compared starts = record { bytes = bytes; max = max; compared = compared; starts = starts }

-- a vector of bytes, of which a front is cut off, once a chunk was added behind it and more of its front was cut off
module _ (front cut max : ℕ) (items kept new : List ℕ) (is : new ≡ items ++ kept) (within : front ≤ length items) (excess : cut ≡ length new - front - max) where
  rest_is : drop front new ≡ drop front items ++ kept
  rest_is = ap (drop front) is ∙ drop-append-le front items kept within

  pub chunk_within : front + cut ≤ length new
  chunk_within = let size = ap length is ∙ length-append items kept in omega arith

  pub chunk_excess : cut ≡ length (drop front items ++ kept) - max
  chunk_excess = let size = sym (ap length rest_is) ∙ length-drop front new in omega arith

  pub chunk_cut : drop (front + cut) new ≡ drop cut (drop front items ++ kept)
  chunk_cut = sym (drop-drop cut front new) ∙ ap (drop cut) rest_is

  pub chunk_last : drop (front + cut) new ≡ last_bytes max (drop front items ++ kept)
  chunk_last = chunk_cut ∙ ap (λ n. drop n (drop front items ++ kept)) chunk_excess

  pub chunk_fits : length (drop (front + cut) new) ≤ max
  chunk_fits = let size = length-drop (front + cut) new in omega arith

  pub chunk_passed : (starts now : List Progress) → AllKept (drop front items) starts →
      ((bytes : List ℕ) → cut ≤ length bytes → AllKept bytes starts → AllKept (drop cut bytes) now) → AllKept (drop (front + cut) new) now
  chunk_passed starts now before later =
      subst (λ (bytes : List ℕ). AllKept bytes now) (sym chunk_cut)
      (later (drop front items ++ kept) (let size = chunk_excess in omega arith) (all_more (drop front items) kept starts before))

  pub chunk_added : (compared : ℕ) (starts now : List Progress) (old : Held) → now ≡ map (later cut) starts →
      record { bytes = drop front items; max = max; compared = compared; starts = starts } ≡ old →
      record { bytes = drop (front + cut) new; max = max; compared = compared; starts = now } ≡ with_last old.max (record old { bytes = old.bytes ++ kept })
  chunk_added compared starts now old counted is_old =
      ap₂ (λ (bytes : List ℕ) (s : List Progress). held bytes max compared s) chunk_cut counted
      ∙ (ap (λ (n : ℕ). without_first n (held (drop front items ++ kept) max compared starts)) chunk_excess
      ∙ ap (λ (h : Held). with_last h.max (record h { bytes = h.bytes ++ kept })) is_old)
