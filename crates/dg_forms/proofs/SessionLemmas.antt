-- The flags of the commands on sessions, one after another.
use Rattle.std.proofs.Common.{◌≡◌, ℕ, true, false, List, ◌∷◌, ap, ◌∙◌}
use Rattle.std.specs.Prelude.{Option, Some, codes, Result, Err}
use Rattle.dg_language.specs.declared.expect.Expectation.{Expectation}
use Rattle.dg_language.specs.Evaluation.{wrong_count}
use Rattle.dg_language.specs.Switching.{is_flag}
use Rattle.dg_bytes.specs.Same.{same_bytes}
use Rattle.dg_language.specs.SessionWords.{bad_flag, id_words, send_words, sent_text}
use Rattle.dg_language.specs.ExpectWords.{expect_words, pairs_of, with_flags}

-- a word that is `-i`, and its value
pub id-more : (name : List ℕ) (id : Option (List ℕ)) (words : List (List ℕ)) (w v : List ℕ) (behind others : List (List ℕ))
    → words ≡ w ∷ behind → behind ≡ v ∷ others → is_flag w ≡ true → same_bytes w (codes "-i") ≡ true → id_words name id words ≡ id_words name (Some v) others
unfolding id_words
id-more name id words w v behind others e f g h =
    ap (id_words name id) e ∙ ap (λ x. id_words name id (w ∷ x)) f
    ∙ ap (λ b. elim b as (λ _. Result (Option (List ℕ)) (List ℕ)) [
      | true ↦ elim (same_bytes w (codes "-i")) [ true ↦ id_words name (Some v) others | false ↦ Err (bad_flag w) ]
      | false ↦ Err (wrong_count name)
    ]) g
    ∙ ap (λ b. elim b as (λ _. Result (Option (List ℕ)) (List ℕ)) [ true ↦ id_words name (Some v) others | false ↦ Err (bad_flag w) ]) h

pub send-more : (id : Option (List ℕ)) (words : List (List ℕ)) (w v : List ℕ) (behind others : List (List ℕ))
    → words ≡ w ∷ behind → behind ≡ v ∷ others → is_flag w ≡ true → same_bytes w (codes "--") ≡ false → same_bytes w (codes "-i") ≡ true
    → send_words id words ≡ send_words (Some v) others
unfolding send_words
send-more id words w v behind others e f g d h =
    ap (send_words id) e ∙ ap (λ x. send_words id (w ∷ x)) f
    ∙ ap (λ b. elim b as (λ _. Result (Option (List ℕ) × List ℕ) (List ℕ)) [
      | true ↦ elim (same_bytes w (codes "--")) [
        | true ↦ sent_text id (v ∷ others)
        | false ↦ elim (same_bytes w (codes "-i")) [ true ↦ send_words (Some v) others | false ↦ Err (bad_flag w) ]
      ]
      | false ↦ sent_text id (w ∷ v ∷ others)
    ]) g
    ∙ ap (λ b. elim b as (λ _. Result (Option (List ℕ) × List ℕ) (List ℕ)) [
      | true ↦ sent_text id (v ∷ others)
      | false ↦ elim (same_bytes w (codes "-i")) [ true ↦ send_words (Some v) others | false ↦ Err (bad_flag w) ]
    ]) d
    ∙ ap (λ b. elim b as (λ _. Result (Option (List ℕ) × List ℕ) (List ℕ)) [ true ↦ send_words (Some v) others | false ↦ Err (bad_flag w) ]) h

-- a word that is `-timeout`, or `-i`, and its value
pub expect-timeout : (timeout id : Option (List ℕ)) (words : List (List ℕ)) (w v : List ℕ) (behind others : List (List ℕ))
    → words ≡ w ∷ behind → behind ≡ v ∷ others → same_bytes w (codes "-timeout") ≡ true → expect_words timeout id words ≡ expect_words (Some v) id others
unfolding expect_words
expect-timeout timeout id words w v behind others e f g =
    ap (expect_words timeout id) e ∙ ap (λ x. expect_words timeout id (w ∷ x)) f
    ∙ ap (λ b. elim b as (λ _. Result Expectation (List ℕ)) [
      | true ↦ expect_words (Some v) id others
      | false ↦ elim (same_bytes w (codes "-i")) [
        | true ↦ expect_words timeout (Some v) others
        | false ↦ with_flags timeout id (pairs_of (w ∷ v ∷ others))
      ]
    ]) g

pub expect-id : (timeout id : Option (List ℕ)) (words : List (List ℕ)) (w v : List ℕ) (behind others : List (List ℕ))
    → words ≡ w ∷ behind → behind ≡ v ∷ others → same_bytes w (codes "-timeout") ≡ false → same_bytes w (codes "-i") ≡ true
    → expect_words timeout id words ≡ expect_words timeout (Some v) others
unfolding expect_words
expect-id timeout id words w v behind others e f g h =
    ap (expect_words timeout id) e ∙ ap (λ x. expect_words timeout id (w ∷ x)) f
    ∙ ap (λ b. elim b as (λ _. Result Expectation (List ℕ)) [
      | true ↦ expect_words (Some v) id others
      | false ↦ elim (same_bytes w (codes "-i")) [
        | true ↦ expect_words timeout (Some v) others
        | false ↦ with_flags timeout id (pairs_of (w ∷ v ∷ others))
      ]
    ]) g
    ∙ ap (λ b. elim b as (λ _. Result Expectation (List ℕ)) [
      | true ↦ expect_words timeout (Some v) others
      | false ↦ with_flags timeout id (pairs_of (w ∷ v ∷ others))
    ]) h
