-- The words of spawn, send, close, wait and match_max, by expect(1).
use Rattle.std.specs.Prelude.{ℕ, Bool, true, false, Option, Some, None, List, [], ◌∷◌, ◌++◌, codes, Result, Ok, Err}
use Rattle.dg_language.specs.Evaluation.{quoted, wrong_count}
use Rattle.dg_language.specs.Switching.{is_flag}
use Rattle.dg_bytes.specs.Same.{same_bytes}

abbrev pub bad_flag : List ℕ → List ℕ
bad_flag w = codes "bad flag " ++ quoted w

-- `spawn ?-noecho? word..`: the words
unfoldable pub spawn_words : List (List ℕ) → Result (List (List ℕ)) (List ℕ)
spawn_words [] = Err (wrong_count (codes "spawn"))
spawn_words (w ∷ ws) =
    elim (is_flag w) [
      | true ↦ elim (same_bytes w (codes "-noecho")) [ true ↦ spawn_words ws | false ↦ Err (bad_flag w) ]
      | false ↦ Ok (w ∷ ws)
    ]

-- the text behind the flags of `send`, with the id that they gave
abbrev pub sent_text : Option (List ℕ) → List (List ℕ) → Result (Option (List ℕ) × List ℕ) (List ℕ)
sent_text id [] = Err (wrong_count (codes "send"))
sent_text id (text ∷ []) = Ok (id, text)
sent_text id (_ ∷ _ ∷ _) = Err (wrong_count (codes "send"))

abbrev pub last_of_send : Option (List ℕ) → List ℕ → Result (Option (List ℕ) × List ℕ) (List ℕ)
last_of_send id w =
    elim (is_flag w) [
      | true ↦ elim (same_bytes w (codes "--")) [
        | true ↦ Err (wrong_count (codes "send"))
        | false ↦ elim (same_bytes w (codes "-i")) [ true ↦ Err (wrong_count (codes "send")) | false ↦ Err (bad_flag w) ]
      ]
      | false ↦ Ok (id, w)
    ]

-- `send ?-i id? ?--? text`: the id, if it is given, and the text
unfoldable pub send_words : Option (List ℕ) → List (List ℕ) → Result (Option (List ℕ) × List ℕ) (List ℕ)
send_words id [] = Err (wrong_count (codes "send"))
send_words id (w ∷ []) = last_of_send id w
send_words id (w ∷ v ∷ ws) =
    elim (is_flag w) [
      | true ↦ elim (same_bytes w (codes "--")) [
        | true ↦ sent_text id (v ∷ ws)
        | false ↦ elim (same_bytes w (codes "-i")) [ true ↦ send_words (Some v) ws | false ↦ Err (bad_flag w) ]
      ]
      | false ↦ sent_text id (w ∷ v ∷ ws)
    ]

-- `close ?-i id?` and `wait ?-i id?`: the id, if it is given
unfoldable pub id_words : List ℕ → Option (List ℕ) → List (List ℕ) → Result (Option (List ℕ)) (List ℕ)
id_words name id [] = Ok id
id_words name id (w ∷ []) =
    elim (is_flag w) [
      | true ↦ elim (same_bytes w (codes "-i")) [ true ↦ Err (wrong_count name) | false ↦ Err (bad_flag w) ]
      | false ↦ Err (wrong_count name)
    ]
id_words name id (w ∷ v ∷ ws) =
    elim (is_flag w) [
      | true ↦ elim (same_bytes w (codes "-i")) [ true ↦ id_words name (Some v) ws | false ↦ Err (bad_flag w) ]
      | false ↦ Err (wrong_count name)
    ]

-- the number behind the flag of `match_max`, if it is given
abbrev pub only_number : Bool → List ℕ → List (List ℕ) → Result (Bool × Option (List ℕ)) (List ℕ)
only_number later n [] = Ok (later, Some n)
only_number later n (_ ∷ _) = Err (wrong_count (codes "match_max"))

-- `match_max ?-d? ?n?`: whether later sessions are meant, and the number, if it is given
unfoldable pub match_words : Bool → List (List ℕ) → Result (Bool × Option (List ℕ)) (List ℕ)
match_words later [] = Ok (later, None)
match_words later (w ∷ ws) =
    elim (is_flag w) [
      | true ↦ elim (same_bytes w (codes "-d")) [ true ↦ match_words true ws | false ↦ Err (bad_flag w) ]
      | false ↦ only_number later w ws
    ]
