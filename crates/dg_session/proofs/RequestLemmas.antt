-- What a search for a space says of a line's fields.
use Rattle.std.proofs.Common.{◌≡◌, ℕ, ◌+◌, ◌<◌, ◌≤◌, Bool, true, false, List, [], ◌∷◌, ◌++◌, All, length, take, drop, get_or, ◌==◌, sym, ap, subst, ◌∙◌, arith, rules, get_or-take, length-take-le, take-append-drop, add-one, take_all, le_refl, refl, ◌-◌, length-drop}
use Rattle.std.proofs.Math.Seq.{drop-cons}
use Rattle.std.proofs.lemmas.List.Elements.{All-from_get_or}
use Rattle.std.proofs.lemmas.List.Splits.{slice_split_at, slice_split_none, length-slice_split}
use Rattle.memchr.specs.Find.{Nowhere, NoneBefore, Passes, is_byte}
use Rattle.dg_session.specs.Request.{fields_of, asked_by}
use Rattle.dg_session.specs.declared.request.Request.TheVariants.{Unknown}

-- no space stands before a place
no_space : (text : List ℕ) (n : ℕ) → n ≤ length text → Nowhere (Passes (is_byte 32) text) 0 n → All (λ b. (b == 32) ≡ false) (take n text)
no_space text n fits none =
    All-from_get_or (λ b. (b == 32) ≡ false) (take n text) 0
    (λ i h.
    let long = length-take-le n text fits in
    let lt : i < n = omega (arith, long) in
    ap (λ b. b == 32) (get_or-take n text i 0 lt) ∙ not_true _ (none i (omega arith) lt))
  where
    not_true : (b : Bool) → (b ≡ true → ⊥) → b ≡ false
    not_true true h = absurd (h (search rules))
    not_true false h = search rules

-- the first field ends at the first space
pub fields_of-cut : (text : List ℕ) (at : ℕ) → NoneBefore (Passes (is_byte 32) text) 0 (length text) at → Passes (is_byte 32) text at → fields_of text ≡ take at text ∷ fields_of (drop (at + 1) text)
fields_of-cut text at first here =
    let high : at < length text = first.high in
    let cut : text ≡ take at text ++ get_or text at 0 ∷ drop (at + 1) text =
    sym (take-append-drop at text) ∙ ap (λ t. take at text ++ t) (rw (add-one, drop-cons text at 0)) in
    ap fields_of cut ∙ slice_split_at (λ b. b == 32) (take at text) (get_or text at 0) (drop (at + 1) text) (no_space text at (omega arith) first.before) here

-- and so at the numbers of the code
pub fields_of-cut_at : (text : List ℕ) (at : ℕ) → NoneBefore (Passes (is_byte 32) text) 0 (length text) at → Passes (is_byte 32) text at → fields_of text ≡ take at text ∷ fields_of (take (length text - (at + 1)) (drop (at + 1) text))
fields_of-cut_at text at first here =
    let high : at < length text = first.high in
    let whole : take (length text - (at + 1)) (drop (at + 1) text) ≡ drop (at + 1) text = take_all _ _ (omega (arith, length-drop (at + 1) text)) in
    fields_of-cut text at first here ∙ ap (λ t. take at text ∷ fields_of t) (sym whole)

-- with no space there is one field
pub fields_of-whole : (text : List ℕ) → Nowhere (Passes (is_byte 32) text) 0 (length text) → fields_of text ≡ text ∷ []
fields_of-whole text none =
    slice_split_none (λ b. b == 32) text (subst (All (λ b. (b == 32) ≡ false)) (take_all (length text) text (le_refl _)) (no_space text (length text) (le_refl _) none))

-- five fields or more ask nothing that is known
asked_by-many : (one two three four rest : List ℕ) → asked_by (one ∷ two ∷ three ∷ four ∷ fields_of rest) ≡ Unknown
unfolding asked_by
asked_by-many one two three four rest = some (fields_of rest) (omega (arith, length-slice_split (λ b. b == 32) rest))
  where
    some : (fields : List (List ℕ)) → 0 < length fields → asked_by (one ∷ two ∷ three ∷ four ∷ fields) ≡ Unknown
    some [] h = absurd (omega arith)
    some (five ∷ fields) h = refl

-- a line that is cut four times
pub asked_by-more : (line behind_one behind_two behind_three behind_four one two three four : List ℕ) → fields_of line ≡ one ∷ fields_of behind_one → fields_of behind_one ≡ two ∷ fields_of behind_two
    → fields_of behind_two ≡ three ∷ fields_of behind_three → fields_of behind_three ≡ four ∷ fields_of behind_four → asked_by (fields_of line) ≡ Unknown
asked_by-more line behind_one behind_two behind_three behind_four one two three four first second third fourth =
    ap asked_by (first ∙ ap (λ t. one ∷ t) (second ∙ ap (λ t. two ∷ t) (third ∙ ap (λ t. three ∷ t) fourth))) ∙ asked_by-many one two three four behind_four
