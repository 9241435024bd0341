-- The canonical text of a list: its elements with a space between each two, each written so that it is read as itself.
use Rattle.std.specs.Prelude.{ℕ, ◌+◌, ◌-◌, List, [], ◌∷◌, ◌++◌, Bool, true, false, ◌&&◌, ◌||◌, not, Option, None, Some, if◌then◌else◌, ◌==◌}

-- blanks (9, 11, 12, 13, 32), newlines (10) and `"` (34), `$` (36), `;` (59), `[` (91), `\` (92), `]` (93), `{` (123), `}` (125)
abbrev pub is_special : ℕ → Bool
is_special b =
    b == 9 || b == 10 || b == 11 || b == 12 || b == 13 || b == 32 || b == 34 || b == 36 || b == 59 || b == 91 || b == 92 || b == 93 || b == 123 || b == 125

-- no byte is special
abbrev pub is_plain : List ℕ → Bool
is_plain [] = true
is_plain (b ∷ bs) = not (is_special b) && is_plain bs

abbrev pub begins_with_hash : List ℕ → Bool
begins_with_hash [] = false
begins_with_hash (b ∷ bs) = b == 35

-- One byte of what may stand in braces, behind a backslash that pairs with it or not, with so many braces open: each
-- closing brace has its opening one before it, and no newline is paired.
abbrev pub brace_step : Bool → ℕ → ℕ → Option (Bool × ℕ)
brace_step true d b = if b == 10 then None else Some (false, d)
brace_step false d b =
    if b == 92 then Some (true, d) else
    if b == 123 then Some (false, d + 1) else
    if b == 125 then if d == 0 then None else Some (false, d - 1) else
    Some (false, d)

abbrev pub onto : Option (Bool × ℕ) → (Bool → ℕ → Bool) → Bool
onto None more = false
onto (Some x) more = more x.0 x.1

-- the braces balance, and no last backslash is unpaired
abbrev pub may_be_braced : Bool → ℕ → List ℕ → Bool
may_be_braced paired d [] = not paired && (d == 0)
may_be_braced paired d (b ∷ bs) = onto (brace_step paired d b) (λ q e. may_be_braced q e bs)

-- a byte by itself: a newline is `\n`, and another special byte has a backslash before it
abbrev pub escaped_byte : ℕ → List ℕ
escaped_byte b = if b == 10 then 92 ∷ 110 ∷ [] else if is_special b then 92 ∷ b ∷ [] else b ∷ []

abbrev pub escaped_text : List ℕ → List ℕ
escaped_text [] = []
escaped_text (b ∷ bs) = escaped_byte b ++ escaped_text bs

-- a `#` that begins the list
abbrev pub hash_covered : Bool → List ℕ
hash_covered true = 92 ∷ []
hash_covered false = []

-- one element, the list's first or not
abbrev pub element_text : Bool → List ℕ → List ℕ
element_text first [] = 123 ∷ 125 ∷ []
element_text first (b ∷ bs) =
    if is_plain (b ∷ bs) && not (first && begins_with_hash (b ∷ bs)) then b ∷ bs
    else if may_be_braced false 0 (b ∷ bs) then 123 ∷ (b ∷ bs) ++ 125 ∷ []
    else hash_covered (first && begins_with_hash (b ∷ bs)) ++ escaped_text (b ∷ bs)

-- the elements behind the first, each behind a space
abbrev pub further_text : List (List ℕ) → List ℕ
further_text [] = []
further_text (x ∷ xs) = 32 ∷ element_text false x ++ further_text xs

unfoldable pub text_of_list : List (List ℕ) → List ℕ
text_of_list [] = []
text_of_list (x ∷ xs) = element_text true x ++ further_text xs
