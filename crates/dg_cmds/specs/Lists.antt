-- The commands on lists, as in list(n), llength(n), concat(n), join(n), split(n) and lsearch(n).
use Rattle.std.specs.Prelude.{ℕ, ◌+◌, Bool, true, false, List, [], ◌∷◌, ◌++◌, codes, length, take, map, filter, nat_eq, position, Option, None, Some, Result, Ok, Err, if◌then◌else◌}
use Rattle.std.specs.List.{ends_with, join_by, slice_split}
use Rattle.std.specs.Fmt.{decimal}
use Rattle.dg_lists.specs.declared.fault.WordFault.{WordFault}
use Rattle.dg_lists.specs.Elements.{elements_of}
use Rattle.dg_lists.specs.Faults.{fault_text}
use Rattle.dg_lists.specs.Canonical.{text_of_list}
use Rattle.dg_cmds.specs.declared.fault.CmdFault.{CmdFault}
use Rattle.dg_cmds.specs.declared.fault.CmdFault.TheVariants.{Tcl}
use Rattle.dg_cmds.specs.declared.lists.Search.{Search}
use Rattle.dg_cmds.specs.declared.lists.Search.TheVariants as kind
use Rattle.dg_bytes.specs.Chain.{◌>>=◌}
use Rattle.dg_cmds.specs.Answers.{Answer, Command, failed, limited, place_text, quoted, wrong_count}
use Rattle.dg_cmds.specs.Bytes.{blanks, member, trimmed_left, trimmed_right}
use Rattle.dg_cmds.specs.Indices.{part_of, read_index}
use Rattle.dg_cmds.specs.Places.{glob_matches}
use Rattle.dg_bytes.specs.Same.{same_bytes}

-- the elements of a list, or the script error of a text that is none
abbrev pub or_error : Result (List (List ℕ)) WordFault → Result (List (List ℕ)) CmdFault
or_error (Ok xs) = Ok xs
or_error (Err f) = Err (Tcl (fault_text f))

abbrev pub read_list : List ℕ → Result (List (List ℕ)) CmdFault
read_list text = or_error (elements_of text)

-- the canonical text of a list
abbrev pub list_of : List (List ℕ) → Answer
list_of args = limited (text_of_list args)

-- how many elements a list has
abbrev pub count_of : List ℕ → Result ℕ CmdFault
count_of l = read_list l >>= λ xs. Ok (length xs)

abbrev pub llength_of : List (List ℕ) → Answer
llength_of (l ∷ []) = read_list l >>= λ xs. Ok (decimal (length xs))
llength_of args = wrong_count (codes "llength")

-- a text without the blanks and newlines at its ends; one behind a backslash stays
abbrev pub without_blanks : List ℕ → List ℕ
without_blanks t =
    let behind : List ℕ = trimmed_left (member blanks) t in
    let bare : List ℕ = trimmed_right (member blanks) behind in
    if ends_with nat_eq bare (92 ∷ []) then take (length bare + 1) behind else bare

abbrev pub is_some_text : List ℕ → Bool
is_some_text [] = false
is_some_text (b ∷ bs) = true

-- texts with another between each two
abbrev pub joined : List ℕ → List (List ℕ) → List ℕ
joined between texts = join_by (λ x. x) between texts

-- the words without blanks at their ends, but for the empty ones, with a space between each two
abbrev pub concat_of : List (List ℕ) → Answer
concat_of args = limited (joined (codes " ") (filter is_some_text (map without_blanks args)))

-- the elements with a text between each two, a space if unsaid
abbrev pub join_of : List (List ℕ) → Answer
join_of (l ∷ []) = read_list l >>= λ xs. limited (joined (codes " ") xs)
join_of (l ∷ s ∷ []) = read_list l >>= λ xs. limited (joined s xs)
join_of args = wrong_count (codes "join")

-- The parts of a text between the bytes that separate them, or each byte by itself if there are none; an empty text has
-- no parts.
abbrev pub parts_of : List ℕ → List ℕ → List (List ℕ)
parts_of [] separators = []
parts_of (b ∷ bs) [] = map (λ c. c ∷ []) (b ∷ bs)
parts_of (b ∷ bs) (s ∷ ss) = slice_split (member (s ∷ ss)) (b ∷ bs)

-- by space, tab, newline and carriage return if unsaid
abbrev pub split_of : List (List ℕ) → Answer
split_of (t ∷ []) = limited (text_of_list (parts_of t (32 ∷ 9 ∷ 10 ∷ 13 ∷ [])))
split_of (t ∷ bytes ∷ []) = limited (text_of_list (parts_of t bytes))
split_of args = wrong_count (codes "split")

-- the place of the first element that passes a test, or -1
abbrev pub search_of : (List ℕ → Bool) → List ℕ → Answer
search_of test l = read_list l >>= λ xs. Ok (place_text (position test xs))

-- how elements are tested, as a flag says
abbrev pub search_named : List ℕ → Option Search
search_named flag = if same_bytes flag (codes "-exact") then Some kind.Exact else if same_bytes flag (codes "-glob") then Some kind.Glob else None

abbrev pub passes : Search → List ℕ → List ℕ → Bool
passes kind.Exact p x = same_bytes x p
passes kind.Glob p x = glob_matches p x

abbrev pub flagged_search : Option Search → List ℕ → List ℕ → List ℕ → Answer
flagged_search (Some k) flag l p = search_of (passes k p) l
flagged_search None flag l p = failed (codes "bad flag " ++ quoted flag)

-- by an element that is the same or that a glob matches; the latter if unsaid
abbrev pub lsearch_of : List (List ℕ) → Answer
lsearch_of (l ∷ p ∷ []) = search_of (passes kind.Glob p) l
lsearch_of (flag ∷ l ∷ p ∷ []) = flagged_search (search_named flag) flag l p
lsearch_of args = wrong_count (codes "lsearch")

abbrev pub only_text : List (List ℕ) → List ℕ
only_text [] = []
only_text (x ∷ xs) = x

-- the element at an index, or the empty text
abbrev pub element_at : List ℕ → List ℕ → Answer
element_at l i = read_list l >>= λ xs. read_index i >>= λ at. limited (only_text (part_of at at xs))

abbrev pub lindex_of : List (List ℕ) → Answer
lindex_of (l ∷ i ∷ []) = element_at l i
lindex_of args = wrong_count (codes "lindex")

-- the list of the elements from one index to another
abbrev pub lrange_of : List (List ℕ) → Answer
lrange_of (l ∷ i ∷ j ∷ []) = read_list l >>= λ xs. read_index i >>= λ first. read_index j >>= λ last. limited (text_of_list (part_of first last xs))
lrange_of args = wrong_count (codes "lrange")

-- the list commands by their names
abbrev pub list_commands : List (List ℕ × Command)
list_commands =
    (codes "list", list_of) ∷ (codes "llength", llength_of) ∷ (codes "lindex", lindex_of) ∷ (codes "lrange", lrange_of)
    ∷ (codes "concat", concat_of) ∷ (codes "join", join_of) ∷ (codes "split", split_of) ∷ (codes "lsearch", lsearch_of) ∷ []
