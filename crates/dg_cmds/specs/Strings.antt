-- The command `string`, as in string(n).
use Rattle.std.specs.Prelude.{ℕ, ◌+◌, Bool, List, [], ◌∷◌, ◌++◌, codes, drop, length, map, max, min, nat_eq, slice_range, take, Option, None, Some, Ok, Err, find}
use Rattle.std.specs.Fmt.{decimal}
use Rattle.std.specs.List.{repeat}
use Rattle.std.specs.Option.{option_map}
use Rattle.std.specs.Ordering.{nat_cmp}
use Rattle.std.specs.declared.cmp.Ordering.{Ordering}
use Rattle.std.specs.declared.cmp.Ordering.TheVariants.{Less, Equal, Greater}
use Rattle.std.specs.Cmp.Lexicographic.{pointwise, slice_cmp}
use Rattle.std.specs.Char.{to_ascii_lowercase, to_ascii_uppercase}
use Rattle.dg_cmds.specs.declared.fault.CmdFault.TheVariants.{Tcl}
use Rattle.dg_cmds.specs.declared.strings.Case.{Case}
use Rattle.dg_cmds.specs.declared.strings.Case.TheVariants as case
use Rattle.dg_cmds.specs.declared.strings.Operation.{Operation}
use Rattle.dg_cmds.specs.declared.strings.Operation.TheVariants as op
use Rattle.dg_bytes.specs.Chain.{◌>>=◌}
use Rattle.dg_cmds.specs.Answers.{Answer, limited, place_text, wrong_count}
use Rattle.dg_expr.specs.Truth.{truth_text}
use Rattle.dg_cmds.specs.Bytes.{blanks, member, trimmed, trimmed_left, trimmed_right}
use Rattle.dg_cmds.specs.Indices.{before, part_of, read_index, through}
use Rattle.dg_cmds.specs.Numbers.{at_least_zero, read_number}
use Rattle.dg_cmds.specs.Places.{first_place, last_place, glob_matches}

abbrev pub keyword : Operation → List ℕ
keyword op.Length = codes "length"
keyword op.Index = codes "index"
keyword op.Range = codes "range"
keyword op.First = codes "first"
keyword op.Last = codes "last"
keyword op.Compare = codes "compare"
keyword op.Equal = codes "equal"
keyword op.Match = codes "match"
keyword op.Lower = codes "tolower"
keyword op.Upper = codes "toupper"
keyword op.Trim = codes "trim"
keyword op.TrimLeft = codes "trimleft"
keyword op.TrimRight = codes "trimright"
keyword op.Repeat = codes "repeat"

abbrev pub operations : List Operation
operations = op.Length ∷ op.Index ∷ op.Range ∷ op.First ∷ op.Last ∷ op.Compare ∷ op.Equal ∷ op.Match ∷ op.Lower ∷ op.Upper ∷ op.Trim ∷ op.TrimLeft ∷ op.TrimRight ∷ op.Repeat ∷ []

-- the operation that a word names, in full
unfoldable pub operation_of : List ℕ → Option Operation
operation_of word = find (λ o. pointwise nat_eq (keyword o) word) operations

abbrev pub length_of : List (List ℕ) → Answer
length_of (t ∷ []) = Ok (decimal (length t))
length_of args = wrong_count (codes "string")

-- the byte at an index, if there is one
abbrev pub byte_of : List (List ℕ) → Answer
byte_of (t ∷ i ∷ []) = read_index i >>= λ at. limited (part_of at at t)
byte_of args = wrong_count (codes "string")

abbrev pub range_of : List (List ℕ) → Answer
range_of (t ∷ i ∷ j ∷ []) = read_index i >>= λ first. read_index j >>= λ last. limited (part_of first last t)
range_of args = wrong_count (codes "string")

-- the first place of a needle from a place on
abbrev pub first_place_from : ℕ → List ℕ → List ℕ → Option ℕ
first_place_from start n t = option_map (λ p. start + p) (first_place n (drop start t))

-- the first place of a needle, from an index on if one is given
abbrev pub first_of : List (List ℕ) → Answer
first_of (n ∷ t ∷ []) = Ok (place_text (first_place n t))
first_of (n ∷ t ∷ i ∷ []) = read_index i >>= λ at. Ok (place_text (first_place_from (before at (length t)) n t))
first_of args = wrong_count (codes "string")

-- the last place of a needle, in the text up to an index if one is given
abbrev pub last_of : List (List ℕ) → Answer
last_of (n ∷ t ∷ []) = Ok (place_text (last_place n t))
last_of (n ∷ t ∷ i ∷ []) = read_index i >>= λ at. Ok (place_text (last_place n (take (through at (length t)) t)))
last_of args = wrong_count (codes "string")

abbrev pub sign : Ordering → List ℕ
sign Less = codes "-1"
sign Equal = codes "0"
sign Greater = codes "1"

-- the first byte that differs decides, else the length
abbrev pub compare_of : List (List ℕ) → Answer
compare_of (a ∷ b ∷ []) = Ok (sign (slice_cmp nat_cmp a b))
compare_of args = wrong_count (codes "string")

abbrev pub equal_of : List (List ℕ) → Answer
equal_of (a ∷ b ∷ []) = Ok (truth_text (pointwise nat_eq a b))
equal_of args = wrong_count (codes "string")

abbrev pub match_of : List (List ℕ) → Answer
match_of (p ∷ t ∷ []) = Ok (truth_text (glob_matches p t))
match_of args = wrong_count (codes "string")

-- a text with the bytes from one place to another mapped
abbrev pub mapped : (ℕ → ℕ) → ℕ → ℕ → List ℕ → List ℕ
mapped f start end t = take start t ++ map f (slice_range t start end) ++ drop end t

abbrev pub in_case : Case → ℕ → ℕ
in_case case.Lower b = to_ascii_lowercase b
in_case case.Upper b = to_ascii_uppercase b

-- letters of ASCII in the other case: all, the one at an index, or those from one index to another
abbrev pub cased_of : (ℕ → ℕ) → List (List ℕ) → Answer
cased_of f (t ∷ []) = limited (map f t)
cased_of f (t ∷ i ∷ []) = read_index i >>= λ at. limited (mapped f (before at (length t)) (min (before at (length t) + 1) (length t)) t)
cased_of f (t ∷ i ∷ j ∷ []) = read_index i >>= λ first. read_index j >>= λ last. limited (mapped f (before first (length t)) (max (through last (length t)) (before first (length t))) t)
cased_of f args = wrong_count (codes "string")

-- without the bytes that are given, or blanks and newlines, at one end or both
abbrev pub trim_of : ((ℕ → Bool) → List ℕ → List ℕ) → List (List ℕ) → Answer
trim_of cut (t ∷ []) = limited (cut (member blanks) t)
trim_of cut (t ∷ bytes ∷ []) = limited (cut (member bytes) t)
trim_of cut args = wrong_count (codes "string")

-- a text so many times; a count below zero is as zero
abbrev pub repeat_of : List (List ℕ) → Answer
repeat_of (t ∷ n ∷ []) = read_number n >>= λ count. limited (repeat (at_least_zero count) t)
repeat_of args = wrong_count (codes "string")

abbrev pub operated : Operation → List (List ℕ) → Answer
operated op.Length args = length_of args
operated op.Index args = byte_of args
operated op.Range args = range_of args
operated op.First args = first_of args
operated op.Last args = last_of args
operated op.Compare args = compare_of args
operated op.Equal args = equal_of args
operated op.Match args = match_of args
operated op.Lower args = cased_of (in_case case.Lower) args
operated op.Upper args = cased_of (in_case case.Upper) args
operated op.Trim args = trim_of trimmed args
operated op.TrimLeft args = trim_of trimmed_left args
operated op.TrimRight args = trim_of trimmed_right args
operated op.Repeat args = repeat_of args

abbrev pub by_operation : Option Operation → List (List ℕ) → Answer
by_operation None args = Err (Tcl (codes "unknown subcommand"))
by_operation (Some o) args = operated o args

-- the answer of `string` to its words
unfoldable pub string_of : List (List ℕ) → Answer
string_of [] = wrong_count (codes "string")
string_of (word ∷ args) = by_operation (operation_of word) args
