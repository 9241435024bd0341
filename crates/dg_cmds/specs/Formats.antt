-- The command `format`, as in format(n).
use Rattle.std.specs.Prelude.{ℕ, ◌+◌, ◌-◌, ◌*◌, ℤ, pos, negsuc, min, Bool, true, false, ◌==◌, ◌&&◌, not, List, [], ◌∷◌, ◌++◌, codes, drop, length, replicate, take, Option, None, Some, Result, Ok, Err, if◌then◌else◌}
use Rattle.std.specs.Int.{cast_unsigned, w64}
use Rattle.std.specs.List.{slice_split}
use Rattle.std.specs.Option.{option_map}
use Rattle.std.specs.Fmt.{decimal, digits}
use Rattle.dg_cmds.specs.declared.fault.CmdFault.{CmdFault}
use Rattle.dg_cmds.specs.declared.fault.CmdFault.TheVariants.{Tcl}
use Rattle.dg_cmds.specs.declared.field.TheConstants.{PAST}
use Rattle.dg_cmds.specs.declared.field.Field.{Field}
use Rattle.dg_cmds.specs.declared.field.Style.{Style}
use Rattle.dg_cmds.specs.declared.field.Style.TheVariants as style
use Rattle.dg_bytes.specs.Chain.{◌>>=◌}
use Rattle.dg_cmds.specs.Answers.{Answer, limited, wrong_count}
use Rattle.dg_cmds.specs.Bytes.{member, trimmed_left}
use Rattle.dg_cmds.specs.Numbers.{read_number}

-- the style that a letter says: `s`, `d` or `i`, `x`, `X`, `o`
abbrev pub style_of : ℕ → Option Style
style_of b =
    if b == 115 then Some style.Text else if b == 100 then Some style.Decimal else if b == 105 then Some style.Decimal else
    if b == 120 then Some style.Hex else if b == 88 then Some style.UpperHex else if b == 111 then Some style.Octal else None

-- the number that decimal digits write behind a number
abbrev pub number_behind : ℕ → List ℕ → ℕ
number_behind n [] = n
number_behind n (d ∷ ds) = number_behind (n * 10 + (d - 48)) ds

-- A width. No value is as long as this, so that a greater width is as this one.
abbrev pub width_of : List ℕ → ℕ
width_of ds = min (number_behind 0 ds) PAST

-- the text after the flags of a field, and after its width
abbrev pub behind_flags : List ℕ → List ℕ
behind_flags part = trimmed_left (member (codes "-0")) part

abbrev pub behind_width : List ℕ → List ℕ
behind_width part = trimmed_left (member (codes "0123456789")) (behind_flags part)

abbrev pub flags_of : List ℕ → List ℕ
flags_of part = take (length part - length (behind_flags part)) part

abbrev pub digits_of : List ℕ → List ℕ
digits_of part = take (length (behind_flags part) - length (behind_width part)) (behind_flags part)

abbrev pub field_with : Bool → Bool → ℕ → Style → Field
field_with left zero width s = record { left = left; zero = not left && zero; width = width; style = s }

abbrev pub field_from : Bool → Bool → ℕ → List ℕ → Option Field
field_from left zero width [] = None
field_from left zero width (b ∷ rest) = option_map (field_with left zero width) (style_of b)

-- the field at the front of what stands behind a percent sign: flags, a width, and a letter; `0` is ignored with `-`
unfoldable pub field_of : List ℕ → Option Field
field_of part = field_from (member (flags_of part) 45) (member (flags_of part) 48) (width_of (digits_of part)) (behind_width part)

-- the text after the field
unfoldable pub text_behind : List ℕ → List ℕ
text_behind part = drop 1 (behind_width part)

-- A text in a field: blanks before it, or behind it on the left, or zeros between its sign and its rest.
abbrev pub padded : Field → List ℕ → List ℕ → List ℕ
padded f sign rest =
    let gap : ℕ = f.width - length (sign ++ rest) in
    if f.left then (sign ++ rest) ++ replicate gap 32
    else if f.zero then (sign ++ replicate gap 48) ++ rest
    else replicate gap 32 ++ (sign ++ rest)

abbrev pub minus : ℤ → List ℕ
minus (pos n) = []
minus (negsuc n) = 45 ∷ []

abbrev pub size : ℤ → ℕ
size (pos n) = n
size (negsuc n) = n + 1

-- a number in a field: with a sign in decimal, else as its two's complement of 64 bits
abbrev pub number_in : Field → Style → ℤ → List ℕ
number_in f style.Hex z = padded f [] (digits 16 false (cast_unsigned w64 z))
number_in f style.UpperHex z = padded f [] (digits 16 true (cast_unsigned w64 z))
number_in f style.Octal z = padded f [] (digits 8 false (cast_unsigned w64 z))
number_in f s z = padded f (minus z) (decimal (size z))

abbrev pub value_in : Field → Style → List ℕ → Answer
value_in f style.Text v = Ok (padded f [] v)
value_in f s v = read_number v >>= λ z. Ok (number_in f s z)

abbrev pub or_bad_field : Option Field → Result Field CmdFault
or_bad_field (Some f) = Ok f
or_bad_field None = Err (Tcl (codes "bad field specifier"))

-- a text with a value and the text after its field
unfoldable pub with_field : List ℕ → List ℕ → List ℕ → Answer
with_field text part v =
    or_bad_field (field_of part) >>= λ f. value_in f f.style v >>= λ shown. limited (text ++ shown) >>= λ longer. limited (longer ++ text_behind part)

-- A text and what stands behind each further percent sign. Behind nothing, another percent sign stands for itself; all
-- else is a field, which takes a value.
abbrev pub with_parts : List ℕ → List (List ℕ) → List (List ℕ) → Answer
with_parts text [] values = Ok text
with_parts text ([] ∷ plain ∷ parts) values = limited (text ++ 37 ∷ plain) >>= λ longer. with_parts longer parts values
with_parts text (part ∷ parts) [] = Err (Tcl (codes "not enough arguments for all format specifiers"))
with_parts text (part ∷ parts) (v ∷ values) = with_field text part v >>= λ longer. with_parts longer parts values

abbrev pub formatted : List (List ℕ) → List (List ℕ) → Answer
formatted [] values = Ok []
formatted (plain ∷ parts) values = limited plain >>= λ text. with_parts text parts values

-- the format is cut at its percent signs
abbrev pub format_of : List (List ℕ) → Answer
format_of [] = wrong_count (codes "format")
format_of (f ∷ values) = formatted (slice_split (member (codes "%")) f) values
