-- The effect of one more byte on the open element, and the bytes that an escape writes.
use Rattle.std.specs.Prelude.{ℕ, zero, suc, ◌+◌, ◌-◌, ◌*◌, Bool, true, false, Option, None, Some, if◌then◌else◌, ◌==◌, nat_lt, nat_le}
use Rattle.std.specs.Char.{digit_value}
use lib.Utf8.{scalar}
use Rattle.dg_lists.specs.declared.fault.WordFault.TheVariants.{BadCodePoint}
use Rattle.dg_lists.specs.declared.kinds.Class.{Class}
use Rattle.dg_lists.specs.declared.kinds.Class.TheVariants as class
use Rattle.dg_lists.specs.declared.kinds.Context.{Context}
use Rattle.dg_lists.specs.declared.kinds.Delimiter.TheVariants as delimiter
use Rattle.dg_lists.specs.declared.kinds.Escape.{Escape}
use Rattle.dg_lists.specs.declared.kinds.Escape.TheVariants as escape
use Rattle.dg_lists.specs.declared.kinds.Digits.{Digits}
use Rattle.dg_lists.specs.declared.kinds.Mode.{Mode}
use Rattle.dg_lists.specs.declared.kinds.Mode.TheVariants.{Behind, Braced, In, Number}
use Rattle.dg_lists.specs.declared.kinds.Effect.{Effect}
use Rattle.dg_lists.specs.declared.kinds.Effect.TheVariants as effect
use Rattle.dg_lists.specs.declared.kinds.Target.{Target}
use Rattle.dg_lists.specs.declared.kinds.Target.TheVariants as target
use Rattle.dg_lists.specs.declared.kinds.Transition.{Transition}

-- one effect, and then the reading goes there
abbrev pub does : Effect → Target → Transition
does d n = record { first = effect.Nothing; second = d; next = n }

-- one more byte of text
abbrev pub puts : ℕ → Mode → Transition
puts b m = does (effect.Byte b) (target.To m)

-- nothing but another mode
abbrev pub goes : Mode → Transition
goes m = does effect.Nothing (target.To m)

-- A byte inside braces, where others may be open within: these stay, and the brace that closes the word ends it. A backslash
-- makes what is given.
abbrev pub in_braces : Transition → Bool → Class → ℕ → Transition
in_braces escape deep class.Open b = does (effect.Byte b) target.Deeper
in_braces escape true class.Close b = does (effect.Byte b) target.Shallower
in_braces escape false class.Close b = does effect.Word (target.To (Behind delimiter.Brace))
in_braces escape deep class.Backslash b = escape
in_braces escape deep c b = puts b Braced

-- a transition behind another effect
abbrev pub behind_effect : Effect → Transition → Transition
behind_effect d t = record { first = d; second = t.second; next = t.next }

-- the digits of an escape: their base, how many at most, their value at most, and the letter that begins them
abbrev pub base_of : Escape → ℕ
base_of escape.Octal = 8
base_of e = 16

abbrev pub digits_of : Escape → ℕ
digits_of escape.Octal = 3
digits_of escape.Byte = 2
digits_of escape.Short = 4
digits_of escape.Long = 8

abbrev pub most_of : Escape → ℕ
most_of escape.Short = 65535
most_of escape.Long = 1114111
most_of e = 255

abbrev pub letter_of : Escape → ℕ
letter_of escape.Octal = 48
letter_of escape.Byte = 120
letter_of escape.Short = 117
letter_of escape.Long = 85

-- the value with one more digit, if the byte is one that still belongs to the escape
abbrev pub with_digit : Digits → ℕ → Option ℕ
with_digit n b =
    if nat_lt (digit_value b) (base_of n.escape)
    then (if nat_le (base_of n.escape * n.value + digit_value b) (most_of n.escape) then Some (base_of n.escape * n.value + digit_value b) else None)
    else None

-- the bytes that a number writes: one byte, or a character of Unicode
abbrev pub written : Escape → ℕ → Option Effect
written escape.Octal v = if nat_lt v 256 then Some (effect.Byte v) else None
written escape.Byte v = if nat_lt v 256 then Some (effect.Byte v) else None
written e v = if scalar v then Some (effect.Code v) else None

-- an escape without digits is its letter
abbrev pub whole : Digits → Option Effect
whole n = if n.left == digits_of n.escape then Some (effect.Byte (letter_of n.escape)) else written n.escape n.value

abbrev pub behind_number : Option Effect → Transition → Transition
behind_number (Some d) t = behind_effect d t
behind_number None t = does effect.Nothing (target.Bad BadCodePoint)

-- one more digit: the last one closes the number
abbrev pub counted : Context → Escape → ℕ → ℕ → Transition
counted s e zero v = does effect.Nothing (target.Bad BadCodePoint)
counted s e (suc zero) v = behind_number (written e v) (goes (In s))
counted s e (suc (suc left)) v = goes (Number s (record { escape = e; left = suc left; value = v }))

-- an escape by number begins
abbrev pub begins_number : Context → Escape → Transition
begins_number s e = goes (Number s (record { escape = e; left = digits_of e; value = 0 }))

-- the second byte of a pair that is no newline
abbrev pub escaped : Context → ℕ → Transition
escaped s b =
    if b == 97 then puts 7 (In s) else if b == 98 then puts 8 (In s) else if b == 102 then puts 12 (In s) else if b == 110 then puts 10 (In s) else
    if b == 114 then puts 13 (In s) else if b == 116 then puts 9 (In s) else if b == 118 then puts 11 (In s) else
    if b == 120 then begins_number s escape.Byte else if b == 117 then begins_number s escape.Short else if b == 85 then begins_number s escape.Long else
    if nat_lt b 48 then puts b (In s) else if nat_lt b 56 then goes (Number s (record { escape = escape.Octal; left = 2; value = b - 48 })) else puts b (In s)

-- the bytes that a joined line leaves out
abbrev pub is_space : ℕ → Bool
is_space b = if b == 32 then true else b == 9
