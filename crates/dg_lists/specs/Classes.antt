-- The class of each byte in the grammar.
use Rattle.std.specs.Prelude.{ℕ, Bool, true, false, if◌then◌else◌, ◌==◌, nat_lt}
use Rattle.dg_lists.specs.declared.kinds.Class.{Class}
use Rattle.dg_lists.specs.declared.kinds.Class.TheVariants.{Blank, Newline, Semicolon, Hash, Quote, Open, Close, LeftBracket, RightBracket, LeftParen, RightParen, Backslash, Dollar, Colon, Star, Name, Plain}

-- letters, digits and the underscore
abbrev pub is_name : ℕ → Bool
is_name b =
    if nat_lt b 48 then false else if nat_lt b 58 then true else
    if nat_lt b 65 then false else if nat_lt b 91 then true else
    if b == 95 then true else
    if nat_lt b 97 then false else nat_lt b 123

unfoldable pub class_of : ℕ → Class
class_of b =
    if b == 10 then Newline else if b == 59 then Semicolon else
    if b == 32 then Blank else if b == 9 then Blank else if b == 11 then Blank else if b == 12 then Blank else if b == 13 then Blank else
    if b == 35 then Hash else if b == 34 then Quote else if b == 123 then Open else if b == 125 then Close else
    if b == 91 then LeftBracket else if b == 93 then RightBracket else if b == 40 then LeftParen else if b == 41 then RightParen else
    if b == 92 then Backslash else if b == 36 then Dollar else if b == 58 then Colon else if b == 42 then Star else
    if is_name b then Name else Plain
