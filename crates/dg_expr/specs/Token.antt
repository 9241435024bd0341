-- The tokens of a text.
use Rattle.std.specs.Prelude.{ℕ, zero, suc, ◌-◌, List, [], ◌∷◌, Bool, true, false, ◌&&◌, ◌||◌, Option, None, Some, Result, Ok, Err, if◌then◌else◌, ◌==◌, nat_le, codes}
use Rattle.std.specs.List.{prefix_len, take_while}
use Rattle.dg_words.specs.Piece.{Piece, Text}
use Rattle.dg_words.specs.Reading.{operand_at}
use Rattle.dg_lists.specs.declared.fault.WordFault.{WordFault}
use Rattle.dg_words.specs.declared.word.Word.{Word}
use Rattle.dg_expr.specs.declared.operator.Infix.{Infix}
use Rattle.dg_expr.specs.declared.operator.Infix.TheVariants as between
use Rattle.dg_expr.specs.declared.operator.Prefix.TheVariants as before
use Rattle.dg_expr.specs.declared.token.Kind.{Kind}
use Rattle.dg_expr.specs.declared.token.Kind.TheVariants as kind
use Rattle.dg_expr.specs.declared.token.Lexeme.{Lexeme}
use Rattle.dg_expr.specs.declared.token.Token.{Token}
use Rattle.dg_expr.specs.declared.token.Token.TheVariants as token
use Rattle.dg_expr.specs.Number.{is_space}
use Rattle.dg_bytes.specs.Same.{same_bytes}
use Rattle.dg_expr.specs.Truth.{word_truth}

abbrev pub is_letter : ℕ → Bool
is_letter b = (nat_le 65 b && nat_le b 90) || (nat_le 97 b && nat_le b 122)

abbrev pub is_digit : ℕ → Bool
is_digit b = nat_le 48 b && nat_le b 57

-- a byte of an operand that begins with a digit
abbrev pub is_run_byte : ℕ → Bool
is_run_byte b = is_letter b || is_digit b || b == 46 || b == 95

-- the kind of lexeme that a byte begins: a quote, a brace and a bracket begin a word of the language
unfoldable pub kind_of : ℕ → Kind
kind_of b =
    if is_space b then kind.Space else
    if b == 92 then kind.Backslash else
    if is_digit b then kind.Digit else
    if is_letter b then kind.Letter else
    if b == 36 then kind.Dollar else
    if b == 34 || b == 123 || b == 91 then kind.Word else kind.Sign

-- the operators of two bytes
abbrev pub doubled_sign : ℕ → Option Infix
doubled_sign b =
    if b == 60 then Some between.ShiftLeft else if b == 62 then Some between.ShiftRight else
    if b == 61 then Some between.Equal else if b == 38 then Some between.And else if b == 124 then Some between.Or else None

abbrev pub sign_with_equals : ℕ → Option Infix
sign_with_equals b =
    if b == 60 then Some between.LessOrEqual else if b == 62 then Some between.GreaterOrEqual else
    if b == 33 then Some between.NotEqual else None

abbrev pub double_sign : ℕ → ℕ → Option Infix
double_sign b c = if b == c then doubled_sign b else if c == 61 then sign_with_equals b else None

-- the tokens of one byte
unfoldable pub single_sign : ℕ → Option Token
single_sign b =
    if b == 40 then Some token.LeftParen else if b == 41 then Some token.RightParen else
    if b == 63 then Some token.Question else if b == 58 then Some token.Colon else
    if b == 43 then Some token.Plus else if b == 45 then Some token.Minus else
    if b == 126 then Some (token.Prefix before.Complement) else if b == 33 then Some (token.Prefix before.Not) else
    if b == 42 then Some (token.Infix between.Times) else if b == 47 then Some (token.Infix between.Over) else
    if b == 37 then Some (token.Infix between.Remainder) else if b == 60 then Some (token.Infix between.Less) else
    if b == 62 then Some (token.Infix between.Greater) else if b == 38 then Some (token.Infix between.BitAnd) else
    if b == 94 then Some (token.Infix between.BitXor) else if b == 124 then Some (token.Infix between.BitOr) else None

-- a token, or a gap between tokens, of so many bytes, which are one at least
abbrev pub lexeme : Option Token → ℕ → Option Lexeme
lexeme t zero = None
lexeme t (suc n) = Some (record { token = t; length = suc n })

abbrev pub token_lexeme : Option Token → ℕ → Option Lexeme
token_lexeme None n = None
token_lexeme (Some t) n = lexeme (Some t) n

-- a backslash and a newline are a gap
abbrev pub joined_line : List ℕ → Option Lexeme
joined_line [] = None
joined_line (b ∷ bs) = if b == 10 then lexeme None 2 else None

-- of two signs that begin alike the longer
abbrev pub sign_or : Option Infix → Option Token → Option Lexeme
sign_or (Some op) t = lexeme (Some (token.Infix op)) 2
sign_or None t = token_lexeme t 1

abbrev pub sign_lexeme : ℕ → List ℕ → Option Lexeme
sign_lexeme b [] = token_lexeme (single_sign b) 1
sign_lexeme b (c ∷ bs) = sign_or (double_sign b c) (single_sign b)

-- an operand of one text
abbrev pub text_operand : List ℕ → Token
text_operand t = token.Operand (Text t ∷ [])

-- letters are an operator, or a word of truth
abbrev pub truth_operand : List ℕ → Option Bool → Option Token
truth_operand w None = None
truth_operand w (Some t) = Some (text_operand w)

abbrev pub word_token : List ℕ → Option Token
word_token w =
    if same_bytes w (codes "eq") then Some (token.Infix between.SameText) else
    if same_bytes w (codes "ne") then Some (token.Infix between.OtherText) else
    if same_bytes w (codes "in") then Some (token.Infix between.In) else
    if same_bytes w (codes "ni") then Some (token.Infix between.NotIn) else truth_operand w (word_truth w)

-- one word of the language; a dollar sign has to begin a variable
abbrev pub is_text : List Piece → Bool
is_text [] = true
is_text (Text t ∷ ps) = true
is_text (p ∷ ps) = false

abbrev pub operand_lexeme : Bool → List Word → ℕ → Option Lexeme
operand_lexeme dollar [] n = None
operand_lexeme dollar (w ∷ v ∷ ws) n = None
operand_lexeme dollar (w ∷ []) n = if dollar && is_text w.parts then None else lexeme (Some (token.Operand w.parts)) n

abbrev pub read_lexeme : Bool → Result (List Word × ℕ) WordFault → Option Lexeme
read_lexeme dollar (Ok (ws, n)) = operand_lexeme dollar ws n
read_lexeme dollar (Err f) = None

abbrev pub lexeme_by : Kind → ℕ → List ℕ → Option Lexeme
lexeme_by kind.Space b bs = lexeme None 1
lexeme_by kind.Backslash b bs = joined_line bs
lexeme_by kind.Digit b bs = lexeme (Some (text_operand (take_while is_run_byte (b ∷ bs)))) (prefix_len is_run_byte (b ∷ bs))
lexeme_by kind.Letter b bs = token_lexeme (word_token (take_while is_letter (b ∷ bs))) (prefix_len is_letter (b ∷ bs))
lexeme_by kind.Dollar b bs = read_lexeme true (operand_at (b ∷ bs) 0)
lexeme_by kind.Word b bs = read_lexeme false (operand_at (b ∷ bs) 0)
lexeme_by kind.Sign b bs = sign_lexeme b bs

-- The beginning of a text: a token or a gap, or nothing that an expression has.
unfoldable pub lexeme_at : List ℕ → Option Lexeme
lexeme_at [] = None
lexeme_at (b ∷ bs) = lexeme_by (kind_of b) b bs

-- tokens behind a lexeme
abbrev pub with_token : Option Token → Option (List Token) → Option (List Token)
with_token t None = None
with_token None (Some ts) = Some ts
with_token (Some t) (Some ts) = Some (t ∷ ts)

abbrev pub after_lexeme : Option Lexeme → (ℕ → Option (List Token)) → Option (List Token)
after_lexeme None rest = None
after_lexeme (Some l) rest = with_token l.token (rest (l.length - 1))

-- the tokens of a text behind so many bytes
unfoldable pub tokens_behind : ℕ → List ℕ → Option (List Token)
tokens_behind n [] = Some []
tokens_behind (suc n) (b ∷ bs) = tokens_behind n bs
tokens_behind zero (b ∷ bs) = after_lexeme (lexeme_at (b ∷ bs)) (λ n. tokens_behind n bs)

-- The tokens of a text, if it is made of tokens.
abbrev pub tokens_of : List ℕ → Option (List Token)
tokens_of text = tokens_behind 0 text
