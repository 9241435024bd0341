-- The first lexeme of a text, and what is read behind it.
use Rattle.std.proofs.Common.{◌≡◌, ℕ, zero, suc, ◌-◌, ◌≤◌, List, [], ◌∷◌, length, drop, Option, Some, None, refl, ap, ◌∙◌, arith}
use Rattle.dg_expr.specs.declared.frame.Frame.{Frame}
use Rattle.dg_expr.specs.declared.token.Lexeme.{Lexeme}
use Rattle.dg_expr.specs.declared.token.Token.{Token}
use Rattle.dg_expr.specs.Reading.{Place, onward, pass, read, read_behind, step}
use Rattle.dg_expr.specs.Token.{after_lexeme, lexeme_at, tokens_behind, tokens_of, with_token}
use Rattle.dg_expr.specs.Tree.{Tree}

tokens_behind-drop : (n : ℕ) (bs : List ℕ) → n ≤ length bs → tokens_behind n bs ≡ tokens_behind 0 (drop n bs)
unfolding tokens_behind
tokens_behind-drop zero bs h = refl
tokens_behind-drop (suc n) [] h = absurd (omega arith)
tokens_behind-drop (suc n) (b ∷ bs) h = tokens_behind-drop n bs (omega arith)

none_onward : (p : Option Place) → None ≡ onward p (λ gs b. None)
none_onward None = refl
none_onward (Some (gs, b)) = refl

with_token-read : (t : Option Token) (o : Option (List Token)) (fs : List Frame) (a : Option Tree)
    → read_behind (with_token t o) fs a ≡ onward (pass fs a t) (λ gs b. read_behind o gs b)
unfolding read
with_token-read None None fs a = refl
with_token-read (Some t) None fs a = none_onward (step fs a t)
with_token-read None (Some ts) fs a = refl
with_token-read (Some t) (Some ts) fs a = refl

tokens_behind-more : (n b : ℕ) (bs : List ℕ) → 1 ≤ n → n ≤ length (b ∷ bs) → tokens_behind (n - 1) bs ≡ tokens_of (drop n (b ∷ bs))
tokens_behind-more zero b bs low high = absurd (omega arith)
tokens_behind-more (suc m) b bs low high = let e : suc m - 1 ≡ m = omega arith in rw e (tokens_behind-drop m bs (omega arith))

tokens-lexeme : (text : List ℕ) (l : Lexeme) → lexeme_at text ≡ Some l → 1 ≤ l.length → l.length ≤ length text
    → tokens_of text ≡ with_token l.token (tokens_of (drop l.length text))
unfolding tokens_behind
tokens-lexeme [] l e low high = absurd (omega arith)
tokens-lexeme (b ∷ bs) l e low high =
    ap (λ o. after_lexeme o (λ n. tokens_behind n bs)) e ∙ ap (with_token l.token) (tokens_behind-more l.length b bs low high)

-- behind a lexeme the reading goes on
pub read_passed : (text : List ℕ) (l : Lexeme) (fs gs : List Frame) (a b : Option Tree) → lexeme_at text ≡ Some l → 1 ≤ l.length → l.length ≤ length text
    → pass fs a l.token ≡ Some (gs, b) → read_behind (tokens_of text) fs a ≡ read_behind (tokens_of (drop l.length text)) gs b
read_passed text l fs gs a b e low high p =
    ap (λ o. read_behind o fs a) (tokens-lexeme text l e low high) ∙ with_token-read l.token (tokens_of (drop l.length text)) fs a
    ∙ ap (λ q. onward q (λ hs c. read_behind (tokens_of (drop l.length text)) hs c)) p

-- a token that can't come ends it
pub read_stuck : (text : List ℕ) (l : Lexeme) (fs : List Frame) (a : Option Tree) → lexeme_at text ≡ Some l → 1 ≤ l.length → l.length ≤ length text
    → pass fs a l.token ≡ None → read_behind (tokens_of text) fs a ≡ None
read_stuck text l fs a e low high p =
    ap (λ o. read_behind o fs a) (tokens-lexeme text l e low high) ∙ with_token-read l.token (tokens_of (drop l.length text)) fs a
    ∙ ap (λ q. onward q (λ hs c. read_behind (tokens_of (drop l.length text)) hs c)) p

-- where there is no lexeme, nothing is read
pub read_no_lexeme : (text : List ℕ) (fs : List Frame) (a : Option Tree) → 1 ≤ length text → lexeme_at text ≡ None → read_behind (tokens_of text) fs a ≡ None
unfolding tokens_behind
read_no_lexeme [] fs a n e = absurd (omega arith)
read_no_lexeme (b ∷ bs) fs a n e = ap (λ o. read_behind (after_lexeme o (λ n. tokens_behind n bs)) fs a) e

pub ruleset reads = (read_passed, read_stuck, read_no_lexeme)
