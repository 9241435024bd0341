-- Which byte a class is, and whether a text has a byte.
use Rattle.std.specs.Prelude.{◌≡◌, ◌≢◌, ℕ, List, [], ◌∷◌, Bool, true, false, cond, ◌⊎◌}
use Rattle.std.proofs.Common.{inl, inr, ap, subst}
use Rattle.std.proofs.lemmas.Bool.Decides.{eqb_tells}
use Rattle.dg_lists.specs.declared.kinds.Class.{Class}
use Rattle.dg_lists.specs.declared.kinds.Class.TheVariants as class
use Rattle.dg_lists.specs.Classes.{class_of, is_name}
use Rattle.dg_lists.specs.Grammar.Saying.{Has}
use Rattle.dg_lists.proofs.GrammarLemmas.Numbers.{test}

abbrev pub Is : ℕ → Class → Type 0
Is b class.Newline = b ≡ 10
Is b class.Semicolon = b ≡ 59
Is b class.Hash = b ≡ 35
Is b class.Quote = b ≡ 34
Is b class.Open = b ≡ 123
Is b class.Close = b ≡ 125
Is b class.LeftBracket = b ≡ 91
Is b class.RightBracket = b ≡ 93
Is b class.LeftParen = b ≡ 40
Is b class.RightParen = b ≡ 41
Is b class.Backslash = b ≡ 92
Is b class.Dollar = b ≡ 36
Is b class.Colon = b ≡ 58
Is b class.Star = b ≡ 42
Is b c = Unit {0}

other : (b : ℕ) (x : Bool) → Is b (cond x class.Name class.Plain)
other b true = tt
other b false = tt

pub byte_is : (b : ℕ) → Is b (class_of b)
unfolding class_of
byte_is b =
    test (Is b) b 10 _ _ (λ e. e) (λ n. test (Is b) b 59 _ _ (λ e. e) (λ n. test (Is b) b 32 _ _ (λ e. tt) (λ n. test (Is b) b 9 _ _ (λ e. tt) (λ n.
    test (Is b) b 11 _ _ (λ e. tt) (λ n. test (Is b) b 12 _ _ (λ e. tt) (λ n. test (Is b) b 13 _ _ (λ e. tt) (λ n. test (Is b) b 35 _ _ (λ e. e) (λ n.
    test (Is b) b 34 _ _ (λ e. e) (λ n. test (Is b) b 123 _ _ (λ e. e) (λ n. test (Is b) b 125 _ _ (λ e. e) (λ n. test (Is b) b 91 _ _ (λ e. e) (λ n.
    test (Is b) b 93 _ _ (λ e. e) (λ n. test (Is b) b 40 _ _ (λ e. e) (λ n. test (Is b) b 41 _ _ (λ e. e) (λ n. test (Is b) b 92 _ _ (λ e. e) (λ n.
    test (Is b) b 36 _ _ (λ e. e) (λ n. test (Is b) b 58 _ _ (λ e. e) (λ n. test (Is b) b 42 _ _ (λ e. e) (λ n. other b (is_name b))))))))))))))))))))

-- a byte of a class is that byte
pub is_class : (b : ℕ) (c : Class) → class_of b ≡ c → Is b c
is_class b c e = subst (Is b) e (byte_is b)

-- a byte that a text has, or has not
abbrev pub Without : ℕ → List ℕ → Type 0
Without k [] = Unit {0}
Without k (b ∷ bs) = (b ≢ k) × Without k bs

pub has_or : (k : ℕ) (more : List ℕ) → Has k more ⊎ Without k more
has_or k [] = inr tt
has_or k (b ∷ bs) = elim (eqb_tells b k) [
  | inl x ↦ inl (record { front = []; rest = bs; split = ap (λ y. y ∷ bs) x.1 })
  | inr x ↦ elim (has_or k bs) [
    | inl y ↦ inl (record { front = b ∷ y.front; rest = y.rest; split = ap (λ z. b ∷ z) y.split })
    | inr y ↦ inr (x.1, y)
  ]
]
