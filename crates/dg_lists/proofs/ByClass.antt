-- The canonical text of a list, told by what its bytes are to the grammar.
use Rattle.std.specs.Prelude.{◌≡◌, ℕ, zero, suc, ◌+◌, ◌-◌, List, [], ◌∷◌, ◌++◌, Bool, true, false, ◌&&◌, not, Option, None, Some, cond, if◌then◌else◌, ◌==◌, refl}
use Rattle.std.proofs.Common.{◌∙◌, ap, sym, subst, arith}
use Rattle.std.proofs.lemmas.Bool.{eqb-true}
use Rattle.dg_bytes.specs.Canonical as canonical
use Rattle.dg_bytes.specs.Canonical.{hash_covered, onto}
use Rattle.dg_lists.specs.declared.kinds.Class.{Class}
use Rattle.dg_lists.specs.declared.kinds.Class.TheVariants.{Blank, Newline, Semicolon, Hash, Quote, Open, Close, LeftBracket, RightBracket, LeftParen, RightParen, Dollar, Backslash, Colon, Star, Name, Plain}
use Rattle.dg_lists.specs.Classes.{class_of, is_name}

abbrev pub is_special : Class → Bool
is_special Blank = true
is_special Newline = true
is_special Semicolon = true
is_special Quote = true
is_special Open = true
is_special Close = true
is_special LeftBracket = true
is_special RightBracket = true
is_special Dollar = true
is_special Backslash = true
is_special c = false

abbrev pub is_plain : List ℕ → Bool
is_plain [] = true
is_plain (b ∷ bs) = not (is_special (class_of b)) && is_plain bs

abbrev pub is_hash : Class → Bool
is_hash Hash = true
is_hash c = false

abbrev pub begins_with_hash : List ℕ → Bool
begins_with_hash [] = false
begins_with_hash (b ∷ bs) = is_hash (class_of b)

abbrev pub brace_step : Bool → ℕ → Class → Option (Bool × ℕ)
brace_step true d Newline = None
brace_step true d c = Some (false, d)
brace_step false d Backslash = Some (true, d)
brace_step false d Open = Some (false, d + 1)
brace_step false zero Close = None
brace_step false (suc d) Close = Some (false, d)
brace_step false d c = Some (false, d)

abbrev pub may_be_braced : Bool → ℕ → List ℕ → Bool
may_be_braced paired d [] = not paired && (d == 0)
may_be_braced paired d (b ∷ bs) = onto (brace_step paired d (class_of b)) (λ q e. may_be_braced q e bs)

abbrev pub escaped_byte : Class → ℕ → List ℕ
escaped_byte Newline b = 92 ∷ 110 ∷ []
escaped_byte c b = if is_special c then 92 ∷ b ∷ [] else b ∷ []

abbrev pub escaped_text : List ℕ → List ℕ
escaped_text [] = []
escaped_text (b ∷ bs) = escaped_byte (class_of b) b ++ escaped_text bs

abbrev pub element_text : Bool → List ℕ → List ℕ
element_text first [] = 123 ∷ 125 ∷ []
element_text first (b ∷ bs) =
    if is_plain (b ∷ bs) && not (first && begins_with_hash (b ∷ bs)) then b ∷ bs
    else if may_be_braced false 0 (b ∷ bs) then 123 ∷ (b ∷ bs) ++ 125 ∷ []
    else hash_covered (first && begins_with_hash (b ∷ bs)) ++ escaped_text (b ∷ bs)

abbrev pub further_text : List (List ℕ) → List ℕ
further_text [] = []
further_text (x ∷ xs) = 32 ∷ element_text false x ++ further_text xs

abbrev pub text_by_class : List (List ℕ) → List ℕ
text_by_class [] = []
text_by_class (x ∷ xs) = element_text true x ++ further_text xs

-- what a byte is in a canonical text, and what its class is
record Agrees (b : ℕ) (c : Class) : Type 0 where
  special : canonical.is_special b ≡ is_special c
  escaped : canonical.escaped_byte b ≡ escaped_byte c b
  paired : (d : ℕ) → canonical.brace_step true d b ≡ brace_step true d c
  single : (d : ℕ) → canonical.brace_step false d b ≡ brace_step false d c
  hash : (b == 35) ≡ is_hash c

at : (b n : ℕ) (c : Class) → Agrees n c → b ≡ n → Agrees b c
at b n c a e = subst (λ x. Agrees x c) (sym e) a

on : (P : Class → Type 0) (b n : ℕ) (c d : Class) → (b ≡ n → P c) → ((b == n) ≡ false → P d) → P (cond (b == n) c d)
on P b n c d f g = tested (b == n) refl
  where
    tested : (x : Bool) → (b == n) ≡ x → P (cond x c d)
    tested true e = f (eqb-true b n e)
    tested false e = g e

not_zero : (d : ℕ) → (suc d == 0) ≡ false
not_zero d = tested (suc d == 0) refl
  where
    tested : (x : Bool) → (suc d == 0) ≡ x → x ≡ false
    tested true e = let h = eqb-true (suc d) 0 e in absurd (omega (arith, h))
    tested false e = refl

closing : (d : ℕ) → canonical.brace_step false d 125 ≡ brace_step false d Close
closing zero = refl
closing (suc d) =
    let some : (suc d == 0) ≡ false = not_zero d in
    let less : suc d - 1 ≡ d = omega arith in
    ap (λ x. cond x None (Some (false, suc d - 1))) some ∙ ap (λ n. Some (false, n)) less

single_10 : (d : ℕ) → canonical.brace_step false d 10 ≡ brace_step false d Newline
single_10 zero = refl
single_10 (suc d) = refl

single_59 : (d : ℕ) → canonical.brace_step false d 59 ≡ brace_step false d Semicolon
single_59 zero = refl
single_59 (suc d) = refl

single_32 : (d : ℕ) → canonical.brace_step false d 32 ≡ brace_step false d Blank
single_32 zero = refl
single_32 (suc d) = refl

single_9 : (d : ℕ) → canonical.brace_step false d 9 ≡ brace_step false d Blank
single_9 zero = refl
single_9 (suc d) = refl

single_11 : (d : ℕ) → canonical.brace_step false d 11 ≡ brace_step false d Blank
single_11 zero = refl
single_11 (suc d) = refl

single_12 : (d : ℕ) → canonical.brace_step false d 12 ≡ brace_step false d Blank
single_12 zero = refl
single_12 (suc d) = refl

single_13 : (d : ℕ) → canonical.brace_step false d 13 ≡ brace_step false d Blank
single_13 zero = refl
single_13 (suc d) = refl

single_35 : (d : ℕ) → canonical.brace_step false d 35 ≡ brace_step false d Hash
single_35 zero = refl
single_35 (suc d) = refl

single_34 : (d : ℕ) → canonical.brace_step false d 34 ≡ brace_step false d Quote
single_34 zero = refl
single_34 (suc d) = refl

single_91 : (d : ℕ) → canonical.brace_step false d 91 ≡ brace_step false d LeftBracket
single_91 zero = refl
single_91 (suc d) = refl

single_93 : (d : ℕ) → canonical.brace_step false d 93 ≡ brace_step false d RightBracket
single_93 zero = refl
single_93 (suc d) = refl

single_40 : (d : ℕ) → canonical.brace_step false d 40 ≡ brace_step false d LeftParen
single_40 zero = refl
single_40 (suc d) = refl

single_41 : (d : ℕ) → canonical.brace_step false d 41 ≡ brace_step false d RightParen
single_41 zero = refl
single_41 (suc d) = refl

single_36 : (d : ℕ) → canonical.brace_step false d 36 ≡ brace_step false d Dollar
single_36 zero = refl
single_36 (suc d) = refl

single_58 : (d : ℕ) → canonical.brace_step false d 58 ≡ brace_step false d Colon
single_58 zero = refl
single_58 (suc d) = refl

single_42 : (d : ℕ) → canonical.brace_step false d 42 ≡ brace_step false d Star
single_42 zero = refl
single_42 (suc d) = refl

at_10 : Agrees 10 Newline
at_10 = record { special = refl; escaped = refl; paired = λ d. refl; single = single_10; hash = refl }

at_59 : Agrees 59 Semicolon
at_59 = record { special = refl; escaped = refl; paired = λ d. refl; single = single_59; hash = refl }

at_32 : Agrees 32 Blank
at_32 = record { special = refl; escaped = refl; paired = λ d. refl; single = single_32; hash = refl }

at_9 : Agrees 9 Blank
at_9 = record { special = refl; escaped = refl; paired = λ d. refl; single = single_9; hash = refl }

at_11 : Agrees 11 Blank
at_11 = record { special = refl; escaped = refl; paired = λ d. refl; single = single_11; hash = refl }

at_12 : Agrees 12 Blank
at_12 = record { special = refl; escaped = refl; paired = λ d. refl; single = single_12; hash = refl }

at_13 : Agrees 13 Blank
at_13 = record { special = refl; escaped = refl; paired = λ d. refl; single = single_13; hash = refl }

at_35 : Agrees 35 Hash
at_35 = record { special = refl; escaped = refl; paired = λ d. refl; single = single_35; hash = refl }

at_34 : Agrees 34 Quote
at_34 = record { special = refl; escaped = refl; paired = λ d. refl; single = single_34; hash = refl }

at_123 : Agrees 123 Open
at_123 = record { special = refl; escaped = refl; paired = λ d. refl; single = λ d. refl; hash = refl }

at_125 : Agrees 125 Close
at_125 = record { special = refl; escaped = refl; paired = λ d. refl; single = closing; hash = refl }

at_91 : Agrees 91 LeftBracket
at_91 = record { special = refl; escaped = refl; paired = λ d. refl; single = single_91; hash = refl }

at_93 : Agrees 93 RightBracket
at_93 = record { special = refl; escaped = refl; paired = λ d. refl; single = single_93; hash = refl }

at_40 : Agrees 40 LeftParen
at_40 = record { special = refl; escaped = refl; paired = λ d. refl; single = single_40; hash = refl }

at_41 : Agrees 41 RightParen
at_41 = record { special = refl; escaped = refl; paired = λ d. refl; single = single_41; hash = refl }

at_92 : Agrees 92 Backslash
at_92 = record { special = refl; escaped = refl; paired = λ d. refl; single = λ d. refl; hash = refl }

at_36 : Agrees 36 Dollar
at_36 = record { special = refl; escaped = refl; paired = λ d. refl; single = single_36; hash = refl }

at_58 : Agrees 58 Colon
at_58 = record { special = refl; escaped = refl; paired = λ d. refl; single = single_58; hash = refl }

at_42 : Agrees 42 Star
at_42 = record { special = refl; escaped = refl; paired = λ d. refl; single = single_42; hash = refl }

-- a byte that is none of these is a name's or a plain one
not_special : (b : ℕ) → (b == 9) ≡ false → (b == 10) ≡ false → (b == 11) ≡ false → (b == 12) ≡ false → (b == 13) ≡ false → (b == 32) ≡ false → (b == 34) ≡ false → (b == 36) ≡ false → (b == 59) ≡ false → (b == 91) ≡ false → (b == 92) ≡ false → (b == 93) ≡ false → (b == 123) ≡ false → (b == 125) ≡ false → canonical.is_special b ≡ false
not_special b e9 e10 e11 e12 e13 e32 e34 e36 e59 e91 e92 e93 e123 e125 = simp (e9, e10, e11, e12, e13, e32, e34, e36, e59, e91, e92, e93, e123, e125) refl

others : (b : ℕ) (x : Bool) → (b == 9) ≡ false → (b == 10) ≡ false → (b == 11) ≡ false → (b == 12) ≡ false → (b == 13) ≡ false → (b == 32) ≡ false → (b == 34) ≡ false → (b == 36) ≡ false → (b == 59) ≡ false → (b == 91) ≡ false → (b == 92) ≡ false → (b == 93) ≡ false → (b == 123) ≡ false → (b == 125) ≡ false → (b == 35) ≡ false → Agrees b (cond x Name Plain)
others b x e9 e10 e11 e12 e13 e32 e34 e36 e59 e91 e92 e93 e123 e125 e35 = by x
  where
    none : canonical.is_special b ≡ false
    none = not_special b e9 e10 e11 e12 e13 e32 e34 e36 e59 e91 e92 e93 e123 e125

    escapes : canonical.escaped_byte b ≡ b ∷ []
    escapes = ap (λ y. if y then 92 ∷ 110 ∷ [] else if canonical.is_special b then 92 ∷ b ∷ [] else b ∷ []) e10 ∙ ap (λ y. if y then 92 ∷ b ∷ [] else b ∷ []) none

    pairs : (d : ℕ) → canonical.brace_step true d b ≡ Some (false, d)
    pairs d = simp e10 refl

    steps : (d : ℕ) → canonical.brace_step false d b ≡ Some (false, d)
    steps d = simp (e92, e123, e125) refl

    named : (d : ℕ) → Some (false, d) ≡ brace_step false d Name
    named zero = refl
    named (suc d) = refl

    plain : (d : ℕ) → Some (false, d) ≡ brace_step false d Plain
    plain zero = refl
    plain (suc d) = refl

    by : (x : Bool) → Agrees b (cond x Name Plain)
    by true = record { special = none; escaped = escapes; paired = pairs; single = λ d. steps d ∙ named d; hash = e35 }
    by false = record { special = none; escaped = escapes; paired = pairs; single = λ d. steps d ∙ plain d; hash = e35 }

agrees : (b : ℕ) → Agrees b (class_of b)
unfolding class_of
agrees b =
    on (Agrees b) b 10 _ _ (at b 10 _ at_10) (λ e10.
    on (Agrees b) b 59 _ _ (at b 59 _ at_59) (λ e59.
    on (Agrees b) b 32 _ _ (at b 32 _ at_32) (λ e32.
    on (Agrees b) b 9 _ _ (at b 9 _ at_9) (λ e9.
    on (Agrees b) b 11 _ _ (at b 11 _ at_11) (λ e11.
    on (Agrees b) b 12 _ _ (at b 12 _ at_12) (λ e12.
    on (Agrees b) b 13 _ _ (at b 13 _ at_13) (λ e13.
    on (Agrees b) b 35 _ _ (at b 35 _ at_35) (λ e35.
    on (Agrees b) b 34 _ _ (at b 34 _ at_34) (λ e34.
    on (Agrees b) b 123 _ _ (at b 123 _ at_123) (λ e123.
    on (Agrees b) b 125 _ _ (at b 125 _ at_125) (λ e125.
    on (Agrees b) b 91 _ _ (at b 91 _ at_91) (λ e91.
    on (Agrees b) b 93 _ _ (at b 93 _ at_93) (λ e93.
    on (Agrees b) b 40 _ _ (at b 40 _ at_40) (λ e40.
    on (Agrees b) b 41 _ _ (at b 41 _ at_41) (λ e41.
    on (Agrees b) b 92 _ _ (at b 92 _ at_92) (λ e92.
    on (Agrees b) b 36 _ _ (at b 36 _ at_36) (λ e36.
    on (Agrees b) b 58 _ _ (at b 58 _ at_58) (λ e58.
    on (Agrees b) b 42 _ _ (at b 42 _ at_42) (λ e42.
    others b (is_name b) e9 e10 e11 e12 e13 e32 e34 e36 e59 e91 e92 e93 e123 e125 e35)))))))))))))))))))

step_by : (q : Bool) (d b : ℕ) → canonical.brace_step q d b ≡ brace_step q d (class_of b)
step_by true d b = (agrees b).paired d
step_by false d b = (agrees b).single d

plain_by : (t : List ℕ) → canonical.is_plain t ≡ is_plain t
plain_by [] = refl
plain_by (b ∷ bs) = ap (λ x. not x && canonical.is_plain bs) (agrees b).special ∙ ap (λ y. not (is_special (class_of b)) && y) (plain_by bs)

hash_by : (t : List ℕ) → canonical.begins_with_hash t ≡ begins_with_hash t
hash_by [] = refl
hash_by (b ∷ bs) = (agrees b).hash

onto_by : (o : Option (Bool × ℕ)) (f g : Bool → ℕ → Bool) → ((q : Bool) (d : ℕ) → f q d ≡ g q d) → onto o f ≡ onto o g
onto_by None f g e = refl
onto_by (Some x) f g e = e x.0 x.1

braces_by : (t : List ℕ) (q : Bool) (d : ℕ) → canonical.may_be_braced q d t ≡ may_be_braced q d t
braces_by [] q d = refl
braces_by (b ∷ bs) q d = ap (λ o. onto o (λ r e. canonical.may_be_braced r e bs)) (step_by q d b) ∙ onto_by (brace_step q d (class_of b)) _ _ (λ r e. braces_by bs r e)

escapes_by : (t : List ℕ) → canonical.escaped_text t ≡ escaped_text t
escapes_by [] = refl
escapes_by (b ∷ bs) = ap (λ (x : List ℕ). x ++ canonical.escaped_text bs) (agrees b).escaped ∙ ap (λ (y : List ℕ). escaped_byte (class_of b) b ++ y) (escapes_by bs)

-- an element that is plain or not, begins with a hash or not, may stand in braces or not, and its escaped text
abbrev parts : Bool → List ℕ → Bool → Bool → Bool → List ℕ → List ℕ
parts first x plain hash braced escaped = if plain && not (first && hash) then x else if braced then 123 ∷ x ++ 125 ∷ [] else hash_covered (first && hash) ++ escaped

element_by : (first : Bool) (x : List ℕ) → canonical.element_text first x ≡ element_text first x
element_by first [] = refl
element_by first (b ∷ bs) =
    let x : List ℕ = b ∷ bs in
    ap (λ p. parts first x p (canonical.begins_with_hash x) (canonical.may_be_braced false 0 x) (canonical.escaped_text x)) (plain_by x)
    ∙ ap (λ h. parts first x (is_plain x) h (canonical.may_be_braced false 0 x) (canonical.escaped_text x)) (hash_by x)
    ∙ ap (λ r. parts first x (is_plain x) (begins_with_hash x) r (canonical.escaped_text x)) (braces_by x false 0)
    ∙ ap (λ t. parts first x (is_plain x) (begins_with_hash x) (may_be_braced false 0 x) t) (escapes_by x)

further_by : (xs : List (List ℕ)) → canonical.further_text xs ≡ further_text xs
further_by [] = refl
further_by (x ∷ xs) = ap (λ (t : List ℕ). 32 ∷ t ++ canonical.further_text xs) (element_by false x) ∙ ap (λ (t : List ℕ). 32 ∷ element_text false x ++ t) (further_by xs)

pub text_by : (xs : List (List ℕ)) → canonical.text_of_list xs ≡ text_by_class xs
unfolding canonical.text_of_list
text_by [] = refl
text_by (x ∷ xs) = ap (λ (t : List ℕ). t ++ canonical.further_text xs) (element_by true x) ∙ ap (λ (t : List ℕ). element_text true x ++ t) (further_by xs)
