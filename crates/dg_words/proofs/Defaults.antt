-- What a transition makes of each byte that has no line of its own.
use Rattle.std.specs.Prelude.{◌≡◌, ℕ, refl, false}
use Rattle.dg_lists.specs.declared.kinds.Class.{Class}
use Rattle.dg_lists.specs.declared.kinds.Class.TheVariants.{Blank, Newline, Semicolon, Hash, Quote, Open, Close, RightBracket, Backslash, Star}
use Rattle.dg_lists.specs.declared.kinds.Effect.TheVariants.{Expand}
use Rattle.dg_words.specs.declared.kinds.Level.{Level}
use Rattle.dg_lists.specs.Transitions.{behind_effect}
use Rattle.dg_words.specs.Transitions.{behind_star, in_bare, in_brace_first, in_brace_star, in_braced, in_gap, in_start}

pub gap_rest : (l : Level) (c : Class) (b : ℕ) → (c ≡ Blank → ⊥) → (c ≡ Newline → ⊥) → (c ≡ Semicolon → ⊥) → (c ≡ Quote → ⊥) → (c ≡ Open → ⊥) → (c ≡ Backslash → ⊥) → in_bare l c b ≡ in_gap l c b
gap_rest l Blank b n0 n1 n2 n3 n4 n5 = absurd (n0 refl)
gap_rest l Newline b n0 n1 n2 n3 n4 n5 = absurd (n1 refl)
gap_rest l Semicolon b n0 n1 n2 n3 n4 n5 = absurd (n2 refl)
gap_rest l Quote b n0 n1 n2 n3 n4 n5 = absurd (n3 refl)
gap_rest l Open b n0 n1 n2 n3 n4 n5 = absurd (n4 refl)
gap_rest l Backslash b n0 n1 n2 n3 n4 n5 = absurd (n5 refl)
gap_rest l c b n0 n1 n2 n3 n4 n5 = refl

pub start_rest : (l : Level) (c : Class) (b : ℕ) → (c ≡ Blank → ⊥) → (c ≡ Newline → ⊥) → (c ≡ Semicolon → ⊥) → (c ≡ Hash → ⊥) → (c ≡ Backslash → ⊥) → in_gap l c b ≡ in_start l c b
start_rest l Blank b n0 n1 n2 n3 n4 = absurd (n0 refl)
start_rest l Newline b n0 n1 n2 n3 n4 = absurd (n1 refl)
start_rest l Semicolon b n0 n1 n2 n3 n4 = absurd (n2 refl)
start_rest l Hash b n0 n1 n2 n3 n4 = absurd (n3 refl)
start_rest l Backslash b n0 n1 n2 n3 n4 = absurd (n4 refl)
start_rest l c b n0 n1 n2 n3 n4 = refl

pub star_rest : (l : Level) (c : Class) (b : ℕ) → (c ≡ Blank → ⊥) → (c ≡ Newline → ⊥) → (c ≡ Semicolon → ⊥) → (c ≡ RightBracket → ⊥) → (c ≡ Backslash → ⊥) → (c ≡ Quote → ⊥) → (c ≡ Open → ⊥) → behind_effect Expand (in_bare l c b) ≡ behind_star l c b
star_rest l Blank b n0 n1 n2 n3 n4 n5 n6 = absurd (n0 refl)
star_rest l Newline b n0 n1 n2 n3 n4 n5 n6 = absurd (n1 refl)
star_rest l Semicolon b n0 n1 n2 n3 n4 n5 n6 = absurd (n2 refl)
star_rest l RightBracket b n0 n1 n2 n3 n4 n5 n6 = absurd (n3 refl)
star_rest l Backslash b n0 n1 n2 n3 n4 n5 n6 = absurd (n4 refl)
star_rest l Quote b n0 n1 n2 n3 n4 n5 n6 = absurd (n5 refl)
star_rest l Open b n0 n1 n2 n3 n4 n5 n6 = absurd (n6 refl)
star_rest l c b n0 n1 n2 n3 n4 n5 n6 = refl

pub first_rest : (c : Class) (b : ℕ) → (c ≡ Star → ⊥) → in_braced false c b ≡ in_brace_first c b
first_rest Star b n0 = absurd (n0 refl)
first_rest c b n0 = refl

pub brace_star_rest : (c : Class) (b : ℕ) → (c ≡ Close → ⊥) → in_braced false c b ≡ in_brace_star c b
brace_star_rest Close b n0 = absurd (n0 refl)
brace_star_rest c b n0 = refl
