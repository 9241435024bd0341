-- Contents that are held: the number of each, and how many hold it.
use Rattle.std.specs.Prelude.{◌≡◌, ℕ, ◌+◌, ◌-◌, ◌<◌, List, Option, Some, nat_eq, if◌then◌else◌, option_map, unwrap_or, is_some}
use Rattle.std.specs.Option.{option_map_or}
use Rattle.std.specs.Map.{lookup}
use Rattle.std.specs.Cmp.Lexicographic.{pointwise}
use Rattle.dg_contents.specs.declared.contents.Holding.{Holding}

-- the contents that are held, and the number of the next one that is new
pub record ContentsView : Type 0 where
  pub held : List (List ℕ × Holding)
  pub next : ℕ

-- how a content is held, if it is
abbrev pub holding_of : ContentsView → List ℕ → Option Holding
holding_of c t = lookup (pointwise nat_eq t) c.held

-- its number
abbrev pub number_of : ContentsView → List ℕ → Option ℕ
number_of c t = option_map (λ h. h.number) (holding_of c t)

-- by how many it is held
abbrev pub holders_of : ContentsView → List ℕ → ℕ
holders_of c t = option_map_or (λ h. h.holders) (holding_of c t) 0

-- one at this content, none at another
abbrev pub one_at : List ℕ → List ℕ → ℕ
one_at content t = if pointwise nat_eq content t then 1 else 0

-- a content has one holder more, and each other as many as before
abbrev pub HasOneMore : List ℕ → ContentsView → ContentsView → Type 0
HasOneMore content old new = (t : List ℕ) → holders_of new t ≡ holders_of old t + one_at content t

-- a content has one holder fewer, if it had any, and each other as many as before
abbrev pub HasOneFewer : List ℕ → ContentsView → ContentsView → Type 0
HasOneFewer content old new = (t : List ℕ) → holders_of new t ≡ holders_of old t - one_at content t

-- each content that had a number has it still
abbrev pub KeepsNumbers : ContentsView → ContentsView → Type 0
KeepsNumbers old new = (t : List ℕ) (n : ℕ) → number_of old t ≡ Some n → number_of new t ≡ Some n

-- and so does each that is still held
abbrev pub KeepsHeldNumbers : ContentsView → ContentsView → Type 0
KeepsHeldNumbers old new = (t : List ℕ) (n : ℕ) → number_of old t ≡ Some n → 0 < holders_of new t → number_of new t ≡ Some n

-- the number under which a content is held next: the one that it has, or else one that none had
abbrev pub number_for : ContentsView → List ℕ → ℕ
number_for c t = unwrap_or (number_of c t) c.next

-- the number of the next new content once this one is held
abbrev pub next_after : ContentsView → List ℕ → ℕ
next_after c t = if is_some (number_of c t) then c.next else c.next + 1

-- each content with a number is held by somebody, its number is below the next one, and no other content has it
pub record IsNumbering (c : ContentsView) : Type 0 where
  pub held : (t : List ℕ) (n : ℕ) → number_of c t ≡ Some n → 0 < holders_of c t
  pub below : (t : List ℕ) (n : ℕ) → number_of c t ≡ Some n → n < c.next
  pub single : (a b : List ℕ) (n : ℕ) → number_of c a ≡ Some n → number_of c b ≡ Some n → a ≡ b
