-- Worked rows of the definitions.
use Rattle.std.proofs.Common.{◌≡◌, ℕ, List, [], ◌∷◌, refl}
use Rattle.std.specs.Prelude.{codes}
use Rattle.dg_match.specs.Held.{Held, with_last, without_nulls}
use Rattle.dg_match.specs.Tries.{once_tried}
use Rattle.dg_match.specs.Literals.{least_place}
use Rattle.dg_match.specs.declared.pattern.Pattern.TheVariants.{Exact}
use Rattle.dg_match.specs.declared.starts.Sought.TheVariants.{Text}

-- a buffer that remembers that `zz` has passed two places
abbrev held : List ℕ → Held
held bytes = record { bytes = bytes; max = 9; compared = 3; starts = record { sought = Text (codes "zz"); found = 0; passed = 2 } ∷ [] }

last_of_more : with_last 2 (held (codes "abc")) ≡ record { bytes = codes "bc"; max = 9; compared = 3; starts = record { sought = Text (codes "zz"); found = 0; passed = 1 } ∷ [] }
last_of_more = refl

last_of_fewer : with_last 9 (held (codes "abc")) ≡ held (codes "abc")
last_of_fewer = refl

-- a literal that isn't there is compared with what is left, and then remembered
literal_not_there : once_tried 0 (Exact (codes "zz")) (held (codes "abcz")) ≡ record { bytes = codes "abcz"; max = 9; compared = 5; starts = record { sought = Text (codes "zz"); found = 0; passed = 3 } ∷ [] }
unfolding once_tried least_place
literal_not_there = refl

-- nothing is compared where nothing came behind
literal_tried_again : (once_tried 0 (Exact (codes "zz")) (once_tried 0 (Exact (codes "zz")) (held (codes "abcz")))).compared ≡ 5
unfolding once_tried least_place
literal_tried_again = refl

-- for another literal all are compared up to its end
another_literal : (once_tried 0 (Exact (codes "bc")) (held (codes "abcz"))).compared ≡ 6
unfolding once_tried least_place
another_literal = refl

nulls_removed : without_nulls (120 ∷ 0 ∷ 121 ∷ 0 ∷ []) ≡ codes "xy"
nulls_removed = refl
