-- The width of a field.
use Rattle.std.proofs.Common.{◌≡◌, ℕ, ◌+◌, ◌-◌, ◌*◌, ◌<◌, ◌≤◌, min, List, [], ◌∷◌, length, get_or, drop, sym, ap, ◌∙◌, inl, inr, arith}
use Rattle.std.proofs.lemmas.Bool.{cases_lt}
use Rattle.std.proofs.lemmas.List.{drop_more}
use Rattle.dg_cmds.specs.Formats.{number_behind}

grows : (n : ℕ) (ds : List ℕ) → n ≤ number_behind n ds
grows n [] = omega arith
grows n (d ∷ ds) = omega (arith, grows (n * 10 + (d - 48)) ds)

-- a number that is past the cap may be cut to it
capped : (n cap : ℕ) (ds : List ℕ) → min (number_behind (min n cap) ds) cap ≡ min (number_behind n ds) cap
capped n cap ds =
    elim (cases_lt cap n) [
      | inl past ↦ omega (arith, grows (min n cap) ds, grows n ds)
      | inr small ↦ ap (λ (k : ℕ). min (number_behind k ds) cap) (let e : min n cap ≡ n = omega arith in e)
    ]

pub width-more : (n i cap whole : ℕ) (ds : List ℕ) → i < length ds → min (number_behind n (drop i ds)) cap ≡ whole → min (number_behind (min (n * 10 + (get_or ds i 0 - 48)) cap) (drop (i + 1) ds)) cap ≡ whole
width-more n i cap whole ds l h =
    capped (n * 10 + (get_or ds i 0 - 48)) cap (drop (i + 1) ds)
    ∙ (ap (λ (rest : List ℕ). min (number_behind n rest) cap) (sym (drop_more ds i 0 l)) ∙ h)
