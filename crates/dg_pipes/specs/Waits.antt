-- What a read tells of the time that passed.
use Rattle.std.specs.Prelude.{ℕ, ◌≡◌, ◌%◌, ◌⊎◌}
use Rattle.dg_pipes.specs.declared.taker.TheConstants.{STEP}

-- all of the limit, or whole steps
abbrev pub IsTold : ℕ → ℕ → Type 0
IsTold limit waited = (waited ≡ limit) ⊎ (waited % STEP ≡ 0)
