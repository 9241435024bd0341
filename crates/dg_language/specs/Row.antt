-- Reads that ask for each question once, and those that ask for a session's entries in a row.
use Rattle.std.specs.Prelude.{ℕ, ◌+◌, ◌==◌, Bool, true, false, ◌&&◌, is_none, List, [], ◌∷◌, ◌++◌}
use Rattle.dg_world.specs.declared.question.Question.{Question}
use Rattle.dg_world.specs.declared.question.Question.TheVariants.{Entry}
use Rattle.dg_world.specs.declared.question.Read.{Read}
use Rattle.dg_language.specs.Play.{lookup}

-- whether each of some reads asks what neither those before them nor an earlier one of them asked
abbrev pub are_new : List Read → List Read → Bool
are_new before [] = true
are_new before (r ∷ rs) = is_none (lookup r.question before) && are_new (before ++ r ∷ []) rs

-- whether a question asks for the entry at this place of a session
abbrev pub asks_at : ℕ → ℕ → Question → Bool
asks_at session place (Entry e) = (e.session == session) && (e.place == place)
asks_at session place q = false

-- whether reads ask for the entries of a session from this place on, one behind the other
abbrev pub are_in_row : ℕ → ℕ → List Read → Bool
are_in_row session place [] = true
are_in_row session place (r ∷ rs) = asks_at session place r.question && are_in_row session (place + 1) rs
