-- Names of sessions are short.
use Rattle.std.proofs.Common.{ℕ, ◌<◌, ◌≤◌, ◌^◌, length, arith}
use Rattle.std.proofs.lemmas.Fmt.{length-decimal-le}
use Rattle.dg_sessions.specs.Views.{id_of}

pub id_short : (n : ℕ) → n < 2 ^ 32 → length (id_of n) ≤ 13
id_short n small = omega (arith, length-decimal-le 10 n (omega arith) (omega arith) (omega arith))
