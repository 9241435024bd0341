-- At most sixteen bytes, held in the value itself.
use Rattle.std.specs.Prelude.{ℕ, List, take}
use Rattle.dg_bytes.specs.declared.few.Few.{Few}

-- the first of an array, as many as are counted
abbrev pub few_bytes : Few → List ℕ
few_bytes few = take few.count few.bytes
