-- Laws of buffers and hits.
use Rattle.std.specs.Prelude.{◌≡◌, ℕ, ◌≤◌, ◌++◌, List, length, Option}
use Rattle.std.specs.List.{concat}
use Rattle.dg_match.specs.Held.{Output, heard_all, last_bytes, without_nulls}
use Rattle.dg_match.specs.Hits.{IsTried, hit_of}
use Rattle.dg_match.specs.declared.hit.Hit.{Hit}
use Rattle.dg_match.specs.declared.pattern.Pattern.{Pattern}

-- Chunks that are added one after the other leave the last bytes of what was there and of all chunks without nulls.
abbrev pub ChunksAreHeardTogether : Type 0
ChunksAreHeardTogether =
    (chunks : List (List ℕ)) (o : Output) → length o.bytes ≤ o.max →
    heard_all chunks o ≡ record o { bytes = last_bytes o.max (o.bytes ++ without_nulls (concat chunks)) }

-- A list of patterns has one hit in bytes, if any, and it is that of the function.
abbrev pub HitsAreOne : Type 0
HitsAreOne =
    (patterns : List Pattern) (bytes : List ℕ) (one other : Option Hit) → IsTried patterns bytes one → IsTried patterns bytes other →
    (one ≡ other) × (one ≡ hit_of patterns bytes)
