-- The part of a content that is hashed.
use Rattle.std.specs.Prelude.{ℕ, ◌-◌, List, length, drop, min, take}
use Rattle.std.specs.Hash.{le_bytes}
use Rattle.std.specs.Hash.FoldHasher as folding
use Rattle.std.specs.declared.hash.FoldHasher.{FoldHasher}

-- its first 128 bytes, or all where it has fewer
abbrev pub beginning_of : List ℕ → List ℕ
beginning_of content = take (min (length content) 128) content

-- and its last
abbrev pub end_of : List ℕ → List ℕ
end_of content = drop (length content - 128) content

-- the state of a hasher that has read the length of a content and then its two ends
abbrev pub after_ends : FoldHasher → List ℕ → FoldHasher
after_ends h content = folding.write (folding.write (folding.write h (le_bytes 8 (length content))) (beginning_of content)) (end_of content)
