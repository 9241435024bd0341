-- The items of a ring, and the bytes of its chunks.
use Rattle.std.specs.Prelude.{ℕ, ◌≡◌, ◌≤◌, Bool, true, false, not, List, [], ◌∷◌, ◌++◌, length}
use mathlib.Core.List.{IsPrefix}
use Rattle.std.specs.declared.option.Option.{Option}
use Rattle.std.specs.Io.KnownBytes.{Consumes, IsAtEnd}
use Rattle.dg_pipes.specs.declared.item.Item.{Item}
use Rattle.dg_pipes.specs.declared.item.Item.TheVariants.{Chunk, End, Fault}
use Rattle.dg_pipes.specs.declared.reader.TheConstants.{MOST}

abbrev pub IsAllowed : Item → Type 0
IsAllowed (Chunk bytes) = (1 ≤ length bytes) × (length bytes ≤ MOST)
IsAllowed End = Unit {0}
IsAllowed (Fault c) = Unit {0}

-- the bytes of the chunks, joined
abbrev pub bytes_of : List Item → List ℕ
bytes_of [] = []
bytes_of (Chunk bytes ∷ xs) = bytes ++ bytes_of xs
bytes_of (End ∷ xs) = bytes_of xs
bytes_of (Fault c ∷ xs) = bytes_of xs

abbrev pub is_chunk : Item → Bool
is_chunk (Chunk v) = true
is_chunk End = false
is_chunk (Fault c) = false

-- the last item is an end or a fault
abbrev pub has_ended : List Item → Bool
has_ended [] = false
has_ended (x ∷ []) = not (is_chunk x)
has_ended (x ∷ y ∷ ys) = has_ended (y ∷ ys)

-- chunks alone
abbrev pub AllChunks : List Item → Type 0
AllChunks [] = Unit {0}
AllChunks (x ∷ xs) = (is_chunk x ≡ true) × AllChunks xs

-- the items are chunks of a beginning of the bytes that were read
abbrev pub PumpedSome : Option (List ℕ) → Option (List ℕ) → List Item → Type 0
PumpedSome old new items = (bs : List ℕ) × Consumes old new bs × IsPrefix (bytes_of items) bs × AllChunks items

-- the items are chunks of all bytes that were read, and one end or fault. An end: no byte was left
abbrev pub PumpedAll : Option (List ℕ) → Option (List ℕ) → List Item → Type 0
PumpedAll old new items = (chunks : List Item) × (last : Item) × (items ≡ chunks ++ last ∷ []) × AllChunks chunks × (is_chunk last ≡ false) × Consumes old new (bytes_of chunks) × (last ≡ End → IsAtEnd new)

-- while it reads: what was pushed since the start, and all that was read
abbrev pub Pumping : List Item → List Item → Option (List ℕ) → Option (List ℕ) → Type 0
Pumping start ring old now = (items : List Item) × (ring ≡ start ++ items) × Consumes old now (bytes_of items) × AllChunks items
