-- How bytes are held.
use Rattle.std.specs.Prelude.{ℕ, List}
use Rattle.std.specs.Arc.{arc_value}
use Rattle.dg_bytes.specs.Canonical.{text_of_list}
use Rattle.dg_bytes.specs.Few.{few_bytes}
use Rattle.dg_bytes.specs.declared.bytes.Form.{Form}
use Rattle.dg_bytes.specs.declared.bytes.Form.TheVariants.{Short, Own, Once, Listed}
use Rattle.dg_bytes.specs.declared.text.Kept.{Kept}
use Rattle.dg_bytes.specs.declared.text.Kept.TheVariants.{Short as ShortText, Shared}

-- the bytes of a text
abbrev pub bytes_kept : Kept → List ℕ
bytes_kept (ShortText few _) = few_bytes few
bytes_kept (Shared bytes) = (arc_value bytes).items

-- the bytes
abbrev pub bytes_in : Form → List ℕ
bytes_in (Short few _) = few_bytes few
bytes_in (Own bytes) = bytes.items
bytes_in (Once shared) = (arc_value shared).items
bytes_in (Listed list) = text_of_list (arc_value list)
