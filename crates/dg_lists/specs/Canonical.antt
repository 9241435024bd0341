-- The canonical text of a list.
pub use Rattle.dg_bytes.specs.Canonical.{begins_with_hash, element_text, escaped_text, further_text, is_plain, is_special, may_be_braced, text_of_list}
