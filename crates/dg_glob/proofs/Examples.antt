-- Worked examples of the definitions.
use Rattle.std.proofs.Common.{◌≡◌, true, false, Some, None, [], refl}
use Rattle.std.specs.Prelude.{codes}
use Rattle.dg_glob.specs.Items.{after_item}
use Rattle.dg_glob.specs.Glob.{binds_end, body}
use Rattle.dg_glob.specs.Tests.{glob_matches, is_span, last_end, first_span}

-- a bracket is left behind the first `]` past the item that takes the byte
left_early : after_item (codes "[ab-]c]") 97 ≡ Some (codes "c]")
left_early = refl

left_late : after_item (codes "[ab-]c]") 98 ≡ Some []
left_late = refl

-- a bracket without items, and one whose range has no end, take nothing
no_items : after_item (codes "[]a]") 97 ≡ None
no_items = refl

no_end : after_item (codes "[a-") 97 ≡ None
no_end = refl

-- a range up to `]`
range_to_close : after_item (codes "[x-]") 120 ≡ Some []
range_to_close = refl

-- `^` is a byte as any other in a bracket
caret : after_item (codes "[^a]") 94 ≡ Some []
caret = refl

-- a last backslash takes nothing
last_backslash : after_item (codes "\\") 92 ≡ None
last_backslash = refl

-- a backslash makes a last `$` a plain byte, two do not
one_backslash : binds_end (codes "a\\$") ≡ false
one_backslash = refl

two_backslashes : binds_end (codes "a\\\\$") ≡ true
two_backslashes = refl

bound_twice : body (codes "^a$") ≡ codes "a"
bound_twice = refl

-- the first span has the least start, and the greatest end of those
first_of_two : first_span (codes "ab*") (codes "xabyab") ≡ Some (1, 6)
unfolding first_span last_end is_span glob_matches
first_of_two = refl

first_of_bound : first_span (codes "ab$") (codes "xabyab") ≡ Some (4, 6)
unfolding first_span last_end is_span glob_matches
first_of_bound = refl

no_first_of_bound : first_span (codes "^a") (codes "xab") ≡ None
unfolding first_span last_end is_span glob_matches
no_first_of_bound = refl
