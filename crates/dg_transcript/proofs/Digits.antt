-- The number that digits stand for, read one after the other.
use Rattle.std.proofs.Common.{◌≡◌, ℕ, ◌+◌, ◌-◌, ◌*◌, ◌<◌, ◌≤◌, true, List, length, take, get_or, arith, min}
use Rattle.std.specs.Prelude.{nat_le}
use Rattle.std.specs.List.{list_all}
use Rattle.std.specs.Char.{is_ascii_digit}
use Rattle.std.specs.Str.Parse.{digits_value}
use Rattle.std.proofs.lemmas.List.Sums.{AllPass-from_list_all}
use Rattle.std.proofs.lemmas.Bool.{and_parts, leb-true}
use Rattle.std.proofs.lemmas.Str.{digit_value_digit}
use Rattle.std.proofs.lemmas.Int.Digits.{digits_value_more}

pub digit_step : (ds : List ℕ) (i value new : ℕ) → list_all is_ascii_digit ds ≡ true → i < length ds → value ≡ min (digits_value 10 (take i ds)) 10000000
    → new ≡ min (value * 10 + (get_or ds i 0 - 48)) 10000000 → new ≡ min (digits_value 10 (take (i + 1) ds)) 10000000
digit_step ds i value new digits lt so_far is =
    let c = get_or ds i 0 in
    let test : is_ascii_digit c ≡ true = AllPass-from_list_all is_ascii_digit ds digits i 0 lt in
    let parts = and_parts (nat_le 48 c) (nat_le c 57) test in
    let low : 48 ≤ c = leb-true 48 c parts.0 in
    let high : c ≤ 57 = leb-true c 57 parts.1 in
    let value_is = digit_value_digit c (low, high) in
    let more = digits_value_more 10 ds i lt in
    omega (arith, value_is, more, low, high, is, so_far)
