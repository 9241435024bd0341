-- The bytes that a file's name may have.
use Rattle.std.specs.Prelude.{ℕ, Bool, ◌==◌, ◌&&◌, ◌||◌, nat_le}

-- the portable filename character set (POSIX.1, 3.282) and `+`: a letter, a digit or one of `.`, `_`, `-` and `+`
abbrev pub is_portable : ℕ → Bool
is_portable b =
    (nat_le 65 b && nat_le b 90) || (nat_le 97 b && nat_le b 122) || (nat_le 48 b && nat_le b 57) || b == 46 || b == 95 || b == 43 || b == 45
