-- The words of a line that are no options: scripts, and variables with their values.
use Rattle.std.specs.Prelude.{ℕ, Bool, not, ◌==◌, ◌&&◌, ◌||◌, nat_eq, List, map, Option, codes}
use Rattle.std.specs.List.{list_any, before_first, after_first, ends_with, filter, position}
use Rattle.dg_world.specs.Setting.{is_variable}
use Rattle.dg_world.specs.declared.setting.Setting.{Setting}

-- whether a word has a `=`
abbrev pub has_equals : List ℕ → Bool
has_equals word = list_any (λ b. b == 61) word

-- what stands before the first `=`, and what behind it
abbrev pub name_in : List ℕ → List ℕ
name_in word = before_first (λ b. b == 61) word

abbrev pub value_in : List ℕ → List ℕ
value_in word = after_first (λ b. b == 61) word

-- `VARIABLE=VALUE`
abbrev pub is_setting_word : List ℕ → Bool
is_setting_word word = has_equals word && is_variable (name_in word)

-- a script: its name, or the last part of it
abbrev pub is_script_word : List ℕ → Bool
is_script_word word = not (has_equals word) && ends_with nat_eq word (codes ".exp")

-- a word that is neither
abbrev pub is_bad_word : List ℕ → Bool
is_bad_word word = not (is_setting_word word || is_script_word word)

-- what a word sets
abbrev pub setting_of : List ℕ → Setting
setting_of word = record { name = name_in word; value = value_in word }

-- the scripts and the settings among the words, in order
abbrev pub scripts_in : List (List ℕ) → List (List ℕ)
scripts_in words = filter is_script_word words

abbrev pub settings_in : List (List ℕ) → List Setting
settings_in words = map setting_of (filter is_setting_word words)

-- where the first bad word stands, if there is one
abbrev pub bad_word_in : List (List ℕ) → Option ℕ
bad_word_in words = position is_bad_word words
