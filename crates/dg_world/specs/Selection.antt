-- Selections, and the scripts that one selects.
use Rattle.std.specs.Prelude.{ℕ, Bool, true, not, ◌&&◌, ◌||◌, ◌==◌, nat_le, List, [], ◌∷◌, length, map, codes}
use Rattle.std.specs.List.{list_all, list_any}
use Rattle.dg_world.specs.Name.{is_name, is_single_part}
use Rattle.dg_world.specs.Script.{is_script, is_listed}
use Rattle.dg_bytes.specs.Same.{same_bytes}
use Rattle.dg_world.specs.Setting.{is_setting}
use Rattle.dg_world.specs.declared.question.System.{System}
use Rattle.dg_world.specs.declared.question.System.TheVariants.{Target, Host, Build}
use Rattle.dg_world.specs.declared.selection.Selection.{Selection}
use Rattle.dg_world.specs.declared.setting.Setting.{Setting}
use Rattle.dg_world.specs.declared.selection.TheConstants.{MAX_BOARDS, MAX_NAMES, MAX_SETTINGS}

-- whether no two are the same
abbrev pub are_distinct : List (List ℕ) → Bool
are_distinct [] = true
are_distinct (x ∷ xs) = not (list_any (same_bytes x) xs) && are_distinct xs

-- at most 4,096 names
abbrev pub are_names : List (List ℕ) → Bool
are_names names = nat_le (length names) MAX_NAMES && list_all is_name names

-- 1 to 16 distinct boards
abbrev pub are_boards : List (List ℕ) → Bool
are_boards boards =
    nat_le 1 (length boards) && nat_le (length boards) MAX_BOARDS && list_all is_single_part boards && are_distinct boards

-- at most 64 settings of distinct variables
abbrev pub are_settings : List Setting → Bool
are_settings settings = nat_le (length settings) MAX_SETTINGS && list_all is_setting settings && are_distinct (map (λ s. s.name) settings)

-- whether a selection is valid
unfoldable pub is_selection : Selection → Bool
is_selection s = is_single_part s.tool && are_boards s.boards && are_names s.only && are_names s.ignore && are_settings s.variables

-- the selection of a new world
abbrev pub first_selection : Selection
first_selection =
    record {
      tool = codes "t";
      boards = codes "unix" ∷ [];
      target = codes "x86_64-pc-linux-gnu";
      host = codes "x86_64-pc-linux-gnu";
      build = codes "x86_64-pc-linux-gnu";
      only = [];
      ignore = [];
      variables = [];
    }

-- the triplet of a system
abbrev pub triplet_of : Selection → System → List ℕ
triplet_of s Target = s.target
triplet_of s Host = s.host
triplet_of s Build = s.build

-- whether the two lists take a script: all are taken where `only` is empty, and `ignore` goes before it
unfoldable pub is_taken : Selection → List ℕ → Bool
is_taken s n = (length s.only == 0 || is_listed s.only n) && not (is_listed s.ignore n)

-- whether a file of this name is a selected script
unfoldable pub is_selected : Selection → List ℕ → Bool
is_selected s n = is_script s.tool n && is_taken s n
