-- The values of the options, and what is selected by them.
use Rattle.std.specs.Prelude.{ℕ, Bool, not, ◌==◌, ◌&&◌, ◌||◌, List, [], length, codes, Option, Some, None, unwrap_or, min, max}
use Rattle.std.specs.List.{filter, slice_split}
use Rattle.clap.specs.Walk.{Row, Text, all_of, byte_or_zero, first_of}
use Rattle.dg_boards.specs.Triplet.{is_triplet}
use Rattle.dg_world.specs.Selection.{is_selection}
use Rattle.dg_world.specs.declared.selection.Selection.{Selection}
use Rattle.dg_line.specs.Words.{scripts_in, settings_in}

-- the value of an option, or what stands for it
abbrev pub option_or : List Row → Text → Text → Text
option_or rows name default = unwrap_or (first_of name rows) default

-- the words that are no options
abbrev pub words_of : List Row → List Text
words_of rows = unwrap_or (all_of (codes "word") rows) []

-- the names in a value: what stands between spaces and commas
abbrev pub names_in : Text → List Text
names_in text = filter (λ name. not (length name == 0)) (slice_split (λ b. b == 32 || b == 44) text)

-- the triplets: the tool runs on the machine that built it, and is for the one that it runs on, unless another is named
abbrev pub build_of : List Row → Text
build_of rows = option_or rows (codes "build") (codes "x86_64-pc-linux-gnu")

abbrev pub host_of : List Row → Text
host_of rows = option_or rows (codes "host") (build_of rows)

abbrev pub target_of : List Row → Text
target_of rows = option_or rows (codes "target") (host_of rows)

-- how many tests run at a time
abbrev pub jobs_in : Option Text → ℕ
jobs_in None = 1
jobs_in (Some text) = max (min (byte_or_zero text) 16) 1

-- what a line selects
unfoldable pub selected_by : List Row → Selection
selected_by rows =
    record {
      tool = option_or rows (codes "tool") (codes "t");
      boards = names_in (option_or rows (codes "target_board") (codes "unix"));
      target = target_of rows;
      host = host_of rows;
      build = build_of rows;
      only = scripts_in (words_of rows);
      ignore = names_in (option_or rows (codes "ignore") []);
      variables = settings_in (words_of rows);
    }

-- whether the triplets are some
abbrev pub are_triplets : List Row → Bool
are_triplets rows = is_triplet (build_of rows) && is_triplet (host_of rows) && is_triplet (target_of rows)

-- whether what a line selects is valid
abbrev pub selects_well : List Row → Bool
selects_well rows = are_triplets rows && is_selection (selected_by rows)
