-- The options of the line, as `clap` reads them.
use Rattle.std.specs.Prelude.{List, Some, codes, true}
use Rattle.clap.specs.Lexer.{usize_max}
use Rattle.clap.specs.Walk.{Row, Rule, Text}
use Rattle.clap.specs.Simple.{App, matches_of, new_app, new_rule, on_top, with_rule}
use Rattle.clap.specs.declared.builder.action.ArgAction.{ArgAction}
use Rattle.clap.specs.declared.builder.action.ArgAction.TheVariants.{Set, SetTrue, Append, Help, Version}
use Rattle.clap.specs.declared.builder.value_parser.ValueParser.TheVariants.{Unsigned}

-- an option `--NAME VALUE`
abbrev pub option_rule : Text → Rule
option_rule name = record (new_rule name) { long = Some name; action = Some Set; value_names = 1 }

-- how many tests run at a time: a number from 1 to 16
abbrev pub jobs_rule : Rule
jobs_rule = record (option_rule (codes "jobs")) { parser = Some (Unsigned 1 16) }

-- a flag `--NAME`
abbrev pub flag_rule : Text → Rule
flag_rule name = record (new_rule name) { long = Some name; action = Some SetTrue }

-- a flag that asks for a text
abbrev pub asking_rule : ArgAction → Text → Rule
asking_rule action name = record (new_rule name) { long = Some name; action = Some action }

-- the words that are no options
abbrev pub words_rule : Rule
words_rule = record (new_rule (codes "word")) {
  action = Some Append;
  range = Some (record { start_inclusive = 0; end_inclusive = usize_max });
}

-- the program, whose words have no name of it before them
abbrev pub bare_app : App
bare_app =
    on_top (λ s. record s { no_binary_name = true; disable_help_flag = true; disable_version_flag = true; has_version = true })
    (new_app (codes "runtest"))

-- an option more
abbrev pub with_option : App → Text → App
with_option app name = with_rule app (option_rule name)

-- what is run
abbrev pub with_choices : App → App
with_choices app = with_rule (with_option (with_option app (codes "tool")) (codes "ignore")) jobs_rule

-- on what it runs
abbrev pub with_machines : App → App
with_machines app =
    with_option (with_option (with_option (with_option app (codes "target_board")) (codes "build")) (codes "host")) (codes "target")

-- where files stand
abbrev pub with_places : App → App
with_places app = with_option (with_option app (codes "srcdir")) (codes "outdir")

-- what is done
abbrev pub with_modes : App → App
with_modes app =
    with_rule (with_rule (with_rule (with_rule app (flag_rule (codes "rejudge"))) (flag_rule (codes "session")))
    (asking_rule Help (codes "help"))) (asking_rule Version (codes "version"))

-- the program with its options
unfoldable pub line_app : App
line_app = with_rule (with_modes (with_places (with_machines (with_choices bare_app)))) words_rule

-- what the words of a line match
abbrev pub line_rows : List Text → List Row
line_rows = matches_of line_app
