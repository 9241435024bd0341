-- What the words of a line select, for a session.
use Rattle.std.specs.Prelude.{ℕ, List, [], ◌∷◌, Option, None, Result, if◌then◌else◌}
use Rattle.std.specs.Option.{option_map}
use Rattle.std.specs.Result.{result_ok}
use Rattle.std.specs.List.{list_all}
use Rattle.std.specs.Str.{is_utf8}
use Rattle.clap.specs.Faults.{fault_of}
use Rattle.clap.specs.Kinds.{Kinds}
use Rattle.dg_world.specs.declared.selection.Selection.{Selection}
use Rattle.dg_line.specs.Options.{line_app}
use Rattle.dg_line.specs.Plan.{planned}
use Rattle.dg_line.specs.declared.plan.Plan.{Plan}
use Rattle.dg_line.specs.declared.fault.LineFault.{LineFault}

-- what a plan selects, where `clap` finds no fault and there is one
abbrev pub selected_in : Kinds → Result Plan LineFault → Option Selection
selected_in [] read = option_map (λ plan. plan.selection) (result_ok read)
selected_in (kind ∷ kinds) read = None

-- what words of UTF-8 select that have a plan
unfoldable pub selection_by : List (List ℕ) → Option Selection
selection_by words = if list_all is_utf8 words then selected_in (fault_of line_app words) (planned words) else None
