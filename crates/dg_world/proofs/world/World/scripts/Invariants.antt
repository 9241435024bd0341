use Rattle.std.proofs.Common.{◌≡◌, ◌++◌}
use Rattle.std.specs.List.{filter}
use Rattle.std.specs.Map.{keys_of}
use Rattle.dg_world.specs.Selection.{is_selected}
use Rattle.dg_world.proofs.world.World.scripts.Given as goal

abbrev pub invariant-loop-name : goal.invariant-loop-name
invariant-loop-name l =
    l.scripts.items ++ filter (is_selected l.self-inside.selection) l.name-iterator
    ≡ filter (is_selected l.self-inside.selection) (keys_of l.self-inside.files.entries)
