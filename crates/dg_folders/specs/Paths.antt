-- Where the files of a run stand.
use Rattle.std.specs.Prelude.{ℕ, Bool, not, ◌&&◌, nat_eq, List, ◌++◌, codes}
use Rattle.std.specs.List.{starts_with}
use Rattle.std.specs.Fmt.{decimal}
use Rattle.dg_world.specs.Script.{is_reserved}

-- a name in a folder
abbrev pub in_folder : List ℕ → List ℕ → List ℕ
in_folder folder name = folder ++ codes "/" ++ name

-- the report of a tool
abbrev pub sum_in : List ℕ → List ℕ → List ℕ
sum_in outdir tool = in_folder outdir tool ++ codes ".sum"

-- the transcript of a test
abbrev pub transcript_in : List ℕ → List ℕ → List ℕ → List ℕ
transcript_in outdir board script = in_folder (in_folder (in_folder outdir (codes "transcripts")) board) script ++ codes ".tr"

-- what a file is called before it takes its place: the first of these numbers that is free
abbrev pub beside : List ℕ → ℕ → List ℕ
beside path number = path ++ codes "." ++ decimal number ++ codes ".new"

-- whether scripts of the tool stand in a folder
abbrev pub is_tool_folder : List ℕ → List ℕ → Bool
is_tool_folder tool folder = starts_with nat_eq folder tool && not (is_reserved folder)
