-- What is kept of reads.
use Rattle.std.specs.Prelude.{List}
use Rattle.std.specs.Arc.{arc_value}
use Rattle.dg_world.specs.declared.question.Read.{Read}
use Rattle.dg_records.specs.declared.reads.Form.{Form}
use Rattle.dg_records.specs.declared.reads.Form.TheVariants.{Own, Shared}

-- the reads
abbrev pub reads_in : Form → List Read
reads_in (Own reads) = reads
reads_in (Shared reads) = arc_value reads
