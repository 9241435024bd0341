use Rattle.std.proofs.Common.{sym, subst, ◌∙◌}
use Rattle.dg_glob.specs.Glob.{body}
use Rattle.dg_glob.specs.Reading.{AreParts}
use Rattle.dg_glob.proofs.TrailLemmas.{bound_parts, free_parts}
use Rattle.dg_glob.proofs.parts.read_glob.Goals as goal

pub returns-then-binds_start : goal.returns-then-binds_start
returns-then-binds_start c = rw c.new.ensures.items (bound_parts c.args.glob.now (body c.args.glob.now) (sym c.binds_start.ensures ∙ c.if-binds_start.true))

pub returns : goal.returns
returns c =
    subst (AreParts (body c.args.glob.now) c.in_ok-parts.parts.items) (free_parts c.args.glob.now (sym c.binds_start.ensures ∙ c.if-binds_start.false))
    (rw c.body.ensures at c.in_ok-parts.ensures)
