use Rattle.std.proofs.Common.{rules}
use Rattle.dg_glob.proofs.ItemLemmas.{steady_bracket}
use Rattle.dg_glob.proofs.items.is_steady.Goals as goal

pub returns-in-Some-eq91-default : goal.returns-in-Some-eq91-default
returns-in-Some-eq91-default c =
    steady_bracket c.args.pattern.now c.in-Some-eq91-default.rest.now _ (search rules) c.closes_alike.ensures
