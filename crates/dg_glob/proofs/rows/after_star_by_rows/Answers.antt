use Rattle.std.proofs.Common.{◌∷◌}
use Rattle.dg_glob.proofs.RowLemmas.{fewest_is_answer}
use Rattle.dg_glob.proofs.rows.after_star_by_rows.Goals as goal

pub returns : goal.returns
returns c =
    fewest_is_answer c.args.whole (42 ∷ c.args.pattern.now) c.args.text.now c.most_left.result c.fewest_left.result c.most_left.ensures c.fewest_left.ensures.some c.fewest_left.ensures.none
