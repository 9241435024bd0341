use Rattle.std.proofs.Common.{sym, ◌∙◌, IsTrue, ◌↔◌}
use Rattle.dg_glob.specs.Glob.{Matches}
use Rattle.dg_glob.proofs.SearchLemmas.{whole_matches, matches_whole}
use Rattle.dg_glob.proofs.TestLemmas.{glob_decided}
use Rattle.dg_glob.proofs.glob.string_match.Goals as goal

pub returns : goal.returns
returns c =
    let both : IsTrue c.is_some.result ↔ Matches c.args.pattern.now c.args.text.now = (
      λ holds. whole_matches _ _ _ c.longest.ensures.answer (sym c.is_some.ensures ∙ holds),
      λ m. c.is_some.ensures ∙ matches_whole _ _ _ c.longest.ensures.answer m,
    ) in
    record { value = glob_decided _ _ _ both; relation = both }
