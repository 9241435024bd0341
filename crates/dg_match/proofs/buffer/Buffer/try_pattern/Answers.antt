use Rattle.std.proofs.Common.{◌∙◌, ap, sym}
use Rattle.dg_match.specs.declared.pattern.Pattern.TheVariants.{Exact}
use Rattle.dg_match.proofs.AnswerLemmas.{literal_answer}
use Rattle.dg_match.proofs.buffer.Buffer.try_pattern.Goals as goal

pub returns-in_ok-search-in-Exact-clause-answer : goal.returns-in_ok-search-in-Exact-clause-answer
returns-in_ok-search-in-Exact-clause-answer c =
    literal_answer c.as_slice-in-Exact.result.now c.args.self.now.bytes c.args.pattern.now c.in_ok-search-in-Exact.search _
    (c.in-Exact.is ∙ ap Exact (sym c.as_slice-in-Exact.ensures)) c.without_groups-in-Exact.ensures c.in_ok-search-in-Exact.ensures.found
