use Rattle.std.proofs.Common.{sym, ◌∙◌}
use Rattle.std.proofs.lemmas.List.{take_rest}
use Rattle.dg_glob.proofs.LeavesLemmas.{ahead_at_byte}
use Rattle.dg_glob.proofs.search.skip_ahead.Goals as goal

pub returns-in-Some : goal.returns-in-Some
returns-in-Some c =
    ahead_at_byte c.args.pattern.now c.in-Some.field-0-1.now c.args.text.now _ c.in-Some.field-0-0.now c.unwrap_or-place.result c.memchr.result c.in-Some.ensures.cases.0 (sym c.is_plain.ensures ∙ c.if-is_plain.true) c.memchr.ensures c.unwrap_or-place.ensures (take_rest c.args.text.now c.unwrap_or-place.result)
