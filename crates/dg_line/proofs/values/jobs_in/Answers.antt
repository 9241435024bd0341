use Rattle.std.proofs.Common.{ap, ◌∙◌, max, min}
use Rattle.clap.proofs.WalkLemmas.{byte_read}
use Rattle.dg_line.proofs.values.jobs_in.Goals as goal

pub returns : goal.returns
returns c =
    c.max.ensures ∙ ap (λ n. max n 1)
    (c.min.ensures ∙ ap (λ n. min n 16) (c.unwrap_or-number.ensures ∙ byte_read c.args.text.now c.parse.result c.parse.ensures.value.0))
