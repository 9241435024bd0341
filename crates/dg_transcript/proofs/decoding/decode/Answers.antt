use Rattle.std.proofs.Common.{◌∙◌}
use Rattle.std.proofs.lemmas.Result.{err_from_is_err_and}
use Rattle.dg_transcript.proofs.Texts.{text_found, text_only, text_no_fault}
use Rattle.dg_transcript.proofs.decoding.decode.Goals as goal

pub returns-in_err-lines-clause-only : goal.returns-in_err-lines-clause-only
returns-in_err-lines-clause-only c = λ ss is e.
    let p = err_from_is_err_and c.from_residual.result c.from_residual.ensures.1 in
    rw (p.1, p.2) (text_no_fault c.args.text.now ss c.in_err-lines.field-0.0.0 c.in_err-lines.field-0.0.1 is e c.in_err-lines.ensures.fault)

pub keeping-requires : goal.keeping-requires
keeping-requires c = rw c.in-Ok.ensures (text_found c.args.text.now c.in_ok-lines.lines.items c.in_ok-lines.ensures.ok c.in_ok-lines.ensures.over).0

pub returns-in-Ok-clause-found : goal.returns-in-Ok-clause-found
returns-in-Ok-clause-found c = rw (c.keeping.ensures, c.in-Ok.ensures) (text_found c.args.text.now c.in_ok-lines.lines.items c.in_ok-lines.ensures.ok c.in_ok-lines.ensures.over)

pub returns-in-Ok-clause-only : goal.returns-in-Ok-clause-only
returns-in-Ok-clause-only c = λ ss is e. c.keeping.ensures ∙ c.in-Ok.ensures ∙ text_only c.args.text.now ss c.in_ok-lines.lines.items is e c.in_ok-lines.ensures.ok
