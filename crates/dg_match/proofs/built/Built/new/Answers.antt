use Rattle.std.proofs.Common.{sym}
use Rattle.dg_match.proofs.RegexLemmas.{no_pattern_unless_utf8, pattern_of_regex, no_pattern_of_error, pattern_of_error}
use Rattle.dg_match.proofs.built.Built.new.Goals as goal

pub returns-in_default-clause-syntax : goal.returns-in_default-clause-syntax
returns-in_default-clause-syntax c = λ _. no_pattern_unless_utf8 _ (c.in_default.ensures.cases.0)

pub returns-in-Ok-of-clause-read : goal.returns-in-Ok-of-clause-read
returns-in-Ok-of-clause-read c =
    let cases = c.in-Ok.ensures.cases in
    let made = c.in-Ok-new.ensures in
    rw (sym cases.0) (pattern_of_regex c.in-Ok-new.regex _ made.source made.config made.read (rw (sym cases.0) at cases.1))

pub returns-in-Err-Syntax-clause-syntax : goal.returns-in-Err-Syntax-clause-syntax
returns-in-Err-Syntax-clause-syntax c =
    let failed = c.in-Err-Syntax.ensures in
    λ _. rw (sym c.in-Ok.ensures.cases.0) (no_pattern_of_error _ _ _ c.in-Err-Syntax.field-0-is failed.refused failed.kind)

pub returns-in-Err-CompiledTooBig-clause-too_large : goal.returns-in-Err-CompiledTooBig-clause-too_large
returns-in-Err-CompiledTooBig-clause-too_large c =
    let cases = c.in-Ok.ensures.cases in
    λ _. rw (sym cases.0) (pattern_of_error _ _ (rw (sym cases.0) at cases.1) c.in-Err-CompiledTooBig.field-0-is c.in-Err-CompiledTooBig.ensures.kind)
