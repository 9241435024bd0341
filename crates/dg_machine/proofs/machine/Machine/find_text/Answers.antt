use Rattle.std.proofs.Common.{◌∙◌, ap, refl, sym, arith}
use Rattle.dg_language.specs.Matching.{write_found}
use Rattle.dg_machine.specs.Meaning.{all_back, go, rest}
use Rattle.dg_machine.proofs.MachineLemmas.{weight-cons}
use Rattle.dg_machine.proofs.PatternLemmas.{same-regex}
use Rattle.dg_machine.proofs.machine.Machine.find_text.Goals as goal

pub returns : goal.returns
unfolding rest go
returns c =
    let m = c.args.search in
    let s = c.args.self.now.state in
    let k = all_back c.args.self.now.stack in
    let same = same-regex _ _ (sym c.in-Ok-Regex.field-0-is ∙ c.in-Ok-Regex.ensures.built) in
    let found = sym c.in-Some.is ∙ (rw (same, c.as_slice.ensures) at c.in_ok-found.ensures.found) in
    rw (
      c.in_ok-push.ensures,
      c.new.ensures,
      c.into_vec.ensures,
      c.new-2.ensures,
      c.into_vec-2.ensures,
      c.in_ok-parts.ensures,
      c.as_slice-2.ensures,
      c.requires.go,
    ) (ap (λ o. write_found m o s k) found, refl, (rw weight-cons (omega arith)))
