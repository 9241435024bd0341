use Rattle.std.proofs.Common.{◌≡◌, ◌<◌, ◌≤◌, ◌++◌, ◌∙◌, true, false, length, ap, subst}
use Rattle.std.specs.Prelude.{Err}
use Rattle.dg_scope.specs.Scopes.{value_limit, value_of, with_value, or_none}
use Rattle.dg_language.specs.State.{State}
use Rattle.dg_language.specs.contracts.state.State.{the_view}
use Rattle.dg_language.specs.Variables.{or_empty}
use Rattle.dg_language.specs.Growing.{Gets}
use Rattle.dg_language.proofs.GrowingLemmas.{or-same, gets, gets-not, is-short}
use Rattle.dg_language.proofs.state.State.append_text.Goals as goal
use Rattle.dg_language.proofs.state.State.append_text.Goals.{in-Ok, in-Err-TooLong, in-Err-NoSuchVariable}

pub returns : goal.returns
returns c =
    let name = c.args.name.now in
    let more = c.args.more.now in
    let before : State = the_view c.self.inside in
    let text = or_empty (value_of before.variables name) ++ more in
    let same : or_none (value_of before.variables name) ++ more ≡ text = ap (λ t. t ++ more) (or-same (value_of before.variables name)) in
    elim c.match-append_text.branch [
      | in-Ok w ↦
          rw w.result-is
          (subst (λ (s : State). Gets name (or_empty (value_of s.variables name) ++ more) s (record before { variables = c.append_text.new.self }) true) c.self.view_is
          (gets before c.append_text.new.self name text (w.in-Ok.ensures.ok ∙ ap (λ t. with_value before.variables name t) same)
          (subst (λ t. length t ≤ value_limit) same (is-short _ _ (λ l. absurd (let no = w.in-Ok.ensures.too_long.1 l in cc))))))
      | in-Err-TooLong w ↦
          rw w.result-is
          (subst (λ (s : State). Gets name (or_empty (value_of s.variables name) ++ more) s (record before { variables = c.append_text.new.self }) false) c.self.view_is
          (gets-not before c.append_text.new.self name text (w.in-Err-TooLong.ensures.err)
          (subst (λ t. value_limit < length t) same (w.in-Err-TooLong.ensures.too_long.0 (ap Err w.in-Err-TooLong.field-0-is)))))
      | in-Err-NoSuchVariable w ↦ rw w.result-is tt
    ]
