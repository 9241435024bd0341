use Rattle.std.proofs.Common.{◌≡◌, ℕ, Bool, ◌++◌, ◌∙◌, true, false, List, ap, sym, subst}
use Rattle.std.specs.Prelude.{Ok, Err}
use Rattle.dg_lists.specs.Canonical.{text_of_list}
use Rattle.dg_lists.specs.Elements.{elements_of}
use Rattle.dg_lists.specs.Appending.{Refuses}
use Rattle.dg_scope.specs.Scopes.{value_limit, value_of, or_none}
use Rattle.dg_language.specs.State.{State}
use Rattle.dg_language.specs.contracts.state.State.{the_view}
use Rattle.dg_language.specs.Variables.{or_empty}
use Rattle.dg_language.specs.Growing.{Gets}
use Rattle.dg_language.proofs.GrowingLemmas.{or-same, gets, gets-not}
use Rattle.dg_language.proofs.state.State.append_elements.Goals as goal
use Rattle.dg_language.proofs.state.State.append_elements.Goals.{in-Ok, in-Err-TooLong, in-Err-NoList, in-Err-Memory}

pub returns : goal.returns
returns c =
    let name = c.args.name.now in
    let more : List (List ℕ) = c.args.more.now in
    let before : State = the_view c.self.inside in
    let after : State = record before { variables = c.append_elements.new.self } in
    let same : elements_of (or_none (value_of before.variables name)) ≡ elements_of (or_empty (value_of before.variables name)) = ap elements_of (or-same (value_of before.variables name)) in
    let Grown : Bool → State → Type 0 = λ fits s. (xs : List (List ℕ)) × ((elements_of (or_empty (value_of s.variables name)) ≡ Ok xs) × Gets name (text_of_list (xs ++ more)) s after fits) in
    elim c.match-append_elements.branch [
      | in-Ok w ↦
          let d = w.in-Ok.ensures.done in
          rw w.result-is
          (subst (Grown true) c.self.view_is
          (d.0, (sym same ∙ d.1.0, gets before c.append_elements.new.self name (text_of_list (d.0 ++ more)) d.1.1 d.1.2)))
      | in-Err-TooLong w ↦
          let d = subst (λ f. Refuses (or_none (value_of before.variables name)) more value_limit f) w.in-Err-TooLong.field-0-is w.in-Err-TooLong.ensures.refused in
          rw w.result-is
          (subst (Grown false) c.self.view_is
          (d.0, (sym same ∙ d.1.0, gets-not before c.append_elements.new.self name (text_of_list (d.0 ++ more)) w.in-Err-TooLong.ensures.err d.1.1)))
      | in-Err-NoList w ↦
          let d = subst (λ f. Refuses (or_none (value_of before.variables name)) more value_limit f) w.in-Err-NoList.field-0-is w.in-Err-NoList.ensures.refused in
          rw w.result-is
          (subst (λ (s : State). (elements_of (or_empty (value_of s.variables name)) ≡ Err w.in-Err-NoList.fault) × (after ≡ s)) c.self.view_is
          (sym same ∙ d, ap (λ v. record before { variables = v }) w.in-Err-NoList.ensures.err))
      | in-Err-Memory w ↦ rw w.result-is tt
    ]
