use Rattle.std.proofs.Common.{ap, subst, refl, true, map, List, ℕ, ◌≡◌, ◌∙◌}
use Rattle.std.proofs.lemmas.Result.{IfOk-weaker}
use Rattle.clap.specs.Simple.{App, app_of, is_simple, matches_of}
use Rattle.clap.specs.Faults.{fault_of, is_simple_and_free}
use Rattle.clap.specs.Kinds.{FailsBy}
use Rattle.clap.proofs.OnLiterals.{clap_on_literals}
use Rattle.dg_line.specs.Options.{line_app}
use Rattle.dg_line.proofs.options.line_matches.Goals as goal

simple : is_simple line_app ≡ true
unfolding clap_on_literals line_app
simple = refl

simple_and_free : is_simple_and_free line_app ≡ true
unfolding clap_on_literals line_app
simple_and_free = refl

pub returns-clause-matches : goal.returns-clause-matches
returns-clause-matches c =
    let is : app_of c.in_ok-command.command ≡ line_app = c.in_ok-command.ensures in
    let words : List (List ℕ) = map (λ w. w.now) c.args.words.now in
    let parse = c.try_get_matches_from in
    IfOk-weaker parse.result _ _ (λ m h. (h (ap is_simple is ∙ simple)).0 ∙ ap (λ (a : App). matches_of a words) is) parse.ensures.matches

pub returns-clause-fails : goal.returns-clause-fails
returns-clause-fails c =
    let is : app_of c.in_ok-command.command ≡ line_app = c.in_ok-command.ensures in
    let words : List (List ℕ) = map (λ w. w.now) c.args.words.now in
    let parse = c.try_get_matches_from in
    let P : App → Type 0 = λ a. FailsBy (fault_of a words) parse.result in
    subst P is (parse.ensures.kinds (ap is_simple_and_free is ∙ simple_and_free))
