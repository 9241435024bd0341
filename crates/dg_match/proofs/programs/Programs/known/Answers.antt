use Rattle.std.proofs.Common.{List, ℕ, ap, subst, ◌∙◌}
use Rattle.dg_match.specs.Programs.{is_among}
use Rattle.dg_match.specs.Regexes.{IsPatternText}
use Rattle.dg_match.proofs.ProgramLemmas.{absent, own, there}
use Rattle.dg_match.proofs.programs.Programs.known.Goals as goal

pub returns-in_ok-share-in-Some-clause-known : goal.returns-in_ok-share-in-Some-clause-known
returns-in_ok-share-in-Some-clause-known c =
    there c.self.inside.map.entries c.args.text.now c.in-Some.built.now c.in-Some.ensures.value ∙ ap (λ (ts : List (List ℕ)). is_among ts c.args.text.now) c.self.view_is

pub returns-in_ok-share-in-Some-clause-same : goal.returns-in_ok-share-in-Some-clause-same
returns-in_ok-share-in-Some-clause-same c =
    c.in_ok-share-in-Some.ensures.same ∙ own c.self.inside.map.entries c.args.text.now c.in-Some.built.now c.self.invariant c.in-Some.ensures.value

pub returns-in_ok-share-in-Some-clause-read : goal.returns-in_ok-share-in-Some-clause-read
returns-in_ok-share-in-Some-clause-read c =
    subst IsPatternText (own c.self.inside.map.entries c.args.text.now c.in-Some.built.now c.self.invariant c.in-Some.ensures.value) c.in_ok-share-in-Some.ensures.read

pub returns-in-None-clause-known : goal.returns-in-None-clause-known
returns-in-None-clause-known c =
    absent c.self.inside.map.entries c.args.text.now c.in-None.ensures.value ∙ ap (λ (ts : List (List ℕ)). is_among ts c.args.text.now) c.self.view_is
