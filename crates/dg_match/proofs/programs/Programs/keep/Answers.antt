use Rattle.std.proofs.Common.{◌++◌, ◌∷◌, [], List, ℕ, nat_eq, ap, ◌∙◌}
use Rattle.std.specs.Cmp.Lexicographic.{pointwise}
use Rattle.indexmap.specs.IndexMap.{insert_entry}
use Rattle.dg_match.specs.Programs.{is_among}
use Rattle.dg_match.proofs.ProgramLemmas.{kept_own, kept_texts}
use Rattle.dg_match.proofs.programs.Programs.keep.Goals as goal

pub invariant_of-self-2 : goal.invariant_of-self-2
invariant_of-self-2 c =
    let unknown = ap (λ (ts : List (List ℕ)). is_among ts c.args.text.now) c.self.view_is ∙ c.requires.unknown in
    let made = c.in_ok-insert.ensures.entries ∙ ap (λ (k : List ℕ). insert_entry (pointwise nat_eq) c.self.inside.map.entries k c.in_ok-kept.kept) c.in_ok-key.ensures in
    kept_own _ _ c.args.text.now c.in_ok-kept.kept made unknown (c.in_ok-kept.ensures.same ∙ c.requires.same) c.self.invariant

pub returns-clause-ok : goal.returns-clause-ok
returns-clause-ok c =
    let unknown = ap (λ (ts : List (List ℕ)). is_among ts c.args.text.now) c.self.view_is ∙ c.requires.unknown in
    let made = c.in_ok-insert.ensures.entries ∙ ap (λ (k : List ℕ). insert_entry (pointwise nat_eq) c.self.inside.map.entries k c.in_ok-kept.kept) c.in_ok-key.ensures in
    kept_texts _ _ c.args.text.now c.in_ok-kept.kept made unknown ∙ ap (λ (ts : List (List ℕ)). ts ++ c.args.text.now ∷ []) c.self.view_is
