use Rattle.std.proofs.Common.{◌∙◌, ◌++◌, ◌∷◌, [], ap}
use Rattle.std.proofs.lemmas.List.{append-nil}
use Rattle.std.proofs.lemmas.Grind.{flat_map-append}
use Rattle.dg_words.specs.Parts.{pieces_of_part, pieces_of}
use Rattle.dg_words.proofs.word.Parts.push.Goals as goal

pub returns-clause-ok : goal.returns-clause-ok
returns-clause-ok c =
    ap pieces_of c.in_ok-push.ensures.items ∙ flat_map-append pieces_of_part c.self.inside.inner.items (c.args.part ∷ [])
    ∙ ap (λ t. pieces_of c.self.inside.inner.items ++ t) (append-nil (pieces_of_part c.args.part)) ∙ ap (λ s. s ++ pieces_of_part c.args.part) c.self.view_is
