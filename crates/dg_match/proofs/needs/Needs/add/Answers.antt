use Rattle.std.proofs.Common.{sym, subst}
use Rattle.std.specs.List.{All}
use Rattle.std.proofs.lemmas.List.Elements.{All-push}
use Rattle.regex_extract.specs.Needles.{needles_of}
use Rattle.dg_match.specs.Needs.{NeedsOneOf}
use Rattle.dg_match.proofs.needs.Needs.add.Goals as goal

pub returns-in_ok-push-in-Some : goal.returns-in_ok-push-in-Some
returns-in_ok-push-in-Some c = λ text here before.
    subst (All (λ s. NeedsOneOf text (needles_of s))) (sym c.in_ok-push-in-Some.ensures.items)
    (All-push (λ s. NeedsOneOf text (needles_of s)) c.args.self.now.sets.items c.in-Some.texts before (rw c.in-Some.is at here))
