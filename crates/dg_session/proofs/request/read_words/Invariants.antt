use Rattle.std.proofs.Common.{◌≡◌, map, take}
use Rattle.dg_session.proofs.request.read_words.Given as goal

abbrev pub invariant-loop-field : goal.invariant-loop-field
invariant-loop-field l = l.words ≡ map (λ f. f.now) (take l.field-index l.field-items)
