use Rattle.std.proofs.Common.{◌∙◌, ◌≡◌, ◌++◌, ◌∷◌, [], ap, sym, arith}
use Rattle.dg_words.specs.Machine.{Draft}
use Rattle.dg_words.proofs.Framing.{spots_empty, word_ends, word_stays}
use Rattle.dg_words.proofs.draft.Draft.end_word.Goals as goal

pub returns-then-len-gt0 : goal.returns-then-len-gt0
returns-then-len-gt0 c = word_stays c.self.inside.frames c.args.self.now (omega (arith, c.if-len-gt0.true, c.len.ensures)) (ap (λ (d : Draft). d.indices) (sym c.self.view_is))

pub returns : goal.returns
returns c =
    let none : c.args.self.now.indices ≡ [] = ap (λ (d : Draft). d.indices) (sym c.self.view_is) ∙ spots_empty c.self.inside.frames (omega (arith, c.if-len-gt0.false, c.len.ensures)) in
    word_ends c.self-2.inside.frames c.args.self.now c.self-2.inside.words c.push.new.self c.self-2.inside.expand _ c.replace-parts.new.dest c.self-2.inside.text none
    (c.self-2.view_is ∙ c.in_ok-close.ensures) (c.in_ok-push.ensures.ok ∙ ap (λ ps. c.self-2.inside.words ++ record { expand = c.self-2.inside.expand; parts = ps } ∷ []) c.replace-parts.ensures.value)
    (c.replace-parts.ensures.after ∙ c.new.ensures)
