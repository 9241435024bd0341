use Rattle.std.proofs.Common.{◌∙◌, ◌≡◌, [], ap, sym, arith, length}
use Rattle.dg_words.specs.Machine.{Draft}
use Rattle.dg_words.specs.Frames.{contexts}
use Rattle.dg_words.proofs.Framing.{length-contexts}
use Rattle.dg_words.proofs.draft.Draft.close_index.Goals as goal

pub returns-in_default : goal.returns-in_default
returns-in_default c =
    let none : contexts c.self-2.inside.frames ≡ [] = ap contexts c.in_default.ensures.0 in
    let same : contexts c.self-2.inside.frames ≡ contexts c.self.inside.frames = ap (λ (d : Draft). d.indices) (c.self-2.view_is ∙ c.in_ok-close.ensures) ∙ ap (λ (d : Draft). d.indices) (sym c.self.view_is) in
    let some : length (contexts c.self.inside.frames) ≡ 0 = ap length (sym same ∙ none) in
    absurd (omega (arith, some, length-contexts c.self.inside.frames, c.len.ensures, c.if-len-eq0.false))
