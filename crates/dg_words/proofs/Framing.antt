-- Open elements and where they stand.
use Rattle.std.specs.Prelude.{◌≡◌, ℕ, ◌<◌, List, [], ◌∷◌, ◌++◌, length, refl, Bool, false}
use Rattle.std.proofs.Common.{◌∙◌, arith, ap, sym, subst}
use Rattle.dg_words.specs.declared.draft.Frame.{Frame}
use Rattle.dg_words.specs.Frames.{contexts, pieces}
use Rattle.dg_words.specs.Machine.{Draft, close, end_word}
use Rattle.dg_words.specs.Piece.{Piece}
use Rattle.dg_words.specs.declared.word.Word.{Word}

pub length-contexts : (fs : List Frame) → length (contexts fs) ≡ length fs
length-contexts [] = refl
length-contexts (f ∷ fs) = omega (arith, length-contexts fs)

pub spots_empty : (fs : List Frame) → length fs ≡ 0 → contexts fs ≡ []
spots_empty [] e = refl
spots_empty (f ∷ fs) e = absurd (omega (arith, e))

pub word_stays : (fs : List Frame) (d : Draft) → 0 < length fs → d.indices ≡ contexts fs → d ≡ end_word d.indices d
word_stays [] d h e = absurd (omega (arith, h))
word_stays (f ∷ fs) d h e = subst (λ i. d ≡ end_word i d) (sym e) refl

pub word_ends : (fs : List Frame) (d : Draft) (ws vs : List Word) (x : Bool) (ps qs : List Piece) (t : List ℕ) → d.indices ≡ [] →
    ◌≡◌ {A = Draft} (record { words = ws; expand = x; indices = contexts fs; parts = pieces fs ++ ps; text = t }) (close d) → vs ≡ ws ++ record { expand = x; parts = ps } ∷ [] → qs ≡ [] →
    ◌≡◌ {A = Draft} (record { words = vs; expand = false; indices = contexts fs; parts = pieces fs ++ qs; text = t }) (end_word d.indices d)
word_ends [] d ws vs x ps qs t n e v q =
    let w = ap (λ (y : Draft). y.words) e in
    let b = ap (λ (y : Draft). y.expand) e in
    let p = ap (λ (y : Draft). y.parts) e in
    let u = ap (λ (y : Draft). y.text) e in
    rw (v, q, w, b, p, u, n) refl
word_ends (f ∷ fs) d ws vs x ps qs t n e v q = let i : f.context ∷ contexts fs ≡ [] = ap (λ (y : Draft). y.indices) e ∙ n in absurd cc
