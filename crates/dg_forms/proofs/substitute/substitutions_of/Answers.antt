use Rattle.std.proofs.Common.{◌≡◌, ℕ, ◌+◌, ◌<◌, ◌≤◌, List, [], ◌∷◌, ◌++◌, length, get_or, drop, ap, sym, ◌∙◌, append_assoc, arith}
use Rattle.std.proofs.lemmas.List.{append-nil, at_drop_more, at_drop_all}
use Rattle.dg_words.specs.declared.word.Word.{Word}
use Rattle.dg_language.specs.declared.substitution.Substitution.{Substitution}
use Rattle.dg_language.specs.Words.{nested_in}
use Rattle.dg_language.specs.WordSteps.{ending_of, part_steps, substitutions}
use Rattle.dg_forms.proofs.substitute.substitutions_of.Goals as goal

-- the steps of the words from one on
substitutions-drop : (ws : List Word) (i : ℕ) (w : Word) → i < length ws → w ≡ get_or ws i w
    → substitutions (drop i ws) ≡ part_steps (nested_in w.parts) ++ ending_of w.expand ∷ substitutions (drop (i + 1) ws)
unfolding substitutions
substitutions-drop ws i w l e =
    at_drop_more substitutions ws i w l ∙ ap (λ x. substitutions (x ∷ drop (i + 1) ws)) (sym e)

-- no word is left
substitutions-none : (ws : List Word) (i : ℕ) → length ws ≤ i → substitutions (drop i ws) ≡ []
unfolding substitutions
substitutions-none ws i l = at_drop_all substitutions ws i l

-- the steps of one more word
added : (steps parts more all : List Substitution) (end : Substitution) → all ≡ parts ++ end ∷ more
    → (steps ++ parts ++ end ∷ []) ++ more ≡ steps ++ all
added steps parts more all end e = rw e (simp append_assoc)

-- src/substitute.rt:53:5
pub loop-word-preserved : goal.loop-word-preserved
loop-word-preserved c =
    let ws = c.args.words.now in
    let i = c.loop-word.word-index in
    let l : i < length ws = omega arith in
    let e = substitutions-drop ws i c.word-item.result l c.word-item.is in
    rw (c.in_ok-push_word.ensures, c.ending_of.ensures) (added _ _ _ _ _ e ∙ c.loop-word.invariant)

-- src/substitute.rt:49:1
pub returns : goal.returns
returns c =
    let ws = c.args.words.now in
    let steps = c.loop-word.steps in
    let l : length ws ≤ c.loop-word.word-index = omega arith in
    c.new.ensures ∙ c.into_vec.ensures ∙ sym (append-nil steps) ∙ ap (λ t. steps ++ t) (sym (substitutions-none ws c.loop-word.word-index l)) ∙ c.loop-word.invariant
