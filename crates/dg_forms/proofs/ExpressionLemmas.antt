-- Words with spaces between them.
use Rattle.std.proofs.Common.{◌≡◌, ℕ, ◌+◌, ◌<◌, ◌≤◌, List, [], ◌∷◌, ◌++◌, append_assoc, get_or, drop, length, ap, sym, ◌∙◌}
use Rattle.std.proofs.lemmas.List.{drop_more, drop_all, append-nil}
use Rattle.dg_language.specs.Expressions.{behind_spaces}

pub spaces-next : (text : List ℕ) (ws : List (List ℕ)) (i : ℕ) (w : List ℕ) → i < length ws → w ≡ get_or ws i w
    → ((text ++ 32 ∷ []) ++ w) ++ behind_spaces (drop (i + 1) ws) ≡ text ++ behind_spaces (drop i ws)
spaces-next text ws i w l e =
    append_assoc (text ++ 32 ∷ []) w (behind_spaces (drop (i + 1) ws))
    ∙ append_assoc text (32 ∷ []) (w ++ behind_spaces (drop (i + 1) ws))
    ∙ ap (λ x. text ++ (32 ∷ (x ++ behind_spaces (drop (i + 1) ws)))) e
    ∙ ap (λ x. text ++ behind_spaces x) (sym (drop_more ws i w l))

pub spaces-past : (text : List ℕ) (ws : List (List ℕ)) (i : ℕ) → length ws ≤ i → text ++ behind_spaces (drop i ws) ≡ text
spaces-past text ws i l = ap (λ x. text ++ behind_spaces x) (drop_all i ws l) ∙ append-nil text
