-- What reading says of what a text spells.
use Rattle.std.proofs.Common.{◌≡◌, ℕ, ◌≤◌, List, [], Option, Some, None, refl, sym, ap, ◌∙◌}
use Rattle.dg_expr.specs.declared.token.Token.{Token}
use Rattle.dg_expr.specs.Grammar.{Spells, SpellsNone}
use Rattle.dg_expr.specs.Reading.{read_behind, tree_in}
use Rattle.dg_expr.specs.Token.{tokens_of}
use Rattle.dg_expr.specs.Tree.{Tree, height}
use Rattle.dg_expr.proofs.Sound.{sound}
use Rattle.dg_expr.proofs.Complete.{complete}
use Rattle.dg_expr.proofs.Low.{few_levels}

from_tokens : (text : List ℕ) (tree : Tree) (o : Option (List Token)) → tokens_of text ≡ o → read_behind o [] None ≡ Some tree
    → Spells text tree × (height tree ≤ 200)
from_tokens text tree None t e = cc
from_tokens text tree (Some ts) t e = (record { tokens = ts; are_tokens = t; phrase = sound ts tree e }, few_levels ts tree e)

pub read_is_spelled : (text : List ℕ) (tree : Tree) → tree_in text ≡ Some tree → Spells text tree × (height tree ≤ 200)
unfolding tree_in
read_is_spelled text tree e = from_tokens text tree (tokens_of text) refl e

pub spelled_is_read : (text : List ℕ) (tree : Tree) → Spells text tree → height tree ≤ 200 → tree_in text ≡ Some tree
unfolding tree_in
spelled_is_read text tree s h = ap (λ o. read_behind o [] None) s.are_tokens ∙ complete s.tokens tree s.phrase h

pub spelled_tree : (text : List ℕ) (tree : Tree) → tree_in text ≡ Some tree → Spells text tree
spelled_tree text tree e = (read_is_spelled text tree e).0

pub only_tree : (text : List ℕ) (tree other : Tree) → tree_in text ≡ Some tree → Spells text other → height other ≤ 200 → other ≡ tree
only_tree text tree other e s h = let q : Some other ≡ Some tree = sym (spelled_is_read text other s h) ∙ e in cc

pub no_tree : (text : List ℕ) → tree_in text ≡ None → SpellsNone text
no_tree text e tree s h = let q : Some tree ≡ None = sym (spelled_is_read text tree s h) ∙ e in cc
