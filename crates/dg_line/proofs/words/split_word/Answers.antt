use Rattle.std.proofs.Common.{◌==◌, lit<, ◌≡◌, ◌∙◌, ◌<◌, ℕ, List, length, Option, Some, None, MatchOption, Bor, true, false, lt-ltb}
use Rattle.std.specs.List.{before_first, after_first, position_or_len}
use Rattle.std.proofs.lemmas.Str.Pattern.{split_once_first}
use Rattle.dg_line.specs.Words.{has_equals, name_in, value_in}
use Rattle.dg_line.proofs.WordLemmas.{any_by_place, not_below}
use Rattle.dg_line.proofs.words.split_word.Goals as goal

cut : (word : List ℕ) (r : Option (Bor (List ℕ) × Bor (List ℕ)))
    → MatchOption r (position_or_len (λ b. b == 61) word ≡ length word)
    (λ x. (position_or_len (λ b. b == 61) word < length word) × (x.0.now ≡ before_first (λ b. b == 61) word) × (x.1.now ≡ after_first (λ b. b == 61) word))
    → MatchOption r (has_equals word ≡ false)
    (λ x. (has_equals word ≡ true) × (x.0.now ≡ name_in word) × (x.1.now ≡ value_in word))
cut word None h = any_by_place (λ b. b == 61) word ∙ not_below _ _ h
cut word (Some x) h = (any_by_place (λ b. b == 61) word ∙ lt-ltb _ _ h.0, h.1, h.2)

pub returns : goal.returns
returns c = cut c.args.word.now c.split_once.result (split_once_first 61 c.args.word.now c.split_once.result c.split_once.ensures.cases (lit< tt))
