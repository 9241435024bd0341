use Rattle.std.proofs.Common.{◌≡◌, ap, ◌∙◌, ℕ, List, [], map, codes, Some, None, unwrap_or, Bor, Option}
use Rattle.std.proofs.lemmas.Result.{IfOk-weaker}
use Rattle.clap.specs.Words.{found_of, rows_of}
use Rattle.clap.proofs.WalkLemmas.{raw_values-rows}
use Rattle.dg_line.specs.Values.{words_of}
use Rattle.dg_line.proofs.values.words_of.Goals as goal

some : (words : List (List ℕ)) (o : Option (List (List ℕ))) → Some words ≡ o → words ≡ unwrap_or o []
some words o e = ap (λ p. unwrap_or p []) e

none : (o : Option (List (List ℕ))) → None ≡ o → [] ≡ unwrap_or o []
none o e = ap (λ p. unwrap_or p []) e

pub returns-in-Some : goal.returns-in-Some
returns-in-Some c =
    let e : map (λ (w : Bor (List ℕ)). w.now) c.in-Some.words.now ≡ words_of (rows_of (found_of c.args.matches.now)) =
    some _ _ (c.in-Some.ensures ∙ raw_values-rows (found_of c.args.matches.now) (codes "word")) in
    IfOk-weaker c.from_slice.result _ _ (λ v h. ap (map (λ (w : Bor (List ℕ)). w.now)) h ∙ e) c.from_slice.ensures.items

pub returns-in-None : goal.returns-in-None
returns-in-None c =
    ap (map (λ (w : Bor (List ℕ)). w.now)) c.new.ensures.items
    ∙ none _ (c.in-None.ensures ∙ raw_values-rows (found_of c.args.matches.now) (codes "word"))
