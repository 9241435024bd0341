-- From the needles of a pattern's tree to the texts that the pattern needs.
use Rattle.std.proofs.Common.{◌≡◌, ℕ, ◌+◌, ◌-◌, ◌<◌, Result, Ok, Err, IfOk, take, drop, ⊎_elim, subst, Bool, true, false, cond, List, [], get_or, length, Option, None, Some, IsSomeAnd, IfSome, option_map, option_and_then, is_some, MatchOption, true≢false, refl, sym, ap, ◌∙◌, arith}
use Rattle.std.proofs.lemmas.Bool.{cases_lt}
use Rattle.std.proofs.lemmas.List.{get_or_default, length-drop, take_all}
use Rattle.std.proofs.lemmas.List.Elements.{All-from_get_or, All-get_or}
use Rattle.std.specs.List.{All}
use Rattle.std.specs.Str.{chars, is_utf8}
use Rattle.regex_extract.specs.Needles.{ContainsNeedle, StartsWithNeedle, EndsWithNeedle}
use Rattle.regex_hir.specs.Find.{find}
use Rattle.regex_hir.specs.Meaning.{meaning}
use Rattle.regex_hir.specs.declared.hir.Hir.{Hir}
use Rattle.regex_hir.proofs.FindLemmas.{find_sound}
use Rattle.regex_hir.proofs.OptionLemmas.{none_of_no_value}
use Rattle.regex_literal.specs.Find.{AreBytes}
use Rattle.regex_syntax.specs.Brackets.{Nested}
use Rattle.regex_syntax.specs.Captures.{SameCaptures}
use Rattle.regex_syntax.specs.Grammar.{Names, read}
use Rattle.regex_syntax.specs.Verdict.{Reads}
use Rattle.regex.specs.Patterns.{Re}
use Rattle.regex.proofs.ForCallers.{span_alike}
use Rattle.dg_match.specs.Groups.{found_of, regex_match}
use Rattle.dg_match.specs.Literals.{IsNowhere}
use Rattle.dg_match.specs.Needs.{NeedsOneOf}
use Rattle.dg_match.specs.Regexes.{bytes_config}
use Rattle.dg_match.specs.declared.found.Found.{Found}
use Rattle.dg_match.proofs.GroupLemmas.{none_alike}

-- where no needle stands there is no match
no_needle : (re : Re) (needles : List (List ℕ)) (hay : List ℕ) → AreBytes hay → ContainsNeedle re needles →
    All (λ t. IsNowhere t hay) needles → find re hay 0 ≡ None
no_needle re needles hay bytes contains none = none_of_no_value _ (λ m e.
    let there = contains hay (All-from_get_or (λ b. b < 256) hay 0 (λ i _. bytes i)) m.start m.trace.end (find_sound re hay 0 m e).1 in
    let occurs = there.2.occurs in
    All-get_or (λ t. IsNowhere t hay) needles there.0 [] there.2.numbered none there.1 (record { fits = occurs.fits; reads = occurs.reads }))

match_in : Option (Nested Re × Names) → List ℕ → Option Found
match_in o hay = option_and_then (λ (re, names). option_map (found_of (length names)) (find re.value hay 0)) o

module _ (hir : Hir) (hay : List ℕ) (bytes : AreBytes hay) (none : find (meaning hir) hay 0 ≡ None) where
  no_match : (o : Option (Nested Re × Names)) (b : Bool) → IsSomeAnd o (λ (re, _). SameCaptures (meaning hir) re.value) →
      match_in (cond b o None) hay ≡ None
  unfolding match_in
  no_match None b h = absurd h
  no_match (Some x) false h = refl
  no_match (Some x) true h = ap (option_map (found_of (length x.1))) (none_alike _ _ (span_alike h hay bytes false 0) none)

same_captures : (hir : Hir) (P Q : Nested Re × Names → Type 0) (o : Option (Nested Re × Names)) → ((x : Nested Re × Names) → P x → Q x) → IsSomeAnd o P → IsSomeAnd o Q
same_captures hir P Q None f h = absurd h
same_captures hir P Q (Some x) f h = f x h

-- where a tree of a text has no match, the text's pattern has none
pub none_of_tree : (text : List ℕ) (hir : Hir) (names : Names) → Reads bytes_config text hir names →
    (hay : List ℕ) → AreBytes hay → find (meaning hir) hay 0 ≡ None → regex_match text hay ≡ None
unfolding Reads match_in
none_of_tree text hir names reads hay bytes none =
    no_match hir hay bytes none (read bytes_config (chars text)) (is_utf8 text)
    (same_captures hir _ _ (read bytes_config (chars text)) (λ x p. p.1) reads)

-- what the tree of a text needs, the text's pattern needs
pub needs_of_tree : (text : List ℕ) (hir : Hir) (names : Names) (needles : List (List ℕ)) → Reads bytes_config text hir names →
    ContainsNeedle (meaning hir) needles → NeedsOneOf text needles
needs_of_tree text hir names needles reads contains = λ hay bytes none.
    none_of_tree text hir names reads hay bytes (no_needle (meaning hir) needles hay bytes contains none)

pub contains_of_end : (re : Re) (needles : List (List ℕ)) → EndsWithNeedle re needles → ContainsNeedle re needles
contains_of_end re needles h = λ hay ok i j m. let it = h hay ok i j m in (it.0, it.1, it.2)

pub contains_of_start : (re : Re) (needles : List (List ℕ)) → StartsWithNeedle re needles → ContainsNeedle re needles
contains_of_start re needles h = λ hay ok i j m. let it = h hay ok i j m in (it.0, i, it.1)

pub if_some : {A : Type 0} (P Q : A → Type 0) (o : Option A) → ((x : A) → P x → Q x) → IfSome o P → IfSome o Q
if_some P Q None f h = h
if_some P Q (Some x) f h = f x h

-- what isn't found stands nowhere
pub nowhere_unless : {A P : Type 0} (Q : A → Type 0) (o : Option A) (b : Bool) → MatchOption o P Q → b ≡ is_some o → b ≡ false → P
nowhere_unless Q None b h e f = h
nowhere_unless Q (Some x) b h e f = absurd (true≢false (sym e ∙ f))

-- what is so of the first, and of one more
pub one_more : {X : Type 0} (P : X → Type 0) (xs : List X) (i : ℕ) (x : X) → i < length xs → x ≡ get_or xs i x → P x →
    ((k : ℕ) (d : X) → k < i → P (get_or xs k d)) → (k : ℕ) (d : X) → k < i + 1 → P (get_or xs k d)
one_more P xs i x low at here before = λ k d less.
    ⊎_elim (λ earlier. before k d earlier)
    (λ later. let e : i ≡ k = omega arith in subst (λ (n : ℕ). P (get_or xs n d)) e (subst P (at ∙ get_or_default xs i x d low) here))
    (cases_lt k i)

pub if_ok : {A E : Type 0} (P Q : A → Type 0) (r : Result A E) → ((x : A) → P x → Q x) → IfOk r P → IfOk r Q
if_ok P Q (Ok x) f h = f x h
if_ok P Q (Err e) f h = h

-- what stands behind a cut front
pub behind : (n : ℕ) (xs ys : List ℕ) → xs ≡ ys → take (length xs - n) (drop n xs) ≡ drop n ys
behind n xs ys e = let size = length-drop n xs in take_all (length xs - n) (drop n xs) (omega arith) ∙ ap (drop n) e
