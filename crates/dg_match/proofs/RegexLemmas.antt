-- From what `regex` ensures to the words of this crate.
use Rattle.std.proofs.Common.{◌≡◌, ◌≢◌, ℕ, ◌<◌, Bool, true, false, cond, List, Option, None, Some, IsSomeAnd, IfSome, refl, sym, subst, ◌⊎◌, inl, inr, IsUtf8}
use Rattle.std.proofs.lemmas.Str.{IsUtf8-from_is_utf8, is_utf8-from_IsUtf8}
use Rattle.std.specs.Str.{chars, is_utf8}
use Rattle.regex_syntax.specs.Brackets.{Nested}
use Rattle.regex_syntax.specs.Captures.{SameCaptures}
use Rattle.regex_syntax.specs.Grammar.{Names, read}
use Rattle.regex_syntax.specs.Verdict.{Reads, Refuses}
use Rattle.regex_syntax.specs.declared.error.ErrorKind.{ErrorKind}
use Rattle.regex_syntax.specs.declared.error.ErrorKind.TheVariants as kind
use Rattle.regex.specs.Patterns.{Re}
use Rattle.regex.specs.Bytes.{regex_config, regex_source, regex_pattern, regex_names, IsReadFromSource}
use Rattle.regex.specs.Failures.{IsPattern, IsRightKind}
use Rattle.regex.specs.Sources.{IsRefusal}
use Rattle.regex_syntax.specs.declared.error.Error as parser
use Rattle.regex.specs.declared.error.Error.{Error}
use Rattle.regex.specs.declared.error.Error.TheVariants.{Syntax, CompiledTooBig}
use Rattle.regex.specs.declared.bytes.regex.Regex.{Regex}
use Rattle.dg_match.specs.Regexes.{bytes_config, pattern_read, IsPatternText, IsNoPatternText, IsBuilt}

unread : (o : Option (Nested Re × Names)) (b : Bool) → ¬ (b ≡ true) → IfSome (cond b o None) (λ (re, _). 250 < re.depth)
unread o true h = absurd (h refl)
unread o false h = tt

-- a text that isn't UTF-8 is no pattern
pub no_pattern_unless_utf8 : (text : List ℕ) → ¬ (IsUtf8 text) → IsNoPatternText text
no_pattern_unless_utf8 text h = unread _ (is_utf8 text) (λ e. h (IsUtf8-from_is_utf8 text e))

weaker : {A : Type 0} (P Q : A → Type 0) (o : Option A) (b : Bool) → b ≡ true → ((x : A) → P x → Q x) → IsSomeAnd o P → IsSomeAnd (cond b o None) Q
weaker P Q None true e f h = absurd h
weaker P Q (Some x) true e f h = f x h
weaker P Q o false e f h = absurd cc

-- what the grammar reads is a pattern
pub pattern_of_Reads : (text : List ℕ) (hir : _) (names : Names) → IsUtf8 text → Reads bytes_config text hir names → IsPatternText text
unfolding Reads
pattern_of_Reads text hir names utf8 h =
    weaker _ _ (read bytes_config (chars text)) (is_utf8 text) (is_utf8-from_IsUtf8 text utf8) (λ x p. p.0) h

refused : (k : ErrorKind) (o : Option (Nested Re × Names)) (b : Bool) → k ≢ kind.OutOfMemory →
    (k ≡ kind.OutOfMemory) ⊎ ((o ≡ None) ⊎ ((k ≡ kind.NestLimitExceeded) × IfSome o (λ (re, _). 250 < re.depth))) →
    IfSome (cond b o None) (λ (re, _). 250 < re.depth)
refused k o false h r = tt
refused k o true h (inl e) = absurd (h e)
refused k o true h (inr (inl e)) = let P : Option (Nested Re × Names) → Type 0 = λ o. IfSome o (λ (re, _). 250 < re.depth) in subst P (sym e) tt
refused k o true h (inr (inr d)) = d.1

-- what the grammar refuses, but for memory, is no pattern
pub no_pattern_of_Refuses : (text : List ℕ) (k : ErrorKind) → k ≢ kind.OutOfMemory → Refuses bytes_config text k → IsNoPatternText text
unfolding Refuses
no_pattern_of_Refuses text k h r = refused k (read bytes_config (chars text)) (is_utf8 text) h r

-- ---- what `Regex::new` ensures

pub pattern_of_regex : (r : Regex) (text : List ℕ) → regex_source r ≡ text → regex_config r ≡ bytes_config → IsReadFromSource r →
    IsUtf8 text → IsPatternText text
pattern_of_regex r text e f h utf8 = pattern_of_Reads text _ _ utf8 (rw (e, f) at h)

pub no_pattern_of_error : (text : List ℕ) (error : Error) (e : parser.Error) → error ≡ Syntax e → IsRefusal bytes_config text error →
    IsRightKind bytes_config text error → IsNoPatternText text
no_pattern_of_error text error e is refusal right =
    let P : Error → Type 0 = IsRightKind bytes_config text in
    no_pattern_of_Refuses text e.kind (subst P is right) (refusal e is)

pub pattern_of_error : (text : List ℕ) (error : Error) → IsUtf8 text → error ≡ CompiledTooBig → IsRightKind bytes_config text error → IsPatternText text
pattern_of_error text error utf8 is right =
    let P : Error → Type 0 = IsRightKind bytes_config text in
    let h : IsPattern bytes_config text = subst P is right in
    pattern_of_Reads text h.0 h.1 utf8 h.2

-- ---- what a search ensures

-- what the grammar reads in the text of a built regex: a pattern that gives the same matches, and its names
abbrev pub SameAsRead : Regex → Option (Nested Re × Names) → Type 0
SameAsRead r o = IsSomeAnd o (λ (re, names). SameCaptures (regex_pattern r) re.value × (regex_names r ≡ names))

pub same_as_read : (r : Regex) → IsBuilt r → SameAsRead r (pattern_read (regex_source r))
unfolding Reads
same_as_read r h = weaker _ _ (read bytes_config (chars (regex_source r))) (is_utf8 (regex_source r))
    (is_utf8-from_IsUtf8 _ h.2) (λ x p. (p.1, p.2)) (rw h.0 at h.1)
