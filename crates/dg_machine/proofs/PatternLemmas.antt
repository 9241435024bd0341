-- `-re` patterns that are asked for one after another, and what `regexp` writes.
use Rattle.std.proofs.Common.{◌≡◌, ◌≢◌, ◌≤◌, ◌+◌, ◌^◌, ℕ, List, [], ◌∷◌, ◌++◌, append_assoc, true, false, ap, refl, sym, ◌∙◌}
use Rattle.std.specs.Prelude.{Some, None, Ok}
use Rattle.dg_match.specs.Groups.{regex_match}
use Rattle.dg_match.specs.declared.reading.Reading.TheVariants.{Read as IsRead, Syntax, TooLarge}
use Rattle.dg_match.specs.declared.pattern.Pattern.TheVariants.{Glob as GlobOf, Exact as ExactOf, Regex as RegexOf}
use Rattle.dg_world.specs.declared.question.Question.{Question}
use Rattle.dg_world.specs.declared.question.Question.TheVariants.{Pattern}
use Rattle.dg_world.specs.declared.question.Answer.{Answer}
use Rattle.dg_world.specs.declared.question.Answer.TheVariants as answer
use Rattle.dg_world.specs.declared.question.Read.{Read}
use Rattle.dg_language.specs.declared.expect.Pair.{Pair}
use Rattle.dg_language.specs.declared.search.Search.{Search}
use Rattle.dg_language.specs.Play.{Play, Asks, plain, lookup}
use Rattle.dg_language.specs.State.{State, learn}
use Rattle.dg_language.specs.Evaluation.{Ending, Then, fail}
use Rattle.dg_language.specs.ExpectWords.{regexes_in}
use Rattle.dg_language.specs.Patterns.{is_read, if_read, with_pattern, with_patterns, cannot_compile}
use Rattle.dg_language.specs.Matching.{regexp_words, match_text, write_found, do_regexp}
use Rattle.dg_language.specs.Sessions.{on_words}
use Rattle.dg_language.proofs.Asking.{ask-asks, ask-known, lookup-more}
use Rattle.dg_machine.specs.declared.patterns.Known.TheVariants.{AllRead, OneUnread, Unasked}
use Rattle.dg_machine.specs.Lost.{HasReadPattern}
use Rattle.dg_machine.specs.Patterns.{AreRead, Knows}
use Rattle.dg_machine.specs.declared.frame.Pace.{Pace}
use Rattle.dg_machine.specs.declared.machine.Machine.{Machine}
use Rattle.dg_machine.specs.Meaning.{all_back, weight_of, Goes, command_weight, RunsAs}
use Rattle.dg_machine.proofs.StepLemmas.{Goes-runs}

-- ---- one pattern

pub pattern-read : (text : List ℕ) (s : State) (k : Then) (f : State → Play Ending) → lookup (Pattern text) s.known ≡ Some (answer.Reading IsRead)
    → with_pattern text s k f ≡ f s
unfolding with_pattern
pattern-read text s k f e = ask-known (Pattern text) (answer.Reading IsRead) s (λ a t. if_read a t k f) e

pub read-answer : (a : Answer) → is_read a ≡ true → a ≡ answer.Reading IsRead
read-answer (answer.Reading IsRead) e = refl
read-answer (answer.Reading Syntax) e = cc
read-answer (answer.Reading TooLarge) e = cc
read-answer answer.Absent e = cc
read-answer (answer.Content bytes) e = cc
read-answer (answer.Tool name) e = cc
read-answer (answer.Triplet triplet) e = cc
read-answer answer.Unset e = cc
read-answer (answer.Value value) e = cc
read-answer answer.Ended e = cc
read-answer (answer.Entry entry) e = cc

pub one-read : (text m : List ℕ) (s : State) (a : Answer) → m ≡ text → lookup (Pattern m) s.known ≡ Some a → is_read a ≡ true
    → Knows (text ∷ []) s AllRead
one-read text m s a g e h = (ap (λ t. lookup (Pattern t) s.known) (sym g) ∙ e ∙ ap (λ x. Some x) (read-answer a h), tt)

pub one-unread : (text m : List ℕ) (s : State) (a : Answer) → m ≡ text → lookup (Pattern m) s.known ≡ Some a → is_read a ≡ false
    → Knows (text ∷ []) s OneUnread
unfolding with_patterns with_pattern
one-unread text m s a g e h k f =
    ask-known (Pattern text) a s (λ b t. if_read b t k f) (ap (λ t. lookup (Pattern t) s.known) (sym g) ∙ e)
    ∙ ap (λ b. elim b as (λ _. Play Ending) [ true ↦ f s | false ↦ fail cannot_compile s k ]) h

pub one-unasked : (text m : List ℕ) (s : State) → m ≡ text → lookup (Pattern m) s.known ≡ None → Knows (text ∷ []) s (Unasked (Pattern m))
unfolding with_patterns with_pattern
one-unasked text m s g e =
    let none : lookup (Pattern text) s.known ≡ None = rw g at e in
    rw g ((λ k f. ask-asks (Pattern text) s (λ b t. if_read b t k f) none), none)

-- ---- all of them

pub patterns-read : (texts : List (List ℕ)) (s : State) (k : Then) (f : State → Play Ending) → AreRead texts s.known → with_patterns texts s k f ≡ f s
unfolding with_patterns
patterns-read [] s k f h = refl
patterns-read (t ∷ ts) s k f h = pattern-read t s k (λ u. with_patterns ts u k f) h.0 ∙ patterns-read ts s k f h.1

behind-read : (done left : List (List ℕ)) (s : State) (k : Then) (f : State → Play Ending) → AreRead done s.known
    → with_patterns (done ++ left) s k f ≡ with_patterns left s k f
unfolding with_patterns
behind-read [] left s k f h = refl
behind-read (t ∷ done) left s k f h = pattern-read t s k (λ u. with_patterns (done ++ left) u k f) h.0 ∙ behind-read done left s k f h.1

read-more : (texts : List (List ℕ)) (known more : List Read) → AreRead texts known → AreRead texts (known ++ more)
read-more [] known more h = tt
read-more (t ∷ ts) known more h = (lookup-more (Pattern t) known more (answer.Reading IsRead) h.0, read-more ts known more h.1)

read-learned : (q : Question) (a : Answer) (texts : List (List ℕ)) (s : State) → AreRead texts s.known → AreRead texts (learn q a s).known
unfolding learn
read-learned q a texts s h = read-more texts s.known (record { question = q; answer = a } ∷ []) h

pub read-both : (done left : List (List ℕ)) (known : List Read) → AreRead done known → AreRead left known → AreRead (done ++ left) known
read-both [] left known d h = h
read-both (t ∷ done) left known d h = (d.0, read-both done left known d.1 h)

-- those before are read, and the next one is not, or was not asked for
first-unread : (text : List ℕ) (others : List (List ℕ)) (s : State) → Knows (text ∷ []) s OneUnread → Knows (text ∷ others) s OneUnread
unfolding with_patterns
first-unread text others s h k f = h k (λ t. with_patterns others t k f)

first-unasked : (text : List ℕ) (others : List (List ℕ)) (s : State) (q : Question) → Knows (text ∷ []) s (Unasked q) → Knows (text ∷ others) s (Unasked q)
unfolding with_patterns
first-unasked text others s q h = ((λ k f. h.0 k (λ t. with_patterns others t k f)), h.1)

module _ (done others texts : List (List ℕ)) (text : List ℕ) (s : State) (e : texts ≡ done ++ text ∷ others) (d : AreRead done s.known) where
  pub unread-behind : Knows (text ∷ []) s OneUnread → Knows texts s OneUnread
  unread-behind h k f =
      ap (λ ts. with_patterns ts s k f) e ∙ behind-read done (text ∷ others) s k f d ∙ first-unread text others s h k f

  pub unasked-behind : (q : Question) → Knows (text ∷ []) s (Unasked q) → Knows texts s (Unasked q)
  unasked-behind q h =
      let first = first-unasked text others s q h in (
        (λ k f.
            ap (λ ts. with_patterns ts s k f) e ∙ behind-read done (text ∷ others) s k f d ∙ first.0 k f
            ∙ ap (Asks (plain q))
            (λ i a. sym (ap (λ ts. with_patterns ts (learn q a s) k f) e ∙ behind-read done (text ∷ others) (learn q a s) k f (read-learned q a done s d)) i)),
        h.1,
      )

-- the texts that were looked at, and those that are left
abbrev pub Looked : List (List ℕ) → List (List ℕ) → List Read → Type 0
Looked texts left known = (done : List (List ℕ)) × (texts ≡ done ++ left) × AreRead done known

pub looked-more : (texts left others : List (List ℕ)) (text : List ℕ) (known : List Read) → left ≡ text ∷ others → AreRead (text ∷ []) known
    → Looked texts left known → Looked texts others known
looked-more texts left others text known e r h = (
  h.0 ++ text ∷ [],
  h.1 ∙ ap (λ l. h.0 ++ l) e ∙ sym (append_assoc h.0 (text ∷ []) others),
  read-both h.0 (text ∷ []) known h.2 r,
)

-- where there is a pattern, one of the answers is that it is read
pub some-read : (texts : List (List ℕ)) (known : List Read) → AreRead texts known → texts ≢ [] → HasReadPattern known
some-read [] known h n = absurd (n refl)
some-read (t ∷ ts) known h n = (t, h.0)

-- ---- the patterns of pairs

-- pairs that are left hold a `-re` pattern only where all of them do
abbrev pub Hold : List Pair → List Pair → Type 0
Hold pairs left = regexes_in left ≢ [] → regexes_in pairs ≢ []

-- ---- regexp

pub regexp-of : (args : List (List ℕ)) (m : Search) (s : State) (k : Then) → Ok m ≡ regexp_words args → do_regexp args s k ≡ match_text m s k
unfolding do_regexp
regexp-of args m s k e = ap (λ r. on_words r s k (λ x. match_text x s k)) (sym e)

-- the pattern of a search is the only one that it asks for
pub as-patterns : (text : List ℕ) (s : State) (k : Then) (f : State → Play Ending) → with_pattern text s k f ≡ with_patterns (text ∷ []) s k f
unfolding with_patterns
as-patterns text s k f = refl

module _ (args : List (List ℕ)) (m : Search) (e : Ok m ≡ regexp_words args) (s : State) (k : Then) where
  -- what is done with the pattern, once it is known to be read
  abbrev found_in : State → Play Ending
  found_in t = write_found m (regex_match m.pattern m.text) t k

  pub regexp-asks : (q : Question) → Knows (m.pattern ∷ []) s (Unasked q) → do_regexp args s k ≡ Asks (plain q) (λ a. do_regexp args (learn q a s) k)
  regexp-asks q h =
      regexp-of args m s k e ∙ as-patterns m.pattern s k found_in ∙ h.0 k found_in
      ∙ ap (Asks (plain q)) (λ i a. sym (regexp-of args m (learn q a s) k e ∙ as-patterns m.pattern (learn q a s) k found_in) i)

  pub regexp-unread : Knows (m.pattern ∷ []) s OneUnread → do_regexp args s k ≡ fail cannot_compile s k
  regexp-unread h = regexp-of args m s k e ∙ as-patterns m.pattern s k found_in ∙ h k found_in

  pub regexp-read : AreRead (m.pattern ∷ []) s.known → do_regexp args s k ≡ found_in s
  regexp-read h = regexp-of args m s k e ∙ as-patterns m.pattern s k found_in ∙ patterns-read (m.pattern ∷ []) s k found_in h

-- `regexp` has come to what it means, and asked nothing
pub regexp-runs : (args : List (List ℕ)) (play : Play Ending) (old new : Machine) (p : Pace) (v : ℕ) → Goes play old.state.known v new p
    → do_regexp args old.state (all_back old.stack) ≡ play → v ≤ weight_of old + 2 ^ 250 → RunsAs (do_regexp args) command_weight old new p
regexp-runs args play old new p v h e l =
    Goes-runs p play (do_regexp args old.state (all_back old.stack)) (λ s. do_regexp args s (all_back old.stack)) old.state.known v old new h e refl l

-- of two built patterns that are the same
pub same-regex : (a b : List ℕ) → RegexOf a ≡ RegexOf b → a ≡ b
same-regex a b h = ap (λ p. elim p as (λ _. List ℕ) [ GlobOf x ↦ a | ExactOf x ↦ a | RegexOf x ↦ x ]) h
