-- The words and the limit of `expect`.
use Rattle.std.proofs.Common.{◌≡◌, ℕ, ◌+◌, ◌^◌, ◌<◌, ◌≤◌, List, ◌∷◌, length, refl, ap, sym, ◌∙◌, arith}
use Rattle.std.specs.Prelude.{ℤ, Option, option_map, Some, None, Result, Ok, Err, codes}
use Rattle.dg_words.specs.Reading.{words_of}
use Rattle.dg_lists.specs.declared.fault.WordFault.{WordFault}
use Rattle.dg_words.specs.declared.word.Word.{Word}
use Rattle.dg_expr.specs.Number.{number_of}
use Rattle.dg_scope.specs.Scopes.{value_of}
use Rattle.dg_sessions.specs.Phases.{is_open}
use Rattle.dg_world.specs.declared.question.Question.{Question}
use Rattle.dg_language.specs.declared.ask.Ask.{Ask}
use Rattle.dg_language.specs.declared.expect.Expectation.{Expectation}
use Rattle.dg_language.specs.declared.expect.Pair.{Pair}
use Rattle.dg_language.specs.declared.substitution.Purpose.TheVariants.{Expect}
use Rattle.dg_language.specs.Play.{Play, Asks, plain, lookup}
use Rattle.dg_language.specs.State.{State, learn, with_begun}
use Rattle.dg_language.specs.Evaluation.{Ending, Then, Nested, fail}
use Rattle.dg_language.specs.Variables.{touch}
use Rattle.dg_language.specs.Sessions.{on_session, on_words, seek, sought}
use Rattle.dg_language.specs.ExpectWords.{expect_words, listed}
use Rattle.dg_language.specs.Expecting.{do_expect, expect_args, expect_list, expect_with, milliseconds, or_ten, with_limit, with_number}
use Rattle.dg_language.specs.Language.{evaluate}
use Rattle.dg_asking.specs.declared.attempt.AttemptEnd.{AttemptEnd}
use Rattle.dg_asking.specs.declared.attempt.Attempt.TheVariants.{Ends as IsOver, Asks as NeedsAnswer}
use Rattle.dg_asking.specs.declared.seeking.Fit.TheVariants.{Open}
use Rattle.dg_asking.specs.Attempts.{EndsAs}
use Rattle.dg_asking.specs.Seeking.{Seeks}
use Rattle.dg_asking.proofs.AttemptLemmas.{ends-on, kept}
use Rattle.dg_machine.specs.declared.frame.Frame.{Frame}
use Rattle.dg_machine.specs.declared.frame.Frame.TheVariants.{Gathering}
use Rattle.dg_machine.specs.declared.frame.Control.TheVariants.{Go}
use Rattle.dg_machine.specs.declared.frame.Limiting.{Limiting}
use Rattle.dg_compiled.specs.declared.making.Making.{Making}
use Rattle.dg_compiled.specs.declared.word_lists.WordList.{WordList}
use Rattle.dg_compiled.proofs.WordParts.{words-made}
use Rattle.dg_compiled.specs.WordLists.{steps_for, word_list_in, words_on}
use Rattle.dg_machine.specs.declared.frame.Pace.{Pace}
use Rattle.dg_machine.specs.declared.machine.Machine.{Machine}
use Rattle.dg_machine.specs.Acting.{compiled_with, limiting}
use Rattle.dg_machine.specs.Meaning.{all_back, budget, stack_weight, weight, weight_of, Comes, Goes, Readies}
use Rattle.dg_machine.proofs.GatherLemmas.{weight-same}
use Rattle.dg_machine.proofs.LoopLemmas.{Goes-on}

-- what goes on once a variable is ready is what comes
pub ready-comes : (n : List ℕ) (f : State → Then → Play Ending) (w : ℕ) (old mid new : Machine) (p : Pace) → Readies n old mid None
    → Goes (f mid.state (all_back mid.stack)) mid.state.known (weight_of mid + w) new p
    → Comes (touch n old.state (λ t. f t (all_back old.stack))) old.state.known (weight_of old + w) new p
ready-comes n f w old mid new p h g =
    let stack = ap (λ (m : Machine). m.stack) h.1 in
    let control = ap (λ (m : Machine). m.control) h.1 in
    let state : mid.state ≡ with_begun old.state mid.state = ap (λ (m : Machine). m.state) h.1 in
    let same : weight_of mid ≡ weight_of old = weight-same mid.control old.control mid.state old.state mid.stack old.stack control state stack in
    let enough : weight_of mid + w ≤ weight_of old + w = omega arith in
    Goes-on p (f mid.state (all_back mid.stack)) (touch n old.state (λ t. f t (all_back old.stack))) mid.state.known old.state.known
    (weight_of mid + w) (weight_of old + w) new g
    (h.0 (λ t. f t (all_back old.stack)) ∙ ap (λ (fs : List Frame). f mid.state (all_back fs)) (sym stack))
    (ap (λ (m : Machine). m.state.known) h.1) enough

-- ---- the limit

-- what comes next, where the limit is this text
abbrev pub limited_by : Limiting → List ℕ → State → Then → Play Ending
limited_by l text s k = with_number text (number_of text) s k (λ limit. compiled_with l limit s k)

pub limit-known : (text : List ℕ) (o : Option ℤ) (s : State) (k : Then) (f : ℕ → Play Ending) (limit : ℕ) → Some limit ≡ option_map milliseconds o
    → with_number text o s k f ≡ f limit
limit-known text None s k f limit e = cc
limit-known text (Some z) s k f limit e = let same : limit ≡ milliseconds z = cc in rw same refl

module _ (l : Limiting) where
  pub limited : (text : List ℕ) (s : State) (k : Then) → l.timeout ≡ Some text → limiting l s k ≡ limited_by l text s k
  unfolding with_limit
  limited text s k e = ap (λ o. with_limit o s k (λ limit t. compiled_with l limit t k)) e

  pub unlimited : (s : State) (k : Then) → l.timeout ≡ None
      → limiting l s k
      ≡ touch (sought (codes "timeout") s) s (λ t. limited_by l (or_ten (value_of t.variables (sought (codes "timeout") s))) t k)
  unfolding with_limit seek
  unlimited s k e = ap (λ o. with_limit o s k (λ limit t. compiled_with l limit t k)) e

  pub limit-asks : (q : Ask) (s : State) (k : Then) → l.timeout ≡ None
      → ((f : State → Play Ending) → touch (sought (codes "timeout") s) s f ≡ Asks q (λ a. touch (sought (codes "timeout") s) (learn q.question a s) f))
      → limiting l s k ≡ Asks q (λ a. limiting l (learn q.question a s) k)
  unfolding learn
  limit-asks q s k e h =
      unlimited s k e ∙ h (λ t. limited_by l (or_ten (value_of t.variables (sought (codes "timeout") s))) t k)
      ∙ ap (Asks q) (λ i a. sym (unlimited (learn q.question a s) k e) i)

-- ---- the words

-- an `expect` whose words are read
abbrev pub of_words : Expectation → ℕ → ℕ → Limiting
of_words e session depth = record { timeout = e.timeout; session = session; pairs = e.pairs; depth = depth }

module _ (words : List (List ℕ)) (d : ℕ) (s : State) (k : Then) where
  pub expects : (e : Expectation) → Ok e ≡ expect_words None None words
      → expect_with (evaluate d) words s k ≡ on_session is_open e.id s k (λ n t. limiting (of_words e n d) t k)
  unfolding expect_with
  expects e h =
      ap
      (λ r. on_words r s k (λ x. on_session is_open x.id s k (λ n t. limiting (of_words x n d) t k)))
      (sym h)

  pub expects-not : (why : List ℕ) → Err why ≡ expect_words None None words → expect_with (evaluate d) words s k ≡ fail why s k
  unfolding expect_with
  expects-not why h =
      ap
      (λ r. on_words r s k (λ x. on_session is_open x.id s k (λ n t. limiting (of_words x n d) t k)))
      (sym h)

-- the same from its parts
abbrev pub whole : Option (List ℕ) × Option (List ℕ) × List Pair → Expectation
whole p = record { timeout = p.0; id = p.1; pairs = p.2 }

pub read-parts : (words : List (List ℕ)) (p : Option (List ℕ) × Option (List ℕ) × List Pair) (e : Expectation) → p ≡ (e.timeout, e.id, e.pairs)
    → Ok e ≡ expect_words None None words → Ok (whole p) ≡ expect_words None None words
read-parts words p e h r = ap (λ (q : Option (List ℕ) × Option (List ℕ) × List Pair). Ok (whole q)) h ∙ r

-- the session is found, a question stands, or `expect` has ended
module _ (words : List (List ℕ)) (d : ℕ) (e : Expectation) (read : Ok e ≡ expect_words None None words) (old mid : State) where
  -- what is done with the session
  abbrev with_session : ℕ → State → Then → Play Ending
  with_session n t k = limiting (of_words e n d) t k

  pub session-found : (n : ℕ) (k : Then) → Seeks Open e.id old mid (Ok n) → limiting (of_words e n d) mid k ≡ expect_with (evaluate d) words old k
  session-found n k h = sym (h.0 k (λ m t. with_session m t k)) ∙ sym (expects words d old k e read)

  pub session-asks : (q : Question) (k : Then) → Seeks Open e.id old mid (Err (NeedsAnswer q))
      → (expect_with (evaluate d) words old k ≡ Asks (plain q) (λ a. expect_with (evaluate d) words (learn q a mid) k)) × (mid ≡ with_begun old mid)
      × (lookup q old.known ≡ None)
  session-asks q k h =
      let asks = h with_session in (
        expects words d old k e read ∙ asks.0 k ∙ ap (Asks (plain q)) (λ i a. (sym (expects words d (learn q a mid) k e read)) i),
        asks.1,
        asks.2,
      )

  pub session-ends : (o : AttemptEnd) → Seeks Open e.id old mid (Err (IsOver o)) → EndsAs (expect_with (evaluate d) words) old mid o
  session-ends o h =
      ends-on (expect_with (evaluate d) words) (λ s k. on_session is_open e.id s k (λ n t. with_session n t k)) old old mid o
      (λ k. expects words d old k e read) (kept old) (h with_session)

module _ (nested : Nested) (args : List (List ℕ)) (s : State) (k : Then) where
  pub expect-given : None ≡ listed args → do_expect nested args s k ≡ expect_with nested args s k
  unfolding do_expect
  expect-given e = ap (λ o. expect_args nested o args s k) (sym e)

-- the steps that were read of a list come to what its words do
list-read : (r : Result (List Word) WordFault) (depth : ℕ) (s : State) (k : Then) → words_on (steps_for r) Expect depth s k ≡ expect_list (evaluate depth) r s k
list-read (Ok words) depth s k = words-made (evaluate depth) (expect_with (evaluate depth)) k words s
list-read (Err fault) depth s k = refl

pub expect-listed : (depth : ℕ) (args : List (List ℕ)) (s : State) (k : Then) (text : List ℕ) (list : WordList) → Some text ≡ listed args → list ≡ word_list_in text
    → do_expect (evaluate depth) args s k ≡ words_on list Expect depth s k
unfolding do_expect
expect-listed depth args s k text list e h =
    ap (λ o. expect_args (evaluate depth) o args s k) (sym e)
    ∙ sym (list-read (words_of text) depth s k)
    ∙ ap (λ l. words_on l Expect depth s k) (sym h)

-- the frame that makes the words of `expect`
pub weight-expecting : (s : State) (m : Making) (d : ℕ) (fs : List Frame) → m.purpose ≡ Expect → length m.left < 2 ^ 64
    → weight Go s (Gathering m d ∷ fs) < weight Go s fs + 2 ^ 249
unfolding weight stack_weight budget
weight-expecting s m d fs e l = let b : budget m.purpose ≡ 2 ^ 200 = ap budget e in omega arith
