-- The rounds of a loop over values, and what is caught.
use Rattle.std.proofs.Common.{◌≡◌, ◌≢◌, ℕ, suc, zero, ◌+◌, ◌-◌, ◌*◌, ◌^◌, ◌<◌, ◌≤◌, ◌⊎◌, inl, inr, List, [], ◌∷◌, get_or, drop, length, ap, sym, refl, ◌∙◌, arith}
use Rattle.std.proofs.lemmas.List.{drop_more, drop_all}
use Rattle.std.specs.Prelude.{Some, Ok, codes}
use Rattle.dg_language.specs.declared.ask.Ask.{Ask}
use Rattle.dg_world.specs.declared.question.Read.{Read}
use Rattle.dg_language.specs.declared.code.Code.{Code}
use Rattle.dg_language.specs.declared.code.Code.TheVariants.{Done}
use Rattle.dg_language.specs.Play.{Play, Ends, Asks}
use Rattle.dg_language.specs.State.{State, assigned, learn, stepped, with_begun}
use Rattle.dg_language.specs.Evaluation.{Ending, Then, Nested, out_of_steps, tick, within, fail, list_in, loop_after}
use Rattle.dg_language.specs.Variables.{touch}
use Rattle.dg_language.specs.Control.{caught, digit_of, do_foreach, with_names, each, give_each, head_or_empty, behind_first}
use Rattle.dg_machine.specs.declared.frame.Frame.{Frame}
use Rattle.dg_machine.specs.declared.frame.Control.{Control}
use Rattle.dg_machine.specs.declared.frame.Control.TheVariants.{Go}
use Rattle.dg_machine.specs.declared.frame.Pace.{Pace}
use Rattle.dg_machine.specs.declared.machine.Machine.{Machine}
use Rattle.dg_machine.specs.Meaning.{weight, stack_weight, frame_weight, Goes, Comes}
use Rattle.dg_machine.proofs.MachineLemmas.{tick-step, tick-none, Goes-along, Goes-comes}

-- no value is left
pub each-done : (nested : Nested) (left : ℕ) (names : List (List ℕ)) (body : List ℕ) (values : List (List ℕ)) (s : State) (k : Then) → length values ≡ 0
    → each nested left names body values s k ≡ k Done [] s
unfolding each
each-done nested left names body [] s k h = refl
each-done nested left names body (v ∷ vs) s k h = absurd (omega arith)

each-zero : (nested : Nested) (names : List (List ℕ)) (body : List ℕ) (values : List (List ℕ)) (s : State) (k : Then) → 0 < length values
    → each nested 0 names body values s k ≡ Ends (out_of_steps s)
unfolding each
each-zero nested names body [] s k h = absurd (omega arith)
each-zero nested names body (v ∷ vs) s k h = refl

each-suc : (nested : Nested) (r : ℕ) (names : List (List ℕ)) (body : List ℕ) (values : List (List ℕ)) (s : State) (k : Then) → 0 < length values
    → each nested (suc r) names body values s k
    ≡ tick s (λ s'. give_each names values s' (λ vs t. nested body t (loop_after (λ u. each nested r names body vs u k) k)))
unfolding each
each-suc nested r names body [] s k h = absurd (omega arith)
each-suc nested r names body (v ∷ vs) s k h = refl

-- no step is left
each-late : (nested : Nested) (left : ℕ) (names : List (List ℕ)) (body : List ℕ) (values : List (List ℕ)) (s : State) (k : Then) → 0 < length values
    → 100000 ≤ s.steps → each nested left names body values s k ≡ Ends (out_of_steps s)
each-late nested zero names body values s k h l = each-zero nested names body values s k h
each-late nested (suc r) names body values s k h l =
    each-suc nested r names body values s k h
    ∙ tick-none s (λ s'. give_each names values s' (λ vs t. nested body t (loop_after (λ u. each nested r names body vs u k) k))) l

-- no round is left, or no step
pub each-cut : (nested : Nested) (left : ℕ) (names : List (List ℕ)) (body : List ℕ) (values : List (List ℕ)) (s : State) (k : Then) → 0 < length values
    → (left ≡ 0) ⊎ (100000 ≤ s.steps) → each nested left names body values s k ≡ Ends (out_of_steps s)
each-cut nested left names body values s k h (inl e) = rw e (each-zero nested names body values s k h)
each-cut nested left names body values s k h (inr l) = each-late nested left names body values s k h l

-- a round begins
pub each-next : (nested : Nested) (left : ℕ) (names : List (List ℕ)) (body : List ℕ) (values : List (List ℕ)) (s : State) (k : Then) → 0 < length values
    → left ≢ 0 → s.steps < 100000
    → give_each names values (stepped s) (λ vs t. nested body t (loop_after (λ u. each nested (left - 1) names body vs u k) k))
    ≡ each nested left names body values s k
each-next nested zero names body values s k h n l = absurd (n refl)
each-next nested (suc r) names body values s k h n l =
    let e : suc r - 1 ≡ r = omega arith in
    rw e
    (sym
    (each-suc nested r names body values s k h
    ∙ tick-step s (λ s'. give_each names values s' (λ vs t. nested body t (loop_after (λ u. each nested r names body vs u k) k))) l))

-- all names have their values
pub give-done : (names : List (List ℕ)) (i : ℕ) (values : List (List ℕ)) (s : State) (f : List (List ℕ) → State → Play Ending) → length names ≤ i
    → give_each (drop i names) values s f ≡ f values s
unfolding give_each
give-done names i values s f l = rw (drop_all i names l) refl

give-at : (names : List (List ℕ)) (i : ℕ) (n : List ℕ) (values : List (List ℕ)) (s : State) (f : List (List ℕ) → State → Play Ending) → i < length names
    → n ≡ get_or names i []
    → give_each (drop i names) values s f
    ≡ touch n s (λ s'. within (length (head_or_empty values)) s' (give_each (drop (i + 1) names) (behind_first values) (assigned n (head_or_empty values) s') f))
unfolding give_each
give-at names i n values s f l e =
    ap (λ x. give_each x values s f) (drop_more names i [] l)
    ∙ ap
    (λ x. touch x s (λ s'. within (length (head_or_empty values)) s' (give_each (drop (i + 1) names) (behind_first values) (assigned x (head_or_empty values) s') f)))
    (sym e)

module _ (names : List (List ℕ)) (i : ℕ) (n : List ℕ) (l : i < length names) (e : n ≡ get_or names i []) (values : List (List ℕ))
    (f : List (List ℕ) → State → Play Ending) (s : State) where
  -- the name's variable asks first
  pub give-asks : (q : Ask) → ((k : State → Play Ending) → touch n s k ≡ Asks q (λ a. touch n (learn q.question a s) k))
      → give_each (drop i names) values s f ≡ Asks q (λ a. give_each (drop i names) values (learn q.question a s) f)
  give-asks q h =
      give-at names i n values s f l e
      ∙ h (λ s'. within (length (head_or_empty values)) s' (give_each (drop (i + 1) names) (behind_first values) (assigned n (head_or_empty values) s') f))
      ∙ ap (Asks q) (λ j a. sym (give-at names i n values (learn q.question a s) f l e) j)

  -- the name's variable ends all
  pub give-over : (p : Play Ending) → ((k : State → Play Ending) → touch n s k ≡ p) → give_each (drop i names) values s f ≡ p
  give-over p h =
      give-at names i n values s f l e
      ∙ h (λ s'. within (length (head_or_empty values)) s' (give_each (drop (i + 1) names) (behind_first values) (assigned n (head_or_empty values) s') f))

  -- the name's variable can be used
  pub give-ready : (s' : State) → ((k : State → Play Ending) → touch n s k ≡ k s')
      → give_each (drop i names) values s f
      ≡ within (length (head_or_empty values)) s' (give_each (drop (i + 1) names) (behind_first values) (assigned n (head_or_empty values) s') f)
  give-ready s' h =
      give-at names i n values s f l e
      ∙ h (λ s'. within (length (head_or_empty values)) s' (give_each (drop (i + 1) names) (behind_first values) (assigned n (head_or_empty values) s') f))

module _ (n : List ℕ) (k : Then) (c : Code) (v : List ℕ) (s : State) where
  -- the name's variable asks first
  pub caught-asks : (q : Ask) → ((f : State → Play Ending) → touch n s f ≡ Asks q (λ a. touch n (learn q.question a s) f))
      → caught (Some n) k c v s ≡ Asks q (λ a. caught (Some n) k c v (learn q.question a s))
  unfolding caught
  caught-asks q h = h (λ s'. within (length v) s' (k Done (digit_of c) (assigned n v s')))

-- a loop without names
pub foreach-empty : (nested : Nested) (args : List (List ℕ)) (s : State) (k : Then) (n v body : List ℕ) → args ≡ n ∷ v ∷ body ∷ [] → list_in n ≡ Ok []
    → do_foreach nested args s k ≡ fail (codes "foreach varlist is empty") s k
unfolding do_foreach
foreach-empty nested args s k n v body e h = rw e (ap (λ r. with_names nested r v body s k) h)

-- and for a round of so many names
pub weight-round : (s : State) (fs : List Frame) (n : ℕ) → s.steps < 100000 → n < 2 ^ 64 → weight Go (stepped s) fs + 9 + 4 * (n - 0) ≤ weight Go s fs + 5
unfolding weight stepped
weight-round s fs n h g = omega arith

pub weight-assigned : (n v : List ℕ) (s : State) (f : Frame) (fs : List Frame) → weight Go (assigned n v s) (f ∷ fs) ≡ weight Go s fs + frame_weight f
unfolding weight stack_weight assigned
weight-assigned n v s f fs = omega arith

pub weight-given : (n v : List ℕ) (s : State) (fs : List Frame) → weight Go (assigned n v s) fs ≡ weight Go s fs
unfolding weight assigned
weight-given n v s fs = refl

pub known-assigned : (n v : List ℕ) (s : State) → (assigned n v s).known ≡ s.known
unfolding assigned
known-assigned n v s = refl

-- what readies a variable weighs nothing
pub weight-readied : (s s' : State) (c : Control) (fs : List Frame) → s' ≡ with_begun s s' → weight c s' fs ≡ weight c s fs
unfolding weight
weight-readied s s' c fs e = ap (λ (t : State). weight c t fs) e

-- what goes on from here goes on from an equal meaning with more weight
pub Goes-on : (p : Pace) (play play' : Play Ending) (known known' : List Read) (w w' : ℕ) (m : Machine) → Goes play known w m p
    → play' ≡ play → known ≡ known' → w ≤ w' → Comes play' known' w' m p
Goes-on p play play' known known' w w' m h e f l =
    let same : w ≤ w = omega arith in
    Goes-comes p play play' known' w w' m (Goes-along p play play known known' w w m h refl f same) e l
