-- Reading goes on by one byte.
use Rattle.std.specs.Prelude.{◌≡◌, ℕ, ◌+◌, ◌≤◌, ◌<◌, List, [], ◌∷◌, length, drop, get_or, Result, Bool, true, false, nat_lt}
use Rattle.std.proofs.Common.{◌∙◌, ap, arith, subst}
use Rattle.std.proofs.lemmas.List.{at_drop_more, at_drop_all}
use Rattle.dg_lists.specs.declared.fault.WordFault.{WordFault}
use Rattle.dg_words.specs.declared.kinds.Level.{Level}
use Rattle.dg_lists.specs.declared.kinds.Target.{Target}
use Rattle.dg_lists.specs.declared.kinds.Target.TheVariants as target
use Rattle.dg_words.specs.declared.kinds.Opener.{Opener}
use Rattle.dg_lists.specs.declared.kinds.Context.{Context}
use Rattle.dg_lists.specs.declared.kinds.Transition.{Transition}
use Rattle.dg_words.specs.declared.word.Word.{Word}
use Rattle.dg_lists.specs.Classes.{class_of}
use Rattle.dg_words.specs.Transitions.{transition}
use Rattle.dg_words.specs.Machine.{Draft, Stepped, Go, Over, Fails, State, onward, stopped, step, stop, read, follow, follow_inside, has_room, opens, leaves, leaves_index, take_transition, level_in, perform}

pub reads_on : (l : Level) (text : List ℕ) (s : State) (p : ℕ) → p < length text →
    read l (drop p text) s p ≡ onward (step l s (get_or text p 0)) p (λ n. read l (drop (p + 1) text) n (p + 1))
unfolding read
reads_on l text s p lt = at_drop_more (λ xs. read l xs s p) text p 0 lt

pub reads_move : (l : Level) (text : List ℕ) (s : State) (p : ℕ) (m : Stepped) → p < length text → step l s (get_or text p 0) ≡ m →
    read l (drop p text) s p ≡ onward m p (λ n. read l (drop (p + 1) text) n (p + 1))
reads_move l text s p m lt e = reads_on l text s p lt ∙ ap (λ t. onward t p (λ n. read l (drop (p + 1) text) n (p + 1))) e

pub reads_stop : (l : Level) (text : List ℕ) (s : State) (p : ℕ) (r : Result (List Word) WordFault) → length text ≤ p → stop s ≡ r → read l (drop p text) s p ≡ stopped r p
unfolding read
reads_stop l text s p r le e = at_drop_all (λ xs. read l xs s p) text p le ∙ ap (λ x. stopped x p) e

-- a byte opens at most one brace more, and ends at most with itself
abbrev pub Falls : ℕ → Stepped → Type 0
Falls n (Go s) = s.depth ≤ n + 1
Falls n (Over words k) = k ≤ 1
Falls n (Fails f) = Unit {0}

opens_falls : (n : ℕ) (b : Bool) (f : WordFault) (s : State) → s.depth ≤ n + 1 → Falls n (opens b f s)
opens_falls n true f s h = h
opens_falls n false f s h = tt

index_falls : (n : ℕ) (is : List Context) (d : Draft) → Falls n (leaves_index is n d)
index_falls n [] d = omega arith
index_falls n (i ∷ is) d = omega arith

follow_falls : (x : Target) (n : ℕ) (d : Draft) → Falls n (follow x n d)
follow_falls (target.To m) n d = omega arith
follow_falls target.Deeper n d = omega arith
follow_falls target.Shallower n d = omega arith
follow_falls (target.Bracket s) n d = opens_falls n (has_room d []) _ _ (omega arith)
follow_falls (target.Paren s) n d = opens_falls n (has_room d []) _ _ (omega arith)
follow_falls target.Leave n d = index_falls n d.indices d
follow_falls target.End n d = omega arith
follow_falls target.Rest n d = omega arith
follow_falls (target.Bad f) n d = tt

leaves_falls : (n : ℕ) (os : List Opener) (d : Draft) (b : ℕ) → Falls n (leaves os n d b)
leaves_falls n [] d b = omega arith
leaves_falls n (o ∷ []) d b = omega arith
leaves_falls n (o ∷ p ∷ os) d b = omega arith

inside_falls : (x : Target) (n : ℕ) (os : List Opener) (d : Draft) (b : ℕ) → Falls n (follow_inside x n os d b)
inside_falls (target.To m) n os d b = omega arith
inside_falls target.Deeper n os d b = omega arith
inside_falls target.Shallower n os d b = omega arith
inside_falls (target.Bracket s) n os d b = opens_falls n (has_room d os) _ _ (omega arith)
inside_falls (target.Paren s) n os d b = opens_falls n (has_room d os) _ _ (omega arith)
inside_falls target.Leave n os d b = leaves_falls n os d b
inside_falls target.End n os d b = omega arith
inside_falls target.Rest n os d b = omega arith
inside_falls (target.Bad f) n os d b = tt

transition_falls : (t : Transition) (n : ℕ) (os : List Opener) (d : Draft) (b : ℕ) → Falls n (take_transition t n os d b)
transition_falls t n [] d b = follow_falls t.next n (perform t.second (perform t.first d))
transition_falls t n (o ∷ os) d b = inside_falls t.next n (o ∷ os) d b

pub step_falls : (l : Level) (s : State) (b : ℕ) → Falls s.depth (step l s b)
unfolding step
step_falls l s b = transition_falls (transition (level_in l s.inner) (nat_lt 0 s.depth) s.mode (class_of b) b) s.depth s.inner s.draft b

pub step_depth : (l : Level) (s n : State) (b : ℕ) → step l s b ≡ Go n → n.depth ≤ s.depth + 1
step_depth l s n b e = subst (λ m. Falls s.depth m) e (step_falls l s b)
