-- What each move at the top keeps: words behind which no word is open are there, and an index stands in an index or in the word.
use Rattle.std.specs.Prelude.{◌≡◌, ◌≢◌, ℕ, List, [], ◌∷◌, ◌++◌, refl, Bool, true, false, nat_lt, ◌⊎◌}
use Rattle.std.proofs.Common.{subst, sym, ◌∙◌, inl, inr}
use Rattle.dg_words.specs.declared.kinds.Level.TheVariants as level
use Rattle.dg_lists.specs.declared.kinds.Context.{Context}
use Rattle.dg_words.specs.declared.kinds.Opener.{Opener}
use Rattle.dg_lists.specs.declared.kinds.Mode.{Mode}
use Rattle.dg_lists.specs.declared.kinds.Mode.TheVariants.{Start}
use Rattle.dg_lists.specs.declared.kinds.Effect.{Effect}
use Rattle.dg_lists.specs.declared.kinds.Effect.TheVariants as effect
use Rattle.dg_lists.specs.declared.kinds.Target.{Target}
use Rattle.dg_lists.specs.declared.kinds.Target.TheVariants as target
use Rattle.dg_lists.specs.declared.kinds.Transition.{Transition}
use Rattle.dg_words.specs.declared.word.Word.{Word}
use Rattle.dg_lists.specs.declared.fault.WordFault.{WordFault}
use Rattle.dg_lists.specs.Classes.{class_of}
use Rattle.dg_words.specs.Transitions.{transition}
use Rattle.dg_words.specs.Machine.{Draft, Stepped, Go, Over, Fails, State, context_of, end_word, has_room, opens, leaves, leaves_index, follow, follow_inside, perform, take_transition, level_in, step, fresh}
use Rattle.dg_words.proofs.Turning.{Flow, Flows, behind_word, ends_word, home, is_index, transition_flows}

-- what stands in an index, or in the word itself
abbrev pub Placed : Context → List Context → Type 0
Placed s is = is_index s ≡ false → is ≡ []

abbrev pub Stacked : List Context → Type 0
Stacked [] = Unit {0}
Stacked (s ∷ ss) = Placed s ss × Stacked ss

abbrev pub bottom : Opener → List Opener → Context
bottom o [] = context_of o
bottom o (p ∷ os) = bottom p os

abbrev pub Kept_in : List Opener → Mode → Draft → Type 0
Kept_in [] m d = Placed (home m) d.indices × Stacked d.indices × (behind_word m ≡ true → d.words ≢ [])
Kept_in (o ∷ os) m d = Placed (bottom o os) d.indices × Stacked d.indices × Unit {0}

abbrev pub Kept : State → Type 0
Kept s = Kept_in s.inner s.mode s.draft

abbrev pub Keeps : Stepped → Type 0
Keeps (Go s) = Kept s
Keeps (Over ws n) = ws ≢ []
Keeps (Fails f) = Unit {0}

some : (ws : List Word) (w : Word) → ws ++ w ∷ [] ≢ []
some [] w e = cc
some (v ∷ ws) w e = cc

word_indices : (is : List Context) (d : Draft) → (end_word is d).indices ≡ d.indices
word_indices [] d = refl
word_indices (i ∷ is) d = refl

effect_indices : (x : Effect) (d : Draft) → (perform x d).indices ≡ d.indices
effect_indices effect.Nothing d = refl
effect_indices (effect.Byte b) d = refl
effect_indices (effect.Code b) d = refl
effect_indices effect.Dollar d = refl
effect_indices effect.DollarColon d = refl
effect_indices effect.Close d = refl
effect_indices effect.Global d = refl
effect_indices effect.Value d = refl
effect_indices effect.Expand d = refl
effect_indices effect.Word d = word_indices d.indices d

word_words : (is : List Context) (d : Draft) → d.words ≢ [] → (end_word is d).words ≢ []
word_words [] d h = some d.words _
word_words (i ∷ is) d h = h

effect_words : (x : Effect) (d : Draft) → d.words ≢ [] → (perform x d).words ≢ []
effect_words effect.Nothing d h = h
effect_words (effect.Byte b) d h = h
effect_words (effect.Code b) d h = h
effect_words effect.Dollar d h = h
effect_words effect.DollarColon d h = h
effect_words effect.Close d h = h
effect_words effect.Global d h = h
effect_words effect.Value d h = h
effect_words effect.Expand d h = h
effect_words effect.Word d h = word_words d.indices d h

word_adds : (is : List Context) (d : Draft) → is ≡ [] → (end_word is d).words ≢ []
word_adds [] d h = some d.words _
word_adds (i ∷ is) d h = absurd cc

word_effect : (x : Effect) (d : Draft) → ends_word x ≡ true → d.indices ≡ [] → (perform x d).words ≢ []
word_effect effect.Word d e h = word_adds d.indices d h
word_effect x d e h = absurd cc

opens_keeps : (b : Bool) (f : WordFault) (s : State) → Kept s → Keeps (opens b f s)
opens_keeps true f s h = h
opens_keeps false f s h = tt

to_false : (a b : Bool) → (a ≡ true → b ≡ true) → b ≡ false → a ≡ false
to_false true true h e = e
to_false true false h e = absurd (let x = h refl in cc)
to_false false b h e = refl

leave_keeps : (is : List Context) (n : ℕ) (d : Draft) → d.indices ≡ is → Stacked is → Keeps (leaves_index is n d)
leave_keeps [] n d e h = (λ x. e, subst Stacked (sym e) tt, λ x. absurd cc)
leave_keeps (i ∷ is) n d e h = (h.0, h.1, λ x. absurd cc)

-- words: behind the item there are words, or the effect made one
follow_keeps : (h : Context) (w e : Bool) (x : Target) (n : ℕ) (d : Draft) → Flow h w e x → Placed h d.indices → Stacked d.indices → ((w ≡ true) ⊎ (e ≡ true) → d.words ≢ []) → Keeps (follow x n d)
follow_keeps h w e (target.To m) n d f p s k = (λ y. p (to_false (is_index h) (is_index (home m)) f.0 y), s, λ y. k (f.1 y))
follow_keeps h w e target.Deeper n d f p s k = (λ y. p f, s, λ y. absurd cc)
follow_keeps h w e target.Shallower n d f p s k = (λ y. p f, s, λ y. absurd cc)
follow_keeps h w e (target.Bracket i) n d f p s k = opens_keeps (has_room d []) _ _ (λ y. p (to_false (is_index h) (is_index i) f y), s, tt)
follow_keeps h w e (target.Paren i) n d f p s k = opens_keeps (has_room d []) _ _ (λ y. absurd cc, (λ y. p (to_false (is_index h) (is_index i) f y), s), λ y. absurd cc)
follow_keeps h w e target.Leave n d f p s k = leave_keeps d.indices n d refl s
follow_keeps h w e target.End n d f p s k = k f
follow_keeps h w e target.Rest n d f p s k = k f
follow_keeps h w e (target.Bad g) n d f p s k = tt

leaves_keeps : (o : Opener) (os : List Opener) (n : ℕ) (d : Draft) (b : ℕ) → Placed (bottom o os) d.indices → Stacked d.indices → Keeps (leaves (o ∷ os) n d b)
leaves_keeps o [] n d b p s = (p, s, λ y. absurd cc)
leaves_keeps o (q ∷ os) n d b p s = (p, s, tt)

inside_keeps : (x : Target) (n : ℕ) (o : Opener) (os : List Opener) (d : Draft) (b : ℕ) → Placed (bottom o os) d.indices → Stacked d.indices → Keeps (follow_inside x n (o ∷ os) d b)
inside_keeps (target.To m) n o os d b p s = (p, s, tt)
inside_keeps target.Deeper n o os d b p s = (p, s, tt)
inside_keeps target.Shallower n o os d b p s = (p, s, tt)
inside_keeps (target.Bracket i) n o os d b p s = opens_keeps (has_room d (o ∷ os)) _ _ (p, s, tt)
inside_keeps (target.Paren i) n o os d b p s = opens_keeps (has_room d (o ∷ os)) _ _ (p, s, tt)
inside_keeps target.Leave n o os d b p s = leaves_keeps o os n d b p s
inside_keeps target.End n o os d b p s = (p, s, tt)
inside_keeps target.Rest n o os d b p s = (p, s, tt)
inside_keeps (target.Bad g) n o os d b p s = tt

behind_effects : (h : Context) (w : Bool) (t : Transition) (d : Draft) → Flows h w t → Placed h d.indices → (w ≡ true → d.words ≢ []) → (w ≡ true) ⊎ (ends_word t.second ≡ true) →
    (perform t.second (perform t.first d)).words ≢ []
behind_effects h w t d f p k (inl e) = effect_words t.second (perform t.first d) (effect_words t.first d (k e))
behind_effects h w t d f p k (inr e) = word_effect t.second (perform t.first d) e (effect_indices t.first d ∙ p (f.1 e))

transition_keeps : (m : Mode) (os : List Opener) (t : Transition) (n : ℕ) (d : Draft) (b : ℕ) → (os ≡ [] → Flows (home m) (behind_word m) t) → Kept_in os m d → Keeps (take_transition t n os d b)
transition_keeps m [] t n d b f k =
    let same : (perform t.second (perform t.first d)).indices ≡ d.indices = effect_indices t.second (perform t.first d) ∙ effect_indices t.first d in
    follow_keeps (home m) (behind_word m) (ends_word t.second) t.next n (perform t.second (perform t.first d)) (f refl).0
    (subst (Placed (home m)) (sym same) k.0) (subst Stacked (sym same) k.1) (behind_effects (home m) (behind_word m) t d (f refl) k.0 k.2)
transition_keeps m (o ∷ os) t n d b f k = inside_keeps t.next n o os d b k.0 k.1

level_top : (deep : Bool) (m : Mode) (os : List Opener) (b : ℕ) → os ≡ [] → Flows (home m) (behind_word m) (transition (level_in level.Top os) deep m (class_of b) b)
level_top deep m [] b e = transition_flows deep m (class_of b) b
level_top deep m (o ∷ os) b e = absurd cc

pub step_keeps : (s : State) (b : ℕ) → Kept s → Keeps (step level.Top s b)
unfolding step
step_keeps s b k = transition_keeps s.mode s.inner (transition (level_in level.Top s.inner) (nat_lt 0 s.depth) s.mode (class_of b) b) s.depth s.draft b (level_top (nat_lt 0 s.depth) s.mode s.inner b) k

pub fresh_kept : Kept (fresh Start)
fresh_kept = (λ e. refl, tt, λ e. absurd cc)
