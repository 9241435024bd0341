-- What a fault at a byte says of that byte.
use Rattle.std.specs.Prelude.{◌≡◌, ℕ, List, [], ◌∷◌, Bool, true, false, nat_lt}
use Rattle.std.proofs.Common.{subst}
use Rattle.dg_lists.specs.declared.fault.WordFault.{WordFault}
use Rattle.dg_lists.specs.declared.fault.WordFault.TheVariants as fault
use Rattle.dg_lists.specs.declared.kinds.Class.{Class}
use Rattle.dg_lists.specs.declared.kinds.Class.TheVariants as class
use Rattle.dg_words.specs.declared.kinds.Level.{Level}
use Rattle.dg_lists.specs.declared.kinds.Target.{Target}
use Rattle.dg_words.specs.declared.kinds.Opener.{Opener}
use Rattle.dg_lists.specs.declared.kinds.Context.{Context}
use Rattle.dg_lists.specs.declared.kinds.Transition.{Transition}
use Rattle.dg_lists.specs.Classes.{class_of}
use Rattle.dg_words.specs.Transitions.{transition}
use Rattle.dg_words.specs.Machine.{Draft, Fails, Stepped, State, follow, follow_inside, has_room, leaves, leaves_index, level_in, opens, perform, step, take_transition}
use Rattle.dg_words.proofs.GrammarLemmas.Openings.{Going, going, context_in, IsOther}

abbrev pub IsAt : Class → WordFault → Type 0
IsAt c fault.MissingBracket = c ≡ class.LeftBracket
IsAt c fault.MissingParen = c ≡ class.LeftParen
IsAt c f = IsOther f

abbrev FailMove : Class → Stepped → Type 0
FailMove c (Fails f) = IsAt c f
FailMove c m = Unit {0}

other_at : (c : Class) (f : WordFault) → IsOther f → IsAt c f
other_at c fault.AfterBrace h = tt
other_at c fault.AfterQuote h = tt
other_at c fault.BadCodePoint h = tt
other_at c f h = absurd h

fail_opens : (c : Class) (x : Bool) (f : WordFault) (s : State) → IsAt c f → FailMove c (opens x f s)
fail_opens c true f s h = tt
fail_opens c false f s h = h

fail_index : (c : Class) (is : List Context) (n : ℕ) (d : Draft) → FailMove c (leaves_index is n d)
fail_index c [] n d = tt
fail_index c (s ∷ is) n d = tt

fail_leaves : (c : Class) (os : List Opener) (n b : ℕ) (d : Draft) → FailMove c (leaves os n d b)
fail_leaves c [] n b d = tt
fail_leaves c (o ∷ []) n b d = tt
fail_leaves c (o ∷ p ∷ os) n b d = tt

fail_follow : (s : Context) (c : Class) (x : Target) (n : ℕ) (d : Draft) → Going s c x → FailMove c (follow x n d)
fail_follow s c x n d (Going.stays e) = tt
fail_follow s c x n d (Going.words i j f) = tt
fail_follow s c x n d (Going.deeper e) = tt
fail_follow s c x n d (Going.shallower e) = tt
fail_follow s c x n d (Going.bracket e) = fail_opens c (has_room d []) fault.MissingBracket _ e
fail_follow s c x n d (Going.paren e) = fail_opens c (has_room d []) fault.MissingParen _ e
fail_follow s c x n d (Going.ends_index i e) = fail_index c d.indices n d
fail_follow s c x n d (Going.ends_bracket i e) = fail_index c d.indices n d
fail_follow s c x n d (Going.ends_command e) = tt
fail_follow s c x n d (Going.rests i f) = tt
fail_follow s c x n d (Going.fails {f = f} h) = other_at c f h

fail_inside : (s : Context) (c : Class) (x : Target) (n : ℕ) (os : List Opener) (d : Draft) (b : ℕ) → Going s c x → FailMove c (follow_inside x n os d b)
fail_inside s c x n os d b (Going.stays e) = tt
fail_inside s c x n os d b (Going.words i j f) = tt
fail_inside s c x n os d b (Going.deeper e) = tt
fail_inside s c x n os d b (Going.shallower e) = tt
fail_inside s c x n os d b (Going.bracket e) = fail_opens c (has_room d os) fault.MissingBracket _ e
fail_inside s c x n os d b (Going.paren e) = fail_opens c (has_room d os) fault.MissingParen _ e
fail_inside s c x n os d b (Going.ends_index i e) = fail_leaves c os n b d
fail_inside s c x n os d b (Going.ends_bracket i e) = fail_leaves c os n b d
fail_inside s c x n os d b (Going.ends_command e) = tt
fail_inside s c x n os d b (Going.rests i f) = tt
fail_inside s c x n os d b (Going.fails {f = f} h) = other_at c f h

fail_take : (s : Context) (c : Class) (t : Transition) (n : ℕ) (os : List Opener) (d : Draft) (b : ℕ) → Going s c t.next → FailMove c (take_transition t n os d b)
fail_take s c t n [] d b g = fail_follow s c t.next n (perform t.second (perform t.first d)) g
fail_take s c t n (o ∷ os) d b g = fail_inside s c t.next n (o ∷ os) d b g

pub fail_step : (l : Level) (s : State) (b : ℕ) (f : WordFault) → step l s b ≡ Fails f → IsAt (class_of b) f
unfolding step
fail_step l s b f e =
    subst (FailMove (class_of b)) e
    (fail_take (context_in s.mode) (class_of b) (transition (level_in l s.inner) (nat_lt 0 s.depth) s.mode (class_of b) b) s.depth s.inner s.draft b (going (level_in l s.inner) (nat_lt 0 s.depth) s.mode (class_of b) b))
