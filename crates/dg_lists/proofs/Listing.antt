-- Reading of a list goes on by one byte.
use Rattle.std.specs.Prelude.{◌≡◌, ℕ, ◌+◌, ◌≤◌, ◌<◌, List, length, drop, get_or, refl, Ok, Err, Result, nat_lt}
use Rattle.std.proofs.Common.{◌∙◌, ap, arith, subst}
use Rattle.std.proofs.lemmas.List.{at_drop_more, at_drop_all}
use Rattle.dg_lists.specs.declared.fault.WordFault.{WordFault}
use Rattle.dg_lists.specs.declared.kinds.Effect.{Effect}
use Rattle.dg_lists.specs.declared.kinds.Effect.TheVariants as effect
use Rattle.dg_lists.specs.declared.kinds.Target.{Target}
use Rattle.dg_lists.specs.declared.kinds.Target.TheVariants as target
use Rattle.dg_lists.specs.declared.kinds.Transition.{Transition}
use Rattle.dg_lists.specs.Classes.{class_of}
use Rattle.dg_lists.specs.Elements.{Listing, list_effect, list_follow, list_onward, list_read, list_step, list_stop, list_stopped, list_transition}

pub list_on : (text : List ℕ) (s : Listing) (p : ℕ) → p < length text →
    list_read (drop p text) s p ≡ list_onward (list_step s (get_or text p 0)) p (λ n. list_read (drop (p + 1) text) n (p + 1))
unfolding list_read
list_on text s p lt = at_drop_more (λ xs. list_read xs s p) text p 0 lt

pub list_move : (text : List ℕ) (s : Listing) (p : ℕ) (r : Result Listing WordFault) → p < length text → list_step s (get_or text p 0) ≡ r →
    list_read (drop p text) s p ≡ list_onward r p (λ n. list_read (drop (p + 1) text) n (p + 1))
list_move text s p r lt e = list_on text s p lt ∙ ap (λ t. list_onward t p (λ n. list_read (drop (p + 1) text) n (p + 1))) e

pub list_halt : (text : List ℕ) (s : Listing) (p : ℕ) (r : Result (List (List ℕ)) WordFault) → length text ≤ p → list_stop s ≡ r → list_read (drop p text) s p ≡ list_stopped r p
unfolding list_read
list_halt text s p r le e = at_drop_all (λ xs. list_read xs s p) text p le ∙ ap (λ x. list_stopped x p) e

-- a byte opens at most one brace more
effect_depth : (d : Effect) (s : Listing) → (list_effect d s).depth ≡ s.depth
effect_depth (effect.Byte b) s = refl
effect_depth (effect.Code b) s = refl
effect_depth effect.Word s = refl
effect_depth d s = refl

abbrev Deep : ℕ → Result Listing WordFault → Type 0
Deep n (Ok s) = s.depth ≤ n + 1
Deep n (Err f) = Unit {0}

follow_deep : (x : Target) (s : Listing) → Deep s.depth (list_follow x s)
follow_deep (target.To m) s = omega arith
follow_deep target.Deeper s = omega arith
follow_deep target.Shallower s = omega arith
follow_deep (target.Bad f) s = tt
follow_deep x s = tt

step_deep : (s : Listing) (b : ℕ) → Deep s.depth (list_step s b)
unfolding list_step
step_deep s b =
    let t : Transition = list_transition (nat_lt 0 s.depth) s.mode (class_of b) b in
    subst (λ n. Deep n (list_step s b)) (effect_depth t.second (list_effect t.first s) ∙ effect_depth t.first s) (follow_deep t.next (list_effect t.second (list_effect t.first s)))

pub step_depth : (s n : Listing) (b : ℕ) → list_step s b ≡ Ok n → n.depth ≤ s.depth + 1
step_depth s n b e = subst (λ m. Deep s.depth m) e (step_deep s b)
