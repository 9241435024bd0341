-- A history that goes one call further, and what a legal history is.
use Rattle.std.proofs.Common.{◌≡◌, inl, ℕ, List, [], ◌∷◌, ◌++◌, refl, subst, map}
use Rattle.std.specs.Prelude.{Some}
use Rattle.dg_core.specs.Core.{CoreView, new_core}
use Rattle.dg_core.specs.Scratch.{scratch}
use Rattle.dg_core.specs.Events.{Happens, Runs}
use Rattle.dg_core.specs.declared.reply.Reply.TheVariants.{Sum}
use Rattle.dg_bench.specs.declared.call.Call.{Call}
use Rattle.dg_bench.specs.declared.call.Call.TheVariants.{Edit, Ask, Commit, Live, Report}
use Rattle.dg_bench.specs.History.{Steps, Makes, IsLegal, event_of}

pub makes_next : (old : CoreView) (calls : List Call) (mid new : CoreView) (call : Call) → Makes old calls mid → Steps mid call new → Makes old (calls ++ call ∷ []) new
makes_next old [] mid new call made step = (new, subst (λ c. Steps c call new) made step, refl)
makes_next old (d ∷ ds) mid new call made step = (made.0, made.1, makes_next made.0 ds mid new call made.2 step)

happens : (old new : CoreView) (call : Call) → Steps old call new → Happens old (event_of call) new
happens old new (Edit edit) step = inl step
happens old new (Ask question answer) step = inl (answer, step.1)
happens old new (Commit r) step = (step.0, inl step.1)
happens old new (Live r sessions) step = (step.0, inl step.1)
happens old new (Report reply) step = step.0

pub runs : (old : CoreView) (calls : List Call) (new : CoreView) → Makes old calls new → Runs old (map event_of calls) new
runs old [] new made = made
runs old (call ∷ calls) new made = (made.0, happens old made.0 call made.1, runs made.0 calls new made.2)

-- the calls before a place and those from there on
makes_split : (old : CoreView) (before after : List Call) (new : CoreView) → Makes old (before ++ after) new → (mid : CoreView) × Makes old before mid × Makes mid after new
makes_split old [] after new made = (old, refl, made)
makes_split old (call ∷ before) after new made =
    let rest = makes_split made.0 before after new made.2 in
    (rest.0, (made.0, made.1, rest.1), rest.2)

pub sum-scratch : (before after : List Call) (bytes : List ℕ) (status : ℕ) → IsLegal (before ++ Report (Sum bytes status) ∷ after)
    → (core : CoreView) × Makes new_core before core × (scratch core.world ≡ Some (bytes, status))
sum-scratch before after bytes status legal =
    let s = makes_split new_core before (Report (Sum bytes status) ∷ after) legal.0 legal.1 in
    (s.0, s.1, s.2.1.1.1)
