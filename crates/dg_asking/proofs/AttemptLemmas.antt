-- What comes of a command that evaluates nothing inside.
use Rattle.std.proofs.Common.{◌≡◌, ℕ, List, ap, sym, ◌∙◌, refl, subst}
use Rattle.std.specs.Prelude.{None, Result, IfOk}
use Rattle.std.proofs.lemmas.Result.{IfOk-weaker}
use Rattle.dg_language.specs.Play.{Play}
use Rattle.dg_language.specs.State.{State}
use Rattle.dg_language.specs.Evaluation.{Ending, Then, fail, wrong_count}
use Rattle.dg_language.specs.Variables.{touch}
use Rattle.dg_asking.specs.declared.attempt.AttemptEnd.{AttemptEnd}
use Rattle.dg_asking.specs.declared.attempt.AttemptEnd.TheVariants.{Value, Fails, TooLong}
use Rattle.dg_asking.specs.declared.attempt.Attempt.{Attempt}
use Rattle.dg_asking.specs.Attempts.{Attempts, EndsAs, SpendsNothing, Precedes, touched}

-- a state keeps what it has itself, and what another keeps that keeps it
pub kept : (s : State) → SpendsNothing s s
kept s = (refl, refl, refl)

pub keeps-on : (a b c : State) → SpendsNothing a b → SpendsNothing b c → SpendsNothing a c
keeps-on a b c h g = (g.0 ∙ h.0, g.1 ∙ h.1, g.2 ∙ h.2)

-- what comes of a command that is another one
pub attempts-as : (f g : State → Then → Play Ending) (old new : State) (a : Attempt) → Attempts g old new a → f ≡ g → Attempts f old new a
attempts-as f g old new a h e = subst (λ x. Attempts x old new a) (sym e) h

pub ends-as : (f g : State → Then → Play Ending) (old new : State) (o : AttemptEnd) → EndsAs g old new o → f ≡ g → EndsAs f old new o
ends-as f g old new o h e = subst (λ x. EndsAs x old new o) (sym e) h

-- an error
pub said : (why message : List ℕ) (s : State) → message ≡ why → EndsAs (fail why) s s (Fails message)
said why message s e = ((λ k. ap (λ m. fail m s k) (sym e)), kept s)

-- a command whose arguments are miscounted
pub miscounts : {E : Type 0} (r : Result Attempt E) (f : State → Then → Play Ending) (name : List ℕ) (s : State)
    → IfOk r (λ a. (t : State) → Attempts (fail (wrong_count name)) t t a) → f ≡ fail (wrong_count name) → IfOk r (Attempts f s s)
miscounts r f name s h e = IfOk-weaker r _ _ (λ a g. attempts-as f (fail (wrong_count name)) s s a (g s) e) h

-- how a command ends that goes on as another one from a state that keeps what is left
pub ends-on : (f g : State → Then → Play Ending) (old mid new : State) (o : AttemptEnd) → ((k : Then) → f old k ≡ g mid k) → SpendsNothing old mid
    → EndsAs g mid new o → EndsAs f old new o
ends-on f g old mid new (Value v) e keeps h = ((λ k. e k ∙ h.0 k), keeps-on old mid new keeps h.1)
ends-on f g old mid new (Fails message) e keeps h = ((λ k. e k ∙ h.0 k), keeps-on old mid new keeps h.1)
ends-on f g old mid new TooLong e keeps h = ((λ k. e k ∙ h.0 k), keeps-on old mid new keeps h.1)

-- what follows where a variable can be used
pub used-ends : (n : List ℕ) (f : State → Then → Play Ending) (old mid new : State) (o : AttemptEnd) → Precedes (touched n) old mid None
    → EndsAs f mid new o → EndsAs (λ s k. touch n s (λ t. f t k)) old new o
used-ends n f old mid new o h g = ends-on (λ s k. touch n s (λ t. f t k)) f old mid new o (λ k. h.0 (λ t. f t k) k) h.1 g
