-- An evaluation that looks at what comes after it is grafted on no tree.
use Rattle.std.proofs.Common.{◌≡◌, ℕ, [], ap, arith}
use Rattle.dg_world.specs.declared.question.Question.TheVariants.{Tool}
use Rattle.dg_world.specs.declared.question.Answer.{Answer}
use Rattle.dg_language.specs.declared.ask.Ask.{Ask}
use Rattle.dg_language.specs.declared.close.Close.TheVariants.{Finished}
use Rattle.dg_language.specs.Play.{Play, Ends, Asks, plain}
use Rattle.dg_language.specs.State.{State}
use Rattle.dg_language.specs.Evaluation.{Ending, Then}
use Rattle.dg_laws.specs.Grafting.{Conclusion, Completes, Stops, graft, Grafted}
use Rattle.dg_laws.specs.Law.{peek}

-- some end, and some question
an_ending : ℕ → Ending
an_ending n = record { verdict = []; close = Finished; board_steps = 0; steps = n }

ends : ℕ → Then
ends n c v s = Ends (an_ending n)

asks : Then
asks c v s = Asks (plain Tool) (λ a. Ends (an_ending 0))

end_or : Ending → Play Ending → Ending
end_or other (Ends e) = e
end_or other (Asks ask f) = other

end-no-question : (e : Ending) (q : Ask) (f : Answer → Play Ending) → Ends e ≡ Asks q f → ⊥
end-no-question e q f h = cc

-- a peek asks nothing, and ends as what comes after it ends, so it is no tree of its own
no_peek : (s : State) (p : Play Conclusion) → ((k : Then) → peek s k ≡ graft p k) → ⊥
unfolding an_ending ends asks end_or
no_peek s (Ends (Completes c v t)) grows = end-no-question _ (plain Tool) _ (grows asks)
no_peek s (Ends (Stops e)) grows =
    let first : ◌≡◌ {A = ℕ} 0 e.steps = ap (λ p. (end_or (an_ending 0) p).steps) (grows (ends 0)) in
    let second : ◌≡◌ {A = ℕ} 1 e.steps = ap (λ p. (end_or (an_ending 0) p).steps) (grows (ends 1)) in
    omega (arith, first, second)
no_peek s (Asks ask f) grows = end-no-question (an_ending 0) ask _ (grows (ends 0))

pub peek-not-grafted : (s : State) → Grafted (peek s) → ⊥
peek-not-grafted s g = no_peek s g.alone g.grows
