use Rattle.std.proofs.Common.{◌∙◌, sym}
use Rattle.dg_eval.proofs.JobLemmas.{memory-along, running-along, standing-along}
use Rattle.dg_eval.proofs.job.Job.advance_along.Goals as goal

pub returns-in-Ok : goal.returns-in-Ok
returns-in-Ok g c =
    running-along _ _ c.self.inside.test c.self.inside.stage c.replace.new.dest c.self.inside.steps c.args.self.now c.arrive.new.self c.in-Running.evaluation
    c.in-Ok.arrival c.arrive.result (sym c.replace.ensures.value ∙ c.in-Running.is) c.replace.ensures.after c.self.view_is c.self.invariant c.in-Ok.ensures c.arrive.ensures

pub returns-in-Err : goal.returns-in-Err
returns-in-Err g c =
    memory-along _ _ c.self.inside.test c.self.inside.stage c.replace.new.dest c.self.inside.steps c.args.self.now c.in-Running.evaluation
    (sym c.replace.ensures.value ∙ c.in-Running.is) c.replace.ensures.after c.self.view_is

pub returns-in_default : goal.returns-in_default
returns-in_default g c =
    standing-along _ _ c.self.inside.test c.self.inside.stage c.set.new.self c.self.inside.steps c.args.self.now c.advance.new.self c.advance.result
    (λ e h. c.in_default.not-Running e (c.replace.ensures.value ∙ h)) (c.set.ensures ∙ c.replace.ensures.value) c.self.view_is c.advance.ensures
