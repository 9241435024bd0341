use Rattle.std.proofs.Common.{◌++◌, ◌∙◌, ap, List, [], ◌∷◌, refl, rules}
use Rattle.dg_world.specs.declared.question.Read.{Read}
use Rattle.dg_index.specs.Kept.{KeptView}
use Rattle.dg_eval.specs.declared.job.Turn.TheVariants.{Need}
use Rattle.dg_core.specs.Asking.{Stops}
use Rattle.dg_core.specs.Turning.{AsksInTurn}
use Rattle.dg_core.proofs.Turning.{asks-more, shelf-asked}
use Rattle.dg_core.proofs.Asking.{stops-done, stops-fails, stops-more}
use Rattle.dg_core.proofs.Growing.{grown-refl, asked-grown}
use Rattle.dg_core.proofs.Settling.{on_err}
use Rattle.dg_core.proofs.evaluate.take_turns.Goals as goal

pub look_up_all-requires : goal.look_up_all-requires
look_up_all-requires c = c.requires

pub returns-in-Ok-Done-clause-grown : goal.returns-in-Ok-Done-clause-grown
returns-in-Ok-Done-clause-grown c = grown-refl c.args.kept.now.world

pub returns-in-Ok-Done-clause-turn : goal.returns-in-Ok-Done-clause-turn
returns-in-Ok-Done-clause-turn c = (stops-done _ _ _ _ (rw c.in-Ok-Done.field-0-is at c.in-Ok-Done.ensures), refl)

pub returns-in-Err-clause-grown : goal.returns-in-Err-clause-grown
returns-in-Err-clause-grown c = grown-refl c.args.kept.now.world

pub returns-in-Err-clause-turn : goal.returns-in-Err-clause-turn
returns-in-Err-clause-turn c = c.in-Err.ensures

pub returns-in-Err-clause-stopped : goal.returns-in-Err-clause-stopped
returns-in-Err-clause-stopped c = ([], refl)

pub returns-in_err-told-clause-grown : goal.returns-in_err-told-clause-grown
returns-in_err-told-clause-grown c = search rules

pub returns-in_err-told-clause-turn : goal.returns-in_err-told-clause-turn
returns-in_err-told-clause-turn c = search rules

pub returns-in_err-told-clause-stopped : goal.returns-in_err-told-clause-stopped
returns-in_err-told-clause-stopped c =
    let none : (reads : List Read) × AsksInTurn c.args.kept.now reads c.ask.new.self = ([], c.in_err-told.ensures.err) in
    on_err _ _ none

pub returns-in-Ok-clause-grown : goal.returns-in-Ok-clause-grown
returns-in-Ok-clause-grown c = asked-grown _ _ _ _ c.in_ok-told.ensures.ok.0

pub returns-in-Ok-clause-turn : goal.returns-in-Ok-clause-turn
returns-in-Ok-clause-turn c =
    stops-more _ _ _ _ _ _ _ (rw c.in-Ok-Need.field-0-is at c.in-Ok-Need.ensures) c.in_ok-told.ensures.ok c.in-Ok.ensures

pub returns-clause-grown : goal.returns-clause-grown
returns-clause-grown c = asked-grown _ _ _ _ c.in_ok-told.ensures.ok.0

pub returns-clause-turn : goal.returns-clause-turn
returns-clause-turn c =
    stops-fails _ _ _ _ _ _ _ _ (rw c.in-Ok-Need.field-0-is at c.in-Ok-Need.ensures) c.in_ok-told.ensures.ok.0 c.in-Err-answer.ensures

pub returns-clause-stopped : goal.returns-clause-stopped
returns-clause-stopped c =
    let stops : Stops c.args.kept.now c.args.job.now c.look_up_all.new.job (Need c.in-Ok-Need.ask) = rw c.in-Ok-Need.field-0-is at c.in-Ok-Need.ensures in
    let read : Read = record { question = c.in-Ok-Need.ask.question; answer = c.in_ok-told.told } in
    (stops.more ++ read ∷ [], asks-more c.args.kept.now c.args.kept.now c.ask.new.self stops.more read stops.asked c.in_ok-told.ensures.ok)

pub returns-in-Ok-clause-shelf : goal.returns-in-Ok-clause-shelf
returns-in-Ok-clause-shelf c = ap (λ (k : KeptView). k.shelf) c.in_ok-told.ensures.ok.1 ∙ shelf-asked c.args.kept.now _ _ _

pub returns-clause-shelf : goal.returns-clause-shelf
returns-clause-shelf c = ap (λ (k : KeptView). k.shelf) c.in_ok-told.ensures.ok.1 ∙ shelf-asked c.args.kept.now _ _ _

pub returns-in-Ok-Done-clause-shelf : goal.returns-in-Ok-Done-clause-shelf
returns-in-Ok-Done-clause-shelf c = refl

pub returns-in-Err-clause-shelf : goal.returns-in-Err-clause-shelf
returns-in-Err-clause-shelf c = refl

pub returns-in_err-told-clause-shelf : goal.returns-in_err-told-clause-shelf
returns-in_err-told-clause-shelf c = ap (λ (k : KeptView). k.shelf) c.in_err-told.ensures.err
